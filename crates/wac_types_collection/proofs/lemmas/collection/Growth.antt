-- A collection stays well formed as items are added that mention only what it holds.
use Rattle.std.proofs.Common.{ℕ, zero, suc, Bool, true, List, [], ◌∷◌, ◌++◌, ◌≡◌, ◌<◌, ◌≤◌, ◌&&◌, length, refl, ap, sym, ◌∙◌, subst, Option, Some, None, arith, length-append, nat_lt, slice_get, ◌⊎◌, inl, inr}
use Rattle.std.specs.List.{AllByRecursion, list_all}
use Rattle.wac_types_collection.specs.declared.collection.collection.Held.{Held}
use Rattle.wac_types_shapes.specs.declared.shapes.component.Resource.{Resource}
use Rattle.wac_types_shapes.specs.declared.shapes.component.ResourceAlias.{ResourceAlias}
use Rattle.wac_types_shapes.specs.declared.shapes.component.FuncType.{FuncType}
use Rattle.wac_types_shapes.specs.declared.shapes.component.DefinedType.{DefinedType}
use Rattle.wac_types_shapes.specs.declared.shapes.component.Interface.{Interface}
use Rattle.wac_types_shapes.specs.declared.shapes.component.World.{World}
use Rattle.wac_types_shapes.specs.declared.shapes.core_types.ModuleType.{ModuleType}
use Rattle.wac_types_shapes.specs.declared.shapes.component.ValueType.{ValueType}
use Rattle.wac_types_shapes.specs.declared.shapes.component.ValueType.TheVariants as val
use Rattle.wac_types_shapes.specs.declared.shapes.component.«Type».{«Type» as AnyType}
use Rattle.wac_types_shapes.specs.declared.shapes.component.«Type».TheVariants as ty
use Rattle.wac_types_collection.specs.collection.Collection.{Collection, size, Each, IsWellFormed, IsKeptBy, IsBefore, IsValueBefore, AddedBefore, AreBefore, IsSourceBelow, IsPartBelow, defined_values, value_types, resource_mentions, func_mentions, defined_mentions, interface_mentions, world_mentions, alias_types, holds_value, holds_type, holds_all, with_resource, with_func, with_defined, with_interface, with_world, with_module}

-- what stood in a list stands there when it has grown
pub get_grown : {A : Type 0} (xs : List A) (y : A) (i : ℕ) (x : A) → slice_get xs i ≡ Some x → slice_get (xs ++ y ∷ []) i ≡ Some x
get_grown [] y i x h = cc
get_grown (x' ∷ xs) y zero x h = h
get_grown (x' ∷ xs) y (suc i) x h = get_grown xs y i x h

-- what stands in a list that has grown stood there, or is the new one, which stands at the old length
pub get_where : {A : Type 0} (xs : List A) (y : A) (i : ℕ) (x : A) → slice_get (xs ++ y ∷ []) i ≡ Some x → (slice_get xs i ≡ Some x) ⊎ ((i ≡ length xs) × (y ≡ x))
get_where [] y zero x h = let e : y ≡ x = cc in inr (refl, e)
get_where [] y (suc i) x h = inl h
get_where (x' ∷ xs) y zero x h = inl h
get_where (x' ∷ xs) y (suc i) x h = elim (get_where xs y i x h) [ inl old ↦ inl old | inr e ↦ inr (ap suc e.0, e.1) ]

-- the new item stands at the old length
pub get_new : {A : Type 0} (xs : List A) (y : A) → slice_get (xs ++ y ∷ []) (length xs) ≡ Some y
get_new [] y = refl
get_new (x ∷ xs) y = get_new xs y

pub map_all : {A : Type 0} (P Q : A → Type 0) → ((x : A) → P x → Q x) → (xs : List A) → AllByRecursion P xs → AllByRecursion Q xs
map_all P Q f [] h = tt
map_all P Q f (x ∷ xs) h = (f x h.0, map_all P Q f xs h.1)

-- what holds of each item of a list, and of one behind them
pub each_grown : {A : Type 0} (P : ℕ → Held A → Type 0) (xs : List (Held A)) (y : Held A) → ((i : ℕ) (h : Held A) → slice_get xs i ≡ Some h → P i h) → P (length xs) y → (i : ℕ) (h : Held A) → slice_get (xs ++ y ∷ []) i ≡ Some h → P i h
each_grown P xs y each new i h is = elim (get_where xs y i h is) [ inl old ↦ each i h old | inr e ↦ subst (P i) e.1 (subst (λ (j : ℕ). P j y) (sym e.0) new) ]

-- a list of which each item stands in another is no longer
pub no_longer : {A : Type 0} (xs ys : List A) → ((i : ℕ) (h : A) → slice_get xs i ≡ Some h → slice_get ys i ≡ Some h) → length xs ≤ length ys
no_longer [] ys kept = omega arith
no_longer (x ∷ xs) [] kept = let no : None ≡ Some x = kept zero x refl in cc
no_longer (x ∷ xs) (y ∷ ys) kept = let l = no_longer xs ys (λ i h e. kept (suc i) h e) in omega (arith, l)

pub kept_size : (c d : Collection) → IsKeptBy c d → size c ≤ size d
kept_size c d kept =
    let a = no_longer c.resources d.resources kept.resources in
    let b = no_longer c.funcs d.funcs kept.funcs in
    let e = no_longer c.defined d.defined kept.defined in
    let f = no_longer c.interfaces d.interfaces kept.interfaces in
    let g = no_longer c.worlds d.worlds kept.worlds in
    let h = no_longer c.modules d.modules kept.modules in
    omega (arith, a, b, e, f, g, h)

pub kept_before : {A : Type 0} (n : ℕ) (o p : Option (Held A)) → ((h : Held A) → o ≡ Some h → p ≡ Some h) → AddedBefore n o → AddedBefore n p
kept_before n None p f b = absurd b
kept_before n (Some h) p f b = let P : Option (Held _) → Type 0 = AddedBefore n in subst P (sym (f h refl)) b

pub value_kept : (c d : Collection) → IsKeptBy c d → (n : ℕ) (v : ValueType) → IsValueBefore c n v → IsValueBefore d n v
value_kept c d k n (val.Primitive p) b = tt
value_kept c d k n (val.Borrow r) b = kept_before n _ _ (k.resources r.0) b
value_kept c d k n (val.Own r) b = kept_before n _ _ (k.resources r.0) b
value_kept c d k n (val.Defined r) b = kept_before n _ _ (k.defined r.0) b

pub before_kept : (c d : Collection) → IsKeptBy c d → (n : ℕ) (a : AnyType) → IsBefore c n a → IsBefore d n a
before_kept c d k n (ty.Resource r) b = kept_before n _ _ (k.resources r.0) b
before_kept c d k n (ty.Func r) b = kept_before n _ _ (k.funcs r.0) b
before_kept c d k n (ty.Value v) b = value_kept c d k n v b
before_kept c d k n (ty.Interface r) b = kept_before n _ _ (k.interfaces r.0) b
before_kept c d k n (ty.World r) b = kept_before n _ _ (k.worlds r.0) b
before_kept c d k n (ty.Module r) b = kept_before n _ _ (k.modules r.0) b

pub all_kept : (c d : Collection) → IsKeptBy c d → (n : ℕ) (ts : List AnyType) → AreBefore c n ts → AreBefore d n ts
all_kept c d k n ts = map_all _ _ (λ t b. before_kept c d k n t b) ts

-- what was added before an item was added before a later one
pub added_more : {A : Type 0} (m n : ℕ) (o : Option (Held A)) → m ≤ n → AddedBefore m o → AddedBefore n o
added_more m n None le b = absurd b
added_more m n (Some h) le b = omega (arith, b, le)

pub value_more : (c : Collection) (m n : ℕ) (v : ValueType) → m ≤ n → IsValueBefore c m v → IsValueBefore c n v
value_more c m n (val.Primitive p) le b = tt
value_more c m n _ le b = added_more m n _ le b

pub before_more : (c : Collection) (m n : ℕ) (t : AnyType) → m ≤ n → IsBefore c m t → IsBefore c n t
before_more c m n (ty.Value v) le b = value_more c m n v le b
before_more c m n _ le b = added_more m n _ le b

-- what an id that is held names was added before the end
pub held_before : {A : Type 0} (N : ℕ) (xs : List (Held A)) (i : ℕ) → Each xs (λ h. h.before < N) → nat_lt i (length xs) ≡ true → AddedBefore N (slice_get xs i)
held_before N [] i each lt = absurd (grind arith)
held_before N (x ∷ xs) zero each lt = each zero x refl
held_before N (x ∷ xs) (suc i) each lt = held_before N xs i (λ j h is. each (suc j) h is) (grind arith)

pub value_before : (c : Collection) → IsWellFormed c → (v : ValueType) → holds_value c v ≡ true → IsValueBefore c (size c) v
value_before c wf (val.Primitive p) h = tt
value_before c wf (val.Borrow i) h = held_before _ c.resources i.0 (λ j x is. (wf.resources j x is).0) h
value_before c wf (val.Own i) h = held_before _ c.resources i.0 (λ j x is. (wf.resources j x is).0) h
value_before c wf (val.Defined i) h = held_before _ c.defined i.0 (λ j x is. (wf.defined j x is).0) h

pub type_before : (c : Collection) → IsWellFormed c → (t : AnyType) → holds_type c t ≡ true → IsBefore c (size c) t
type_before c wf (ty.Resource i) h = held_before _ c.resources i.0 (λ j x is. (wf.resources j x is).0) h
type_before c wf (ty.Func i) h = held_before _ c.funcs i.0 (λ j x is. (wf.funcs j x is).0) h
type_before c wf (ty.Value v) h = value_before c wf v h
type_before c wf (ty.Interface i) h = held_before _ c.interfaces i.0 (λ j x is. (wf.interfaces j x is).0) h
type_before c wf (ty.World i) h = held_before _ c.worlds i.0 (λ j x is. (wf.worlds j x is).0) h
type_before c wf (ty.Module i) h = held_before _ c.modules i.0 (λ j x is. wf.modules j x is) h

-- what was added before an item is held
pub added_within : {A : Type 0} (n : ℕ) (xs : List (Held A)) (i : ℕ) → AddedBefore n (slice_get xs i) → nat_lt i (length xs) ≡ true
added_within n [] i b = absurd b
added_within n (x ∷ xs) zero b = grind arith
added_within n (x ∷ xs) (suc i) b = let h = added_within n xs i b in grind arith

pub value_within : (c : Collection) (n : ℕ) (v : ValueType) → IsValueBefore c n v → holds_value c v ≡ true
value_within c n (val.Primitive p) b = refl
value_within c n _ b = added_within n _ _ b

pub type_within : (c : Collection) (n : ℕ) (t : AnyType) → IsBefore c n t → holds_type c t ≡ true
type_within c n (ty.Value v) b = value_within c n v b
type_within c n _ b = added_within n _ _ b

pub all_within : (c : Collection) (n : ℕ) (ts : List AnyType) → AreBefore c n ts → holds_all c ts ≡ true
all_within c n [] h = refl
all_within c n (t ∷ ts) h = ap (λ b. b && holds_all c ts) (type_within c n t h.0) ∙ all_within c n ts h.1

-- of a test that all pass, each does
pub all_from : {A : Type 0} (p : A → Bool) (P : A → Type 0) → ((x : A) → p x ≡ true → P x) → (xs : List A) → list_all p xs ≡ true → AllByRecursion P xs
all_from p P f [] h = tt
all_from p P f (x ∷ xs) h =
    let first : p x ≡ true = grind arith in
    let rest : list_all p xs ≡ true = grind arith in
    (f x first, all_from p P f xs rest)

pub all_before : (c : Collection) → IsWellFormed c → (ts : List AnyType) → holds_all c ts ≡ true → AreBefore c (size c) ts
all_before c wf ts h = all_from (holds_type c) (IsBefore c (size c)) (type_before c wf) ts h

-- an item as it is added
abbrev pub added : {A : Type 0} → Collection → A → Held A
added c x = record { item = x; before = size c }

pub longer : {A : Type 0} (xs : List A) (y : A) → length (xs ++ y ∷ []) ≡ suc (length xs)
longer xs y = omega (arith, length-append xs (y ∷ []))

-- what holds of an item still holds, and what holds of a new one
abbrev Mentions : {A : Type 0} → Collection → (A → List AnyType) → Held A → Type 0
Mentions c f h = (h.before < size c) × AreBefore c h.before (f h.item)

record Still (c d : Collection) : Type 0 where
  resources : Each c.resources (Mentions d resource_mentions)
  funcs : Each c.funcs (Mentions d func_mentions)
  defined : Each c.defined (Mentions d defined_mentions)
  interfaces : Each c.interfaces (Mentions d interface_mentions)
  worlds : Each c.worlds (Mentions d world_mentions)
  modules : Each c.modules (λ h. h.before < size d)

module _ (c d : Collection) (wf : IsWellFormed c) (g : IsKeptBy c d) where
  one : {A : Type 0} (f : A → List AnyType) (h : Held A) → Mentions c f h → Mentions d f h
  one f h p = let le = kept_size c d g in (omega (arith, p.0, le), all_kept c d g h.before (f h.item) p.1)

  still : Still c d
  still = record {
    resources = λ i h is. one resource_mentions h (wf.resources i h is);
    funcs = λ i h is. one func_mentions h (wf.funcs i h is);
    defined = λ i h is. one defined_mentions h (wf.defined i h is);
    interfaces = λ i h is. one interface_mentions h (wf.interfaces i h is);
    worlds = λ i h is. one world_mentions h (wf.worlds i h is);
    modules = λ i h is. let p = wf.modules i h is in let le = kept_size c d g in omega (arith, p, le);
  }

  newly : {A : Type 0} (f : A → List AnyType) (x : A) → size c < size d → holds_all c (f x) ≡ true → Mentions d f (added c x)
  newly f x less h = (less, all_kept c d g (size c) (f x) (all_before c wf (f x) h))

-- what a collection holds stands in it with one more item too
pub keeps_resource : (c : Collection) (x : Resource) → IsKeptBy c (with_resource c x)
keeps_resource c x = record { resources = get_grown c.resources _; funcs = λ _ _ e. e; defined = λ _ _ e. e; interfaces = λ _ _ e. e; worlds = λ _ _ e. e; modules = λ _ _ e. e }

pub keeps_func : (c : Collection) (x : FuncType) → IsKeptBy c (with_func c x)
keeps_func c x = record { resources = λ _ _ e. e; funcs = get_grown c.funcs _; defined = λ _ _ e. e; interfaces = λ _ _ e. e; worlds = λ _ _ e. e; modules = λ _ _ e. e }

pub keeps_defined : (c : Collection) (x : DefinedType) → IsKeptBy c (with_defined c x)
keeps_defined c x = record { resources = λ _ _ e. e; funcs = λ _ _ e. e; defined = get_grown c.defined _; interfaces = λ _ _ e. e; worlds = λ _ _ e. e; modules = λ _ _ e. e }

pub keeps_interface : (c : Collection) (x : Interface) → IsKeptBy c (with_interface c x)
keeps_interface c x = record { resources = λ _ _ e. e; funcs = λ _ _ e. e; defined = λ _ _ e. e; interfaces = get_grown c.interfaces _; worlds = λ _ _ e. e; modules = λ _ _ e. e }

pub keeps_world : (c : Collection) (x : World) → IsKeptBy c (with_world c x)
keeps_world c x = record { resources = λ _ _ e. e; funcs = λ _ _ e. e; defined = λ _ _ e. e; interfaces = λ _ _ e. e; worlds = get_grown c.worlds _; modules = λ _ _ e. e }

pub keeps_module : (c : Collection) (x : ModuleType) → IsKeptBy c (with_module c x)
keeps_module c x = record { resources = λ _ _ e. e; funcs = λ _ _ e. e; defined = λ _ _ e. e; interfaces = λ _ _ e. e; worlds = λ _ _ e. e; modules = get_grown c.modules _ }

-- the source of an alias stands below it
source_within : (c : Collection) (a : Option ResourceAlias) → holds_all c (alias_types a) ≡ true → IsSourceBelow (length c.resources) a
source_within c None h = tt
source_within c (Some a) h = grind arith

-- the parts of a definition stand below it
part_within : (c : Collection) (v : ValueType) → holds_value c v ≡ true → IsPartBelow (length c.defined) v
part_within c (val.Defined d) h = grind arith
part_within c _ h = tt

parts_within : (c : Collection) (vs : List ValueType) → holds_all c (value_types vs) ≡ true → AllByRecursion (IsPartBelow (length c.defined)) vs
parts_within c [] h = tt
parts_within c (v ∷ vs) h =
    let first : holds_value c v ≡ true = grind arith in
    let rest : holds_all c (value_types vs) ≡ true = grind arith in
    (part_within c v first, parts_within c vs rest)

pub resource_well_formed : (c : Collection) → IsWellFormed c → (x : Resource) → holds_all c (resource_mentions x) ≡ true → IsWellFormed (with_resource c x)
resource_well_formed c wf x h =
    let old = still c (with_resource c x) wf (keeps_resource c x) in
    let less : size c < size (with_resource c x) = omega (arith, longer c.resources (added c x)) in
    record {
      resources = each_grown _ c.resources _ old.resources (newly c (with_resource c x) wf (keeps_resource c x) resource_mentions x less h);
      funcs = old.funcs;
      defined = old.defined;
      interfaces = old.interfaces;
      worlds = old.worlds;
      modules = old.modules;
      sources = each_grown _ c.resources _ wf.sources (source_within c x.alias h);
      parts = wf.parts;
    }

pub func_well_formed : (c : Collection) → IsWellFormed c → (x : FuncType) → holds_all c (func_mentions x) ≡ true → IsWellFormed (with_func c x)
func_well_formed c wf x h =
    let old = still c (with_func c x) wf (keeps_func c x) in
    let less : size c < size (with_func c x) = omega (arith, longer c.funcs (added c x)) in
    record {
      resources = old.resources;
      funcs = each_grown _ c.funcs _ old.funcs (newly c (with_func c x) wf (keeps_func c x) func_mentions x less h);
      defined = old.defined;
      interfaces = old.interfaces;
      worlds = old.worlds;
      modules = old.modules;
      sources = wf.sources;
      parts = wf.parts;
    }

pub defined_well_formed : (c : Collection) → IsWellFormed c → (x : DefinedType) → holds_all c (defined_mentions x) ≡ true → IsWellFormed (with_defined c x)
defined_well_formed c wf x h =
    let old = still c (with_defined c x) wf (keeps_defined c x) in
    let less : size c < size (with_defined c x) = omega (arith, longer c.defined (added c x)) in
    record {
      resources = old.resources;
      funcs = old.funcs;
      defined = each_grown _ c.defined _ old.defined (newly c (with_defined c x) wf (keeps_defined c x) defined_mentions x less h);
      interfaces = old.interfaces;
      worlds = old.worlds;
      modules = old.modules;
      sources = wf.sources;
      parts = each_grown _ c.defined _ wf.parts (parts_within c (defined_values x) h);
    }

pub interface_well_formed : (c : Collection) → IsWellFormed c → (x : Interface) → holds_all c (interface_mentions x) ≡ true → IsWellFormed (with_interface c x)
interface_well_formed c wf x h =
    let old = still c (with_interface c x) wf (keeps_interface c x) in
    let less : size c < size (with_interface c x) = omega (arith, longer c.interfaces (added c x)) in
    record {
      resources = old.resources;
      funcs = old.funcs;
      defined = old.defined;
      interfaces = each_grown _ c.interfaces _ old.interfaces (newly c (with_interface c x) wf (keeps_interface c x) interface_mentions x less h);
      worlds = old.worlds;
      modules = old.modules;
      sources = wf.sources;
      parts = wf.parts;
    }

pub world_well_formed : (c : Collection) → IsWellFormed c → (x : World) → holds_all c (world_mentions x) ≡ true → IsWellFormed (with_world c x)
world_well_formed c wf x h =
    let old = still c (with_world c x) wf (keeps_world c x) in
    let less : size c < size (with_world c x) = omega (arith, longer c.worlds (added c x)) in
    record {
      resources = old.resources;
      funcs = old.funcs;
      defined = old.defined;
      interfaces = old.interfaces;
      worlds = each_grown _ c.worlds _ old.worlds (newly c (with_world c x) wf (keeps_world c x) world_mentions x less h);
      modules = old.modules;
      sources = wf.sources;
      parts = wf.parts;
    }

pub module_well_formed : (c : Collection) → IsWellFormed c → (x : ModuleType) → IsWellFormed (with_module c x)
module_well_formed c wf x =
    let old = still c (with_module c x) wf (keeps_module c x) in
    let less : size c < size (with_module c x) = omega (arith, longer c.modules (added c x)) in
    record { resources = old.resources; funcs = old.funcs; defined = old.defined; interfaces = old.interfaces; worlds = old.worlds; modules = each_grown _ c.modules _ old.modules less; sources = wf.sources; parts = wf.parts }

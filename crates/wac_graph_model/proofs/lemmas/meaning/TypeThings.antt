-- What type indexes of the root refer to: a type that is defined there, an imported type, or a type that an imported instance exports.
use Rattle.std.proofs.Common.{◌≡◌, ℕ, zero, suc, Bool, true, if◌then◌else◌, List, [], ◌∷◌, ◌++◌, length, map, refl, ap, ◌∙◌, sym, subst, append_assoc, Some, ◌⊎◌, inl, inr}
use Rattle.std.proofs.Math.Path.{fun_ext}
use Rattle.std.specs.List.{AllByRecursion}
use Rattle.std.specs.Prelude.{slice_get}
use Rattle.std.proofs.lemmas.List.{append-nil, map-append}
use Rattle.wac_types_shapes.specs.primitives.Name.{Name}
use Rattle.wac_types_shapes.specs.primitives.Tree.{imported, Place, position, named, Tree, absent, resource, fresh, type_equal, function_item, instance_item, component_item, module_item, moved, out_by, taken_from, items_in}
use Rattle.wac_types_collection.proofs.lemmas.collection.Leaves.{moved_id}
use Rattle.wac_binary.specs.declared.sorts.Sort.TheVariants as sort
use Rattle.wac_binary.specs.declared.sorts.Description.TheVariants as description
use Rattle.wac_binary.specs.Items.{Item, custom, core_type, nested, instantiate, alias_item, export_alias, outer_alias, type_item, import_item, export_item}
use Rattle.wac_binary.specs.Unfold.{Bound, unbound, is_of_sort, bound_type, bound_instance, type_at, bound_at, exported_item, aliased_type, aliased_instance, tree_of}
use Rattle.wac_binary.specs.Meaning.{Thing, nothing, import_at, projection, instance_at, written, Root, start, may_export, thing_at, stands_for, projected, aliased_thing, read, read_all, meaning}
use Rattle.wac_binary.specs.HasMeaning.{IsResource, IsSomething}
use Rattle.wac_graph_model.proofs.lemmas.meaning.ListLemmas.{slice_get-prefix, slice_get-last, slice_get-split, all_at}
use Rattle.wac_graph_model.specs.meaning.Defined.{along, item_along, IsDefined, as_new, as_listed}

-- two lists of one length, with P of the elements at each place
abbrev Both : {A B : Type 0} → (A → B → Type 0) → List A → List B → Type 0
Both P [] [] = Unit {0}
Both P (x ∷ xs) (y ∷ ys) = P x y × Both P xs ys
Both P _ _ = ⊥

both_push : {A B : Type 0} (P : A → B → Type 0) (xs : List A) (ys : List B) (x : A) (y : B) → Both P xs ys → P x y → Both P (xs ++ x ∷ []) (ys ++ y ∷ [])
both_push P [] [] x y all last = (last, tt)
both_push P [] (b ∷ ys) x y all last = absurd all
both_push P (a ∷ xs) [] x y all last = absurd all
both_push P (a ∷ xs) (b ∷ ys) x y all last = (all.0, both_push P xs ys x y all.1 last)

both_map : {A B : Type 0} (P Q : A → B → Type 0) → ((x : A) (y : B) → P x y → Q x y) → (xs : List A) (ys : List B) → Both P xs ys → Both Q xs ys
both_map P Q f [] [] all = tt
both_map P Q f [] (b ∷ ys) all = absurd all
both_map P Q f (a ∷ xs) [] all = absurd all
both_map P Q f (a ∷ xs) (b ∷ ys) all = (f a b all.0, both_map P Q f xs ys all.1)

types_both : (P : Tree → Thing → Type 0) → P absent nothing → (ts : List Tree) (xs : List Thing) (i : ℕ) → Both P ts xs → P (type_at ts i) (thing_at xs i)
types_both P none [] [] i all = none
types_both P none [] (x ∷ xs) i all = absurd all
types_both P none (t ∷ ts) [] i all = absurd all
types_both P none (t ∷ ts) (x ∷ xs) zero all = all.0
types_both P none (t ∷ ts) (x ∷ xs) (suc i) all = types_both P none ts xs i all.1

bounds_both : (P : Bound → Thing → Type 0) → P unbound nothing → (bs : List Bound) (xs : List Thing) (i : ℕ) → Both P bs xs → P (bound_at bs i) (thing_at xs i)
bounds_both P none [] [] i all = none
bounds_both P none [] (x ∷ xs) i all = absurd all
bounds_both P none (b ∷ bs) [] i all = absurd all
bounds_both P none (b ∷ bs) (x ∷ xs) zero all = all.0
bounds_both P none (b ∷ bs) (x ∷ xs) (suc i) all = bounds_both P none bs xs i all.1

-- one name further along
along-push : (x : Thing) (names : List Name) (n : Name) → along x (names ++ n ∷ []) ≡ projection (along x names) n
along-push x [] n = refl
along-push x (k ∷ names) n = along-push (projection x k) names n

pub along_something : (x : Thing) (names : List Name) → IsSomething x → IsSomething (along x names)
along_something x [] h = h
along_something x (k ∷ names) h = along_something (projection x k) names tt

pub projected_some : (x : Thing) (n : Name) → IsSomething x → projected x n ≡ projection x n
projected_some nothing n h = absurd h
projected_some x n h = refl

projected_along : (p : ℕ) (names : List Name) (n : Name) → projected (along (import_at p) names) n ≡ along (import_at p) (names ++ n ∷ [])
projected_along p names n = projected_some (along (import_at p) names) n (along_something (import_at p) names tt) ∙ sym (along-push (import_at p) names n)

-- the item one name further along is the export of the instance
item_along-push : (place : List Place) (names : List Name) (n : Name) (item t : Tree) → item_along place names item ≡ instance_item t
    → item_along place (names ++ n ∷ []) item ≡ taken_from imported (place ++ map named names) (items_in t n)
item_along-push place [] n item t is = ap (item_along place (n ∷ [])) is ∙ ap (λ ps. taken_from imported ps (items_in t n)) (sym (append-nil place))
item_along-push place (k ∷ names) n (instance_item u) t is =
    item_along-push (place ++ named k ∷ []) names n (taken_from imported place (items_in u k)) t is
    ∙ ap (λ ps. taken_from imported ps (items_in t n)) (append_assoc place (named k ∷ []) (map named names))
item_along-push place (k ∷ names) n item t is = cc

-- a type that is no resource is defined, or an import's
abbrev TypeRefers : List (Name × Tree) → Tree → Thing → Type 0
TypeRefers imports t x = (t ≡ absent → ⊥) → (IsResource t → ⊥) → IsDefined imports t x

-- the instance is that of an import at a path of names
record IsInstanceOf (imports : List (Name × Tree)) (b : Bound) (x : Thing) : Type 0 where
  p : ℕ
  names : List Name
  entry : Name × Tree
  listed : slice_get imports p ≡ Some entry
  side : b.side ≡ imported
  path : b.path ≡ position p ∷ map named names
  item : item_along (position p ∷ []) names entry.1 ≡ instance_item b.type
  thing : x ≡ along (import_at p) names

-- the exports of an instance are unknown, or it is an import's
abbrev InstanceRefers : List (Name × Tree) → Bound → Thing → Type 0
InstanceRefers imports b x = (b.type ≡ absent) ⊎ IsInstanceOf imports b x

defined_more : (is more : List (Name × Tree)) (t : Tree) (x : Thing) → IsDefined is t x → IsDefined (is ++ more) t x
defined_more is more t x (as_new same) = as_new same
defined_more is more t x (as_listed p names entry at item thing) = as_listed p names entry (slice_get-prefix is more p entry at) item thing

type_more : (is more : List (Name × Tree)) (t : Tree) (x : Thing) → TypeRefers is t x → TypeRefers (is ++ more) t x
type_more is more t x refers there no_resource = defined_more is more t x (refers there no_resource)

instance_more : (is more : List (Name × Tree)) (b : Bound) (x : Thing) → InstanceRefers is b x → InstanceRefers (is ++ more) b x
instance_more is more b x (inl unknown) = inl unknown
instance_more is more b x (inr i) = inr (record { p = i.p; names = i.names; entry = i.entry; listed = slice_get-prefix is more i.p i.entry i.listed; side = i.side; path = i.path; item = i.item; thing = i.thing })

-- an export of an import's instance
exported_along : (imports : List (Name × Tree)) (b : Bound) (x : Thing) (n : Name) → (i : IsInstanceOf imports b x) → item_along (position i.p ∷ []) (i.names ++ n ∷ []) (i.entry).1 ≡ exported_item b n
exported_along imports b x n i =
    item_along-push (position i.p ∷ []) i.names n (i.entry).1 b.type i.item
    ∙ ap (λ s. taken_from s (position i.p ∷ map named i.names) (items_in b.type n)) (sym i.side)
    ∙ ap (λ ps. taken_from b.side ps (items_in b.type n)) (sym i.path)

may_type : (t : Tree) (n : Name) (u : Tree) → items_in t n ≡ type_equal u → may_export sort.«Type» t n ≡ true
may_type absent n u is = refl
may_type t n u is = ap (is_of_sort sort.«Type») is

may_instance : (t : Tree) (n : Name) (u : Tree) → items_in t n ≡ instance_item u → may_export sort.Instance t n ≡ true
may_instance absent n u is = refl
may_instance t n u is = ap (is_of_sort sort.Instance) is

-- what an alias of an instance's export refers to
projected_if : (b : Bool) (x : Thing) (n : Name) → b ≡ true → (if b then projected x n else nothing) ≡ projected x n
projected_if true x n h = refl
projected_if b x n h = cc

alias_thing : (imports : List (Name × Tree)) (b : Bound) (x : Thing) (n : Name) → (i : IsInstanceOf imports b x) → projected x n ≡ along (import_at i.p) (i.names ++ n ∷ [])
alias_thing imports b x n i = ap (λ y. projected y n) i.thing ∙ projected_along i.p i.names n

alias_type : (imports : List (Name × Tree)) (b : Bound) (x : Thing) (n : Name) → InstanceRefers imports b x → TypeRefers imports (aliased_type b n) (aliased_thing b sort.«Type» x n)
alias_type imports b x n (inl unknown) = λ there no_resource. absurd (there (ap (λ t. bound_type b.side (b.path ++ named n ∷ []) (taken_from b.side b.path (items_in t n))) unknown))
alias_type imports b x n (inr i) = of_item (items_in b.type n) refl where
  of_item : (t : Tree) → items_in b.type n ≡ t → TypeRefers imports (bound_type b.side (b.path ++ named n ∷ []) (taken_from b.side b.path t)) (aliased_thing b sort.«Type» x n)
  of_item (type_equal u) is there no_resource =
      as_listed i.p (i.names ++ n ∷ []) i.entry i.listed
      (exported_along imports b x n i ∙ ap (taken_from b.side b.path) is)
      (projected_if (may_export sort.«Type» b.type n) x n (may_type b.type n u is) ∙ alias_thing imports b x n i)
  of_item fresh is there no_resource = absurd (no_resource tt)
  of_item t is there no_resource = absurd (there refl)

alias_instance : (imports : List (Name × Tree)) (b : Bound) (x : Thing) (n : Name) → InstanceRefers imports b x → InstanceRefers imports (aliased_instance b n) (aliased_thing b sort.Instance x n)
alias_instance imports b x n (inl unknown) = inl (ap (λ t. bound_instance (taken_from b.side b.path (items_in t n))) unknown)
alias_instance imports b x n (inr i) = of_item (items_in b.type n) refl where
  of_item : (t : Tree) → items_in b.type n ≡ t → InstanceRefers imports (record { type = bound_instance (taken_from b.side b.path t); side = b.side; path = b.path ++ named n ∷ [] }) (aliased_thing b sort.Instance x n)
  of_item (instance_item u) is = inr (record {
    p = i.p;
    names = i.names ++ n ∷ [];
    entry = i.entry;
    listed = i.listed;
    side = i.side;
    path = ap (λ ps. ps ++ named n ∷ []) i.path ∙ ap (λ ps. position i.p ∷ ps) (sym (map-append named i.names (n ∷ [])));
    item = exported_along imports b x n i ∙ ap (taken_from b.side b.path) is;
    thing = projected_if (may_export sort.Instance b.type n) x n (may_instance b.type n u is) ∙ alias_thing imports b x n i;
  })
  of_item t is = inl refl

-- what the type and instance indexes of the root refer to
record Refers (r : Root) : Type 0 where
  types : Both (TypeRefers r.imports) r.scope.types r.types
  instances : Both (InstanceRefers r.imports) r.scope.instances r.instances

type_index : (r : Root) → Refers r → (i : ℕ) → TypeRefers r.imports (type_at r.scope.types i) (thing_at r.types i)
type_index r h i = types_both (TypeRefers r.imports) (λ there no_resource. absurd (there refl)) r.scope.types r.types i h.types

instance_index : (r : Root) → Refers r → (i : ℕ) → InstanceRefers r.imports (bound_at r.scope.instances i) (thing_at r.instances i)
instance_index r h i = bounds_both (InstanceRefers r.imports) (inl refl) r.scope.instances r.instances i h.instances

types_more : (r : Root) → Refers r → (more : List (Name × Tree)) → Both (TypeRefers (r.imports ++ more)) r.scope.types r.types
types_more r h more = both_map (TypeRefers r.imports) (TypeRefers (r.imports ++ more)) (type_more r.imports more) r.scope.types r.types h.types

instances_more : (r : Root) → Refers r → (more : List (Name × Tree)) → Both (InstanceRefers (r.imports ++ more)) r.scope.instances r.instances
instances_more r h more = both_map (InstanceRefers r.imports) (InstanceRefers (r.imports ++ more)) (instance_more r.imports more) r.scope.instances r.instances h.instances

not_moved : (t : Tree) → moved (out_by 0) t ≡ t
not_moved t = moved_id t (out_by 0) (fun_ext (λ l. refl))

refers_next : (r : Root) (x : Item) → Refers r → Refers (read r x)
refers_next r (custom n bs) h = record { types = h.types; instances = h.instances }
refers_next r (core_type m) h = record { types = h.types; instances = h.instances }
refers_next r (nested bs) h = record { types = h.types; instances = h.instances }
refers_next r (instantiate i args) h = record { types = h.types; instances = both_push (InstanceRefers r.imports) r.scope.instances r.instances unbound (instance_at (length r.instantiations)) h.instances (inl refl) }
refers_next r (alias_item (export_alias sort.CoreModule i n)) h = record { types = h.types; instances = h.instances }
refers_next r (alias_item (export_alias sort.Func i n)) h = record { types = h.types; instances = h.instances }
refers_next r (alias_item (export_alias sort.Value i n)) h = record { types = h.types; instances = h.instances }
refers_next r (alias_item (export_alias sort.«Type» i n)) h =
    record { types = both_push (TypeRefers r.imports) r.scope.types r.types (aliased_type (bound_at r.scope.instances i) n) (aliased_thing (bound_at r.scope.instances i) sort.«Type» (stands_for r sort.Instance i) n) h.types (alias_type r.imports (bound_at r.scope.instances i) (stands_for r sort.Instance i) n (instance_index r h i)); instances = h.instances }
refers_next r (alias_item (export_alias sort.Component i n)) h = record { types = h.types; instances = h.instances }
refers_next r (alias_item (export_alias sort.Instance i n)) h =
    record { types = h.types; instances = both_push (InstanceRefers r.imports) r.scope.instances r.instances (aliased_instance (bound_at r.scope.instances i) n) (aliased_thing (bound_at r.scope.instances i) sort.Instance (stands_for r sort.Instance i) n) h.instances (alias_instance r.imports (bound_at r.scope.instances i) (stands_for r sort.Instance i) n (instance_index r h i)) }
refers_next r (alias_item (outer_alias sort.CoreModule k i)) h = record { types = h.types; instances = h.instances }
refers_next r (alias_item (outer_alias sort.Func k i)) h = record { types = h.types; instances = h.instances }
refers_next r (alias_item (outer_alias sort.Value k i)) h = record { types = h.types; instances = h.instances }
refers_next r (alias_item (outer_alias sort.«Type» zero i)) h =
    record {
      types = both_push (TypeRefers r.imports) r.scope.types r.types (moved (out_by 0) (type_at r.scope.types i)) (thing_at r.types i) h.types
          (subst (λ t. TypeRefers r.imports t (thing_at r.types i)) (sym (not_moved (type_at r.scope.types i))) (type_index r h i));
      instances = h.instances;
    }
refers_next r (alias_item (outer_alias sort.«Type» (suc k) i)) h = record { types = both_push (TypeRefers r.imports) r.scope.types r.types absent nothing h.types (λ there no_resource. absurd (there refl)); instances = h.instances }
refers_next r (alias_item (outer_alias sort.Component k i)) h = record { types = h.types; instances = h.instances }
refers_next r (alias_item (outer_alias sort.Instance zero i)) h = record { types = h.types; instances = both_push (InstanceRefers r.imports) r.scope.instances r.instances (bound_at r.scope.instances i) (thing_at r.instances i) h.instances (instance_index r h i) }
refers_next r (alias_item (outer_alias sort.Instance (suc k) i)) h = record { types = h.types; instances = both_push (InstanceRefers r.imports) r.scope.instances r.instances unbound nothing h.instances (inl refl) }
refers_next r (type_item t) h = record { types = both_push (TypeRefers r.imports) r.scope.types r.types (tree_of t r.scope []) (written (tree_of t r.scope [])) h.types (λ there no_resource. as_new refl); instances = h.instances }
refers_next r (import_item n (description.CoreModule i)) h = record { types = types_more r h ((n, module_item (type_at r.scope.core_types i)) ∷ []); instances = instances_more r h ((n, module_item (type_at r.scope.core_types i)) ∷ []) }
refers_next r (import_item n (description.Func i)) h = record { types = types_more r h ((n, function_item (type_at r.scope.types i)) ∷ []); instances = instances_more r h ((n, function_item (type_at r.scope.types i)) ∷ []) }
refers_next r (import_item n (description.Equal i)) h =
    let entry : Name × Tree = (n, type_equal (type_at r.scope.types i)) in
    record {
      types = both_push (TypeRefers (r.imports ++ entry ∷ [])) r.scope.types r.types (type_at r.scope.types i) (import_at (length r.imports)) (types_more r h (entry ∷ []))
          (λ there no_resource. as_listed (length r.imports) [] entry (slice_get-last r.imports entry) refl refl);
      instances = instances_more r h (entry ∷ []);
    }
refers_next r (import_item n description.Fresh) h =
    let entry : Name × Tree = (n, fresh) in
    record { types = both_push (TypeRefers (r.imports ++ entry ∷ [])) r.scope.types r.types (resource (record { out = 0; side = imported; path = position (length r.imports) ∷ [] })) (import_at (length r.imports)) (types_more r h (entry ∷ [])) (λ there no_resource. absurd (no_resource tt)); instances = instances_more r h (entry ∷ []) }
refers_next r (import_item n (description.Component i)) h = record { types = types_more r h ((n, component_item (type_at r.scope.types i)) ∷ []); instances = instances_more r h ((n, component_item (type_at r.scope.types i)) ∷ []) }
refers_next r (import_item n (description.Instance i)) h =
    let entry : Name × Tree = (n, instance_item (type_at r.scope.types i)) in
    record {
      types = types_more r h (entry ∷ []);
      instances = both_push (InstanceRefers (r.imports ++ entry ∷ [])) r.scope.instances r.instances (record { type = type_at r.scope.types i; side = imported; path = position (length r.imports) ∷ [] }) (import_at (length r.imports)) (instances_more r h (entry ∷ []))
          (inr (record { p = length r.imports; names = []; entry = entry; listed = slice_get-last r.imports entry; side = refl; path = refl; item = refl; thing = refl }));
    }
refers_next r (export_item n sort.CoreModule i) h = record { types = h.types; instances = h.instances }
refers_next r (export_item n sort.Func i) h = record { types = h.types; instances = h.instances }
refers_next r (export_item n sort.Value i) h = record { types = h.types; instances = h.instances }
refers_next r (export_item n sort.«Type» i) h = record { types = both_push (TypeRefers r.imports) r.scope.types r.types (type_at r.scope.types i) (thing_at r.types i) h.types (type_index r h i); instances = h.instances }
refers_next r (export_item n sort.Component i) h = record { types = h.types; instances = h.instances }
refers_next r (export_item n sort.Instance i) h = record { types = h.types; instances = both_push (InstanceRefers r.imports) r.scope.instances r.instances (bound_at r.scope.instances i) (thing_at r.instances i) h.instances (instance_index r h i) }

refers_all : (r : Root) (items : List Item) → Refers r → Refers (read_all r items)
refers_all r [] h = h
refers_all r (x ∷ items) h = refers_all (read r x) items (refers_next r x h)

-- so a type index refers to a type that is defined, or to what an import has, unless its type is a resource
pub type_defined : (items : List Item) (k : ℕ) → (type_at (meaning items).scope.types k ≡ absent → ⊥) → (IsResource (type_at (meaning items).scope.types k) → ⊥)
    → IsDefined (meaning items).imports (type_at (meaning items).scope.types k) (stands_for (meaning items) sort.«Type» k)
type_defined items k there no_resource = type_index (meaning items) (refers_all start items (record { types = tt; instances = tt })) k there no_resource

-- what is defined or an import's is so by the first imports, if the others are components
abbrev pub AreComponents : List (Name × Tree) → Type 0
AreComponents is = AllByRecursion (λ (e : Name × Tree). (t : Tree) × (e.1 ≡ component_item t)) is

no_component : (place : List Place) (names : List Name) (item t u : Tree) → item ≡ component_item u → item_along place names item ≡ type_equal t → ⊥
no_component place [] item t u is type = let wrong : component_item u ≡ type_equal t = sym is ∙ type in cc
no_component place (n ∷ names) item t u is type = let wrong : absent ≡ type_equal t = ap (item_along place (n ∷ names)) (sym is) ∙ type in cc

pub defined_first : (is more : List (Name × Tree)) → AreComponents more → (t : Tree) (x : Thing) → IsDefined (is ++ more) t x → IsDefined is t x
defined_first is more components t x (as_new same) = as_new same
defined_first is more components t x (as_listed p names entry at item thing) = split (slice_get-split is more p entry at) where
  split : (slice_get is p ≡ Some entry) ⊎ ((j : ℕ) × (slice_get more j ≡ Some entry)) → IsDefined is t x
  split (inl here) = as_listed p names entry here item thing
  split (inr (j, at_j)) =
      let (u, component) = all_at (λ (e : Name × Tree). (t : Tree) × (e.1 ≡ component_item t)) more j entry components at_j in
      absurd (no_component (position p ∷ []) names entry.1 t u component item)

-- The parts of unions: what each lists, and the trees of those inside others.
use Rattle.std.proofs.Common.{◌≡◌, ℕ, zero, suc, Bool, true, false, List, [], ◌∷◌, map, length, Option, Some, None, slice_get, refl, sym, ap, ◌∙◌, subst, inl, inr}
use Rattle.std.proofs.lemmas.Bool.{or_cases, false≢true}
use Rattle.std.proofs.lemmas.Option.{get_or_from_slice_get, slice_get_read, slice_get_within}
use Rattle.std.specs.List.{AllByRecursion, AllZip, Contains, list_any}
use Rattle.wac_types_shapes.specs.primitives.Name.{Name, find_name, option_case}
use Rattle.wac_types_shapes.specs.primitives.Tree.{TypeTree, Tree, absent, fresh, type_equal, instance}
use Rattle.wac_types_collection.specs.collection.Collection.{Collection, interface_exports, item_at}
use Rattle.wac_types_collection.specs.collection.Held.{Names, item_tree, unfolded}
use Rattle.wac_types_collection.specs.collection.Bound.{Bindings, by_place, held_tree, inside_interface}
use Rattle.wac_types_shapes.specs.declared.shapes.component.Interface.{Interface}
use Rattle.wac_types_shapes.specs.declared.shapes.component.InterfaceId.{InterfaceId}
use Rattle.wac_types_shapes.specs.declared.shapes.component.«Type».{«Type» as AnyType}
use Rattle.wac_types_shapes.specs.declared.shapes.component.«Type».TheVariants as ty
use Rattle.wac_types_shapes.specs.declared.shapes.component.ItemKind.{ItemKind}
use Rattle.wac_types_shapes.specs.declared.shapes.component.ItemKind.TheVariants as kind
use Rattle.wac_types_collection.specs.subtyping.Called.{Called, by_binding}
use Rattle.wac_types_collection.specs.subtyping.TreeLaws.{IsDeepEnough}
use Rattle.wac_merge_classes.specs.entries.Agreement.{Agree}
use Rattle.wac_merge_classes.specs.terms.Union.{union, union_all}
use Rattle.wac_merge_classes.specs.terms.Unions.{instances_in, listed_under, part, part_lists}
use Rattle.wac_merge_classes.specs.declared.terms.parts.Part.{Part}
use Rattle.wac_merge_trees.proofs.lemmas.trees.UnionTreesHeld.{called_interface, called_under, placed_at, placed_interface}
use Rattle.wac_merge_trees.proofs.lemmas.trees.UnionTreesKinds.{MustAgree, is_instance_item}

-- ---- elements of lists

pub contains_at : {X : Type 0} (xs : List X) (k : ℕ) (x : X) → slice_get xs k ≡ Some x → Contains xs x
contains_at xs k x at = (k, slice_get_within xs k x at, get_or_from_slice_get xs k x x at)

pub at_contains : {X : Type 0} (xs : List X) (x : X) → Contains xs x → (k : ℕ) × (slice_get xs k ≡ Some x)
at_contains xs x (k, low, is) = (k, slice_get_read xs (length xs) k x refl low (sym is))

module _ {A : Type 0} where
  pub all_each : (P : A → Type 0) (xs : List A) → ((i : ℕ) (x : A) → slice_get xs i ≡ Some x → P x) → AllByRecursion P xs
  all_each P [] h = tt
  all_each P (x ∷ xs) h = (h 0 x refl, all_each P xs (λ i y at. h (suc i) y at))

  pub all_at : (P : A → Type 0) (xs : List A) (i : ℕ) (x : A) → AllByRecursion P xs → slice_get xs i ≡ Some x → P x
  all_at P [] i x h at = cc
  all_at P (y ∷ xs) zero x h at = let same : y ≡ x = cc in subst P same h.0
  all_at P (y ∷ xs) (suc i) x h at = all_at P xs i x h.1 at

  pub all_map : (P Q : A → Type 0) (xs : List A) → ((x : A) → P x → Q x) → AllByRecursion P xs → AllByRecursion Q xs
  all_map P Q [] f h = tt
  all_map P Q (x ∷ xs) f h = (f x h.0, all_map P Q xs f h.1)

  pub map_same : {B : Type 0} (g h : A → B) (xs : List A) → AllByRecursion (λ x. g x ≡ h x) xs → map g xs ≡ map h xs
  map_same g h [] e = refl
  map_same g h (x ∷ xs) e = λ i. e.0 i ∷ map_same g h xs e.1 i

pub zip_map : {A B D : Type 0} (R : A → B → Type 0) (g : A → D) (h : B → D) → ((x : A) (y : B) → R x y → g x ≡ h y) → (xs : List A) (ys : List B) → AllZip R xs ys → map g xs ≡ map h ys
zip_map R g h same [] [] z = refl
zip_map R g h same [] (y ∷ ys) z = absurd z
zip_map R g h same (x ∷ xs) [] z = absurd z
zip_map R g h same (x ∷ xs) (y ∷ ys) z = λ i. same x y z.0 i ∷ zip_map R g h same xs ys z.1 i

-- ---- fresh items among type items

abbrev pub is_type_tree : Tree → Bool
is_type_tree fresh = true
is_type_tree (type_equal t) = true
is_type_tree t = false

union_fresh : (t : Tree) → is_type_tree t ≡ true → union t fresh ≡ fresh
union_fresh fresh h = refl
union_fresh (type_equal t) h = refl
union_fresh t h = absurd (false≢true h)

-- type items of which one is fresh are fresh together
pub all_fresh : {A : Type 0} (g : A → Tree) (test : A → Bool) (xs : List A) → AllByRecursion (λ x. (is_type_tree (g x) ≡ true) × (test x ≡ true → g x ≡ fresh)) xs → list_any test xs ≡ true → union_all (map g xs) ≡ fresh
all_fresh g test [] h t = absurd (false≢true t)
all_fresh g test (x ∷ xs) h t = elim (or_cases (test x) (list_any test xs) t) [
  | inl first ↦ ap (λ y. union y (union_all (map g xs))) (h.0.1 first)
  | inr rest ↦ ap (union (g x)) (all_fresh g test xs h.1 rest) ∙ union_fresh (g x) h.0.0
]

-- ---- what is listed under a name

-- a part among these lists this under a name
abbrev pub IsListed : Collection → List Part → (ℕ → Type 0) → Name → ℕ × ItemKind → Type 0
IsListed c ps P n l = P l.0 × (find_name (part_lists c ps l.0) n ≡ Some l.1)

module _ (c : Collection) (ps : List Part) where
  pub all_listed : (P : ℕ → Type 0) (n : Name) (parts : List ℕ) → AllByRecursion P parts → AllByRecursion (IsListed c ps P n) (listed_under c ps parts n)
  all_listed P n [] h = tt
  all_listed P n (p ∷ parts) h = by (find_name (part_lists c ps p) n) refl (all_listed P n parts h.1) where
    by : (o : Option ItemKind) → find_name (part_lists c ps p) n ≡ o → AllByRecursion (IsListed c ps P n) (listed_under c ps parts n)
        → AllByRecursion (IsListed c ps P n) (option_case o (listed_under c ps parts n) (λ k. (p, k) ∷ listed_under c ps parts n))
    by None at rest = rest
    by (Some k) at rest = ((h.0, at), rest)

  -- what a part lists
  pub part_exports : (p : ℕ) (x : Part) (it : Interface) → slice_get ps p ≡ Some x → item_at c.interfaces x.interface.0 ≡ Some it → part_lists c ps p ≡ it.exports
  part_exports p x it at is = ap (λ o. option_case o [] (λ (y : Part). interface_exports c y.interface)) at ∙ ap (λ o. option_case o [] (λ (y : Interface). y.exports)) is

-- ---- instances

-- all that is listed is an instance
abbrev pub AreInstances : List (ℕ × ItemKind) → Type 0
AreInstances ls = AllByRecursion (λ l. is_instance_item l.1 ≡ true) ls

pub instances_map : {B : Type 0} (g : ℕ × ItemKind → B) (ls : List (ℕ × ItemKind)) → AreInstances ls → map g ls ≡ map (λ i. g (i.0, kind.Instance i.1)) (instances_in ls)
instances_map g [] h = refl
instances_map g ((p, kind.Instance i) ∷ ls) h = ap (λ r. g (p, kind.Instance i) ∷ r) (instances_map g ls h.1)
instances_map g ((p, k) ∷ ls) h = absurd (false≢true h.0)

pub instances_all : (P : ℕ × ItemKind → Type 0) (ls : List (ℕ × ItemKind)) → AllByRecursion P ls → AllByRecursion (λ i. P (i.0, kind.Instance i.1)) (instances_in ls)
instances_all P [] h = tt
instances_all P ((p, kind.Instance i) ∷ ls) h = (h.0, instances_all P ls h.1)
instances_all P ((p, k) ∷ ls) h = instances_all P ls h.1

-- ---- trees of parts

-- what a part lists under each name, where its resources are bound so
abbrev pub placed_part : Collection → List Part → (ℕ → Bindings) → ℕ → Name → Tree
placed_part c ps place p = placed_at c (place p) (part_lists c ps p)

-- the same under what resources are called
abbrev pub called_part : Collection → List Part → (ℕ → Names Called) → ℕ → Name → TypeTree Called
called_part c ps called p = called_under c (called p) (part_lists c ps p)

-- a part inside another: what its interface binds, else what is around
abbrev pub AreNested : Collection → List Part → (ℕ → Bindings) → (ℕ → Names Called) → Type 0
AreNested c ps place called = (p o : ℕ) (x : Part) (it : Interface) → slice_get ps p ≡ Some x → x.outer ≡ Some o → item_at c.interfaces x.interface.0 ≡ Some it
    → (place p ≡ inside_interface c it (place o)) × (called p ≡ (by_binding c).in_instance it (called o))

module _ (c : Collection) (ps : List Part) (place : ℕ → Bindings) (called : ℕ → Names Called) (nested : AreNested c ps place called) where
  -- the tree of a listed interface is that of the part inside
  pub inner_placed : IsDeepEnough (by_place c) c → (o q v : ℕ) (i : InterfaceId) (it : Interface) → slice_get ps q ≡ Some (part i (Some o) v) → item_at c.interfaces i.0 ≡ Some it
      → held_tree c (place o) (ty.Interface i) ≡ instance (placed_part c ps place q)
  inner_placed deep o q v i it at is =
      let to : inside_interface c it (place o) ≡ place q = sym (nested q o (part i (Some o) v) it at refl is).0 in
      let lists : it.exports ≡ part_lists c ps q = sym (part_exports c ps q (part i (Some o) v) it at is) in
      placed_interface c deep (place o) i it is ∙ (λ d. instance (placed_at c (to d) (lists d)))

  pub inner_called : IsDeepEnough (by_binding c) c → (o q v : ℕ) (i : InterfaceId) (it : Interface) → slice_get ps q ≡ Some (part i (Some o) v) → item_at c.interfaces i.0 ≡ Some it
      → unfolded (by_binding c) c (called o) (ty.Interface i) ≡ instance (called_part c ps called q)
  inner_called deep o q v i it at is =
      let to : (by_binding c).in_instance it (called o) ≡ called q = sym (nested q o (part i (Some o) v) it at refl is).1 in
      let lists : it.exports ≡ part_lists c ps q = sym (part_exports c ps q (part i (Some o) v) it at is) in
      called_interface c deep (called o) i it is ∙ (λ d. instance (called_under c (to d) (lists d)))

-- ---- agreement

item_there : (t : AnyType → TypeTree Called) (k : ItemKind) → item_tree t false k ≡ absent → ⊥
item_there t (kind.TypeItem a) e = cc
item_there t (kind.Func a) e = cc
item_there t (kind.Instance a) e = cc
item_there t (kind.Component a) e = cc
item_there t (kind.Module a) e = cc
item_there t (kind.Value a) e = cc

-- parts that agree do so under a name that both list
pub agree_under : (c : Collection) (m n : Names Called) (xs ys : List (Name × ItemKind)) (o : Name) (k l : ItemKind) → find_name xs o ≡ Some k → find_name ys o ≡ Some l → MustAgree (instance (called_under c m xs)) (instance (called_under c n ys))
    → MustAgree (item_tree (unfolded (by_binding c) c m) false k) (item_tree (unfolded (by_binding c) c n) false l)
agree_under c m n xs ys o k l at on agree apart = agree (λ all. elim (all o) [
  | inl e ↦ item_there (unfolded (by_binding c) c m) k (sym first ∙ e)
  | inr r ↦ elim r [
    | inl e ↦ item_there (unfolded (by_binding c) c n) l (sym second ∙ e)
    | inr a ↦ apart (subst (λ x. Agree (item_tree (unfolded (by_binding c) c m) false k) x) second (subst (λ x. Agree x (called_under c n ys o)) first a))
  ]
]) where
  first : called_under c m xs o ≡ item_tree (unfolded (by_binding c) c m) false k
  first = ap (λ x. option_case x absent (λ y. item_tree (unfolded (by_binding c) c m) false y)) at

  second : called_under c n ys o ≡ item_tree (unfolded (by_binding c) c n) false l
  second = ap (λ x. option_case x absent (λ y. item_tree (unfolded (by_binding c) c n) false y)) on

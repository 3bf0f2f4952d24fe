-- What is known of the exports of an instance, and of those of its exports.
use Rattle.std.proofs.Common.{◌≡◌, ℕ, T, List, [], ◌∷◌, refl, ap, ◌∙◌, sym, subst, Some, ◌⊎◌, inl, inr}
use Rattle.std.specs.Prelude.{slice_get}
use Rattle.wac_types_shapes.specs.primitives.Name.{Name}
use Rattle.wac_types_shapes.specs.declared.shapes.component.InterfaceId.{InterfaceId}
use Rattle.wac_types_shapes.specs.declared.shapes.component.ItemKind.{ItemKind}
use Rattle.wac_types_shapes.specs.declared.shapes.component.ItemKind.TheVariants.{Instance}
use Rattle.wac_types_shapes.specs.primitives.Tree.{Leaf, inside, Tree, absent, instance, instance_item, moved, taken_from, items_in}
use Rattle.wac_types_collection.specs.collection.Collection.{Collection, interface_exports}
use Rattle.wac_binary.specs.declared.sorts.Sort.{Sort}
use Rattle.wac_binary.specs.declared.sorts.Sort.TheVariants as sort
use Rattle.wac_binary.specs.Unfold.{Bound, is_of_sort, bound_instance, aliased_instance}
use Rattle.wac_binary.specs.HasMeaning.{IsOfSort, HasExport}
use Rattle.wac_graph_model.specs.meaning.Means.{sort_of_kind}
use Rattle.wac_graph_model.specs.private.meaning.Beginning.{itself, inside as inside_export, item_inside, Covers}

-- of an instance nothing is known, or it has what its interface exports
abbrev pub IsKnown : Collection → InterfaceId → Bound → Type 0
IsKnown c i b = (b.type ≡ absent) ⊎ Covers c (Instance i) (instance_item b.type)

-- an export of the interface
exported_covers : (c : Collection) (i : InterfaceId) (t : Tree) (k : ℕ) (name : Name) (j : ItemKind) → Covers c (Instance i) (instance_item t) → slice_get (interface_exports c i) k ≡ Some (name, j) → Covers c j (items_in t name)
exported_covers c i t k name j covers at names l has = covers (name ∷ names) l (inside_export i k name j l names at has)

of_known : (t : Sort) (x : Tree) (name : Name) → IsOfSort t (items_in x name) → HasExport t x name
of_known t absent name h = tt
of_known t x name h = h

pub known_export : (c : Collection) (i : InterfaceId) (b : Bound) (k : ℕ) (name : Name) (j : ItemKind) → IsKnown c i b → slice_get (interface_exports c i) k ≡ Some (name, j) → HasExport (sort_of_kind j) b.type name
known_export c i b k name j (inl unknown) at = subst (λ (x : Tree). HasExport (sort_of_kind j) x name) (sym unknown) tt
known_export c i b k name j (inr covers) at = of_known (sort_of_kind j) b.type name (exported_covers c i b.type k name j covers at [] j (itself j))

-- a tree whose leaves are moved has items of the same sorts
same_sort : (t : Sort) (f : Leaf → Leaf) (x : Tree) → is_of_sort t (moved f x) ≡ is_of_sort t x
same_sort sort.CoreModule f absent = refl
same_sort t f absent = refl
same_sort t f x = refl

moved_item : (f : Leaf → Leaf) (x : Tree) (name : Name) → items_in (bound_instance (moved f x)) name ≡ moved (inside f) (items_in (bound_instance x) name)
moved_item f (instance_item t) name = in_type t where
  in_type : (t : Tree) → items_in (moved f t) name ≡ moved (inside f) (items_in t name)
  in_type (instance items) = refl
  in_type t = refl
moved_item f x name = refl

moved_inside : (t : Sort) (names : List Name) (f : Leaf → Leaf) (x : Tree) → is_of_sort t (item_inside (moved f x) names) ≡ is_of_sort t (item_inside x names)
moved_inside t [] f x = same_sort t f x
moved_inside t (n ∷ names) f x = ap (λ y. is_of_sort t (item_inside y names)) (moved_item f x n) ∙ moved_inside t names (inside f) (items_in (bound_instance x) n)

moved_covers : (c : Collection) (k : ItemKind) (f : Leaf → Leaf) (x : Tree) → Covers c k x → Covers c k (moved f x)
moved_covers c k f x covers names j has = subst T (sym (moved_inside (sort_of_kind j) names f x)) (covers names j has)

-- an instance item is one of its type
as_instance : (x : Tree) → IsOfSort sort.Instance x → instance_item (bound_instance x) ≡ x
as_instance (instance_item t) h = refl
as_instance x h = absurd h

-- an alias of an instance's export that is an instance
pub known_alias : (c : Collection) (i l : InterfaceId) (b : Bound) (k : ℕ) (name : Name) → IsKnown c i b → slice_get (interface_exports c i) k ≡ Some (name, Instance l) → IsKnown c l (aliased_instance b name)
known_alias c i l b k name (inl unknown) at = inl (ap (λ (x : Tree). bound_instance (taken_from b.side b.path (items_in x name))) unknown)
known_alias c i l b k name (inr covers) at =
    let x : Tree = items_in b.type name in
    let here : Covers c (Instance l) (taken_from b.side b.path x) = moved_covers c (Instance l) _ x (exported_covers c i b.type k name (Instance l) covers at) in
    inr (subst (λ (y : Tree). Covers c (Instance l) y) (sym (as_instance (taken_from b.side b.path x) (here [] (Instance l) (itself (Instance l))))) here)

-- Items in the order of their names.
use Rattle.std.proofs.Common.{◌≡◌, ℕ, zero, suc, ◌<◌, if◌then◌else◌, List, [], ◌∷◌, length, map, get_or, Some, refl, ap, ◌∙◌, subst}
use Rattle.std.specs.Prelude.{slice_get}
use Rattle.std.specs.List.{AllByRecursion}
use Rattle.std.specs.List.Sorted.{IsStrictlySortedBy}
use Rattle.std.specs.Map.{keys_of}
use Rattle.std.specs.Cmp.{IsTotalOrder, on_total}
use Rattle.std.specs.Cmp.Lexicographic.{slice_cmp, nat_list_cmp_total}
use Rattle.std.specs.Ordering.{nat_cmp}
use Rattle.std.specs.declared.cmp.Ordering.{Ordering}
use Rattle.std.specs.declared.cmp.Ordering.TheVariants.{Less}
use Rattle.std.specs.Option.{option_map}
use Rattle.wac_types_shapes.specs.primitives.Name.{Name, same_name}
use Rattle.wac_types_shapes.specs.primitives.Tree.{TypeTree, absent, instance, component}
use Rattle.wac_types_collection.specs.subtyping.Called.{Called}
use Rattle.wac_types_collection.specs.collection.Collection.{Collection}
use Rattle.wac_types_collection.specs.collection.Held.{Names, items_under}
use Rattle.wac_types_shapes.specs.declared.shapes.component.«Type».{«Type» as AnyType}
use Rattle.wac_types_shapes.specs.declared.shapes.component.ItemKind.{ItemKind}
use Rattle.wac_merge_tables.specs.declared.tables.nodes.Item.{Item as AnItem}
use Rattle.wac_merge_classes.specs.declared.entries.scopes.Opener.{Opener}
use Rattle.wac_merge_tables.specs.private.tables.Nodes.{Node, Item, of_instance, of_component, type_of, types_of, item_tree, tree_at, Sorted}
use Rattle.wac_merge_tables.specs.private.tables.NodeViews.{item_view, listed}
use Rattle.wac_merge_classes.specs.entries.Scopes.{listed_in, scope_tree}
use Rattle.wac_merge_trees.specs.private.coding.Coding.{tree_in, Fits}
use Rattle.wac_merge_trees.specs.private.coding.ItemCoding.{HasItem, AreItems, Lists, listing_under, component_tree}
use Rattle.wac_merge_tables.proofs.lemmas.tables.TaskLemmas.{all_joined}
use Rattle.wac_types_collection.proofs.lemmas.subtyping.Telling.{Borrowed, bytes}

-- borrowed names in the order of their bytes
abbrev pub borrowed_cmp : Borrowed → Borrowed → Ordering
borrowed_cmp a b = slice_cmp nat_cmp a.now b.now

pub borrowed_total : IsTotalOrder borrowed_cmp
borrowed_total = on_total bytes nat_list_cmp_total

-- what is seen of the first value under a name
abbrev pub look : {V T : Type 0} → T → (V → T) → List (Borrowed × V) → Name → T
look none view [] n = none
look none view (e ∷ es) n = if same_name n e.0.now then view e.1 else look none view es n

-- ---- keys that ascend are names that do
names_after : (k : Borrowed) (es : List (Borrowed × AnItem)) → AllByRecursion (λ y. borrowed_cmp k y ≡ Less) (keys_of es) → AllByRecursion (λ (x : Name × Item). slice_cmp nat_cmp k.now x.0 ≡ Less) (listed es)
names_after k [] h = tt
names_after k (e ∷ es) h = (h.0, names_after k es h.1)

sorted_names : (es : List (Borrowed × AnItem)) → IsStrictlySortedBy borrowed_cmp (keys_of es) → Sorted (listed es)
unfolding IsStrictlySortedBy
sorted_names [] h = tt
sorted_names (e ∷ es) h = (names_after e.0 es h.0, sorted_names es h.1)

pub as_many : (ns : List Node) (t : AnyType → TypeTree Called) (es : List (Name × ItemKind)) (xs : List AnItem) → AreItems ns t es xs → length es ≡ length xs
as_many ns t [] [] h = refl
as_many ns t [] (x ∷ xs) h = absurd h
as_many ns t (e ∷ es) [] h = absurd h
as_many ns t (e ∷ es) (x ∷ xs) h = ap suc (as_many ns t es xs h.1)

-- the item at a position
pub item_there : (ns : List Node) (t : AnyType → TypeTree Called) (es : List (Name × ItemKind)) (xs : List AnItem) (i : ℕ) (k : Name × ItemKind) (d : AnItem) → slice_get es i ≡ Some k → AreItems ns t es xs → HasItem ns t k.1 (item_view (get_or xs i d))
item_there ns t [] xs i k d is h = cc
item_there ns t (e ∷ es) [] i k d is h = absurd h
item_there ns t (e ∷ es) (x ∷ xs) zero k d is h = let same : e ≡ k = cc in subst (λ (y : Name × ItemKind). HasItem ns t y.1 (item_view x)) same h.0
item_there ns t (e ∷ es) (x ∷ xs) (suc i) k d is h = item_there ns t es xs i k d is h.1

abbrev pub item_seen : List Node → AnItem → TypeTree Called
item_seen ns x = item_tree (tree_at ns) (item_view x)

abbrev pub IsLow : List Node → AnItem → Type 0
IsLow ns x = type_of (item_view x) < length ns

-- an entry is there, whatever is known of its name alone
pub kind_there : (es : List (Name × ItemKind)) (i : ℕ) (nm : Name) → option_map (λ e. e.0) (slice_get es i) ≡ Some nm → (k : ItemKind) × (slice_get es i ≡ Some (nm, k))
kind_there [] i nm is = cc
kind_there (e ∷ es) zero nm is = let same : e.0 ≡ nm = cc in (e.1, ap (λ x. Some (x, e.1)) same)
kind_there (e ∷ es) (suc i) nm is = kind_there es i nm is

listed_look : (ns : List Node) (es : List (Borrowed × AnItem)) (n : Name) → items_under (map (λ e. (e.0, item_tree (tree_at ns) e.1)) (listed es)) n ≡ look absent (item_seen ns) es n
listed_look ns [] n = refl
listed_look ns (e ∷ es) n = ap (λ t. if same_name n e.0.now then item_seen ns e.1 else t) (listed_look ns es n)

all_low : (ns : List Node) (es : List (Borrowed × AnItem)) → AllByRecursion (λ e. IsLow ns e.1) es → AllByRecursion (λ m. m < length ns) (types_of (listed es))
all_low ns [] h = tt
all_low ns (e ∷ es) h = (h.0, all_low ns es h.1)

pub lists : (ns : List Node) (t : AnyType → TypeTree Called) (kinds : List (Name × ItemKind)) (es : List (Borrowed × AnItem)) → IsStrictlySortedBy borrowed_cmp (keys_of es) → AllByRecursion (λ e. IsLow ns e.1) es
    → ((n : Name) → look absent (item_seen ns) es n ≡ listing_under t kinds n) → Lists ns t kinds (listed es)
lists ns t kinds es sorted low under = record { lower = all_low ns es low; sorted = sorted_names es sorted; under = λ n. listed_look ns es n ∙ under n }

pub fits_instance : (ns : List Node) (t : AnyType → TypeTree Called) (kinds : List (Name × ItemKind)) (es : List (Name × Item)) → Lists ns t kinds es → Fits ns (instance (listing_under t kinds)) (of_instance es)
fits_instance ns t kinds es l = let same = l.under in record { lower = l.lower; sorted = l.sorted; is = λ j. instance (λ n. same n j) }

pub fits_component : (ns : List Node) (t u : AnyType → TypeTree Called) (imports exports : List (Name × ItemKind)) (is es : List (Name × Item)) → Lists ns t imports is → Lists ns u exports es
    → Fits ns (component_tree t imports u exports) (of_component is es)
fits_component ns t u imports exports is es l k =
    let first = l.under in
    let second = k.under in
    record { lower = all_joined (λ m. m < length ns) (types_of is) (types_of es) l.lower k.lower; sorted = (l.sorted, k.sorted); is = λ j. component (λ n. first n j) (λ n. second n j) }

-- what is listed in a scope
pub scope_is : (c : Collection) (m : Names Called) (o : Opener) → instance (listing_under (tree_in c m) (listed_in c o)) ≡ scope_tree c m o
unfolding tree_in
scope_is c m o = refl

-- Items of a scope in an interning table. Only contracts inside the merge cite this file.
use Rattle.std.specs.Prelude.{◌≡◌, ◌<◌, false, List, map, length}
use Rattle.std.specs.List.{AllByRecursion, AllZip}
use Rattle.wac_types_shapes.specs.primitives.Name.{Name}
use Rattle.wac_types_shapes.specs.primitives.Tree.{TypeTree, component}
use Rattle.wac_types_collection.specs.subtyping.Called.{Called}
use Rattle.wac_types_collection.specs.collection.Held as held
use Rattle.wac_types_shapes.specs.declared.shapes.component.«Type».{«Type» as AnyType}
use Rattle.wac_types_shapes.specs.declared.shapes.component.ItemKind.{ItemKind}
use Rattle.wac_merge_tables.specs.declared.tables.nodes.Item.{Item as AnItem}
use Rattle.wac_merge_tables.specs.private.tables.NodeViews.{item_view}
use Rattle.wac_merge_tables.specs.private.tables.Nodes.{Node, Item, type_of, types_of, item_tree, listed_tree, tree_at, Sorted}

-- The item has the tree of a kind.
pub record HasItem (ns : List Node) (t : AnyType → TypeTree Called) (k : ItemKind) (x : Item) : Type 0 where
  pub there : type_of x < length ns
  pub is : item_tree (tree_at ns) x ≡ held.item_tree t false k

-- Each kind has its item.
abbrev pub AreItems : List Node → (AnyType → TypeTree Called) → List (Name × ItemKind) → List AnItem → Type 0
AreItems ns t = AllZip (λ e x. HasItem ns t e.1 (item_view x))

-- The tree of the item under a name.
abbrev pub listing_under : (AnyType → TypeTree Called) → List (Name × ItemKind) → Name → TypeTree Called
listing_under t es = held.items_under (map (λ e. (e.0, held.item_tree t false e.1)) es)

-- Items under their names, sorted, that have the trees of these kinds.
pub record Lists (ns : List Node) (t : AnyType → TypeTree Called) (kinds : List (Name × ItemKind)) (es : List (Name × Item)) : Type 0 where
  pub lower : AllByRecursion (λ m. m < length ns) (types_of es)
  pub sorted : Sorted es
  pub under : (n : Name) → listed_tree (tree_at ns) es n ≡ listing_under t kinds n

-- The component with these imports and exports, each with the trees of its side.
abbrev pub component_tree : (AnyType → TypeTree Called) → List (Name × ItemKind) → (AnyType → TypeTree Called) → List (Name × ItemKind) → TypeTree Called
component_tree t is u es = component (listing_under t is) (listing_under u es)

-- Entries as items of the table of types. Only contracts inside the merge cite this file.
use Rattle.std.specs.Prelude.{ℕ, ◌≡◌, ◌<◌, length, List, Some, slice_get}
use Rattle.wac_types_shapes.specs.primitives.Name.{Name}
use Rattle.wac_types_collection.specs.collection.Collection.{Collection}
use Rattle.wac_types_shapes.specs.declared.shapes.component.ItemKind.{ItemKind}
use Rattle.wac_merge_classes.specs.entries.Classes.{Entry, by_names}
use Rattle.wac_merge_classes.specs.entries.Agreement.{compared}
use Rattle.wac_merge_tables.specs.private.tables.Nodes.{Node, Item, type_of, item_tree, tree_at}

-- The item has the tree by which an entry of the class is compared.
pub record IsItemOf (ns : List Node) (c : Collection) (es : List Entry) (class : Name) (k : ItemKind) (x : Item) : Type 0 where
  pub there : type_of x < length ns
  pub is : item_tree (tree_at ns) x ≡ compared by_names c es class k

-- Each item has the tree by which its entry is compared.
abbrev pub AreCompared : List Node → Collection → List Entry → List Item → Type 0
AreCompared ns c es xs = (i : ℕ) (e : Entry) (x : Item) → slice_get es i ≡ Some e → slice_get xs i ≡ Some x → IsItemOf ns c es e.name e.kind x

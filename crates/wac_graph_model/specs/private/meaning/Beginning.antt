-- Items that begin a component with its imports, and the indexes of the imports.
use Rattle.std.specs.Prelude.{ℕ, ◌≡◌, ◌<◌, List, [], ◌∷◌, ◌++◌, length, Some, slice_get}
use Rattle.wac_types_shapes.specs.primitives.Name.{Name}
use Rattle.wac_types_shapes.specs.declared.shapes.component.InterfaceId.{InterfaceId}
use Rattle.wac_types_shapes.specs.declared.shapes.component.ItemKind.{ItemKind}
use Rattle.wac_types_shapes.specs.declared.shapes.component.ItemKind.TheVariants.{Instance}
use Rattle.wac_types_shapes.specs.primitives.Tree.{Tree, type_equal, instance_item, items_in}
use Rattle.wac_types_collection.specs.collection.Collection.{Collection, interface_exports}
use Rattle.wac_binary.specs.declared.sorts.Sort.{Sort}
use Rattle.wac_binary.specs.declared.sorts.Sort.TheVariants as sort
use Rattle.wac_binary.specs.declared.sorts.Description.{Description}
use Rattle.wac_binary.specs.Items.{Item, import_item}
use Rattle.wac_binary.specs.Indexes.{space, described_sort, indexes}
use Rattle.wac_binary.specs.Unfold.{bound_at, type_at, bound_instance}
use Rattle.wac_binary.specs.Meaning.{import_at, meaning, stands_for}
use Rattle.wac_binary.specs.HasMeaning.{HasMeaning, IsOfSort}
use Rattle.wac_edges.specs.declared.node.NodeId.{NodeId}
use Rattle.wac_graph_model.specs.nodes.Graph.{Graph, GraphNode}
use Rattle.wac_graph_model.specs.nodes.OuterImports.{IsImportPlace}
use Rattle.wac_graph_model.specs.meaning.Means.{sort_of_kind}

-- The sort and index of each import, by the import's position.
abbrev pub Places : Type 0
Places = List (Sort × ℕ)

-- The import of the name's class has this sort and index.
pub record IsPlacedAt (g : Graph) (places : Places) (name : Name) (t : Sort) (i : ℕ) : Type 0 where
  pub p : ℕ
  pub fell : IsImportPlace g name p
  pub placed : slice_get places p ≡ Some (t, i)

-- The item at position k is an import and adds index i of sort t.
pub record HasImport (items : List Item) (t : Sort) (i k : ℕ) : Type 0 where
  pub name : Name
  pub description : Description
  pub before : List Item
  pub after : List Item
  pub split : items ≡ before ++ import_item name description ∷ after
  pub here : length before ≡ k
  pub sorted : described_sort description ≡ t
  pub counted : i ≡ indexes (space t) before

-- The items import exactly these, at these places, and otherwise contain only types and aliases.
pub record Begins (imports : List (Name × Tree)) (places : Places) (items : List Item) : Type 0 where
  pub meant : HasMeaning items
  pub imports_are : (meaning items).imports ≡ imports
  pub components : (meaning items).nested_bytes ≡ []
  pub instantiations : (meaning items).instantiations ≡ []
  pub exports : (meaning items).exports ≡ []
  pub customs : (meaning items).customs ≡ []
  pub count : length places ≡ length imports
  pub stand : (p : ℕ) (t : Sort) (i : ℕ) → slice_get places p ≡ Some (t, i) → (i < indexes (space t) items) × (stands_for (meaning items) t i ≡ import_at p)
  -- Each place is that of an import item.
  pub own : (p : ℕ) (t : Sort) (i : ℕ) → slice_get places p ≡ Some (t, i) → (k : ℕ) × HasImport items t i k
  -- The type of an imported instance is the imported one.
  pub typed : (p i : ℕ) (e : Name × Tree) → slice_get places p ≡ Some (sort.Instance, i) → slice_get imports p ≡ Some e → e.1 ≡ instance_item (bound_at (meaning items).scope.instances i).type
  -- The type at the index of an imported type item is the imported one.
  pub equal : (p i : ℕ) (e : Name × Tree) (t : Tree) → slice_get places p ≡ Some (sort.«Type», i) → slice_get imports p ≡ Some e → e.1 ≡ type_equal t → type_at (meaning items).scope.types i ≡ t

-- An item has an item of another type inside: the names lead to it, through exports of instances.
pub data HasInside (c : Collection) : ItemKind → List Name → ItemKind → Type 0 where
  itself : (k : ItemKind) → HasInside c k [] k
  inside : (i : InterfaceId) (p : ℕ) (name : Name) (j k : ItemKind) (names : List Name)
      → slice_get (interface_exports c i) p ≡ Some (name, j) → HasInside c j names k → HasInside c (Instance i) (name ∷ names) k

-- The tree of the item that the names lead to, through exports of instances.
abbrev pub item_inside : Tree → List Name → Tree
item_inside t [] = t
item_inside t (n ∷ ns) = item_inside (items_in (bound_instance t) n) ns

-- Inside the tree, the names lead to items of the same sorts as inside an item of this type.
abbrev pub Covers : Collection → ItemKind → Tree → Type 0
Covers c k t = (names : List Name) (j : ItemKind) → HasInside c k names j → IsOfSort (sort_of_kind j) (item_inside t names)

-- The import node has the index of its class's import, whose tree has every item that the node's type has.
pub record IsPlacedNode (g : Graph) (imports : List (Name × Tree)) (places : Places) (index : NodeId → ℕ) (n : NodeId) (node : GraphNode) (p : ℕ) : Type 0 where
  pub placed : slice_get places p ≡ Some (sort_of_kind node.item_kind, index n)
  pub entry : Name × Tree
  pub there : slice_get imports p ≡ Some entry
  pub covers : Covers g.types node.item_kind entry.1

-- The merged imports of a graph, and the place of each name's import.
use Rattle.std.specs.Prelude.{ℕ, ◌≡◌, ◌++◌, Bool, true, length, map, List, Some, slice_get}
use Rattle.wac_types_shapes.specs.primitives.Name.{Name}
use Rattle.wac_merge_classes.specs.entries.Classes.{Entry, by_names, imported_as}
use Rattle.wac_merge.specs.Aggregate.{Aggregate}
use Rattle.wac_merge.specs.Listed.{AreListedInOrder}
use Rattle.wac_binary.specs.declared.sorts.Sort.{Sort}
use Rattle.wac_edges.specs.declared.node.NodeId.{NodeId}
use Rattle.wac_graph_model.specs.nodes.Graph as graph
use Rattle.wac_graph_model.specs.nodes.Graph.{Graph, GraphNode, node_at}
use Rattle.wac_graph_model.specs.nodes.OuterImports.{outer_entries}
use Rattle.wac_graph_model.specs.meaning.Means.{sort_of_kind}
use Rattle.wac_graph_model.specs.private.meaning.Beginning.{Places}
use Rattle.wac_graph_model.specs.private.meaning.Encoding.{index_in}
use Rattle.wac_graph_model.specs.private.meaning.MergedImports.{AreOfSorts, IsMergeOf, IsFoundAt}
use Rattle.wac_graph_reader.specs.private.reading.PackageNames.{package_names}
use Rattle.wac_graph_encode.specs.declared.places.places.ImportPlaces.{ImportPlaces}

-- There is an import under the name's canonical name.
pub record IsImportedName (a : Aggregate) (name : Name) : Type 0 where
  pub p : ℕ
  pub entry : Entry
  pub there : slice_get (a.merge).imports p ≡ Some entry
  pub named : entry.name ≡ imported_as by_names a.entries name

-- The import under the name's canonical name has this sort and index.
pub record IsPlaceOf (a : Aggregate) (places : Places) (name : Name) (place : Sort × ℕ) : Type 0 where
  pub p : ℕ
  pub entry : Entry
  pub there : slice_get (a.merge).imports p ≡ Some entry
  pub named : entry.name ≡ imported_as by_names a.entries name
  pub placed : slice_get places p ≡ Some place

-- The merge is a finished one of all imports of the graph, and keeps the order of exports.
pub record IsMergedFor (g : Graph) (a : Aggregate) : Type 0 where
  pub finished : a.is_finished ≡ true
  pub entries : a.entries ≡ outer_entries g
  pub whole : IsMergeOf g a.merge
  pub listed : AreListedInOrder by_names g.types (outer_entries g) a.merge

-- The imports are those of the graph's merge, each with its place.
pub record ArePlaced (g : Graph) (p : ImportPlaces) : Type 0 where
  pub merged : IsMergedFor g p.merge
  pub counted : length p.places.items ≡ length ((p.merge).merge).imports
  pub sorts : AreOfSorts (p.merge).merge p.places.items

-- Each import node has the index of its class's import.
abbrev pub AreFound : Graph → ImportPlaces → List ℕ → Type 0
AreFound g p indexes = (n : NodeId) (node : GraphNode) (name : Name) → node_at g n ≡ Some node → node.kind ≡ graph.import name → IsFoundAt g (p.merge).merge p.places.items name (sort_of_kind node.item_kind) (index_in indexes n)

-- The names of the imports.
abbrev pub names_of : List Entry → List Name
names_of es = map (λ e. e.name) es

-- The names of the component's imports: the merged ones, then the packages that are imported.
abbrev pub import_texts : Graph → List Entry → (define_components : Bool) → List NodeId → List Name
import_texts g imports define_components order = names_of imports ++ package_names g define_components order

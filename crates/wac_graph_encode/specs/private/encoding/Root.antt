-- The root while the nodes of a graph are written into it.
use Rattle.std.specs.Prelude.{ℕ, ◌≡◌, ◌≤◌, ◌*◌, Bool, true, false, IfSome, List, [], ◌∷◌, ◌++◌, Some, Contains}
use Rattle.wac_types_shapes.specs.declared.shapes.component.ItemKind.TheVariants.{TypeItem}
use Rattle.wac_types_shapes.specs.declared.shapes.component.ValueType.{ValueType}
use Rattle.wac_types_shapes.specs.declared.shapes.component.«Type».{«Type» as AnyType}
use Rattle.wac_types_shapes.specs.declared.shapes.component.«Type».TheVariants as ty
use Rattle.wac_types_collection.specs.collection.Bound.{Bindings}
use Rattle.wac_types_collection.specs.collection.Collection.{holds_type}
use Rattle.wac_types_collection.specs.collection.Package.{PackageParts}
use Rattle.wac_types_weight.specs.Text.{scope_weight}
use Rattle.wac_binary.specs.HasMeaning.{HasMeaning}
use Rattle.wac_edges.specs.declared.node.NodeId.{NodeId}
use Rattle.wac_encode_stacks.specs.Good.{Good}
use Rattle.wac_encode_scopes.specs.declared.state.State.{State}
use Rattle.wac_encode_scopes.specs.Roots.{IsRoot, items_of}
use Rattle.wac_encode_scopes.specs.States.{stack, Goes, IsTypeAt}
use Rattle.wac_encode_interfaces.specs.private.Definitions.{IsFaultlessDefinition, HaveDefinedWorlds}
use Rattle.wac_encode_interfaces.specs.private.Ready.{IsClean}
use Rattle.wac_encode_interfaces.specs.private.Worlds.{Worlds, HaveWorlds, written_in}
use Rattle.wac_encode_interfaces.specs.private.Writers.{IsWriter}
use Rattle.wac_graph_model.specs.declared.nodes.options.EncodeOptions.{EncodeOptions}
use Rattle.wac_graph_model.specs.declared.nodes.packages.PackageId.{PackageId}
use Rattle.wac_graph_model.specs.nodes.OuterImports.{IsOuterOrder, outer_bindings}
use Rattle.wac_graph_model.specs.nodes.Graph.{Graph, GraphNode, definition, instantiation, node_at, package_at}
use Rattle.wac_graph_model.specs.weight.GraphWeight.{bound}
use Rattle.wac_graph_model.specs.private.meaning.Beginning.{Begins, Places}
use Rattle.wac_graph_model.specs.private.meaning.Encoding.{HasRoom, index_in}
use Rattle.wac_graph_model.specs.private.meaning.MergedImports.{merged_imports}
use Rattle.wac_graph_model.specs.private.meaning.Writing.{WritesNode, Wrote}
use Rattle.wac_graph_model.specs.private.meaning.WrittenSoFar.{IsWrittenSoFar}
use Rattle.wac_graph_reader.specs.declared.reading.encoder.Encoder.{Encoder}
use Rattle.wac_graph_reader.specs.private.reading.EncoderView.{progress}
use Rattle.wac_graph_encode.specs.declared.encoding.writer.GraphWriter.{GraphWriter}
use Rattle.wac_graph_encode.specs.declared.places.places.ImportPlaces.{ImportPlaces}
use Rattle.wac_graph_encode.specs.private.places.Places.{ArePlaced}

-- The root is the only open scope, and binds m for the graph's own types.
pub record IsOpenRoot (g : Graph) (m : Bindings) (s : State) : Type 0 where
  pub root : IsRoot s.here.content
  pub good : Good g.types (m ∷ []) (stack false s)

-- The root stays open, with the same bindings, if its items have a meaning.
abbrev pub KeepsRoot : Graph → State → State → Type 0
KeepsRoot g old new = (m : Bindings) → IsOpenRoot g m old → HasMeaning (items_of new.here.content) → IsOpenRoot g m new

-- A definition has no fault in a root with these bindings. Nothing inside the world of a package that is imported has one.
pub record IsFaultlessNode (g : Graph) (define_components : Bool) (m : Bindings) (n : NodeId) : Type 0 where
  pub defined : (node : GraphNode) (t : AnyType) → node_at g n ≡ Some node → node.kind ≡ definition → node.item_kind ≡ TypeItem t → IsFaultlessDefinition g.types m t
  pub imported : (node : GraphNode) (id : PackageId) → node_at g n ≡ Some node → node.kind ≡ instantiation → node.owner ≡ Some id → define_components ≡ false
      → IfSome (package_at g id) (λ p. IsClean g.types (ty.World p.world))

-- The worlds inside a definition are written, and those inside the world of a package that is imported.
pub record HasNodeWorlds (g : Graph) (define_components : Bool) (ws : Worlds) (n : NodeId) : Type 0 where
  pub defined : (node : GraphNode) (t : AnyType) → node_at g n ≡ Some node → node.kind ≡ definition → node.item_kind ≡ TypeItem t → HaveDefinedWorlds g.types ws t
  pub imported : (node : GraphNode) (id : PackageId) → node_at g n ≡ Some node → node.kind ≡ instantiation → node.owner ≡ Some id → define_components ≡ false
      → IfSome (package_at g id) (λ p. HaveWorlds g.types ws (ty.World p.world))

-- The node can be written.
pub record IsNodeReady (g : Graph) (define_components : Bool) (ws : Worlds) (n : NodeId) (s : State) : Type 0 where
  pub bindings : Bindings
  pub open_root : IsOpenRoot g bindings s
  pub meant : HasMeaning (items_of s.here.content)
  pub faultless : IsFaultlessNode g define_components bindings n
  pub worlds : HasNodeWorlds g define_components ws n

-- The node is written with this index, whatever the root binds and the other options are.
abbrev pub WritesOne : Graph → Bool → Places → NodeId → Encoder → Encoder → ℕ → Type 0
WritesOne g define_components places n old new i = (o : EncodeOptions) → o.define_components ≡ define_components → (m : Bindings) → IsOpenRoot g m old.state
    → IfSome (node_at g n) (λ node. WritesNode g o m places n node (index_in old.indexes.items) old.components new.components (items_of old.state.here.content) (items_of new.state.here.content) i)

-- The node is written, and its index recorded, whatever the root binds and the other options are.
abbrev pub WroteOne : Graph → Bool → Places → NodeId → Encoder → Encoder → Type 0
WroteOne g define_components places n old new = (o : EncodeOptions) → o.define_components ≡ define_components → (m : Bindings) → IsOpenRoot g m old.state → Wrote g o m places n (progress old) (progress new)

-- Types of the collection are appended, inside which nothing has a fault. If the worlds inside them are written, those that the node needs are.
pub record AddsRoots (g : Graph) (define_components : Bool) (n : NodeId) (old new : List AnyType) : Type 0 where
  pub roots : List AnyType
  pub added : new ≡ old ++ roots
  pub held : (t : AnyType) → Contains roots t → holds_type g.types t ≡ true
  pub clean : (t : AnyType) → Contains roots t → IsClean g.types t
  pub enough : (ws : Worlds) → ((t : AnyType) → Contains roots t → HaveWorlds g.types ws t) → HasNodeWorlds g define_components ws n
  pub light : (o : EncodeOptions) (t : AnyType) → Contains roots t → 64 * scope_weight g.types t ≤ bound g o

-- The writer has the types of the graph, and the merged imports of it.
pub record IsGraphWriter (w : GraphWriter) : Type 0 where
  pub writer : IsWriter w.types.now
  pub types : (w.types.now).types.now ≡ (w.reader.now).types
  pub own : (w.types.now).merged ≡ false
  pub placed : ArePlaced w.reader.now w.imports.now

-- The index of an exported type is recorded as a name of its value type, or nothing is. The content stays.
pub record RecordsName (g : Graph) (a : AnyType) (k : ℕ) (old new : State) : Type 0 where
  pub content : new.here.content ≡ old.here.content
  pub goes : ((v : ValueType) → a ≡ ty.Value v → IsTypeAt g.types false old (ty.Value v) k) → Goes g.types false old new

-- If packages are not defined, the world of the package can be imported.
pub record IsPackageReady (w : GraphWriter) (p : PackageParts) (s : State) : Type 0 where
  pub bindings : Bindings
  pub open_root : IsOpenRoot w.reader.now bindings s
  pub meant : HasMeaning (items_of s.here.content)
  pub held : holds_type (w.reader.now).types (ty.World p.world) ≡ true
  pub clean : w.define_components ≡ false → IsClean (w.reader.now).types (ty.World p.world)
  pub worlds : w.define_components ≡ false → HaveWorlds (w.reader.now).types (written_in ((w.types.now).worlds.now)) (ty.World p.world)

-- The items of the root begin with the merged imports. The root binds the resources that these import, for the graph's own types.
pub record BeginsRoot (g : Graph) (p : ImportPlaces) (s : State) : Type 0 where
  pub begins : Begins (merged_imports (p.merge).merge) p.places.items (items_of s.here.content)
  pub outer : List ℕ
  pub is_order : IsOuterOrder g outer
  pub open_root : IsOpenRoot g (outer_bindings g outer) s

-- The nodes of this order can be written, all of them: none is written yet, whatever the other options are.
pub record BeginsNodes (w : GraphWriter) (e : Encoder) (order : List NodeId) : Type 0 where
  pub outer : List ℕ
  pub is_order : IsOuterOrder w.reader.now outer
  pub open_root : IsOpenRoot w.reader.now (outer_bindings w.reader.now outer) e.state
  pub faultless : (n : NodeId) → Contains order n → IsFaultlessNode w.reader.now w.define_components (outer_bindings w.reader.now outer) n
  pub room : HasRoom w.reader.now e.indexes.items
  pub first : (o : EncodeOptions) → o.define_components ≡ w.define_components
      → IsWrittenSoFar w.reader.now o (merged_imports ((w.imports.now).merge.merge)) (outer_bindings w.reader.now outer) (w.imports.now).places.items order [] (progress e)

-- All nodes of this order are written, whatever the other options are.
abbrev pub EndsNodes : GraphWriter → Encoder → List NodeId → Type 0
EndsNodes w new order = (o : EncodeOptions) → o.define_components ≡ w.define_components → (outer : List ℕ) → IsOuterOrder w.reader.now outer
    → IsOpenRoot w.reader.now (outer_bindings w.reader.now outer) new.state
    × IsWrittenSoFar w.reader.now o (merged_imports ((w.imports.now).merge.merge)) (outer_bindings w.reader.now outer) (w.imports.now).places.items order order (progress new)

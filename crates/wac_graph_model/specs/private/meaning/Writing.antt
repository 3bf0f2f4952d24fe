-- What a node adds to items that begin with imports.
use Rattle.std.specs.Prelude.{ℕ, suc, ◌≡◌, IfSome, List, [], ◌∷◌, ◌++◌, Some, slice_get, slice_set}
use Rattle.std.specs.List.{AllByRecursion}
use Rattle.wac_types_shapes.specs.primitives.Name.{Name}
use Rattle.wac_types_shapes.specs.primitives.Tree.{Tree, absent}
use Rattle.wac_types_shapes.specs.declared.shapes.component.ItemKind.{ItemKind}
use Rattle.wac_types_shapes.specs.declared.shapes.component.ItemKind.TheVariants.{TypeItem}
use Rattle.wac_types_shapes.specs.declared.shapes.component.«Type».{«Type» as AnyType}
use Rattle.wac_types_collection.specs.collection.Bound.{Bindings}
use Rattle.wac_binary.specs.declared.sorts.Sort.{Sort}
use Rattle.wac_binary.specs.declared.sorts.Sort.TheVariants as sort
use Rattle.wac_binary.specs.Items.{Item, instantiate, alias_item, export_alias, export_item}
use Rattle.wac_binary.specs.Indexes.{space, indexes}
use Rattle.wac_binary.specs.Unfold.{type_at}
use Rattle.wac_binary.specs.Meaning.{meaning}
use Rattle.wac_binary.specs.HasMeaning.{HasMeaning, IsResource}
use Rattle.wac_edges.specs.declared.node.NodeId.{NodeId}
use Rattle.wac_encode_faults.specs.Trees.{definition_tree}
use Rattle.wac_graph_model.specs.declared.nodes.options.EncodeOptions.{EncodeOptions}
use Rattle.wac_graph_model.specs.declared.nodes.packages.PackageId.{PackageId}
use Rattle.wac_graph_model.specs.nodes.Graph as graph
use Rattle.wac_graph_model.specs.nodes.Graph.{Graph, GraphNode, node_at, imports_of, exports_of, IsAliasOf, IsArgumentOf, IsUnsatisfied}
use Rattle.wac_graph_model.specs.meaning.Means.{sort_of_kind}
use Rattle.wac_graph_model.specs.private.meaning.Beginning.{Places, IsPlacedAt}
use Rattle.wac_graph_model.specs.private.meaning.Encoding.{IsTypeAlone, HasComponent, Progress, index_in}

-- An argument item for import e: the index of the node that was set, or, if there is none, of the import of its name's class.
pub data IsArgumentItem (g : Graph) (places : Places) (index : NodeId → ℕ) (n : NodeId) (i : ℕ) (e : Name × ItemKind) (a : Name × Sort × ℕ) : Type 0 where
  of_node : (source : NodeId) (node : GraphNode) → a.0 ≡ e.0 → IsArgumentOf g n i source → node_at g source ≡ Some node → a.1 ≡ sort_of_kind node.item_kind → a.2 ≡ index source
      → IsArgumentItem g places index n i e a
  of_import : a.0 ≡ e.0 → IsUnsatisfied g n i → a.1 ≡ sort_of_kind e.1 → IsPlacedAt g places e.0 a.1 a.2 → IsArgumentItem g places index n i e a

-- There is one argument item for each import of the world, in world order.
abbrev pub AreArgumentItems : Graph → Places → (NodeId → ℕ) → NodeId → ℕ → List (Name × ItemKind) → List (Name × Sort × ℕ) → Type 0
AreArgumentItems g places index n i [] [] = Unit {0}
AreArgumentItems g places index n i (e ∷ imports) (a ∷ arguments) = IsArgumentItem g places index n i e a × AreArgumentItems g places index n (suc i) imports arguments
AreArgumentItems g places index n i _ _ = ⊥

-- Only types and aliases of types are appended. Type index k then refers to a type with this tree, which is no resource.
pub record WritesTypeWith (tree : Tree) (items items' : List Item) (k : ℕ) : Type 0 where
  pub types : List Item
  pub alone : AllByRecursion IsTypeAlone types
  pub added : items' ≡ items ++ types
  pub there : tree ≡ absent → ⊥
  pub no_resource : IsResource tree → ⊥
  -- If the items have a meaning, so do the new ones, in which the type at the index has the tree.
  pub meant : HasMeaning items → HasMeaning items' × (type_at (meaning items').scope.types k ≡ tree)

-- Node n is written after these items and gets index i. Resources of the root are bound by m.
pub data WritesNode (g : Graph) (o : EncodeOptions) (m : Bindings) (places : Places) (n : NodeId) (node : GraphNode) (index : NodeId → ℕ) (components components' : List (PackageId × ℕ)) (items items' : List Item) (i : ℕ) : Type 0 where
  writes_instantiation : (id : PackageId) (c : ℕ) (mid : List Item) (arguments : List (Name × Sort × ℕ))
      → node.kind ≡ graph.instantiation → node.owner ≡ Some id → HasComponent g o id c components components' items mid
      → AreArgumentItems g places index n 0 (imports_of g node) arguments
      → items' ≡ mid ++ instantiate c arguments ∷ [] → i ≡ indexes (space sort.Instance) mid
      → WritesNode g o m places n node index components components' items items' i
  writes_alias : (instance : NodeId) (source : GraphNode) (k : ℕ) (name : Name)
      → node.kind ≡ graph.alias → IsAliasOf g instance k n → node_at g instance ≡ Some source → slice_get (exports_of g source) k ≡ Some (name, node.item_kind)
      → components' ≡ components
      → items' ≡ items ++ alias_item (export_alias (sort_of_kind node.item_kind) (index instance) name) ∷ [] → i ≡ indexes (space (sort_of_kind node.item_kind)) items
      → WritesNode g o m places n node index components components' items items' i
  writes_definition : (t : AnyType) (name : Name) (k : ℕ) (mid : List Item)
      → node.kind ≡ graph.definition → node.item_kind ≡ TypeItem t → node.first_name ≡ Some name
      → components' ≡ components
      → WritesTypeWith (definition_tree g.types m t) items mid k
      → items' ≡ mid ++ export_item name sort.«Type» k ∷ [] → i ≡ indexes (space sort.«Type») mid
      → WritesNode g o m places n node index components components' items items' i

-- The node is written, and its index recorded.
abbrev pub Wrote : Graph → EncodeOptions → Bindings → Places → NodeId → Progress → Progress → Type 0
Wrote g o m places n p q =
    IfSome (node_at g n) (λ node. (i : ℕ) × WritesNode g o m places n node (index_in p.indexes) p.components q.components p.items q.items i × (q.indexes ≡ slice_set p.indexes n.0 i))

-- The nodes are written in this order.
abbrev pub WroteAll : Graph → EncodeOptions → Bindings → Places → List NodeId → Progress → Progress → Type 0
WroteAll g o m places [] p q = q ≡ p
WroteAll g o m places (n ∷ ns) p q = (mid : Progress) × Wrote g o m places n p mid × WroteAll g o m places ns mid q

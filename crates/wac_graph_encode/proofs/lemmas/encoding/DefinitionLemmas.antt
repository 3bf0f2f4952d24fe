-- A definition that is read is written as what it is.
use Rattle.std.proofs.Common.{◌≡◌, ℕ, Bool, true, false, List, [], ◌∷◌, ◌++◌, refl, Option, Some, None, IfSome, IsSomeAnd}
use Rattle.wac_types_shapes.specs.primitives.Name.{Name}
use Rattle.wac_types_shapes.specs.declared.shapes.component.ItemKind.TheVariants.{TypeItem}
use Rattle.wac_types_shapes.specs.declared.shapes.component.«Type».{«Type» as AnyType}
use Rattle.wac_types_collection.specs.collection.Bound.{Bindings}
use Rattle.wac_types_collection.specs.collection.Collection.{holds_type}
use Rattle.wac_binary.specs.declared.sorts.Sort.TheVariants as sort
use Rattle.wac_binary.specs.Items.{Item, export_item}
use Rattle.wac_binary.specs.Indexes.{space, indexes}
use Rattle.wac_edges.specs.declared.node.NodeId.{NodeId}
use Rattle.wac_encode_faults.specs.Trees.{definition_tree}
use Rattle.wac_encode_scopes.specs.declared.state.State.{State}
use Rattle.wac_encode_interfaces.specs.private.Definitions.{IsDefinable}
use Rattle.wac_encode_interfaces.specs.private.Worlds.{Worlds}
use Rattle.wac_graph_model.specs.declared.nodes.options.EncodeOptions.{EncodeOptions}
use Rattle.wac_graph_model.specs.declared.nodes.packages.PackageId.{PackageId}
use Rattle.wac_graph_model.specs.nodes.Graph as graph
use Rattle.wac_graph_model.specs.nodes.Graph.{Graph, GraphNode, node_at}
use Rattle.wac_graph_model.specs.private.meaning.Beginning.{Places}
use Rattle.wac_graph_model.specs.private.meaning.Writing.{WritesTypeWith, WritesNode, writes_definition}
use Rattle.wac_graph_encode.specs.private.encoding.Root.{IsNodeReady}

module _ (g : Graph) (n : NodeId) (t : AnyType) (name : Name) (is : IsSomeAnd (node_at g n) (λ node. node.kind ≡ graph.definition))
    (defined : IfSome (node_at g n) (λ node. (node.item_kind ≡ TypeItem t) × (node.first_name ≡ Some name))) where
  -- its type can be defined
  pub definable : (defines : Bool) (ws : Worlds) (s : State) → holds_type g.types t ≡ true → IsNodeReady g defines ws n s → IsDefinable g.types false ws s t
  definable defines ws s held ready = by (node_at g n) refl is defined
    where
      by : (o : Option GraphNode) → node_at g n ≡ o → IsSomeAnd o (λ node. node.kind ≡ graph.definition) → IfSome o (λ node. (node.item_kind ≡ TypeItem t) × (node.first_name ≡ Some name)) → IsDefinable g.types false ws s t
      by None at h d = absurd h
      by (Some node) at h d = record {
        held = held;
        bindings = ready.bindings ∷ [];
        good = (ready.open_root).good;
        clean = (ready.faultless).defined node t at h d.0;
        worlds = (ready.worlds).defined node t at h d.0;
      }

  -- its type and the export by its first name write it
  pub written : (o : EncodeOptions) (m : Bindings) (places : Places) (f : NodeId → ℕ) (components : List (PackageId × ℕ)) (items mid items' : List Item) (k i : ℕ)
      → WritesTypeWith (definition_tree g.types m t) items mid k → items' ≡ mid ++ export_item name sort.«Type» k ∷ [] → i ≡ indexes (space sort.«Type») mid
      → IfSome (node_at g n) (λ node. WritesNode g o m places n node f components components items items' i)
  written o m places f components items mid items' k i writes exported counted = by (node_at g n) is defined
    where
      by : (x : Option GraphNode) → IsSomeAnd x (λ node. node.kind ≡ graph.definition) → IfSome x (λ node. (node.item_kind ≡ TypeItem t) × (node.first_name ≡ Some name))
          → IfSome x (λ node. WritesNode g o m places n node f components components items items' i)
      by None h d = tt
      by (Some node) h d = writes_definition t name k mid h d.0 d.1 refl writes exported counted

-- The step of `define_type`.
use Rattle.std.proofs.Common.{◌≡◌, ℕ, true, false, refl, ap, ◌∙◌, sym, Some, None, Ok, String, Global, string_bytes, [], ◌∷◌, ◌++◌}
use Rattle.std.specs.FinMap as map
use Rattle.std.specs.Map.{lookup}
use Rattle.std.specs.Option.{option_map}
use Rattle.std.specs.Str.{bytes_eq}
use Rattle.std.specs.String.{string_eq}
use Rattle.indexmap.specs.IndexMap.{insert_entry}
use Rattle.slab.specs.Slab.{Slab, get, Updates}
use Rattle.wac_types_shapes.specs.primitives.Name.{Name}
use Rattle.wac_types_collection.specs.collection.Collection.{holds_type}
use Rattle.wac_types_shapes.specs.declared.shapes.component.«Type».{«Type» as AnyType}
use Rattle.wac_edges.specs.Order.{Edges}
use Rattle.wac_graph_model.specs.declared.nodes.node.Node.{Node}
use Rattle.wac_graph_model.specs.declared.nodes.node.NodeKind.{NodeKind}
use Rattle.wac_graph_model.specs.declared.nodes.node.NodeKind.TheVariants as code
use Rattle.wac_graph_model.specs.nodes.Graph as graph
use Rattle.wac_graph_model.specs.nodes.Graph.{GraphNode}
use Rattle.wac_graph_model.specs.nodes.Nodes.{node_of, nodes_of, names_of, kind_of, satisfied}
use Rattle.wac_graph_model.specs.nodes.Definitions.{definition_node, WithDependencies}
use Rattle.wac_graph_model.specs.nodes.Steps.{Defines}
use Rattle.wac_graph_model.proofs.lemmas.nodes.NodeLemmas.{get-nodes_of, nodes_of-insert, lookup_text, text_last}
use Rattle.wac_graph_fields.specs.private.Lost.{is_again}
use Rattle.wac_graph_fields.specs.declared.lost.Lost.{Lost}
use Rattle.wac_graph_fields.specs.private.Definable.{IsDefinable}
use Rattle.wac_graph_fields.specs.private.Fields.{Fields, Names, graph_of, Invariant}
use Rattle.wac_graph_fields.proofs.InvariantLemmas.{invariant_definition}

-- a definition has no positions
bare : (k : NodeKind) → kind_of k ≡ graph.definition → (i : ℕ) → satisfied k i ≡ false
bare code.Definition is i = refl
bare (code.Import name) is i = refl
bare (code.Instantiation s) is i = cc
bare code.Alias is i = refl

module _ (a : Fields) (v : Invariant a) (name : Name) (t : AnyType) (node : Node) (shape : node_of node ≡ definition_node name t) (may : IsDefinable (graph_of a) name t) (key : String Global) (key_is : string_bytes key ≡ name)
    (number : ℕ) (nodes : Slab Node) (edges : Edges) (names : Names) (lost : Lost) (next : number ≡ a.nodes.vacant_key) (vacant : get a.nodes number ≡ None) (u : Updates a.nodes nodes number (Some node))
    (with : WithDependencies (graph_of a) t (record { 0 = number }) edges) (last : names.entries ≡ insert_entry string_eq a.exports.entries key (record { 0 = number })) where
  pub defines : Defines (graph_of a) name t (Ok (record { 0 = number })) (graph_of (record a { nodes = nodes; edges = edges; exports = names; lost = lost }))
  defines = (may.0, may.1, may.2, may.3, next, get-nodes_of a.nodes.slots number ∙ ap (option_map node_of) vacant, with, same) where
    shown : nodes_of nodes.slots ≡ map.insert (nodes_of a.nodes.slots) number (definition_node name t)
    shown = nodes_of-insert a.nodes nodes number node u ∙ ap (map.insert (nodes_of a.nodes.slots) number) shape

    absent : lookup (λ k. bytes_eq (string_bytes key) (string_bytes k)) a.exports.entries ≡ None
    absent = rw key_is (sym (lookup_text a.exports.entries name) ∙ may.2)

    listed : names_of names.entries ≡ names_of a.exports.entries ++ (name, record { 0 = number }) ∷ []
    listed = ap names_of last ∙ text_last a.exports.entries key (record { 0 = number }) absent ∙ ap (λ t. names_of a.exports.entries ++ (t, record { 0 = number }) ∷ []) key_is

    same : graph_of (record a { nodes = nodes; edges = edges; exports = names; lost = lost })
        ≡ record (graph_of a) { nodes = map.insert (nodes_of a.nodes.slots) number (definition_node name t); next = nodes.vacant_key; edges = edges; exports = names_of a.exports.entries ++ (name, record { 0 = number }) ∷ [] }
    same = λ i. record (graph_of a) { nodes = shown i; next = nodes.vacant_key; edges = edges; exports = listed i }

  pub invariant_defined : holds_type a.types t ≡ true → ((q : ℕ) → is_again a.lost q ≡ true → is_again lost q ≡ true) → Invariant (record a { nodes = nodes; edges = edges; exports = names; lost = lost })
  invariant_defined held more = invariant_definition a v nodes number node vacant u (bare node.kind (ap (λ (x : GraphNode). x.kind) shape)) edges names lost name t shape held more defines

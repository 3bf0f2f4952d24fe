-- The step of `export`.
use Rattle.std.proofs.Common.{◌≡◌, ℕ, true, ap, ◌∙◌, refl, subst, Option, Some, None, IsSome, is_some, Ok, String, Global, string_bytes, List, [], ◌∷◌, ◌++◌, map as map_list}
use Rattle.std.specs.Borrow.{Bor}
use Rattle.std.specs.Map.{lookup}
use Rattle.std.specs.Str.{bytes_eq}
use Rattle.std.specs.String.{string_eq}
use Rattle.std.specs.HashMap.{HashMap}
use Rattle.std.specs.declared.hash.FoldHasher.{FoldHasher}
use Rattle.std.specs.declared.hash.BuildHasherDefault.{BuildHasherDefault}
use Rattle.std.specs.FinMap as map
use Rattle.std.specs.Ordering.{nat_cmp}
use Rattle.std.specs.Option.{option_map}
use Rattle.indexmap.specs.IndexMap.{insert_entry}
use Rattle.slab.specs.Slab.{Slab, get}
use Rattle.wac_types_shapes.specs.primitives.Name.{Name}
use Rattle.wac_graph_model.specs.declared.nodes.node.Node.{Node}
use Rattle.wac_edges.specs.declared.node.NodeId.{NodeId}
use Rattle.wac_graph_model.specs.nodes.Graph.{GraphNode, node_at}
use Rattle.wac_graph_model.specs.nodes.Nodes.{node_of, nodes_of}
use Rattle.wac_graph_fields.specs.private.Fields.{Fields, graph_of, Invariant}
use Rattle.wac_graph_model.specs.nodes.ExternName.{IsExportName}
use Rattle.wac_graph_fields.specs.private.Lost.{is_again}
use Rattle.wac_graph_fields.specs.private.Renamed.{Renames, with_export_name}
use Rattle.wac_graph_model.specs.nodes.Steps.{Exports}
use Rattle.wac_graph_model.proofs.lemmas.nodes.NodeLemmas.{get-nodes_of, nodes_of-insert, text_pair, text_last, lookup_text, text_read}
use Rattle.wac_graph_fields.proofs.InvariantLemmas.{invariant_export}
use Rattle.wac_graph_fields.proofs.RenamedLemmas.{rewritten}

abbrev Names : Type 0
Names = HashMap (String Global) NodeId (BuildHasherDefault FoldHasher)

the_node : (o : Option Node) → IsSome o → (n : Node) × (o ≡ Some n)
the_node None h = cc
the_node (Some n) h = (n, refl)

-- where the node that is there is exported, the name that was read is some
pub read_name : (o : Option Node) (n m : Node) (text : Option (Bor Name)) → o ≡ Some m → o ≡ Some n → option_map (λ s. s.now) text ≡ (node_of m).export_name → IsSome (node_of n).export_name → is_some text ≡ true
read_name o n m text read had is named = text_read text (node_of m).export_name is ∙ (let same : n ≡ m = cc in subst (λ (x : Node). IsSome (node_of x).export_name) same named)

module _ (a : Fields) where
  listed : (id : NodeId) (name : Name) (key : String Global) (names : Names) → string_bytes key ≡ name → lookup (λ k. bytes_eq name (string_bytes k)) a.exports.entries ≡ None → names.entries ≡ insert_entry string_eq a.exports.entries key id
      → map_list (λ e. text_pair e) names.entries ≡ map_list (λ e. text_pair e) a.exports.entries ++ (name, id) ∷ []
  listed id name key names is absent last =
      ap (map_list (λ e. text_pair e)) last ∙ text_last a.exports.entries key id (rw is absent) ∙ ap (λ t. map_list (λ e. text_pair e) a.exports.entries ++ (t, id) ∷ []) is

  pub exported : (id : NodeId) (name : Name) (key : String Global) (nodes : Slab Node) (names : Names)
      → string_bytes key ≡ name → lookup (λ k. bytes_eq name (string_bytes k)) a.exports.entries ≡ None
      → names.entries ≡ insert_entry string_eq a.exports.entries key id
      → IsSome (get a.nodes id.0) → Renames (with_export_name (Some name)) a.nodes nodes id.0 → IsExportName name
      → Exports (graph_of a) id name (Ok tt) (graph_of (record a { nodes = nodes; exports = names }))
  exported id name key nodes names key_is absent last there named valid =
      let (n, had) = the_node (get a.nodes id.0) there in
      let r = rewritten (with_export_name (Some name)) a.nodes nodes id.0 n had named in
      let at : node_at (graph_of a) id ≡ Some (node_of n) = get-nodes_of a.nodes.slots id.0 ∙ ap (option_map node_of) had in
      let shown : nodes_of nodes.slots ≡ map.insert (nodes_of a.nodes.slots) id.0 (record (node_of n) { export_name = Some name }) =
      nodes_of-insert a.nodes nodes id.0 r.node r.updates ∙ ap (map.insert (nodes_of a.nodes.slots) id.0) r.shape in (
        lookup_text a.exports.entries name ∙ absent,
        valid,
        rw at (graph_with shown (listed id name key names key_is absent last) r.next),
      )
    where
      graph_with : {ns : map.FinMap nat_cmp GraphNode} {es : List (List ℕ × NodeId)} → nodes_of nodes.slots ≡ ns → map_list (λ e. text_pair e) names.entries ≡ es → nodes.vacant_key ≡ a.nodes.vacant_key
          → graph_of (record a { nodes = nodes; exports = names }) ≡ record (graph_of a) { nodes = ns; exports = es }
      graph_with p q r = λ i. record (graph_of a) { nodes = p i; exports = q i; next = r i }

  pub invariant_exported : Invariant a → (id : NodeId) (name : Name) (key : String Global) (nodes : Slab Node) (names : Names)
      → string_bytes key ≡ name → lookup (λ k. bytes_eq name (string_bytes k)) a.exports.entries ≡ None
      → names.entries ≡ insert_entry string_eq a.exports.entries key id
      → IsSome (get a.nodes id.0) → Renames (with_export_name (Some name)) a.nodes nodes id.0 → ((n : Node) → get a.nodes id.0 ≡ Some n → IsSome (node_of n).export_name → is_again a.lost id.0 ≡ true)
      → Invariant (record a { nodes = nodes; exports = names })
  invariant_exported v id name key nodes names key_is absent last there named again =
      let (n, had) = the_node (get a.nodes id.0) there in
      let r = rewritten (with_export_name (Some name)) a.nodes nodes id.0 n had named in
      invariant_export a v nodes (map_list (λ e. text_pair e) names.entries) id n r.node name had r.updates r.shape r.kind (again n had)
      r.next (lookup_text a.exports.entries name ∙ absent) (listed id name key names key_is absent last) names refl

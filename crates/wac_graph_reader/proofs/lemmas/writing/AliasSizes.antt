-- The name of an alias's export is a part of its weight.
use Rattle.std.proofs.Common.{◌≤◌, Bool, true, false, ◌||◌, List, [], ◌∷◌, length, Contains, refl, ap, sym, ◌∙◌, subst, arith, ◌≡◌, eq-eqb}
use Rattle.std.specs.Prelude.{slice_get, if◌then◌else◌}
use Rattle.std.specs.FinSet as set
use Rattle.std.specs.List.{list_any}
use Rattle.std.specs.Ordering.{eq_by_cmp}
use Rattle.wac_types_shapes.specs.primitives.Name.{Name, option_case}
use Rattle.wac_types_shapes.specs.declared.shapes.component.ItemKind.{ItemKind}
use Rattle.wac_types_collection.proofs.lemmas.wide.Members.{in_first, in_rest}
use Rattle.wac_types_weight.proofs.Sums.{term_less}
use Rattle.wac_edges.specs.Edge.{edge_cmp, alias_edge}
use Rattle.wac_edges.specs.declared.edges.Edge.{Edge}
use Rattle.wac_edges.specs.declared.node.NodeId.{NodeId}
use Rattle.wac_edges.proofs.EdgeLemmas.{exact_edges}
use Rattle.wac_graph_model.specs.nodes.Graph.{Graph, GraphNode, alias, exports_of, IsSourceOf}
use Rattle.wac_graph_model.specs.weight.GraphWeight.{export_text, alias_text, kind_weight}

edge_in : (es : List Edge) (q : Edge) → list_any (eq_by_cmp edge_cmp q) es ≡ true → Contains es q
edge_in [] q any = absurd (let no : false ≡ true = any in cc)
edge_in (e ∷ es) q any = by (eq_by_cmp edge_cmp q e) refl any (λ h. edge_in es q h)
  where
    by : (b : Bool) → eq_by_cmp edge_cmp q e ≡ b → (b || list_any (eq_by_cmp edge_cmp q) es) ≡ true → (list_any (eq_by_cmp edge_cmp q) es ≡ true → Contains es q) → Contains (e ∷ es) q
    by true is h later = subst (λ z. Contains (e ∷ es) z) (sym (exact_edges q e is)) (in_first e es)
    by false is h later = in_rest e q es (later h)

pub alias_weighs : (g : Graph) (n instance : NodeId) (name : Name) → IsSourceOf g n instance name → (node : GraphNode) → length name ≤ kind_weight g n.0 node alias
alias_weighs g n instance name source node =
    let (from, position, kind, there, exported, aliased) = source in
    let edge = alias_edge instance n position in
    let among = edge_in (set.items g.edges) edge (sym (set.contains-items g.edges edge) ∙ aliased) in
    let term = term_less (λ e. alias_text g n.0 e e.label) (set.items g.edges) edge among in
    let text : export_text g instance position ≡ length name =
    ap (λ o. option_case o 0 (λ x. option_case (slice_get (exports_of g x) position) 0 (λ e. length e.0))) there ∙ ap (λ o. option_case o 0 (λ (e : Name × ItemKind). length e.0)) exported in
    let own : alias_text g n.0 edge edge.label ≡ export_text g instance position = ap (λ b. if b then export_text g instance position else 0) (eq-eqb n.0 n.0 refl) in
    omega (arith, term, text, own)

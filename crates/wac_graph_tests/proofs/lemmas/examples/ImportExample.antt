-- A worked example: what a graph asks for.
use Rattle.std.proofs.Common.{◌≡◌, ◌||◌, Bool, true, false, ℕ, ◌++◌, List, [], ◌∷◌, length, map, Some, None, refl, ap, sym, ◌∙◌, arith}
use Rattle.std.specs.FinMap as finite
use Rattle.std.specs.FinMap.{put}
use Rattle.std.specs.FinSet as set
use Rattle.std.specs.List.{flat_map, list_any}
use Rattle.std.specs.Ordering.{nat_cmp, eq_by_cmp, is_eq}
use Rattle.std.specs.Cmp.{nat_cmp_total, tied_itself}
use Rattle.wac_edges.specs.declared.edges.Edge.{Edge}
use Rattle.wac_edges.specs.Edge.{edge_cmp}
use Rattle.wac_graph_model.specs.nodes.Graph as graph
use Rattle.wac_edges.specs.Edge.{node_number}
use Rattle.wac_graph_model.specs.nodes.Graph.{Graph, GraphNode, node_at}
use Rattle.wac_graph_model.specs.nodes.Imports.{unset_rows, node_rows, asked_rows}
use Rattle.wac_graph_tests.proofs.lemmas.examples.Ordered.{edge_cmp_total}
use Rattle.wac_graph_tests.proofs.lemmas.examples.Rows.{of_function, instance_of_second, readme_graph}

abbrev import_of_x : GraphNode
import_of_x = record { kind = graph.import (120 ∷ []); item_kind = of_function; owner = None; name = None; export_name = None; first_name = None }

abbrev nodes : List (ℕ × GraphNode)
nodes = (0, import_of_x) ∷ (1, instance_of_second) ∷ []

-- an import node `x`, then an instance that imports `b`, to which nothing is given
abbrev asking : Graph
asking = record readme_graph { nodes = finite.from_entries nodes; next = 2; edges = set.from_list [] }

pub no_entries : (es : List (ℕ × GraphNode)) → length es ≡ 0 → es ≡ []
no_entries [] h = refl
no_entries (e ∷ es) h = absurd (omega arith)

entries_are : finite.entries (finite.from_entries {R = nat_cmp} nodes) ≡ nodes
entries_are =
    finite.entries-insert nat_cmp_total (finite.from_entries ((1, instance_of_second) ∷ [])) 0 import_of_x
    ∙ ap (put nat_cmp 0 import_of_x) (finite.entries-insert nat_cmp_total (finite.from_entries []) 1 instance_of_second ∙ ap (put nat_cmp 1 instance_of_second) (no_entries (finite.entries (finite.empty {R = nat_cmp})) (sym (finite.len-entries finite.empty) ∙ finite.len-empty nat_cmp GraphNode)))

at_0 : node_at asking (node_number 0) ≡ Some import_of_x
at_0 = finite.get-from_entries nat_cmp_total nodes 0

at_1 : node_at asking (node_number 1) ≡ Some instance_of_second
at_1 = finite.get-from_entries nat_cmp_total nodes 1

pub no_items : (es : List Edge) → ((e : Edge) → list_any (eq_by_cmp edge_cmp e) es ≡ false) → es ≡ []
no_items [] none = refl
no_items (e ∷ es) none = absurd (clash (eq_by_cmp edge_cmp e e) (list_any (eq_by_cmp edge_cmp e) es) (ap is_eq (tied_itself edge_cmp_total e)) (none e)) where
  clash : (a b : Bool) → a ≡ true → (a || b) ≡ false → ⊥
  clash true b h g = cc
  clash false b h g = cc h

no_edges : set.items asking.edges ≡ []
no_edges = no_items (set.items asking.edges) (λ e. sym (set.contains-items asking.edges e) ∙ set.contains-from_list edge_cmp_total [] e)

-- first what the instance asks for, without a node, then the import node, with its id
pub asked_are : asked_rows asking ≡ (98 ∷ [], of_function, None) ∷ (120 ∷ [], of_function, Some (node_number 0)) ∷ []
asked_are = ap (λ es. flat_map (unset_rows asking) (map (λ e. e.0) es) ++ flat_map (node_rows asking) (map (λ e. e.0) es)) entries_are ∙ rw (at_0, at_1, no_edges) refl

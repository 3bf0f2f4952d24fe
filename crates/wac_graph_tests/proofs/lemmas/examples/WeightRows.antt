-- Worked examples: weights of graphs.
use Rattle.std.proofs.Common.{◌≡◌, ℕ, ◌+◌, true, false, ◌||◌, List, [], ◌∷◌, length, Option, Some, None, codes, refl, ap, sym, ◌∙◌, arith}
use Rattle.std.specs.Cmp.{eq_by_cmp_equiv, nat_cmp_total}
use Rattle.std.specs.FinMap as finite
use Rattle.std.specs.Fmt.{digits}
use Rattle.std.specs.FinSet as set
use Rattle.std.specs.List.{list_any}
use Rattle.std.specs.Ordering.{nat_cmp, eq_by_cmp}
use Rattle.wac_types_shapes.specs.declared.shapes.component.ItemKind.TheVariants as item
use Rattle.wac_types_collection.specs.collection.Collection.{empty}
use Rattle.wac_types_weight.specs.Weight.{near_all, weight}
use Rattle.wac_types_weight.proofs.Rows.{t40, forty_tuples}
use Rattle.wac_edges.specs.declared.edges.Edge.{Edge}
use Rattle.wac_edges.specs.declared.edges.Label.TheVariants.{Alias}
use Rattle.wac_edges.specs.Edge.{edge_cmp, alias_edge, node_number}
use Rattle.wac_edges.proofs.EdgeLemmas.{edge_cmp_total}
use Rattle.wac_graph_model.specs.declared.nodes.options.EncodeOptions.{EncodeOptions}
use Rattle.wac_graph_model.specs.declared.nodes.options.Processor.{Processor}
use Rattle.wac_graph_model.specs.declared.nodes.packages.Slot.{Slot}
use Rattle.wac_graph_model.specs.nodes.Graph as graph
use Rattle.wac_graph_model.specs.nodes.Graph.{Graph, GraphNode, node_at}
use Rattle.wac_graph_model.specs.weight.GraphWeight.{alias_text, node_weight, slot_weight, graph_weight}

-- ---- maps and sets as lists
no_entries : finite.entries (finite.from_entries {X = GraphNode} {R = nat_cmp} []) ≡ []
no_entries = by (finite.entries (finite.from_entries {X = GraphNode} {R = nat_cmp} [])) (sym (finite.len-entries (finite.from_entries {X = GraphNode} {R = nat_cmp} [])) ∙ finite.len-empty nat_cmp GraphNode)
  where
    by : (es : List (ℕ × GraphNode)) → length es ≡ 0 → es ≡ []
    by [] none = refl
    by (e ∷ es) none = absurd (omega (arith, none))

one_entry : (x : GraphNode) → finite.entries (finite.from_entries {R = nat_cmp} ((0, x) ∷ [])) ≡ (0, x) ∷ []
one_entry x = finite.entries-insert nat_cmp_total (finite.from_entries {R = nat_cmp} []) 0 x ∙ ap (finite.put nat_cmp 0 x) no_entries

no_edges : set.items (set.from_list {R = edge_cmp} []) ≡ []
no_edges = by (set.items (set.from_list {R = edge_cmp} [])) (λ e. sym (set.contains-items (set.from_list {R = edge_cmp} []) e) ∙ set.contains-empty edge_cmp e)
  where
    by : (es : List Edge) → ((e : Edge) → list_any (eq_by_cmp edge_cmp e) es ≡ false) → es ≡ []
    by [] none = refl
    by (e ∷ es) none = let no : (true || list_any (eq_by_cmp edge_cmp e) es) ≡ false = ap (λ b. b || list_any (eq_by_cmp edge_cmp e) es) (sym ((eq_by_cmp_equiv edge_cmp_total).refl e)) ∙ none e in cc

-- ---- a graph without anything, and with a processor
abbrev nothing : Graph
nothing = record { types = empty; nodes = finite.from_entries []; next = 0; edges = set.from_list []; exports = []; slots = []; vacant = [] }

abbrev options : Option Processor → EncodeOptions
options processor = record { define_components = true; validate = true; processor = processor }

pub empty_graph : graph_weight nothing (options None) ≡ 1
empty_graph = rw (no_entries, no_edges) refl

pub with_processor : (p : Processor) → p.name.now ≡ codes "x" → p.version.now ≡ codes "1" → graph_weight nothing (options (Some p)) ≡ 3
with_processor p name version = rw (no_entries, no_edges, name, version) refl

-- ---- an import `f` of a function over forty tuples
abbrev import_of_tuples : GraphNode
import_of_tuples = record { kind = graph.import (codes "f"); item_kind = item.Func (record { 0 = 0 }); owner = None; name = None; export_name = None; first_name = None }

abbrev with_node : Graph → GraphNode → Graph
with_node g node = record g { nodes = finite.from_entries ((0, node) ∷ []); next = 1 }

node_0 : (g : Graph) (node : GraphNode) → node_at (with_node g node) (node_number 0) ≡ Some node
node_0 g node = finite.get-from_entries nat_cmp_total ((0, node) ∷ []) 0

abbrev importing : Graph
importing = with_node (record nothing { types = t40 }) import_of_tuples

import_weight : node_weight importing 0 ≡ 2 + 0 + (1 + 123)
import_weight = rw (node_0 (record nothing { types = t40 }) import_of_tuples, forty_tuples) refl

pub import_of_forty_tuples : graph_weight importing (options None) ≡ 127
import_of_forty_tuples = rw (one_entry import_of_tuples, no_edges, import_weight) refl

-- ---- an instance `ab` of a package `p` 1.2.3 of three bytes, whose world imports a function as `a`; the instance exports `abc`
abbrev registered : Slot
registered = record { generation = 0; «package» = Some (record { name = codes "p"; version = Some (1, 2, 3, [], []); bytes = 0 ∷ 1 ∷ 2 ∷ []; world = record { 0 = 0 }; instance_type = record { 0 = 0 } }) }

abbrev with_package : Graph
with_package = record nothing {
  types = record {
    resources = [];
    funcs = record { item = record { params = []; result = None; is_async = false }; before = 0 } ∷ [];
    defined = [];
    interfaces = record { item = record { id = None; uses = []; exports = (codes "abc", item.Func (record { 0 = 0 })) ∷ [] }; before = 1 } ∷ [];
    worlds = record { item = record { id = None; uses = []; imports = (codes "a", item.Func (record { 0 = 0 })) ∷ []; exports = [] }; before = 2 } ∷ [];
    modules = [];
  };
  exports = (codes "x", node_number 0) ∷ [];
  slots = registered ∷ [];
}

abbrev instance : GraphNode
instance = record { kind = graph.instantiation; item_kind = item.Instance (record { 0 = 0 }); owner = Some (record { slot = 0; generation = 0 }); name = Some (codes "ab"); export_name = Some (codes "x"); first_name = None }

-- a package has 1, its name, the text of its version and its bytes
package_weight : slot_weight registered ≡ 1 + 1 + 5 + 3
unfolding digits
package_weight = refl

-- an instantiation has the weight of its world: 1, the import with its name, and the function once
instance_weight : node_weight (with_node with_package instance) 0 ≡ 2 + 2 + (1 + 2 + 1)
unfolding weight near_all
instance_weight = rw (node_0 with_package instance) refl

pub exported_instance : graph_weight (with_node with_package instance) (options None) ≡ 1 + 8 + 2 + 10
unfolding digits
exported_instance = rw (one_entry instance, no_edges, instance_weight) refl

-- an alias has only the bytes of the export's name
pub alias_of_export : alias_text (with_node with_package instance) 1 (alias_edge (node_number 0) (node_number 1) 0) (Alias 0) ≡ 3
alias_of_export = rw (node_0 with_package instance) refl

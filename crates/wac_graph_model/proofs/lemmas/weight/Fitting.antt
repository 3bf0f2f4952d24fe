-- All that is written of a graph costs no more than its weight allows.
use Rattle.std.proofs.Common.{ℕ, ◌+◌, ◌*◌, ◌≤◌, Bool, true, false, if◌then◌else◌, List, [], length, Option, Some, None, ◌≡◌, refl, ap, ◌∙◌, arith}
use Rattle.std.specs.FinMap as finite
use Rattle.std.specs.List.{sum_by}
use Rattle.std.specs.Option.{option_and_then}
use Rattle.std.proofs.lemmas.List.Sums.{sum_by-append}
use Rattle.semver.specs.Identifiers.{parts_text}
use Rattle.wac_types_shapes.specs.primitives.Name.{Name, option_case}
use Rattle.wac_types_shapes.specs.declared.shapes.component.ItemKind.{ItemKind}
use Rattle.wac_types_shapes.specs.declared.shapes.component.WorldId.{WorldId}
use Rattle.wac_types_shapes.specs.declared.shapes.component.«Type».TheVariants as ty
use Rattle.wac_types_collection.specs.collection.Collection.{IsWellFormed, holds_type, world_imports, world_exports}
use Rattle.wac_types_collection.specs.collection.Package.{PackageParts}
use Rattle.wac_types_collection.proofs.lemmas.collection.Steady.{within}
use Rattle.wac_types_collection.proofs.lemmas.wide.Members.{in_none}
use Rattle.wac_types_weight.specs.Weight.{named_part, optional_text, weight}
use Rattle.wac_types_weight.specs.private.Laws.{AreDifferent}
use Rattle.wac_types_weight.proofs.Sums.{sum_in, sum_both, sum_scaled}
use Rattle.wac_types_weight.proofs.Scopes.{own-has-items}
use Rattle.wac_types_weight.proofs.Uses.{world-uses-are-less}
use Rattle.wac_edges.specs.Edge.{node_number}
use Rattle.wac_edges.specs.declared.node.NodeId.{NodeId}
use Rattle.wac_graph_model.specs.declared.nodes.options.EncodeOptions.{EncodeOptions}
use Rattle.wac_graph_model.specs.declared.nodes.options.Processor.{Processor}
use Rattle.wac_graph_model.specs.declared.nodes.packages.Slot.{Slot}
use Rattle.wac_graph_model.specs.nodes.Graph.{Graph, GraphNode, Kind, definition, import, instantiation, alias, node_at, package_at, package_of}
use Rattle.wac_graph_model.specs.nodes.Sound.{IsSound}
use Rattle.wac_graph_model.specs.weight.GraphWeight.{kind_weight, node_weight, slot_weight, bound}
use Rattle.wac_graph_model.specs.private.weight.AskedWeight.{asks_weight, node_asks}
use Rattle.wac_graph_model.specs.private.weight.Costs.{component_cost, node_cost, name_cost, written_cost, package_cost, slot_cost, export_cost, processor_cost, graph_cost, CostsFit}
use Rattle.wac_graph_model.proofs.lemmas.nodes.JoinLemmas.{imports_of_package}

-- ---- parts that pay for themselves
name_fits : (o : Option Name) → option_case o 0 (λ name. 41 + 2 * length name) ≤ 41 + 64 * optional_text o
name_fits None = omega arith
name_fits (Some name) = omega arith

package_fits : (b : Bool) (p : PackageParts) → package_cost b p ≤ 64 * (1 + length p.name + option_case p.version 0 (λ v. length (parts_text v)) + length p.bytes)
package_fits true p = omega arith
package_fits false p = omega arith

slot_fits : (o : EncodeOptions) (s : Slot) → slot_cost o s ≤ 64 * slot_weight s
slot_fits o s = by s.«package»
  where
    by : (p : Option PackageParts) → option_case p 0 (package_cost o.define_components) ≤ 64 * option_case p 0 (λ p. 1 + length p.name + option_case p.version 0 (λ v. length (parts_text v)) + length p.bytes)
    by None = omega arith
    by (Some p) = package_fits o.define_components p

export_fits : (e : Name × NodeId) → export_cost e ≤ 64 * named_part e
export_fits e = omega arith

processor_fits : (o : Option Processor) → option_case o 0 processor_cost ≤ 48 + 64 * option_case o 0 (λ p. length p.name.now + length p.version.now)
processor_fits None = omega arith
processor_fits (Some p) = omega arith

at_most : (b : Bool) (n : ℕ) → (if b then 0 else n) ≤ n
at_most true n = omega arith
at_most false n = omega arith

-- ---- a node
none_differ : AreDifferent []
none_differ i j x at also = let no : None ≡ Some x = at in cc

module _ (g : Graph) (wf : IsWellFormed g.types) where
  -- the arguments of an instantiation, and its component type
  world_fits : (w : WorldId) → holds_type g.types (ty.World w) ≡ true
      → sum_by (λ e. 9 + 2 * length e.0) (world_imports g.types w) + component_cost g.types w ≤ 17 + 27 * weight g.types (ty.World w)
  world_fits w held =
      let less = sum_in (λ e. 9 + 2 * length e.0) (λ e. 9 * named_part e) (world_imports g.types w) (λ e h. argument e) in
      let nine = sum_scaled 9 (λ e. named_part e) (world_imports g.types w) in
      let names = sum_by-append named_part (world_imports g.types w) (world_exports g.types w) in
      let items = own-has-items g.types (ty.World w) held refl in
      let whole = world-uses-are-less g.types w [] wf (within w.0 (length g.types.worlds) held) none_differ (λ j h. absurd (in_none j h)) in
      omega (arith, less, nine, names, items, whole)
    where
      argument : (e : Name × ItemKind) → 9 + 2 * length e.0 ≤ 9 * named_part e
      argument e = omega arith

  module _ (sound : IsSound g) (o : EncodeOptions) where
    node_fits : (n : ℕ) → 37 * node_asks g n + written_cost g o n ≤ 64 * node_weight g n
    node_fits n = by (node_at g (node_number n)) refl
      where
        of_kind : (node : GraphNode) → node_at g (node_number n) ≡ Some node → (k : Kind) → node.kind ≡ k
            → 37 * asks_weight g n node k + node_cost g o n (record node { kind = k }) k ≤ 87 + 64 * kind_weight g n node k
        of_kind node there definition is = omega arith
        of_kind node there (import name) is = omega arith
        of_kind node there alias is = omega arith
        of_kind node there instantiation is =
            let i = sound.instances (node_number n) node there is in
            let pkg = ap (option_and_then (package_at g)) i.owned ∙ i.registered in
            let fits = world_fits i.parts.world (sound.packages i.id i.parts i.registered).0 in
            let arguments = ap (λ (es : List (Name × ItemKind)). sum_by (λ e. 9 + 2 * length e.0) es) (imports_of_package g (record node { kind = instantiation }) i.parts pkg) in
            let component = ap (λ o. option_case o 0 (λ p. component_cost g.types p.world)) pkg in
            let pays = ap (λ o. option_case o 0 (λ p. weight g.types (ty.World p.world))) pkg in
            let less = at_most o.define_components (option_case (package_of g node) 0 (λ p. component_cost g.types p.world)) in
            omega (arith, fits, arguments, component, pays, less)

        by : (x : Option GraphNode) → node_at g (node_number n) ≡ x
            → 37 * option_case x 0 (λ node. asks_weight g n node node.kind) + option_case x 0 (λ node. node_cost g o n node node.kind + name_cost node)
            ≤ 64 * option_case x 0 (λ node. 2 + optional_text node.name + kind_weight g n node node.kind)
        by None is = omega arith
        by (Some node) is =
            let kinds = of_kind node is node.kind refl in
            let names = name_fits node.name in
            omega (arith, kinds, names)

    all_fit : graph_cost g o ≤ bound g o
    all_fit =
        let nodes = sum_in (λ n. 37 * node_asks g n + written_cost g o n) (λ n. 64 * node_weight g n) (finite.keys g.nodes) (λ n h. node_fits n) in
        let two = sum_both (λ n. 37 * node_asks g n) (written_cost g o) (finite.keys g.nodes) in
        let asks = sum_scaled 37 (node_asks g) (finite.keys g.nodes) in
        let weights = sum_scaled 64 (node_weight g) (finite.keys g.nodes) in
        let slots = sum_in (slot_cost o) (λ s. 64 * slot_weight s) g.slots (λ s h. slot_fits o s) in
        let slot_weights = sum_scaled 64 slot_weight g.slots in
        let exports = sum_in export_cost (λ e. 64 * named_part e) g.exports (λ e h. export_fits e) in
        let export_weights = sum_scaled 64 (λ e. named_part e) g.exports in
        let processor = processor_fits o.processor in
        omega (arith, nodes, two, asks, weights, slots, slot_weights, exports, export_weights, processor)

pub costs-fit : CostsFit
costs-fit g o wf sound = all_fit g wf sound o

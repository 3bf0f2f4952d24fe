use Rattle.std.proofs.Common.{ℕ, ◌≡◌, ◌↔◌, List, length, ap, sym, ◌∙◌, subst}
use Rattle.std.specs.BTreeSet.{BTreeSet}
use Rattle.wac_edges.specs.cycles.Cycles.{IsStep}
use Rattle.wac_encode_faults.specs.Sides.{parted_sides}
use Rattle.wac_encode_faults.specs.Cycle.{DependsByNumber}
use Rattle.wac_encode_interfaces.specs.private.Worlds.{written_in}
use Rattle.wac_encode_interfaces.specs.private.Parts.{sides_in}
use Rattle.wac_encode_interfaces.specs.private.Ordered.{AreDependencies}
use Rattle.wac_encode_interfaces.proofs.Begun.{start-written}
use Rattle.wac_encode_interfaces.proofs.Sided.{imports-held, exports-held, finished}
use Rattle.wac_encode_interfaces.proofs.SideCosts.{component-no-room, component-sized, exit-sized, sides-covered}
use Rattle.wac_encode_interfaces.proofs.Answered.{no-room-of, none-sized}
use Rattle.std.specs.Prelude.{◌+◌}
use Rattle.wac_types_shapes.specs.primitives.Tree.{imported, exported}
use Rattle.wac_types_weight.specs.Weight.{near_all}
use Rattle.wac_encode_interfaces.specs.private.Paid.{side_total, side_types, sides_cost}
use Rattle.wac_encode_interfaces.proofs.writer.TypeWriter.component_of.Goals as goal

pub item_dependencies-requires-clause-imports : goal.item_dependencies-requires-clause-imports
item_dependencies-requires-clause-imports c = imports-held c.args.self.now.types.now c.args.self.now.merged (written_in c.args.self.now.worlds.now) c.args.parts.now c.requires.planned

pub item_dependencies-requires-clause-exports : goal.item_dependencies-requires-clause-exports
item_dependencies-requires-clause-exports c = exports-held c.args.self.now.types.now c.args.self.now.merged (written_in c.args.self.now.worlds.now) c.args.parts.now c.requires.planned

pub write_sides-requires-clause-counted : goal.write_sides-requires-clause-counted
write_sides-requires-clause-counted c = ap (λ (l : List (BTreeSet ℕ)). length l) c.as_slice.ensures.value ∙ c.in_ok-steps.ensures.counted

pub write_sides-requires-clause-steps : goal.write_sides-requires-clause-steps
write_sides-requires-clause-steps c =
    subst (λ (l : List (BTreeSet ℕ)). AreDependencies c.args.self.now.types.now c.args.parts.now l) (sym c.as_slice.ensures.value)
    (subst (λ (n : ℕ). (a b : ℕ) → IsStep c.in_ok-steps.steps.items a b ↔ DependsByNumber c.args.self.now.types.now (parted_sides c.args.parts.now.uses.now n c.args.parts.now.imports.now c.args.parts.now.exports.now) a b) c.len-own.ensures c.in_ok-steps.ensures.steps)

pub write_sides-requires-clause-begins : goal.write_sides-requires-clause-begins
write_sides-requires-clause-begins c = start-written c.args.self.now.types.now c.args.self.now.merged (sides_in c.args.parts.now) c.component-state.result (c.component-state.ensures.good c.args.self.now.types.now c.args.self.now.merged) c.component-state.ensures.content

pub finish_component-requires : goal.finish_component-requires
finish_component-requires c = c.in_ok-write_sides.ensures.writes.2.content

pub returns-clause-meaning : goal.returns-clause-meaning
returns-clause-meaning c =
    let done = c.in_ok-write_sides.ensures.writes in (
      c.finish_component.ensures.meaning c.args.self.now.types.now c.args.self.now.merged _ done.2.good,
      c.finish_component.ensures.tree c.args.self.now.merged done.2.around ∙ finished c.args.self.now.types.now c.args.self.now.merged (written_in c.args.self.now.worlds.now) c.args.parts.now c.requires.planned c.write_sides.new.state done,
    )

pub returns-in_err-steps-clause-small : goal.returns-in_err-steps-clause-small
returns-in_err-steps-clause-small c =
    none-sized 0 (sides_cost c.args.self.now.types.now (sides_in c.args.parts.now)) c.from_residual.result c.from_residual.ensures.1

pub returns-in_err-write_sides-clause-small : goal.returns-in_err-write_sides-clause-small
returns-in_err-write_sides-clause-small c =
    let covered = (sides-covered c.weight_law.ensures.near_is_closed c.args.self.now.types.now c.law.ensures (sides_in c.args.parts.now)) in
    exit-sized 0 (sides_cost c.args.self.now.types.now (sides_in c.args.parts.now)) _ c.from_residual-in_err-write_sides.result c.from_residual-in_err-write_sides.ensures.1
    (λ is. component-no-room c.args.self.now.types.now c.args.self.now.merged covered.0 (near_all c.args.self.now.types.now (side_types (sides_in c.args.parts.now))) (side_total c.args.self.now.types.now c.args.parts.now imported + side_total c.args.self.now.types.now c.args.parts.now exported) c.component-state.result (c.component-state.ensures.uncharged c.args.self.now.types.now c.args.self.now.merged).0 c.component-state.ensures.content covered.2 (c.component-state.ensures.uncharged c.args.self.now.types.now c.args.self.now.merged).1 (no-room-of c.args.self.now.types.now c.args.self.now.merged covered.0 (side_total c.args.self.now.types.now c.args.parts.now imported + side_total c.args.self.now.types.now c.args.parts.now exported) c.component-state.result _ is (c.in_err-write_sides.ensures.paid covered.0 covered.1 (c.component-state.ensures.uncharged c.args.self.now.types.now c.args.self.now.merged).2)))

pub returns-clause-small : goal.returns-clause-small
returns-clause-small c =
    let covered = (sides-covered c.weight_law.ensures.near_is_closed c.args.self.now.types.now c.law.ensures (sides_in c.args.parts.now)) in
    component-sized c.args.self.now.types.now c.args.self.now.merged covered.0 (near_all c.args.self.now.types.now (side_types (sides_in c.args.parts.now))) (side_total c.args.self.now.types.now c.args.parts.now imported + side_total c.args.self.now.types.now c.args.parts.now exported) c.component-state.result (c.component-state.ensures.uncharged c.args.self.now.types.now c.args.self.now.merged).0 c.component-state.ensures.content covered.2 c.write_sides.new.state (c.in_ok-write_sides.ensures.paid covered.0 covered.1 (c.component-state.ensures.uncharged c.args.self.now.types.now c.args.self.now.merged).2) c.in_ok-write_sides.ensures.writes.2.content c.finish_component.result c.finish_component.ensures.declarations

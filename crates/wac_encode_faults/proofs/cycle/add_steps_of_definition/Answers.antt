use Rattle.std.proofs.Common.{sym}
use Rattle.std.proofs.lemmas.Result.{on_ok_weaker}
use Rattle.wac_edges.specs.private.cycles.Numbers.{Has}
use Rattle.wac_types_shapes.specs.declared.shapes.component.ValueType.TheVariants as val
use Rattle.wac_types_shapes.specs.declared.shapes.component.«Type».TheVariants as ty
use Rattle.wac_encode_faults.specs.private.DefinitionOwners.{IsOwnerOfType}
use Rattle.wac_encode_faults.proofs.Steps.{steps_as}
use Rattle.wac_encode_faults.proofs.cycle.add_steps_of_definition.Goals as goal

pub returns-in-Some : goal.returns-in-Some
returns-in-Some c =
    on_ok_weaker c.add_steps_to.result
    (λ steps. steps_as c.args.from (Has c.in-Some.numbers.now.keys) (IsOwnerOfType c.args.types.now c.args.owners.now.entries (ty.Value (val.Defined c.args.id))) c.args.targets.now c.add_steps_to.new.targets (c.requires.known c.args.id c.in-Some.numbers.now (sym c.in-Some.ensures.value)) steps)
    c.add_steps_to.ensures

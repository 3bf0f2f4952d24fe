use Rattle.wac_types_shapes.specs.declared.shapes.component.ValueType.TheVariants as val
use Rattle.wac_encode_faults.proofs.OwnedSteps.{value_no_interface, owners_noted}
use Rattle.wac_encode_faults.proofs.definition_owners.note_definition.Goals as goal

pub add_free-requires-clause-other : goal.add_free-requires-clause-other
add_free-requires-clause-other c = λ i is. value_no_interface (val.Defined c.args.id) i is

pub returns-in-Ok : goal.returns-in-Ok
returns-in-Ok c =
    owners_noted c.args.types.now c.args.owners.now.entries c.args.known.now.entries c.insert.new.self.entries c.args.id c.in_ok-numbers.numbers c.new-free.result.keys c.add_free.new.resources.keys c.new-free.ensures.empty c.in_ok-add_free.ensures c.in_ok-numbers.ensures
    c.in-Ok.ensures.updates.0 c.requires.known

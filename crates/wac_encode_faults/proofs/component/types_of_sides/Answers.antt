use Rattle.wac_encode_faults.proofs.ComponentFaults.{roots_are}
use Rattle.wac_encode_faults.proofs.component.types_of_sides.Goals as goal

pub returns : goal.returns
returns c =
    roots_are c.args.types.now c.args.imports.now c.args.additional.now.keys c.args.exports.now c.new-found.result.keys c.add_additional_types.new.found.keys c.add_scopes.new.found.keys c.add_scopes-2.new.found.keys c.new-found.ensures.empty
    c.in_ok-add_additional_types.ensures c.in_ok-add_scopes.ensures c.in_ok-add_scopes-2.ensures

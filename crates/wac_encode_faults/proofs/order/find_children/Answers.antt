use Rattle.wac_encode_faults.proofs.FreeSets.{children_found}
use Rattle.wac_encode_faults.proofs.order.find_children.Goals as goal

pub returns : goal.returns
returns c = children_found c.args.types.now c.args.id c.index.result.now _ c.add_interfaces.new.found.keys c.new-found.ensures.empty c.index.ensures c.in_ok-add_interfaces.ensures

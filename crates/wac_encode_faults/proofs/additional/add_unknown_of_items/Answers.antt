use Rattle.std.proofs.lemmas.Result.{on_ok_weaker}
use Rattle.wac_encode_faults.proofs.Dependencies.{instances_there}
use Rattle.wac_encode_faults.proofs.Needed.{items_added}
use Rattle.wac_encode_faults.proofs.additional.add_unknown_of_items.Goals as goal

pub wide_uses_of_items-requires : goal.wide_uses_of_items-requires
wide_uses_of_items-requires c = instances_there c.args.types.now c.args.items.now c.requires

pub returns : goal.returns
returns c = on_ok_weaker c.add_all_unknown.result (λ grown. items_added c.args.types.now c.args.items.now c.args.known.now.keys c.args.found.now.keys c.add_all_unknown.new.found.keys c.in_ok-used.used.keys c.in_ok-used.ensures grown) c.add_all_unknown.ensures

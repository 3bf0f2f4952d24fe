use Rattle.std.proofs.lemmas.Result.{on_ok_weaker}
use Rattle.wac_encode_faults.proofs.TypeItems.{interfaces_held, type_items_free}
use Rattle.wac_encode_faults.proofs.type_items.add_free_of_type_items.Goals as goal

pub add_free_of_interfaces-requires : goal.add_free_of_interfaces-requires
add_free_of_interfaces-requires c = interfaces_held c.args.items.now c.new-interfaces.result.keys c.add_interfaces_alone.new.found.keys c.new-interfaces.ensures.empty c.in_ok-add_interfaces_alone.ensures c.args.types.now c.requires

pub returns : goal.returns
returns c =
    on_ok_weaker c.add_free_of_interfaces.result (λ added.
    type_items_free c.args.items.now c.new-interfaces.result.keys c.add_interfaces_alone.new.found.keys c.new-interfaces.ensures.empty c.in_ok-add_interfaces_alone.ensures c.args.types.now
    c.args.found.now.keys c.add_free_of_others_alone.new.resources.keys c.add_free_of_interfaces.new.found.keys c.in_ok-add_free_of_others_alone.ensures added)
    c.add_free_of_interfaces.ensures

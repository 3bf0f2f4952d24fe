use Rattle.std.proofs.lemmas.Result.{on_ok_weaker}
use Rattle.wac_encode_faults.specs.Free.{IsFreeInTypes}
use Rattle.wac_encode_faults.proofs.FreeSets.{own_held}
use Rattle.wac_encode_faults.proofs.TypeItems.{in_types, added_to}
use Rattle.wac_encode_faults.proofs.type_items.add_free_in_types.Goals as goal

pub add_free_of_type_items-requires : goal.add_free_of_type_items-requires
add_free_of_type_items-requires c = own_held c.args.types.now c.law.ensures c.args.id c.index-interface.result.now c.requires c.index-interface.ensures

pub remove_own-requires : goal.remove_own-requires
remove_own-requires c = own_held c.args.types.now c.law.ensures c.args.id c.index-interface.result.now c.requires c.index-interface.ensures

pub returns : goal.returns
returns c =
    on_ok_weaker c.add_set.result (λ added.
    added_to c.args.found.now.keys c.remove_own.new.found.keys c.add_set.new.found.keys (IsFreeInTypes c.args.types.now c.args.id)
    (in_types c.args.types.now c.args.id c.index-interface.result.now c.new-inner.result.keys c.add_free_of_type_items.new.found.keys c.remove_own.new.found.keys c.index-interface.ensures c.new-inner.ensures.empty
    c.in_ok-add_free_of_type_items.ensures c.remove_own.ensures) added)
    c.add_set.ensures

use Rattle.std.proofs.lemmas.Result.{on_ok_weaker}
use Rattle.wac_encode_faults.proofs.Needed.{exports_added, listed_both}
use Rattle.wac_encode_faults.proofs.additional.add_needed_by_exports.Goals as goal

pub returns : goal.returns
returns c =
    let both = listed_both c.args.types.now c.args.world.now _ c.add_listed.new.listed.keys c.add_listed-2.new.listed.keys c.new-listed.ensures.empty c.in_ok-add_listed.ensures c.in_ok-add_listed-2.ensures in
    on_ok_weaker c.add_unknown_of_items.result (λ items. exports_added c.args.types.now c.args.world.now c.add_listed-2.new.listed.keys c.args.found.now.keys c.add_unknown_of_items.new.found.keys both items) c.add_unknown_of_items.ensures

use Rattle.std.proofs.lemmas.Result.{on_ok_weaker}
use Rattle.wac_encode_faults.proofs.Needed.{two_there, unlisted_added}
use Rattle.wac_encode_faults.proofs.additional.add_unlisted.Goals as goal

pub reach_uses-requires : goal.reach_uses-requires
reach_uses-requires c =
    two_there c.args.types.now c.law.ensures c.args.world.now c.requires.uses c.new-needed.result.keys c.add_needed_by_imports.new.found.keys c.add_needed_by_exports.new.found.keys c.new-needed.ensures.empty c.in_ok-add_needed_by_imports.ensures c.in_ok-add_needed_by_exports.ensures

pub returns : goal.returns
returns c =
    on_ok_weaker c.add_all_unknown.result
    (λ grown. unlisted_added c.args.types.now c.law.ensures c.args.world.now c.requires.uses c.new-needed.result.keys c.add_needed_by_imports.new.found.keys c.add_needed_by_exports.new.found.keys c.new-needed.ensures.empty c.in_ok-add_needed_by_imports.ensures c.in_ok-add_needed_by_exports.ensures
    c.in_ok-used.used.keys c.args.listed.now.keys c.args.found.now.keys c.add_all_unknown.new.found.keys c.in_ok-used.ensures c.requires.listed grown)
    c.add_all_unknown.ensures

use Rattle.std.proofs.lemmas.Result.{on_ok_weaker}
use Rattle.wac_encode_faults.proofs.Needed.{imports_added}
use Rattle.wac_encode_faults.proofs.additional.add_needed_by_imports.Goals as goal

pub returns : goal.returns
returns c = on_ok_weaker c.add_unknown_of_items.result (λ items. imports_added c.args.types.now c.args.world.now c.args.listed.now.keys c.args.found.now.keys c.add_unknown_uses.new.found.keys c.add_unknown_of_items.new.found.keys c.requires.listed c.in_ok-add_unknown_uses.ensures items) c.add_unknown_of_items.ensures

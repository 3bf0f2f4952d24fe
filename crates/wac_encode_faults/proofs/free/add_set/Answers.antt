use Rattle.std.proofs.Common.{ap, ◌∙◌}
use Rattle.std.proofs.lemmas.Result.{on_ok_weaker}
use Rattle.wac_encode_faults.proofs.FreeParts.{joined_turned, joined_same}
use Rattle.wac_encode_faults.proofs.free.add_set.Goals as goal

pub returns-then-larger : goal.returns-then-larger
returns-then-larger c =
    on_ok_weaker c.add_each.result (λ added.
    joined_turned c.args.found.now.keys c.args.set.keys c.replace-smaller.new.dest.keys c.as_slice.result.now c.add_each.new.found.keys (ap (λ s. s.keys) c.replace-smaller.ensures.after) (c.as_slice.ensures.keys ∙ ap (λ s. s.keys) c.replace-smaller.ensures.value) added)
    c.add_each.ensures

pub returns : goal.returns
returns c = on_ok_weaker c.add_each-2.result (λ added. joined_same c.args.found.now.keys c.args.set.keys c.as_slice-2.result.now c.add_each-2.new.found.keys c.as_slice-2.ensures.keys added) c.add_each-2.ensures

use Rattle.std.proofs.lemmas.Result.{on_ok_weaker}
use Rattle.wac_encode_faults.proofs.FreeSets.{copied_set, no_set}
use Rattle.wac_encode_faults.proofs.free.copy_set.Goals as goal

pub returns-in-Some : goal.returns-in-Some
returns-in-Some c =
    on_ok_weaker c.add_each.result (λ added.
    copied_set c.args.sets.now.entries c.args.id c.in-Some.set.now c.args.found.now.keys c.add_each.new.found.keys c.as_slice.result.now c.in-Some.ensures.value c.as_slice.ensures.keys added)
    c.add_each.ensures

pub returns-in-None : goal.returns-in-None
returns-in-None c = no_set c.args.sets.now.entries c.args.id c.args.found.now.keys c.in-None.ensures.value

use Rattle.std.proofs.Common.{refl}
use Rattle.std.proofs.lemmas.Result.{on_ok_weaker}
use Rattle.wac_encode_faults.proofs.Entries.{value_kept}
use Rattle.wac_encode_faults.proofs.FreeSets.{copied_set, no_set}
use Rattle.wac_encode_faults.proofs.free.move_set.Goals as goal

pub returns-in-Some-clause-added : goal.returns-in-Some-clause-added
returns-in-Some-clause-added c =
    on_ok_weaker c.add_set.result (λ added.
    copied_set c.args.sets.now.entries c.args.id c.in-Some.set c.args.found.now.keys c.add_set.new.found.keys c.in-Some.set.keys c.in-Some.ensures.value refl added)
    c.add_set.ensures

pub returns-in-Some-clause-kept : goal.returns-in-Some-clause-kept
returns-in-Some-clause-kept c = on_ok_weaker c.add_set.result (λ added. value_kept c.args.id _ c.args.sets.now.entries c.swap_remove.new.self.entries c.swap_remove.ensures.updates.0) c.add_set.ensures

pub returns-in-None-clause-added : goal.returns-in-None-clause-added
returns-in-None-clause-added c = no_set c.args.sets.now.entries c.args.id c.args.found.now.keys c.in-None.ensures.value

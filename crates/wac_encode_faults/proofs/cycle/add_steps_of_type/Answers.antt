use Rattle.std.proofs.lemmas.Result.{on_ok_weaker}
use Rattle.wac_encode_faults.specs.Free.{IsFree}
use Rattle.wac_encode_faults.proofs.OwnedSteps.{steps_owned}
use Rattle.wac_encode_faults.proofs.cycle.add_steps_of_type.Goals as goal

pub returns : goal.returns
returns c =
    on_ok_weaker c.add_steps_of_free.result
    (λ steps. steps_owned (IsFree c.args.types.now c.args.ty) c.args.owners.now.entries c.args.from c.new-free.result.keys c.add_free_of_type.new.found.keys c.args.targets.now c.add_steps_of_free.new.targets c.new-free.ensures.empty c.in_ok-add_free_of_type.ensures steps)
    c.add_steps_of_free.ensures

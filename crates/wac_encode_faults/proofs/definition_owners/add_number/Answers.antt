use Rattle.std.proofs.lemmas.Result.{on_ok_weaker}
use Rattle.wac_encode_faults.proofs.OwnedSteps.{number_added, number_none}
use Rattle.wac_encode_faults.proofs.definition_owners.add_number.Goals as goal

pub returns-in-Some : goal.returns-in-Some
returns-in-Some c = on_ok_weaker c.put.result (λ grown. number_added c.args.number c.in-Some.number c.args.numbers.now.keys c.put.new.numbers.keys c.in-Some.is grown) c.put.ensures

pub returns-in-None : goal.returns-in-None
returns-in-None c = number_none c.args.number c.args.numbers.now.keys c.in-None.is

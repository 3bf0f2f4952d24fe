use Rattle.std.proofs.lemmas.Result.{on_ok_weaker}
use Rattle.wac_encode_faults.proofs.Binding.{one_added, none_added}
use Rattle.wac_encode_faults.proofs.bound.add_one.Goals as goal

pub returns-in-Some : goal.returns-in-Some
returns-in-Some c = on_ok_weaker c.insert_one.result (λ added. one_added c.args.found.now.keys c.insert_one.new.found.keys c.args.resource c.in-Some.resource c.in-Some.is added) c.insert_one.ensures

pub returns-in-None : goal.returns-in-None
returns-in-None c = none_added c.args.found.now.keys c.args.resource c.in-None.is

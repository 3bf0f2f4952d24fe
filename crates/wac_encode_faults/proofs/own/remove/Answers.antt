use Rattle.wac_encode_faults.proofs.FreeParts.{removed_one}
use Rattle.wac_encode_faults.proofs.own.remove.Goals as goal

pub returns-in-Some : goal.returns-in-Some
returns-in-Some c = removed_one c.args.found.now.keys c.swap_remove.new.self.keys c.args.resource c.in-Some.resource c.in-Some.is c.swap_remove.ensures.updates.0

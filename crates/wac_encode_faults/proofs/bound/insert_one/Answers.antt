use Rattle.wac_encode_faults.proofs.FreeParts.{inserted_law}
use Rattle.wac_encode_faults.proofs.bound.insert_one.Goals as goal

pub returns : goal.returns
returns c = inserted_law c.args.found.now.keys c.insert.new.self.keys c.args.resource c.in_ok-insert.ensures.keys

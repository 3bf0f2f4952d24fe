use Rattle.std.proofs.Common.{arith}
use Rattle.std.proofs.lemmas.Grind.{common_steps}
use Rattle.wac_binary.proofs.lemmas.builder.CustomLaws.{all_namings}
use Rattle.wac_binary.proofs.builder.customs.put_namings.Goals as goal

pub returns : goal.returns
returns c = rw (all_namings c.args.sort c.args.names.now) (grind (arith, common_steps))

use Rattle.std.proofs.Common.{arith}
use Rattle.std.proofs.lemmas.Grind.{common_steps}
use Rattle.wac_binary.proofs.lemmas.declarations.DeclLaws.{behind}
use Rattle.wac_binary.proofs.declarations.declarations.Declarations.size.Goals as goal

pub returns-clause-is : goal.returns-clause-is
returns-clause-is c = rw (← c.self.view_is, behind c.self.inside.written) (grind (arith, common_steps))

pub returns-clause-in_format : goal.returns-clause-in_format
returns-clause-in_format c = rw (← c.self.view_is) c.self.invariant.in_format

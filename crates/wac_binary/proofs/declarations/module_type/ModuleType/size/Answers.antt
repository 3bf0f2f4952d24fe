use Rattle.std.proofs.Common.{arith, ap, length, length-append}
use Rattle.wac_binary.specs.Leb.{unsigned}
use Rattle.wac_binary.specs.private.declarations.WrittenModule.{module_is}
use Rattle.wac_binary.proofs.declarations.module_type.ModuleType.size.Goals as goal

pub returns-clause-is : goal.returns-clause-is
returns-clause-is c = rw (← c.self.view_is) (omega (arith, ap length (module_is c.self.inside.written), length-append (unsigned c.self.inside.count) c.self.inside.bytes.items))

pub returns-clause-in_format : goal.returns-clause-in_format
returns-clause-in_format c = rw (← c.self.view_is) c.self.invariant.in_format

use Rattle.std.proofs.Common.{arith, length-append}
use Rattle.std.specs.List.{flat_map}
use Rattle.wac_binary.specs.Leb.{unsigned}
use Rattle.wac_binary.specs.Bytes.{core_val}
use Rattle.wac_binary.proofs.lemmas.bytes.Vectors.{length_core_values}
use Rattle.std.specs.Prelude.{length}
use Rattle.wac_binary.proofs.declarations.core_size.core_values_size.Goals as goal

pub returns-clause-is : goal.returns-clause-is
returns-clause-is c = omega (arith, length-append (unsigned (length c.args.types.now)) (flat_map core_val c.args.types.now), length_core_values c.args.types.now)

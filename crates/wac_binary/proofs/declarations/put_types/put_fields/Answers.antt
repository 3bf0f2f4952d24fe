use Rattle.std.proofs.Common.{arith}
use Rattle.std.proofs.lemmas.Grind.{common_steps}
use Rattle.wac_binary.specs.Bytes.{field}
use Rattle.wac_binary.proofs.lemmas.bytes.Vectors.{vector_map}
use Rattle.wac_binary.proofs.declarations.put_types.put_fields.Goals as goal

pub returns-clause-written : goal.returns-clause-written
returns-clause-written c = rw (vector_map field (λ f. (f.0.now, f.1)) c.args.fields.now) (grind (arith, common_steps))

use Rattle.std.proofs.Common.{arith}
use Rattle.std.proofs.lemmas.Grind.{common_steps}
use Rattle.wac_binary.specs.Bytes.{text}
use Rattle.wac_binary.proofs.lemmas.bytes.Vectors.{vector_map}
use Rattle.wac_binary.proofs.declarations.put_types.put_texts.Goals as goal

pub returns-clause-written : goal.returns-clause-written
returns-clause-written c = rw (vector_map text (λ t. t.now) c.args.texts.now) (grind (arith, common_steps))

use Rattle.std.proofs.Common.{arith}
use Rattle.std.proofs.lemmas.Grind.{common_steps}
use Rattle.wac_binary.specs.Bytes.{text}
use Rattle.wac_binary.specs.Format.{IsText}
use Rattle.wac_binary.proofs.lemmas.bytes.Vectors.{vector_map}
use Rattle.wac_binary.proofs.lemmas.declarations.FormatLaws.{all-first, all-next, all-mapped}
use Rattle.wac_binary.proofs.declarations.size.texts_size.Goals as goal

pub loop-t-init : goal.loop-t-init
loop-t-init c = record { is = grind (arith, common_steps); small = omega arith; in_format = all-first (λ t. IsText t.now) c.args.texts.now }

pub loop-t-preserved : goal.loop-t-preserved
loop-t-preserved c = record {
  is = grind (arith, common_steps);
  small = omega arith;
  in_format = all-next (λ t. IsText t.now) c.args.texts.now c.loop-t.t-index _ c.loop-t-test.true c.loop-t.invariant.in_format c.text_size-size.ensures.in_format;
}

pub returns-clause-is : goal.returns-clause-is
returns-clause-is c = rw (vector_map text (λ t. t.now) c.args.texts.now) (grind (arith, common_steps))

pub returns-clause-in_format : goal.returns-clause-in_format
returns-clause-in_format c = all-mapped IsText (λ t. t.now) c.args.texts.now c.loop-t.t-index c.loop-t-test.false c.loop-t.invariant.in_format

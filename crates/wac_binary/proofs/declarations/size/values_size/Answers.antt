use Rattle.std.proofs.Common.{arith}
use Rattle.std.proofs.lemmas.Grind.{common_steps}
use Rattle.wac_binary.specs.Format.{ValIsInFormat}
use Rattle.wac_binary.proofs.lemmas.declarations.FormatLaws.{all-first, all-next, all-taken}
use Rattle.wac_binary.proofs.declarations.size.values_size.Goals as goal

pub loop-t-init : goal.loop-t-init
loop-t-init c = record { is = grind (arith, common_steps); small = omega arith; in_format = all-first ValIsInFormat c.args.types.now }

pub loop-t-preserved : goal.loop-t-preserved
loop-t-preserved c = record {
  is = grind (arith, common_steps);
  small = omega arith;
  in_format = all-next ValIsInFormat c.args.types.now c.loop-t.t-index _ c.loop-t-test.true c.loop-t.invariant.in_format c.value_size-size.ensures.in_format;
}

pub returns-clause-in_format : goal.returns-clause-in_format
returns-clause-in_format c = all-taken ValIsInFormat c.args.types.now c.loop-t.t-index c.loop-t-test.false c.loop-t.invariant.in_format

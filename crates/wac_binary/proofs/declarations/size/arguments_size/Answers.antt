use Rattle.std.proofs.Common.{arith}
use Rattle.std.proofs.lemmas.Grind.{common_steps}
use Rattle.wac_binary.specs.Bytes.{argument}
use Rattle.wac_binary.specs.Format.{ArgumentIsInFormat}
use Rattle.wac_binary.proofs.lemmas.bytes.Vectors.{vector_map}
use Rattle.wac_binary.proofs.lemmas.declarations.FormatLaws.{all-first, all-next, all-mapped}
use Rattle.wac_binary.proofs.declarations.size.arguments_size.Goals as goal

pub loop-a-init : goal.loop-a-init
loop-a-init c = record { is = grind (arith, common_steps); small = omega arith; in_format = all-first (λ a. ArgumentIsInFormat (a.0.now, a.1, a.2)) c.args.arguments.now }

pub loop-a-preserved : goal.loop-a-preserved
loop-a-preserved c = record {
  is = grind (arith, common_steps);
  small = omega arith;
  in_format = all-next (λ a. ArgumentIsInFormat (a.0.now, a.1, a.2)) c.args.arguments.now c.loop-a.a-index _ c.loop-a-test.true c.loop-a.invariant.in_format c.argument_size-size.ensures.in_format;
}

pub returns-clause-is : goal.returns-clause-is
returns-clause-is c = rw (vector_map argument (λ a. (a.0.now, a.1, a.2)) c.args.arguments.now) (grind (arith, common_steps))

pub returns-clause-in_format : goal.returns-clause-in_format
returns-clause-in_format c = all-mapped ArgumentIsInFormat (λ a. (a.0.now, a.1, a.2)) c.args.arguments.now c.loop-a.a-index c.loop-a-test.false c.loop-a.invariant.in_format

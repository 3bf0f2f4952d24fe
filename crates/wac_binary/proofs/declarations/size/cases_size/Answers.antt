use Rattle.std.proofs.Common.{arith}
use Rattle.std.proofs.lemmas.Grind.{common_steps}
use Rattle.wac_binary.specs.Bytes.{case}
use Rattle.wac_binary.specs.Format.{CaseIsInFormat}
use Rattle.wac_binary.proofs.lemmas.bytes.Vectors.{vector_map}
use Rattle.wac_binary.proofs.lemmas.declarations.FormatLaws.{all-first, all-next, all-mapped}
use Rattle.wac_binary.proofs.declarations.size.cases_size.Goals as goal

pub loop-c-init : goal.loop-c-init
loop-c-init c = record { is = grind (arith, common_steps); small = omega arith; in_format = all-first (λ c. CaseIsInFormat (c.0.now, c.1)) c.args.cases.now }

pub loop-c-preserved : goal.loop-c-preserved
loop-c-preserved c = record {
  is = grind (arith, common_steps);
  small = omega arith;
  in_format = all-next (λ c. CaseIsInFormat (c.0.now, c.1)) c.args.cases.now c.loop-c.c-index _ c.loop-c-test.true c.loop-c.invariant.in_format c.case_size-size.ensures.in_format;
}

pub returns-clause-is : goal.returns-clause-is
returns-clause-is c = rw (vector_map case (λ c. (c.0.now, c.1)) c.args.cases.now) (grind (arith, common_steps))

pub returns-clause-in_format : goal.returns-clause-in_format
returns-clause-in_format c = all-mapped CaseIsInFormat (λ c. (c.0.now, c.1)) c.args.cases.now c.loop-c.c-index c.loop-c-test.false c.loop-c.invariant.in_format

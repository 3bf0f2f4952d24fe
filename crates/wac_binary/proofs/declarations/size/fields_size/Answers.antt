use Rattle.std.proofs.Common.{arith}
use Rattle.std.proofs.lemmas.Grind.{common_steps}
use Rattle.wac_binary.specs.Bytes.{field}
use Rattle.wac_binary.specs.Format.{FieldIsInFormat}
use Rattle.wac_binary.proofs.lemmas.bytes.Vectors.{vector_map}
use Rattle.wac_binary.proofs.lemmas.declarations.FormatLaws.{all-first, all-next, all-mapped}
use Rattle.wac_binary.proofs.declarations.size.fields_size.Goals as goal

pub loop-field-init : goal.loop-field-init
loop-field-init c = record { is = grind (arith, common_steps); small = omega arith; in_format = all-first (λ f. FieldIsInFormat (f.0.now, f.1)) c.args.fields.now }

pub loop-field-preserved : goal.loop-field-preserved
loop-field-preserved c = record {
  is = grind (arith, common_steps);
  small = omega arith;
  in_format = all-next (λ f. FieldIsInFormat (f.0.now, f.1)) c.args.fields.now c.loop-field.field-index _ c.loop-field-test.true c.loop-field.invariant.in_format c.field_size-size.ensures.in_format;
}

pub returns-clause-is : goal.returns-clause-is
returns-clause-is c = rw (vector_map field (λ f. (f.0.now, f.1)) c.args.fields.now) (grind (arith, common_steps))

pub returns-clause-in_format : goal.returns-clause-in_format
returns-clause-in_format c = all-mapped FieldIsInFormat (λ f. (f.0.now, f.1)) c.args.fields.now c.loop-field.field-index c.loop-field-test.false c.loop-field.invariant.in_format

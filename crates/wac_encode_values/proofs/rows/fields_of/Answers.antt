use Rattle.std.specs.Prelude.{◌<◌, Some, length}
use Rattle.std.proofs.Common.{refl, arith}
use Rattle.wac_encode_values.proofs.Sized.{all-push}
use Rattle.wac_encode_values.specs.private.Parts.{IsShortField, IsFieldName, IsFieldValue}
use Rattle.wac_encode_values.proofs.Made.{zip-further, present-at}
use Rattle.wac_encode_values.proofs.rows.fields_of.Goals as goal

pub value_at-requires : goal.value_at-requires
value_at-requires c = let t = c.loop-i-test.true in let n = c.len-i-end.ensures in let l = c.requires.length in present-at c.args.parts.now c.loop-i.i c.requires.present (let below : c.loop-i.i < length c.args.parts.now = omega (arith, t, n, l) in below)

pub loop-i-preserved : goal.loop-i-preserved
loop-i-preserved c = record {
  zipped = (
    zip-further IsFieldName c.args.fields.now c.loop-i.written.items c.push.new.self.items c.loop-i.i (c.entry_at.result.0.now, c.entry_at.result.1.now) (c.entry_at.result.0, c.value_at.result) c.entry_at.ensures c.in_ok-push.ensures.items c.loop-i.invariant.zipped.0 refl,
    zip-further IsFieldValue c.args.parts.now c.loop-i.written.items c.push.new.self.items c.loop-i.i (Some c.value_at.result) (c.entry_at.result.0, c.value_at.result) c.value_at.ensures.is c.in_ok-push.ensures.items c.loop-i.invariant.zipped.1 refl,
  );
  short = all-push IsShortField c.loop-i.written.items c.push.new.self.items (c.entry_at.result.0, c.value_at.result) c.loop-i.invariant.short c.value_at.ensures.short c.in_ok-push.ensures.items;
}

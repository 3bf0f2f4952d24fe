use Rattle.std.specs.Prelude.{◌<◌, length}
use Rattle.std.proofs.Common.{refl, arith}
use Rattle.wac_encode_values.proofs.Sized.{all-push}
use Rattle.wac_encode_values.specs.private.Parts.{IsShortCase, IsCaseName, IsCaseValue}
use Rattle.wac_encode_values.proofs.Made.{zip-further}
use Rattle.wac_encode_values.proofs.rows.cases_of.Goals as goal

pub optional_at-requires : goal.optional_at-requires
optional_at-requires c = let t = c.loop-i-test.true in let n = c.len-i-end.ensures in let l = c.requires in (let below : c.loop-i.i < length c.args.parts.now = omega (arith, t, n, l) in below)

pub loop-i-preserved : goal.loop-i-preserved
loop-i-preserved c = record {
  zipped = (
    zip-further IsCaseName c.args.cases.now c.loop-i.written.items c.push.new.self.items c.loop-i.i (c.entry_at.result.0.now, c.entry_at.result.1.now) (c.entry_at.result.0, c.optional_at.result) c.entry_at.ensures c.in_ok-push.ensures.items c.loop-i.invariant.zipped.0 refl,
    zip-further IsCaseValue c.args.parts.now c.loop-i.written.items c.push.new.self.items c.loop-i.i c.optional_at.result (c.entry_at.result.0, c.optional_at.result) c.optional_at.ensures.is c.in_ok-push.ensures.items c.loop-i.invariant.zipped.1 refl,
  );
  short = all-push IsShortCase c.loop-i.written.items c.push.new.self.items (c.entry_at.result.0, c.optional_at.result) c.loop-i.invariant.short c.optional_at.ensures.short c.in_ok-push.ensures.items;
}

use Rattle.std.specs.Prelude.{◌<◌, Some, length}
use Rattle.std.proofs.Common.{refl, arith}
use Rattle.wac_encode_values.proofs.Sized.{all-push}
use Rattle.wac_encode_values.specs.private.Parts.{IsShort, IsValue}
use Rattle.wac_encode_values.proofs.Made.{zip-further, present-at}
use Rattle.wac_encode_values.proofs.rows.values_of.Goals as goal

pub value_at-requires : goal.value_at-requires
value_at-requires c = let t = c.loop-i-test.true in present-at c.args.parts.now c.loop-i.i c.requires (let below : c.loop-i.i < length c.args.parts.now = omega (arith, t) in below)

pub loop-i-preserved : goal.loop-i-preserved
loop-i-preserved c = record { zipped = zip-further IsValue c.args.parts.now c.loop-i.values.items c.push.new.self.items c.loop-i.i (Some c.value_at.result) c.value_at.result c.value_at.ensures.is c.in_ok-push.ensures.items c.loop-i.invariant.zipped refl; short = all-push IsShort c.loop-i.values.items c.push.new.self.items c.value_at.result c.loop-i.invariant.short c.value_at.ensures.short c.in_ok-push.ensures.items }

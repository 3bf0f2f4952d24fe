use Rattle.std.proofs.Common.{refl}
use Rattle.wac_encode_values.specs.private.Parts.{IsText}
use Rattle.wac_encode_values.proofs.Made.{zip-further}
use Rattle.wac_encode_values.proofs.rows.labels_of.Goals as goal

pub loop-i-preserved : goal.loop-i-preserved
loop-i-preserved c = zip-further IsText c.args.labels.now c.loop-i.written.items c.push.new.self.items c.loop-i.i c.name_at.result.now c.name_at.result c.name_at.ensures c.in_ok-push.ensures.items c.loop-i.invariant refl

use Rattle.wac_merge_tables.proofs.lemmas.made.MadeForms.{pairs_further}
use Rattle.wac_merge_tables.proofs.made.shapes.entries.Goals as goal

pub loop-i-preserved : goal.loop-i-preserved
loop-i-preserved g c =
    pairs_further c.args.named.now c.loop-i.i c.entry_at.result.0.now c.entry_at.result.1.now c.in_ok-from_str.field-0 c.loop-i.entries.items c.push.new.self.items c.entry_at.ensures c.in_ok-from_str.ensures.ok c.in_ok-push.ensures.items c.loop-i.invariant

use Rattle.wac_merge_tables.proofs.lemmas.made.MadeForms.{texts_further}
use Rattle.wac_merge_tables.proofs.made.shapes.names.Goals as goal

pub loop-i-preserved : goal.loop-i-preserved
loop-i-preserved c =
    texts_further c.args.labels.now c.loop-i.i c.name_at.result.now c.in_ok-from_str.field-0 c.loop-i.names.items c.push.new.self.items c.name_at.ensures c.in_ok-from_str.ensures.ok c.in_ok-push.ensures.items c.loop-i.invariant

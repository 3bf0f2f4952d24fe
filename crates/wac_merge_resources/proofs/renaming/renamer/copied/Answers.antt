use Rattle.wac_merge_resources.proofs.lemmas.renaming.RenamingLoops.{labels_further}
use Rattle.wac_merge_resources.proofs.renaming.renamer.copied.Goals as goal

pub loop-i-preserved : goal.loop-i-preserved
loop-i-preserved c = labels_further c.args.labels.now c.loop-i.i c.name_at.result c.loop-i.names.items c.push.new.self.items c.name_at.ensures c.in_ok-push.ensures.items c.loop-i.invariant

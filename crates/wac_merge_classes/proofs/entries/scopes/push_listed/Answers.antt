use Rattle.std.proofs.Common.{Some}
use Rattle.wac_merge_classes.proofs.lemmas.entries.Opening.{listed-next}
use Rattle.wac_merge_classes.proofs.entries.scopes.push_listed.Goals as goal

pub loop-index-preserved : goal.loop-index-preserved
loop-index-preserved c = listed-next c.args.known.now c.args.scopes.now.keys c.loop-index.scopes.keys c.push_unknown.new.scopes.keys (Some c.args.parent) c.args.listed.now c.loop-index.index c.value_at.result.now
    c.value_at.ensures c.loop-index.invariant c.in_ok-push_unknown.ensures

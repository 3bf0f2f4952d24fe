use Rattle.std.proofs.Common.{add-one}
use Rattle.wac_types_shapes.proofs.lemmas.shapes.Names.{element_at}
use Rattle.wac_merge_classes.proofs.lemmas.entries.Places.{path-more}
use Rattle.wac_merge_classes.proofs.entries.bound.owned_path.Goals as goal

pub loop-i-preserved : goal.loop-i-preserved
loop-i-preserved c =
    rw (add-one, c.in_ok-push.ensures.items)
    (path-more c.loop-i.path.items c.args.names.now c.loop-i.i c.in_ok-from_str.field-0 _ c.loop-i.invariant (element_at c.args.names.now c.loop-i.i _ c.loop-i-test.true) c.in_ok-from_str.ensures.ok)

use Rattle.std.proofs.Common.{◌≡◌, Some, slice_get, length, refl, sym, ◌∙◌}
use Rattle.std.proofs.lemmas.Option.{slice_get_read}
use Rattle.wac_merge_classes.specs.private.entries.Numbering.{HasMore}
use Rattle.wac_merge_classes.proofs.lemmas.entries.Numbers.{instances-more, instances-same}
use Rattle.wac_merge_classes.proofs.entries.classes.instance_names.Goals as goal
use Rattle.wac_merge_classes.proofs.entries.classes.instance_names.Goals.{then-is_instance+in_ok-put, else-is_instance}

pub loop-entry-preserved : goal.loop-entry-preserved
loop-entry-preserved c =
    let es = c.args.entries.now in
    let i = c.loop-entry.entry-index in
    let e = c.entry-item.result in
    let at : slice_get es i ≡ Some e = slice_get_read es (length es) i e refl c.loop-entry-test.true c.entry-item.is in
    elim c.if-is_instance.branch [
      | then-is_instance+in_ok-put w ↦
          let more : HasMore c.loop-entry.names e.name w.put.new.names = rw w.name.ensures at w.in_ok-put.ensures in
          rw w.names-is (instances-more es i e c.loop-entry.names w.put.new.names at (sym c.is_instance.ensures ∙ w.if-is_instance.true) c.loop-entry.invariant more)
      | else-is_instance w ↦ rw w.names-is (instances-same es i e c.loop-entry.names at (sym c.is_instance.ensures ∙ w.if-is_instance.false) c.loop-entry.invariant)
    ]

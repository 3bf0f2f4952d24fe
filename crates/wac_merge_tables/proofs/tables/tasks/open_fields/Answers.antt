use Rattle.std.proofs.Common.{◌+◌, ◌∷◌, [], take}
use Rattle.wac_types_collection.specs.collection.Collection.{seconds}
use Rattle.wac_merge_tables.proofs.lemmas.tables.TaskOpenings.{openings_more}
use Rattle.wac_types_collection.proofs.lemmas.subtyping.Taking.{seconds_take}
use Rattle.wac_merge_tables.proofs.tables.tasks.open_fields.Goals as goal

pub loop-i-preserved : goal.loop-i-preserved
loop-i-preserved c =
    let fs = c.args.fields.now in
    let i = c.loop-i.i in
    let v = c.value_at.result.now in
    openings_more c.args.tasks.now.items c.loop-i.tasks.items c.open_value.new.tasks.items (seconds (take i fs)) (v ∷ []) (seconds (take (i + 1) fs)) (seconds_take fs i v c.value_at.ensures) c.loop-i.invariant c.in_ok-open_value.ensures

use Rattle.std.proofs.Common.{◌+◌, [], take}
use Rattle.wac_types_collection.specs.collection.Collection.{and_maybe, case_values}
use Rattle.wac_merge_tables.proofs.lemmas.tables.TaskOpenings.{openings_more, cases_take}
use Rattle.wac_merge_tables.proofs.tables.tasks.open_cases.Goals as goal

pub loop-i-preserved : goal.loop-i-preserved
loop-i-preserved c =
    let fs = c.args.cases.now in
    let i = c.loop-i.i in
    let v = c.value_at.result.now in
    openings_more c.args.tasks.now.items c.loop-i.tasks.items c.open_optional.new.tasks.items (case_values (take i fs)) (and_maybe v []) (case_values (take (i + 1) fs)) (cases_take fs i v c.value_at.ensures) c.loop-i.invariant c.in_ok-open_optional.ensures

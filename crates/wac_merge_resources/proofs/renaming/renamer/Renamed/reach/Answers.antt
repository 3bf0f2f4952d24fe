use Rattle.std.proofs.Common.{List, sym, subst}
use Rattle.std.specs.List.{AllByRecursion}
use Rattle.wac_types_collection.specs.collection.Collection.{func_values, seconds}
use Rattle.wac_merge_tables.specs.declared.tables.tasks.Task.{Task}
use Rattle.wac_merge_tables.specs.private.tables.Tasks.{IsHeldTask, IsOpening}
use Rattle.wac_merge_tables.proofs.lemmas.tables.TaskOpenings.{openings_two}
use Rattle.wac_merge_tables.proofs.lemmas.tables.TaskLemmas.{all_openings}
use Rattle.wac_merge_tables.proofs.lemmas.made.Extending.{extended_none}
use Rattle.wac_merge_resources.proofs.lemmas.renaming.RenamingMemo.{same_first, same_right}
use Rattle.wac_merge_resources.proofs.lemmas.renaming.RenamingTasks.{on_ok, ready_after}
use Rattle.wac_merge_resources.proofs.lemmas.renaming.Staying.{held_openings}
use Rattle.wac_merge_resources.proofs.renaming.renamer.Renamed.reach.Goals as goal

pub finish-requires-clause-held : goal.finish-requires-clause-held
finish-requires-clause-held c =
    let x = c.args.func.now in
    let is = openings_two x.result (seconds x.params) c.take_tasks-tasks.result.items c.open_optional.new.tasks.items c.open_fields.new.tasks.items c.take_tasks-tasks.ensures.none c.in_ok-open_optional.ensures c.in_ok-open_fields.ensures in
    subst (λ (ts : List Task). AllByRecursion (IsHeldTask c.args.renaming.now.types.now) ts) (sym is) (held_openings c.args.renaming.now.types.now (func_values x) c.requires.held)

pub finish-requires-clause-opened : goal.finish-requires-clause-opened
finish-requires-clause-opened c =
    let x = c.args.func.now in
    let is = openings_two x.result (seconds x.params) c.take_tasks-tasks.result.items c.open_optional.new.tasks.items c.open_fields.new.tasks.items c.take_tasks-tasks.ensures.none c.in_ok-open_optional.ensures c.in_ok-open_fields.ensures in
    subst (λ (ts : List Task). AllByRecursion IsOpening ts) (sym is) (all_openings c.args.renaming.now.types.now (func_values x))

pub returns-clause-ready : goal.returns-clause-ready
returns-clause-ready c =
    let x = c.args.func.now in
    let is = openings_two x.result (seconds x.params) c.take_tasks-tasks.result.items c.open_optional.new.tasks.items c.open_fields.new.tasks.items c.take_tasks-tasks.ensures.none c.in_ok-open_optional.ensures c.in_ok-open_fields.ensures in
    ready_after c.finish.new.self (func_values x) c.open_fields.new.tasks.items c.finish.result is c.finish.ensures.done

pub returns-in_err-open_optional-clause-extended : goal.returns-in_err-open_optional-clause-extended
returns-in_err-open_optional-clause-extended c = extended_none c.args.merged.now

pub returns-in_err-open_fields-clause-extended : goal.returns-in_err-open_fields-clause-extended
returns-in_err-open_fields-clause-extended c = extended_none c.args.merged.now

pub finish-requires-clause-right : goal.finish-requires-clause-right
finish-requires-clause-right c = same_right c.args.self.now c.take_tasks-tasks.new.self c.take_tasks-tasks.ensures.same c.args.merged.now c.args.renaming.now c.requires.right

pub returns-clause-stay : goal.returns-clause-stay
returns-clause-stay c = on_ok c.finish.result (same_first c.args.self.now c.take_tasks-tasks.new.self c.take_tasks-tasks.ensures.same c.finish.new.self.made) c.finish.ensures.stay

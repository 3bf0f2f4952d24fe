use Rattle.std.proofs.Common.{◌≡◌, ◌<◌, ◌-◌, List, [], ◌++◌, take, ap, sym, ◌∙◌, subst}
use Rattle.std.specs.List.{AllByRecursion}
use Rattle.wac_merge_tables.specs.declared.tables.tasks.Task.{Task}
use Rattle.wac_merge_tables.specs.private.tables.Tasks.{tasks_weight, IsHeldTask}
use Rattle.wac_merge_trees.specs.private.coding.Coding.{source_tree, AreCovered, IsUnderWay}
use Rattle.wac_merge_trees.proofs.lemmas.coding.CodingMemo.{same_done, same_right}
use Rattle.wac_merge_trees.proofs.lemmas.coding.CodingTasks.{may_be_done, less_to_do, still_under_way, under_way, all_done}
use Rattle.wac_merge_tables.proofs.lemmas.tables.TaskLemmas.{all_last}
use Rattle.wac_merge_trees.proofs.coding.memo.Memo.finish.Goals as goal

pub loop-task-init : goal.loop-task-init
loop-task-init c = under_way c.args.source.now.types.now (source_tree c.args.source.now) c.args.nodes.now c.args.self.now c.args.tasks.items c.requires.right c.requires.held c.requires.opened

pub perform-requires-clause-held : goal.perform-requires-clause-held
perform-requires-clause-held c =
    let s = c.args.source.now.types.now in
    all_last (IsHeldTask s) c.pop.new.self.items c.in-Some.task (subst (λ (ts : List Task). AllByRecursion (IsHeldTask s) ts) c.in-Some.ensures.items c.loop-task.invariant.held)

pub perform-requires-clause-ready : goal.perform-requires-clause-ready
perform-requires-clause-ready c =
    let s = c.args.source.now.types.now in
    may_be_done s c.loop-task.self c.pop.new.self.items c.in-Some.task (subst (λ (ts : List Task). AreCovered s c.loop-task.self ts) c.in-Some.ensures.items c.loop-task.invariant.covered)

pub loop-task-smaller : goal.loop-task-smaller
loop-task-smaller c =
    let s = c.args.source.now.types.now in
    subst (λ (ts : List Task). tasks_weight s c.perform.new.tasks.items < tasks_weight s ts) (sym c.in-Some.ensures.items)
    (less_to_do s c.law.ensures c.in-Some.task c.loop-task.self c.perform.new.self c.pop.new.self.items c.perform.new.tasks.items c.in_ok-perform.ensures.did)

pub loop-task-preserved : goal.loop-task-preserved
loop-task-preserved c =
    let s = c.args.source.now.types.now in
    let tree = source_tree c.args.source.now in
    still_under_way s c.law.ensures tree c.args.nodes.now c.args.tasks.items c.in-Some.task c.loop-task.nodes c.perform.new.nodes c.loop-task.self c.perform.new.self c.pop.new.self.items c.perform.new.tasks.items
    (subst (λ (ts : List Task). IsUnderWay s tree c.args.nodes.now c.args.tasks.items c.loop-task.nodes c.loop-task.self ts) c.in-Some.ensures.items c.loop-task.invariant)
    c.perform.ensures.grown c.in_ok-perform.ensures.right c.in_ok-perform.ensures.did

pub returns-clause-done : goal.returns-clause-done
returns-clause-done c =
    let s = c.args.source.now.types.now in
    let tree = source_tree c.args.source.now in
    let rest : c.pop.new.self.items ≡ [] = c.in_default.ensures.rest ∙ ap (λ k. take (k - 1) c.loop-task.tasks.items) c.in_default.ensures.cases.0 in
    let none : c.loop-task.tasks.items ≡ [] = c.in_default.ensures.items ∙ ap (λ (ts : List Task). ts ++ []) rest in
    same_done c.loop-task.self c.keep_tasks.new.self c.args.tasks.items c.keep_tasks.ensures
    (all_done s tree c.args.nodes.now c.loop-task.nodes c.args.tasks.items c.loop-task.self
    (subst (λ (ts : List Task). IsUnderWay s tree c.args.nodes.now c.args.tasks.items c.loop-task.nodes c.loop-task.self ts) none c.loop-task.invariant))

pub returns-clause-right : goal.returns-clause-right
returns-clause-right c = same_right (source_tree c.args.source.now) c.loop-task.nodes c.loop-task.self c.keep_tasks.new.self c.keep_tasks.ensures c.loop-task.invariant.right

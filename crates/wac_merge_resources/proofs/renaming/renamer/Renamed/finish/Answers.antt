use Rattle.std.proofs.Common.{◌≡◌, ◌<◌, ◌-◌, List, [], ◌++◌, take, ap, sym, ◌∙◌, subst}
use Rattle.std.specs.List.{AllByRecursion}
use Rattle.wac_merge_tables.specs.declared.tables.tasks.Task.{Task}
use Rattle.wac_merge_tables.specs.private.tables.Tasks.{tasks_weight, IsHeldTask}
use Rattle.wac_merge_resources.specs.private.renaming.RenamingSteps.{AreCovered, IsUnderWay}
use Rattle.wac_merge_tables.proofs.lemmas.tables.TaskLemmas.{all_last}
use Rattle.wac_merge_tables.proofs.lemmas.made.Extending.{extended_twice}
use Rattle.wac_merge_resources.proofs.lemmas.renaming.StillRenamed.{still_can}
use Rattle.wac_merge_resources.proofs.lemmas.renaming.OneIds.{stay_twice}
use Rattle.wac_merge_resources.proofs.lemmas.renaming.RenamingMemo.{same_done, same_right, same_stay}
use Rattle.wac_merge_resources.proofs.lemmas.renaming.RenamingTasks.{all_done, did_stay, less_to_do, may_be_done, still_under_way, under_way}
use Rattle.wac_merge_resources.proofs.renaming.renamer.Renamed.finish.Goals as goal

pub loop-task-init : goal.loop-task-init
loop-task-init c = record {
  under = under_way c.args.renaming.now c.args.merged.now c.args.self.now c.args.tasks.items c.requires.right c.requires.held c.requires.opened;
  stay = λ f e is. is;
}

pub perform-requires-clause-held : goal.perform-requires-clause-held
perform-requires-clause-held c =
    let s = c.args.renaming.now.types.now in
    all_last (IsHeldTask s) c.pop.new.self.items c.in-Some.task (subst (λ (ts : List Task). AllByRecursion (IsHeldTask s) ts) c.in-Some.ensures.items c.loop-task.invariant.under.held)

pub perform-requires-clause-ready : goal.perform-requires-clause-ready
perform-requires-clause-ready c =
    let s = c.args.renaming.now.types.now in
    may_be_done s c.loop-task.self c.pop.new.self.items c.in-Some.task (subst (λ (ts : List Task). AreCovered s c.loop-task.self ts) c.in-Some.ensures.items c.loop-task.invariant.under.covered)

pub perform-requires-clause-known : goal.perform-requires-clause-known
perform-requires-clause-known c = still_can c.args.merged.now c.loop-task.merged c.loop-task.invariant.under.extended c.law-2.ensures c.args.renaming.now c.requires.known

pub loop-task-smaller : goal.loop-task-smaller
loop-task-smaller c =
    let s = c.args.renaming.now.types.now in
    subst (λ (ts : List Task). tasks_weight s c.perform.new.tasks.items < tasks_weight s ts) (sym c.in-Some.ensures.items)
    (less_to_do s c.law.ensures c.in-Some.task c.loop-task.self c.perform.new.self c.pop.new.self.items c.perform.new.tasks.items c.in_ok-perform.ensures.did)

pub loop-task-preserved : goal.loop-task-preserved
loop-task-preserved c =
    let s = c.args.renaming.now in
    record {
      under = still_under_way s c.law.ensures c.args.merged.now c.args.tasks.items c.in-Some.task c.loop-task.merged c.perform.new.merged c.loop-task.self c.perform.new.self c.pop.new.self.items c.perform.new.tasks.items
          (subst (λ (ts : List Task). IsUnderWay s c.args.merged.now c.args.tasks.items c.loop-task.merged c.loop-task.self ts) c.in-Some.ensures.items c.loop-task.invariant.under)
          c.perform.ensures.extended c.in_ok-perform.ensures.right c.in_ok-perform.ensures.did;
      stay = stay_twice c.args.self.now.made c.loop-task.self.made c.perform.new.self.made c.loop-task.invariant.stay
          (did_stay s.types.now c.in-Some.task c.loop-task.self c.perform.new.self c.pop.new.self.items c.perform.new.tasks.items c.in_ok-perform.ensures.did);
    }

pub returns-in_err-perform-clause-extended : goal.returns-in_err-perform-clause-extended
returns-in_err-perform-clause-extended c = extended_twice c.args.merged.now c.loop-task.merged c.perform.new.merged c.loop-task.invariant.under.extended c.perform.ensures.extended

pub returns-clause-done : goal.returns-clause-done
returns-clause-done c =
    let s = c.args.renaming.now in
    let rest : c.pop.new.self.items ≡ [] = c.in_default.ensures.rest ∙ ap (λ k. take (k - 1) c.loop-task.tasks.items) c.in_default.ensures.cases.0 in
    let none : c.loop-task.tasks.items ≡ [] = c.in_default.ensures.items ∙ ap (λ (ts : List Task). ts ++ []) rest in
    same_done c.loop-task.self c.keep_tasks.new.self c.keep_tasks.ensures c.args.tasks.items
    (all_done s c.args.merged.now c.loop-task.merged c.args.tasks.items c.loop-task.self
    (subst (λ (ts : List Task). IsUnderWay s c.args.merged.now c.args.tasks.items c.loop-task.merged c.loop-task.self ts) none c.loop-task.invariant.under))

pub returns-clause-stay : goal.returns-clause-stay
returns-clause-stay c = same_stay c.loop-task.self c.keep_tasks.new.self c.keep_tasks.ensures c.args.self.now.made c.loop-task.invariant.stay

pub returns-clause-extended : goal.returns-clause-extended
returns-clause-extended c = c.loop-task.invariant.under.extended

pub returns-clause-right : goal.returns-clause-right
returns-clause-right c = same_right c.loop-task.self c.keep_tasks.new.self c.keep_tasks.ensures c.loop-task.merged c.args.renaming.now c.loop-task.invariant.under.right

pub perform-requires-clause-right : goal.perform-requires-clause-right
perform-requires-clause-right c = c.loop-task.invariant.under.right

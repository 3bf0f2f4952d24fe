use Rattle.std.proofs.Common.{◌≡◌, ◌<◌, ◌-◌, List, [], ◌++◌, map, take, ap, sym, ◌∙◌, subst}
use Rattle.std.specs.List.{AllByRecursion}
use Rattle.wac_types_shapes.specs.declared.shapes.component.ItemKind.TheVariants.{Instance}
use Rattle.wac_graph_fields.specs.declared.asked.Task.{Task}
use Rattle.wac_graph_fields.specs.declared.asked.Task.TheVariants.{Visit}
use Rattle.wac_graph_model.specs.nodes.Entries.{used_by}
use Rattle.wac_graph_fields.specs.private.EntriesLeft.{by_node, entries_of, Did, IsHeldTask, IsUnderWay, tasks_weight}
use Rattle.wac_graph_fields.proofs.EntryLists.{all_last}
use Rattle.wac_graph_fields.proofs.AskingTasks.{under_way, less_to_do, still_under_way, all_done, all_settled}
use Rattle.wac_graph_fields.proofs.asked.Asking.ask_used.Goals as goal

pub loop-task-init : goal.loop-task-init
loop-task-init c =
    let t = c.args.types.now in
    let self = c.args.self.now in
    let wanted = entries_of self ++ map (by_node c.args.node) (used_by t (Instance c.args.id)) in
    record {
      right = c.in_ok-visit.ensures.right;
      under_way = still_under_way t c.law.ensures c.args.node wanted (Visit c.args.id) (entries_of self) (entries_of c.visit.new.self) self.visited.keys c.visit.new.self.visited.keys [] c.visit.new.tasks.items
          (under_way t c.law.ensures c.args.node c.args.id self c.requires.held c.requires.settled)
          (subst (λ (ts : List Task). Did t c.args.node (Visit c.args.id) (entries_of self) (entries_of c.visit.new.self) self.visited.keys c.visit.new.self.visited.keys ts c.visit.new.tasks.items) c.new-tasks.ensures.items (c.in_ok-visit.ensures.did c.args.node));
    }

pub perform-requires-clause-held : goal.perform-requires-clause-held
perform-requires-clause-held c =
    let t = c.args.types.now in
    all_last (IsHeldTask t) c.pop.new.self.items c.in-Some.task (subst (λ (ts : List Task). AllByRecursion (IsHeldTask t) ts) c.in-Some.ensures.items c.loop-task.invariant.under_way.held)

pub loop-task-smaller : goal.loop-task-smaller
loop-task-smaller c =
    let t = c.args.types.now in
    subst (λ (ts : List Task). tasks_weight t c.perform.new.tasks.items < tasks_weight t ts) (sym c.in-Some.ensures.items)
    (less_to_do t c.law.ensures c.args.node c.in-Some.task (entries_of c.loop-task.self) (entries_of c.perform.new.self) c.loop-task.self.visited.keys c.perform.new.self.visited.keys c.pop.new.self.items c.perform.new.tasks.items c.in_ok-perform.ensures.did)

pub loop-task-preserved : goal.loop-task-preserved
loop-task-preserved c =
    let t = c.args.types.now in
    let wanted = entries_of c.args.self.now ++ map (by_node c.args.node) (used_by t (Instance c.args.id)) in
    record {
      right = c.in_ok-perform.ensures.right;
      under_way = still_under_way t c.law.ensures c.args.node wanted c.in-Some.task (entries_of c.loop-task.self) (entries_of c.perform.new.self) c.loop-task.self.visited.keys c.perform.new.self.visited.keys c.pop.new.self.items c.perform.new.tasks.items
          (subst (λ (ts : List Task). IsUnderWay t c.args.node wanted (entries_of c.loop-task.self) c.loop-task.self.visited.keys ts) c.in-Some.ensures.items c.loop-task.invariant.under_way) c.in_ok-perform.ensures.did;
    }

pub returns-clause-settled : goal.returns-clause-settled
returns-clause-settled c =
    let t = c.args.types.now in
    let wanted = entries_of c.args.self.now ++ map (by_node c.args.node) (used_by t (Instance c.args.id)) in
    let rest : c.pop.new.self.items ≡ [] = c.in_default.ensures.rest ∙ ap (λ k. take (k - 1) c.loop-task.tasks.items) c.in_default.ensures.cases.0 in
    let none : c.loop-task.tasks.items ≡ [] = c.in_default.ensures.items ∙ ap (λ (ts : List Task). ts ++ []) rest in
    all_settled t c.args.node wanted c.loop-task.self (subst (λ (ts : List Task). IsUnderWay t c.args.node wanted (entries_of c.loop-task.self) c.loop-task.self.visited.keys ts) none c.loop-task.invariant.under_way)

pub returns-clause-stands : goal.returns-clause-stands
returns-clause-stands c =
    let t = c.args.types.now in
    let wanted = entries_of c.args.self.now ++ map (by_node c.args.node) (used_by t (Instance c.args.id)) in
    let rest : c.pop.new.self.items ≡ [] = c.in_default.ensures.rest ∙ ap (λ k. take (k - 1) c.loop-task.tasks.items) c.in_default.ensures.cases.0 in
    let none : c.loop-task.tasks.items ≡ [] = c.in_default.ensures.items ∙ ap (λ (ts : List Task). ts ++ []) rest in
    all_done t c.args.node wanted (entries_of c.loop-task.self) c.loop-task.self.visited.keys
    (subst (λ (ts : List Task). IsUnderWay t c.args.node wanted (entries_of c.loop-task.self) c.loop-task.self.visited.keys ts) none c.loop-task.invariant.under_way)

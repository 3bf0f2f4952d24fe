use Rattle.std.proofs.Common.{◌≡◌, List, true, sym, ◌∙◌, subst}
use Rattle.std.specs.List.{AllByRecursion}
use Rattle.wac_types_collection.specs.collection.Collection.{func_values, holds_value, seconds}
use Rattle.wac_merge_tables.specs.declared.tables.tasks.Task.{Task}
use Rattle.wac_merge_tables.specs.private.tables.Nodes.{Node}
use Rattle.wac_merge_trees.specs.private.coding.CallsView.{names_in}
use Rattle.wac_merge_tables.specs.private.tables.Tasks.{IsHeldTask, IsOpening}
use Rattle.wac_merge_trees.specs.private.coding.Coding.{source_tree, values_of, IsReady, IsDone}
use Rattle.wac_merge_trees.proofs.lemmas.coding.CodingGrowth.{grown_twice, right_grown, tree_same, fields_grown}
use Rattle.wac_merge_trees.proofs.lemmas.coding.CodingMemo.{func_right, same_right}
use Rattle.wac_merge_tables.proofs.lemmas.tables.TaskOpenings.{first_of, openings_two, rest_of}
use Rattle.wac_merge_trees.proofs.lemmas.coding.CodingShapes.{fits_function}
use Rattle.wac_merge_trees.proofs.lemmas.coding.CodingTasks.{ready_values}
use Rattle.wac_merge_tables.proofs.lemmas.tables.TaskLemmas.{all_openings, func_held, func_values_hold}
use Rattle.wac_merge_trees.proofs.lemmas.coding.CodingTrees.{func_is}
use Rattle.wac_merge_trees.proofs.coding.memo.Memo.func_type.Goals as goal

pub returns-in-Some-clause-number : goal.returns-in-Some-clause-number
returns-in-Some-clause-number c = c.requires.right.funcs c.args.id c.in-Some.number (sym c.func.ensures ∙ c.in-Some.is)

pub finish-requires-clause-held : goal.finish-requires-clause-held
finish-requires-clause-held c =
    let x = c.index-func.result.now in
    let is = openings_two x.result (seconds x.params) c.take_tasks-tasks.result.items c.open_optional.new.tasks.items c.open_fields.new.tasks.items c.take_tasks-tasks.ensures.none c.in_ok-open_optional.ensures c.in_ok-open_fields.ensures in
    subst (λ (ts : List Task). AllByRecursion (IsHeldTask c.args.source.now.types.now) ts) (sym is) (func_held c.args.source.now.types.now c.law.ensures c.args.id x c.index-func.ensures)

pub finish-requires-clause-opened : goal.finish-requires-clause-opened
finish-requires-clause-opened c =
    let x = c.index-func.result.now in
    let is = openings_two x.result (seconds x.params) c.take_tasks-tasks.result.items c.open_optional.new.tasks.items c.open_fields.new.tasks.items c.take_tasks-tasks.ensures.none c.in_ok-open_optional.ensures c.in_ok-open_fields.ensures in
    subst (λ (ts : List Task). AllByRecursion IsOpening ts) (sym is) (all_openings c.args.source.now.types.now (func_values x))

pub finish-requires-clause-right : goal.finish-requires-clause-right
finish-requires-clause-right c = same_right (source_tree c.args.source.now) c.args.nodes.now c.args.self.now c.take_tasks-tasks.new.self c.take_tasks-tasks.ensures.same c.requires.right

pub fields-requires-clause-held : goal.fields-requires-clause-held
fields-requires-clause-held c =
    let s = c.args.source.now.types.now in
    let x = c.index-func.result.now in
    rest_of (λ v. holds_value s v ≡ true) x.result (seconds x.params) (func_values_hold s c.law.ensures c.args.id x c.index-func.ensures)

pub optional-requires-clause-held : goal.optional-requires-clause-held
optional-requires-clause-held c =
    let s = c.args.source.now.types.now in
    let x = c.index-func.result.now in
    first_of (λ v. holds_value s v ≡ true) x.result (seconds x.params) (func_values_hold s c.law.ensures c.args.id x c.index-func.ensures)

pub fields-requires-clause-ready : goal.fields-requires-clause-ready
fields-requires-clause-ready c =
    let x = c.index-func.result.now in
    let memo = c.finish.new.self in
    let is = openings_two x.result (seconds x.params) c.take_tasks-tasks.result.items c.open_optional.new.tasks.items c.open_fields.new.tasks.items c.take_tasks-tasks.ensures.none c.in_ok-open_optional.ensures c.in_ok-open_fields.ensures in
    rest_of (IsReady memo) x.result (seconds x.params) (ready_values memo (func_values x) (subst (λ (ts : List Task). AllByRecursion (IsDone memo) ts) is c.in_ok-finish.ensures.done))

pub optional-requires-clause-right : goal.optional-requires-clause-right
optional-requires-clause-right c = right_grown (source_tree c.args.source.now) c.finish.new.self c.finish.new.nodes c.fields.new.nodes c.fields.ensures.grown c.in_ok-finish.ensures.right

pub add-requires-clause-lower : goal.add-requires-clause-lower
add-requires-clause-lower c =
    let t = values_of (source_tree c.args.source.now) in
    let x = c.index-func.result.now in
    let ns : List Node = c.optional.new.nodes in
    (fits_function t ns x.is_async x.params c.in_ok-params.params.items x.result c.in_ok-returned.returned (fields_grown t c.fields.new.nodes ns c.optional.ensures.grown x.params c.in_ok-params.params.items c.in_ok-params.ensures.numbers) c.in_ok-returned.ensures.number).lower

pub returns-in_err-number-clause-grown : goal.returns-in_err-number-clause-grown
returns-in_err-number-clause-grown c =
    let a = c.args.nodes.now in
    grown_twice a c.optional.new.nodes c.add.new.nodes (grown_twice a c.fields.new.nodes c.optional.new.nodes (grown_twice a c.finish.new.nodes c.fields.new.nodes c.finish.ensures.grown c.fields.ensures.grown) c.optional.ensures.grown) c.add.ensures.grown

pub returns-in_err-put_func-clause-grown : goal.returns-in_err-put_func-clause-grown
returns-in_err-put_func-clause-grown c =
    let a = c.args.nodes.now in
    grown_twice a c.optional.new.nodes c.add.new.nodes (grown_twice a c.fields.new.nodes c.optional.new.nodes (grown_twice a c.finish.new.nodes c.fields.new.nodes c.finish.ensures.grown c.fields.ensures.grown) c.optional.ensures.grown) c.add.ensures.grown

pub returns-clause-grown : goal.returns-clause-grown
returns-clause-grown c =
    let a = c.args.nodes.now in
    grown_twice a c.optional.new.nodes c.add.new.nodes (grown_twice a c.fields.new.nodes c.optional.new.nodes (grown_twice a c.finish.new.nodes c.fields.new.nodes c.finish.ensures.grown c.fields.ensures.grown) c.optional.ensures.grown) c.add.ensures.grown

pub returns-clause-number : goal.returns-clause-number
returns-clause-number c =
    let s = c.args.source.now in
    let t = values_of (source_tree s) in
    let x = c.index-func.result.now in
    let ns : List Node = c.optional.new.nodes in
    let fits = fits_function t ns x.is_async x.params c.in_ok-params.params.items x.result c.in_ok-returned.returned (fields_grown t c.fields.new.nodes ns c.optional.ensures.grown x.params c.in_ok-params.params.items c.in_ok-params.ensures.numbers) c.in_ok-returned.ensures.number in
    let e = func_is s.types.now (names_in s.types.now s.calls.now) c.trees_are_whole.ensures.bound c.args.id x c.requires.held c.index-func.ensures in
    tree_same c.add.new.nodes _ _ c.in_ok-number.number (fits.is ∙ sym e) c.in_ok-number.ensures.number

pub returns-clause-right : goal.returns-clause-right
returns-clause-right c =
    let s = c.args.source.now in
    let t = source_tree s in
    let b = c.finish.new.nodes in
    let grown = grown_twice b c.optional.new.nodes c.add.new.nodes (grown_twice b c.fields.new.nodes c.optional.new.nodes c.fields.ensures.grown c.optional.ensures.grown) c.add.ensures.grown in
    func_right t c.add.new.nodes c.finish.new.self c.put_func.new.self c.args.id c.in_ok-number.number c.in_ok-put_func.ensures (right_grown t c.finish.new.self b c.add.new.nodes grown c.in_ok-finish.ensures.right) (returns-clause-number c)

use Rattle.std.proofs.Common.{ap}
use Rattle.std.proofs.lemmas.Result.{IfOk-weaker}
use Rattle.wac_types_shapes.specs.primitives.Tree.{function_item, value_item}
use Rattle.wac_types_shapes.specs.declared.shapes.component.«Type».TheVariants as ty
use Rattle.wac_types_collection.specs.subtyping.Subtype.{Sub, type_tree}
use Rattle.wac_types.specs.private.comparison.Compare.{value_in}
use Rattle.wac_types.proofs.lemmas.comparison.Values.{inner, value_plain, values_are, asks_iff, asks_then}
use Rattle.wac_types.proofs.lemmas.comparison.Subtyping.{plain_items, func_plain, asks_turned, of_type_items, of_instance_items, of_component_items, of_module_items}
use Rattle.wac_types.proofs.comparison.comparison.Comparison.ask_kinds.Goals as goal

pub returns-in_ok-ask_type-in-TypeItem-TypeItem-clause-asked : goal.returns-in_ok-ask_type-in-TypeItem-TypeItem-clause-asked
returns-in_ok-ask_type-in-TypeItem-TypeItem-clause-asked c = rw (c.in-TypeItem-TypeItem.is-0, c.in-TypeItem-TypeItem.is-1) (IfOk-weaker c.ask_type-in-TypeItem-TypeItem.result _ _
    (λ _ s. asks_iff (λ h. Sub.type_items _ _ h.0 h.1) (of_type_items _ _) (asks_then c.in_ok-ask_type-in-TypeItem-TypeItem.ensures.asked (asks_turned c.args.self.turned c.args.self.first.now c.args.self.second.now _ _ _ _ s)))
    (rw (c.turned.ensures.turned, c.turned.ensures.first, c.turned.ensures.second) at c.ask_type-in-TypeItem-TypeItem.ensures.asked))

pub returns-in-Func-Func-clause-asked : goal.returns-in-Func-Func-clause-asked
returns-in-Func-Func-clause-asked c =
    let iff = plain_items function_item _ (type_tree c.args.self.second.now (ty.Func c.in-Func-Func.j)) (func_plain c.args.self.first.now c.in-Func-Func.i) tt (ap inner) in
    rw (c.in-Func-Func.is-0, c.in-Func-Func.is-1) (IfOk-weaker c.ask_func_type.result _ _ (λ _ s. asks_iff iff.0 iff.1 s) c.ask_func_type.ensures.asked)

pub returns-in-Instance-Instance-clause-asked : goal.returns-in-Instance-Instance-clause-asked
returns-in-Instance-Instance-clause-asked c = rw (c.in-Instance-Instance.is-0, c.in-Instance-Instance.is-1)
    (IfOk-weaker c.ask_type-in-Instance-Instance.result _ _ (λ _ s. asks_iff (Sub.instance_items _ _) (of_instance_items _ _) s) c.ask_type-in-Instance-Instance.ensures.asked)

pub returns-in-Component-Component-clause-asked : goal.returns-in-Component-Component-clause-asked
returns-in-Component-Component-clause-asked c = rw (c.in-Component-Component.is-0, c.in-Component-Component.is-1)
    (IfOk-weaker c.ask_type-in-Component-Component.result _ _ (λ _ s. asks_iff (Sub.component_items _ _) (of_component_items _ _) s) c.ask_type-in-Component-Component.ensures.asked)

pub returns-in-Module-Module-clause-asked : goal.returns-in-Module-Module-clause-asked
returns-in-Module-Module-clause-asked c = rw (c.in-Module-Module.is-0, c.in-Module-Module.is-1)
    (IfOk-weaker c.ask_type-in-Module-Module.result _ _ (λ _ s. asks_iff (Sub.module_items _ _) (of_module_items _ _) s) c.ask_type-in-Module-Module.ensures.asked)

pub returns-in-Value-Value-clause-asked : goal.returns-in-Value-Value-clause-asked
returns-in-Value-Value-clause-asked c =
    let values = values_are c.args.self.first.now c.args.self.second.now c.in-Value-Value.v c.in-Value-Value.w in
    let items = plain_items value_item _ (value_in c.args.self.second.now c.in-Value-Value.w) (value_plain c.args.self.first.now c.in-Value-Value.v) tt (ap inner) in
    rw (c.in-Value-Value.is-0, c.in-Value-Value.is-1) (IfOk-weaker c.ask_value.result _ _ (λ _ s. asks_iff (λ h. items.0 (values.0 h)) (λ h. values.1 (items.1 h)) s) c.ask_value.ensures.asked)

pub returns-in-Func-Func-clause-mismatch : goal.returns-in-Func-Func-clause-mismatch
returns-in-Func-Func-clause-mismatch c = λ is.
    let iff = plain_items function_item _ (type_tree c.args.self.second.now (ty.Func c.in-Func-Func.j)) (func_plain c.args.self.first.now c.in-Func-Func.i) tt (ap inner) in
    rw (c.in-Func-Func.is-0, c.in-Func-Func.is-1) (λ h. c.ask_func_type.ensures.mismatch is (iff.1 h))

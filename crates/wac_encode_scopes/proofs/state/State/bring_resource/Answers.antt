use Rattle.wac_encode_scopes.proofs.Stepped.{on-ok, goes-both, all-both}
use Rattle.wac_encode_scopes.proofs.Paying.{priced-stays, then-answer, exit-answer}
use Rattle.std.proofs.Common.{◌∙◌}
use Rattle.wac_types_shapes.specs.declared.shapes.component.«Type».{«Type» as AnyType}
use Rattle.wac_encode_scopes.proofs.state.State.bring_resource.Goals as goal

pub returns-clause-goes : goal.returns-clause-goes
returns-clause-goes c = on-ok c.bring_index.result (λ h d. goes-both c.step_law.ensures.follows d c.args.merged c.args.self.now c.reach_resource.new.self c.bring_index.new.self (c.in_ok-out.ensures.goes d) (h d)) c.bring_index.ensures.goes

pub returns-clause-types : goal.returns-clause-types
returns-clause-types c = all-both c.args.self.now c.reach_resource.new.self c.bring_index.new.self c.reach_resource.ensures.types c.bring_index.ensures.types

pub returns-in_err-out-clause-paid : goal.returns-in_err-out-clause-paid
returns-in_err-out-clause-paid c d own ts covers priced = exit-answer d c.args.merged ts 0 c.args.self.now _ _ c.from_residual.result c.from_residual.ensures.1 (c.in_err-out.ensures.paid d own ts covers priced)

pub returns-clause-paid : goal.returns-clause-paid
returns-clause-paid c d own ts covers priced =
    then-answer d c.args.merged ts 0 0 c.args.self.now c.reach_resource.new.self c.bring_index.new.self c.bring_index.result (c.in_ok-out.ensures.paid d own ts covers priced)
    (c.bring_index.ensures.paid d own ts covers (priced-stays c.args.merged c.args.self.now c.reach_resource.new.self c.reach_resource.ensures.types priced))

pub returns-clause-kept : goal.returns-clause-kept
returns-clause-kept c = on-ok c.bring_index.result (λ h (a : AnyType). h a ∙ c.in_ok-out.ensures.kept a) c.bring_index.ensures.kept

use Rattle.wac_binary.specs.Items.{value_def, own_def}
use Rattle.wac_types_shapes.specs.declared.shapes.component.ValueType.TheVariants as val
use Rattle.wac_types_shapes.specs.declared.shapes.component.«Type».TheVariants as ty
use Rattle.wac_encode_stacks.specs.Scopes.{with_def}
use Rattle.wac_encode_scopes.proofs.Stepped.{on-ok, both-ok, all-here, all-both, goes-both, goes-own, recorded-here}
use Rattle.wac_encode_scopes.proofs.Calls.{own-here}
use Rattle.wac_encode_scopes.proofs.Paying.{then-answer, exit-answer}
use Rattle.std.proofs.Common.{◌∙◌}
use Rattle.wac_encode_scopes.proofs.state.State.own.Goals as goal

pub returns-clause-goes : goal.returns-clause-goes
returns-clause-goes c = on-ok c.define.result (λ h d end_. goes-both c.step_law.ensures.follows d c.args.merged c.args.self.now c.bring_resource.new.self (record c.bring_resource.new.self { here = c.define.new.self }) (c.in_ok-index.ensures.goes d) (goes-own c.step_law.ensures.defines_handles d c.args.merged c.bring_resource.new.self c.define.new.self c.args.resource c.in_ok-index.index end_ c.in_ok-index.ensures.is h c.define.ensures.types)) c.define.ensures.step

pub returns-clause-recorded : goal.returns-clause-recorded
returns-clause-recorded c = both-ok c.define.result (λ i is h. recorded-here c.args.merged (ty.Value (val.Own c.args.resource)) i c.bring_resource.new.self.here c.define.new.self (with_def (value_def (own_def c.in_ok-index.index))) is h) c.define.ensures.index c.define.ensures.step

pub returns-clause-types : goal.returns-clause-types
returns-clause-types c = all-both c.args.self.now c.bring_resource.new.self (record c.bring_resource.new.self { here = c.define.new.self }) c.bring_resource.ensures.types (all-here c.bring_resource.new.self c.define.new.self c.define.ensures.types)

pub returns-in_err-index-clause-paid : goal.returns-in_err-index-clause-paid
returns-in_err-index-clause-paid c d own none ts covers priced = exit-answer d c.args.merged ts 0 c.args.self.now _ _ c.from_residual.result c.from_residual.ensures.1 (c.in_err-index.ensures.paid d own ts covers priced)

pub returns-clause-paid : goal.returns-clause-paid
returns-clause-paid c d own none ts covers priced =
    then-answer d c.args.merged ts 0 0 c.args.self.now c.bring_resource.new.self (record c.bring_resource.new.self { here = c.define.new.self }) c.define.result (c.in_ok-index.ensures.paid d own ts covers priced)
    (own-here c.size_law.ensures.fits d c.args.merged ts c.bring_resource.new.self c.define.new.self c.args.resource c.in_ok-index.index c.define.result c.index_law.ensures own covers (c.in_ok-index.ensures.kept (ty.Value (val.Own c.args.resource)) ∙ none) c.define.ensures.step c.define.ensures.too_large)

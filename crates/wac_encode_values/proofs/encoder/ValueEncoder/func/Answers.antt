use Rattle.std.specs.Prelude.{ℕ, Option, IfSome}
use Rattle.std.proofs.Common.{subst}
use Rattle.wac_types_shapes.specs.declared.shapes.component.«Type».TheVariants as ty
use Rattle.wac_encode_stacks.specs.Scopes.{How}
use Rattle.wac_encode_scopes.specs.States.{IsRecordedAt}
use Rattle.wac_encode_scopes.proofs.Stepped.{goes-none, all-none}
use Rattle.wac_encode_values.proofs.Ready.{type-at}
use Rattle.wac_encode_scopes.proofs.Paying.{pays-nothing}
use Rattle.wac_encode_values.proofs.encoder.ValueEncoder.func.Goals as goal

pub returns-in-Some-clause-goes : goal.returns-in-Some-clause-goes
returns-in-Some-clause-goes c = goes-none c.still_law.ensures c.args.self.now.merged c.args.state.now c.args.self.now.types.now

pub returns-in-Some-clause-is : goal.returns-in-Some-clause-is
returns-in-Some-clause-is c =
    let at = subst (λ (o : Option ℕ). IfSome o (λ i. (how : How) × IsRecordedAt c.args.self.now.merged c.args.state.now (ty.Func c.args.id) how i)) c.in-Some.is c.index.ensures.some in
    type-at c.step_law.ensures.stands_recorded c.args.self.now.types.now c.args.self.now.merged c.args.state.now (ty.Func c.args.id) at.0 c.in-Some.index at.1

pub returns-in-Some-clause-types : goal.returns-in-Some-clause-types
returns-in-Some-clause-types c = all-none c.args.state.now

pub returns-in-Some-clause-paid : goal.returns-in-Some-clause-paid
returns-in-Some-clause-paid c ts covers priced = pays-nothing c.args.self.now.types.now c.args.self.now.merged ts c.args.state.now

use Rattle.std.specs.Prelude.{ℕ, ◌≡◌, Some, Option, IfSome}
use Rattle.std.proofs.Common.{subst}
use Rattle.wac_types_shapes.specs.declared.shapes.component.ValueType.TheVariants as val
use Rattle.wac_encode_stacks.specs.Scopes.{at_type}
use Rattle.wac_encode_scopes.specs.Books.{opened}
use Rattle.wac_encode_scopes.specs.States.{named_in}
use Rattle.wac_encode_values.proofs.Ready.{named-written, maybe-indexed-written, named-first, no-name-first, closed-if}
use Rattle.wac_encode_scopes.proofs.Paying.{exit-answer}
use Rattle.wac_encode_values.proofs.encoder.ValueEncoder.find_definition.Goals as goal

pub returns-in-Some-clause-goes : goal.returns-in-Some-clause-goes
returns-in-Some-clause-goes c =
    let t = c.args.self.now.types.now in
    c.in_ok-index.ensures.goes t (closed-if t c.args.self.now.closed.now c.args.id c.contains-is_closed.result c.contains-is_closed.ensures (c.requires.closed c.args.id c.requires.held))

pub returns-in-Some-clause-written : goal.returns-in-Some-clause-written
returns-in-Some-clause-written c =
    let named = subst (λ (o : Option ℕ). IfSome o (λ i. named_in c.args.id (opened c.args.self.now.merged c.bring.new.self.here) ≡ Some (at_type i))) c.in-Some.is c.in_ok-index.ensures.named in
    named-written c.step_law.ensures.is_recorded c.step_law.ensures.is_exported c.args.self.now.types.now c.args.self.now.merged c.bring.new.self c.args.id c.in-Some.index named

pub returns-in-Some-clause-named : goal.returns-in-Some-clause-named
returns-in-Some-clause-named c =
    let named = subst (λ (o : Option ℕ). IfSome o (λ i. named_in c.args.id (opened c.args.self.now.merged c.bring.new.self.here) ≡ Some (at_type i))) c.in-Some.is c.in_ok-index.ensures.named in
    named-first c.args.self.now.closed.now c.args.self.now.merged c.args.state.now c.bring.new.self c.args.id c.in-Some.index named

pub returns-in-None-clause-goes : goal.returns-in-None-clause-goes
returns-in-None-clause-goes c =
    let t = c.args.self.now.types.now in
    c.in_ok-index.ensures.goes t (closed-if t c.args.self.now.closed.now c.args.id c.contains-is_closed.result c.contains-is_closed.ensures (c.requires.closed c.args.id c.requires.held))

pub returns-in-None-clause-written : goal.returns-in-None-clause-written
returns-in-None-clause-written c = maybe-indexed-written c.step_law.ensures.is_recorded c.args.self.now.types.now c.args.self.now.merged c.bring.new.self (val.Defined c.args.id) c.index.result c.index.ensures.some

pub returns-in-None-clause-named : goal.returns-in-None-clause-named
returns-in-None-clause-named c = no-name-first c.args.self.now.closed.now c.args.self.now.merged c.args.state.now c.bring.new.self c.args.id c.index.result c.contains-is_closed.result c.contains-is_closed.ensures (c.in_ok-index.ensures.none c.in-None.is).1

pub returns-in_err-index-clause-paid : goal.returns-in_err-index-clause-paid
returns-in_err-index-clause-paid c ts covers priced = exit-answer c.args.self.now.types.now c.args.self.now.merged ts 0 c.args.state.now _ _ c.from_residual.result c.from_residual.ensures.1 (c.in_err-index.ensures.paid c.args.self.now.types.now c.requires.held ts covers priced)

pub returns-in-Some-clause-paid : goal.returns-in-Some-clause-paid
returns-in-Some-clause-paid c ts covers priced = c.in_ok-index.ensures.paid c.args.self.now.types.now c.requires.held ts covers priced

pub returns-in-None-clause-paid : goal.returns-in-None-clause-paid
returns-in-None-clause-paid c ts covers priced = c.in_ok-index.ensures.paid c.args.self.now.types.now c.requires.held ts covers priced

use Rattle.std.proofs.Common.{refl, sym, subst}
use Rattle.wac_encode_stacks.specs.Scopes.{at_type}
use Rattle.wac_encode_stacks.specs.private.Parts.{IsReached}
use Rattle.wac_encode_scopes.specs.States.{stack}
use Rattle.wac_encode_scopes.proofs.Stepped.{goes-none, all-none, found-some, found-export, goes-settled, reached-after}
use Rattle.wac_encode_scopes.proofs.Calls.{kept-settled}
use Rattle.wac_encode_scopes.proofs.Paying.{pays-nothing, exit-answer}
use Rattle.wac_encode_scopes.proofs.state.State.reach_resource.Goals as goal

pub returns-then-is_type-clause-goes : goal.returns-then-is_type-clause-goes
returns-then-is_type-clause-goes c = goes-none c.still_law.ensures c.args.merged c.args.self.now

pub returns-then-is_type-clause-types : goal.returns-then-is_type-clause-types
returns-then-is_type-clause-types c = all-none c.args.self.now

pub returns-clause-goes : goal.returns-clause-goes
returns-clause-goes c =
    let at = found-export c.args.merged c.args.self.now c.args.resource c.in-Some.out c.in-Some.index c.in-Some.is_type c.if-is_type.false (found-some c.args.merged c.args.self.now c.args.resource c.find.result.0 c.in-Some.out c.in-Some.index c.in-Some.is_type c.in-Some.is c.find.ensures.found) in
    goes-settled c.inside_law.ensures.settles_there c.args.merged c.args.self.now c.alias_there.new.self c.args.resource c.in-Some.out at.0 at.1 at.2 c.in_ok-own.ensures.step c.alias_there.ensures.types

pub returns-clause-reached : goal.returns-clause-reached
returns-clause-reached c =
    let at = found-export c.args.merged c.args.self.now c.args.resource c.in-Some.out c.in-Some.index c.in-Some.is_type c.if-is_type.false (found-some c.args.merged c.args.self.now c.args.resource c.find.result.0 c.in-Some.out c.in-Some.index c.in-Some.is_type c.in-Some.is c.find.ensures.found) in
    subst (λ k. IsReached (stack c.args.merged c.alias_there.new.self) c.args.resource c.in-Some.out (at_type k)) (sym c.in_ok-own.ensures.index) (reached-after c.args.merged c.args.self.now c.alias_there.new.self c.args.resource c.in-Some.out at.0 at.1 at.2 c.in_ok-own.ensures.step)

pub returns-then-is_type-clause-paid : goal.returns-then-is_type-clause-paid
returns-then-is_type-clause-paid c d own ts covers priced = pays-nothing d c.args.merged ts c.args.self.now

pub returns-in_err-own-clause-paid : goal.returns-in_err-own-clause-paid
returns-in_err-own-clause-paid c d own ts covers priced = exit-answer d c.args.merged ts 0 c.args.self.now _ _ c.from_residual.result c.from_residual.ensures.1 (c.in_err-own.ensures.paid d own ts covers priced)

pub returns-clause-paid : goal.returns-clause-paid
returns-clause-paid c d own ts covers priced = c.in_ok-own.ensures.paid d own ts covers priced

pub returns-clause-kept : goal.returns-clause-kept
returns-clause-kept c = kept-settled c.args.merged c.args.self.now c.alias_there.new.self c.args.resource c.in-Some.out c.in_ok-own.ensures.step

pub returns-then-is_type-clause-kept : goal.returns-then-is_type-clause-kept
returns-then-is_type-clause-kept c a = refl

use Rattle.wac_encode_scopes.proofs.Stepped.{goes-none, all-none}
use Rattle.wac_encode_scopes.proofs.Brought.{named-some, named-export, named-type, goes-settled-value, named-after, crosses-after}
use Rattle.wac_encode_scopes.proofs.Paying.{pays-nothing, exit-answer}
use Rattle.wac_encode_scopes.proofs.state.State.reach_named.Goals as goal

pub returns-in_default-clause-goes : goal.returns-in_default-clause-goes
returns-in_default-clause-goes c = goes-none c.still_law.ensures c.args.merged c.args.self.now

pub returns-in_default-clause-types : goal.returns-in_default-clause-types
returns-in_default-clause-types c = all-none c.args.self.now

pub returns-then-is_type-clause-goes : goal.returns-then-is_type-clause-goes
returns-then-is_type-clause-goes c = goes-none c.still_law.ensures c.args.merged c.args.self.now

pub returns-then-is_type-clause-reached : goal.returns-then-is_type-clause-reached
returns-then-is_type-clause-reached c = let f = (named-some c.args.merged c.args.is_closed c.args.self.now c.args.definition c.find_named.result c.in-Some.out c.in-Some.index c.in-Some.is_type c.in-Some.is c.find_named.ensures.found) in (named-type c.args.merged c.args.is_closed c.args.self.now c.args.definition c.in-Some.out c.in-Some.index c.in-Some.is_type c.if-is_type.true f, f.3)

pub returns-then-is_type-clause-types : goal.returns-then-is_type-clause-types
returns-then-is_type-clause-types c = all-none c.args.self.now

pub returns-clause-goes : goal.returns-clause-goes
returns-clause-goes c =
    let at = named-export c.args.merged c.args.is_closed c.args.self.now c.args.definition c.in-Some.out c.in-Some.index c.in-Some.is_type c.if-is_type.false (named-some c.args.merged c.args.is_closed c.args.self.now c.args.definition c.find_named.result c.in-Some.out c.in-Some.index c.in-Some.is_type c.in-Some.is c.find_named.ensures.found) in
    goes-settled-value c.bringing_law.ensures.settles_value_there c.args.merged c.args.self.now c.alias_value_there.new.self c.args.definition c.in-Some.out at.0 at.1 at.2 c.in_ok-own.ensures.step c.alias_value_there.ensures.types

pub returns-clause-reached : goal.returns-clause-reached
returns-clause-reached c =
    let f = (named-some c.args.merged c.args.is_closed c.args.self.now c.args.definition c.find_named.result c.in-Some.out c.in-Some.index c.in-Some.is_type c.in-Some.is c.find_named.ensures.found) in
    let at = named-export c.args.merged c.args.is_closed c.args.self.now c.args.definition c.in-Some.out c.in-Some.index c.in-Some.is_type c.if-is_type.false f in
    (named-after c.args.merged c.args.self.now c.alias_value_there.new.self c.args.definition c.in-Some.out at.0 c.in_ok-own.own at.1 c.in_ok-own.ensures.index at.2 c.in_ok-own.ensures.step, crosses-after c.bringing_law.ensures.still_pass c.args.is_closed c.args.merged c.args.self.now c.alias_value_there.new.self c.args.definition c.in-Some.out c.in_ok-own.ensures.step f.3)

pub returns-in_default-clause-paid : goal.returns-in_default-clause-paid
returns-in_default-clause-paid c d held ts covers priced = pays-nothing d c.args.merged ts c.args.self.now

pub returns-then-is_type-clause-paid : goal.returns-then-is_type-clause-paid
returns-then-is_type-clause-paid c d held ts covers priced = pays-nothing d c.args.merged ts c.args.self.now

pub returns-in_err-own-clause-paid : goal.returns-in_err-own-clause-paid
returns-in_err-own-clause-paid c d held ts covers priced = exit-answer d c.args.merged ts 0 c.args.self.now _ _ c.from_residual.result c.from_residual.ensures.1 (c.in_err-own.ensures.paid d held ts covers priced)

pub returns-clause-paid : goal.returns-clause-paid
returns-clause-paid c d held ts covers priced = c.in_ok-own.ensures.paid d held ts covers priced

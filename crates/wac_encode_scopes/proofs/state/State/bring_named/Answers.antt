use Rattle.std.proofs.Common.{subst}
use Rattle.wac_encode_stacks.specs.Scopes.{at_type}
use Rattle.wac_encode_scopes.specs.States.{stack, IsNamedAt}
use Rattle.wac_encode_scopes.proofs.Outward.{positive}
use Rattle.wac_encode_scopes.proofs.Stepped.{on-ok, both-ok, goes-none, all-none, all-here, tried}
use Rattle.wac_encode_scopes.proofs.Brought.{goes-brought-value, named-brought}
use Rattle.wac_encode_scopes.proofs.Calls.{too-far-named, bring-named-here}
use Rattle.wac_encode_scopes.proofs.Paying.{pays-nothing}
use Rattle.wac_encode_scopes.proofs.state.State.bring_named.Goals as goal

pub returns-then-out-eq0-clause-goes : goal.returns-then-out-eq0-clause-goes
returns-then-out-eq0-clause-goes c d closed = goes-none c.still_law.ensures c.args.merged c.args.self.now d

pub returns-then-out-eq0-clause-named : goal.returns-then-out-eq0-clause-named
returns-then-out-eq0-clause-named c = subst (λ k. IsNamedAt (stack c.args.merged c.args.self.now) c.args.definition k (at_type c.args.index)) c.if-out-eq0.true c.requires.named

pub returns-then-out-eq0-clause-types : goal.returns-then-out-eq0-clause-types
returns-then-out-eq0-clause-types c = all-none c.args.self.now

pub returns-in_default-clause-types : goal.returns-in_default-clause-types
returns-in_default-clause-types c = all-none c.args.self.now

pub returns-clause-types : goal.returns-clause-types
returns-clause-types c = all-here c.args.self.now c.alias_type.new.self c.alias_type.ensures.types

pub returns-clause-goes : goal.returns-clause-goes
returns-clause-goes c = on-ok c.alias_type.result (λ h d closed. goes-brought-value c.bringing_law.ensures.brings_from c.bringing_law.ensures.knows_type c.bringing_law.ensures.knows_export d c.args.merged c.args.is_closed c.args.self.now c.alias_type.new.self c.args.definition c.args.out c.in-Ok.count c.args.index (positive c.args.out c.if-out-eq0.false) (tried _ c.try_from.result c.in-Ok.count c.args.out c.in-Ok.is c.try_from.ensures) c.requires.named c.requires.crosses closed h c.alias_type.ensures.types) c.alias_type.ensures.step

pub returns-clause-named : goal.returns-clause-named
returns-clause-named c = both-ok c.alias_type.result (λ i is h. named-brought c.args.merged c.args.self.now.here c.alias_type.new.self c.args.definition c.in-Ok.count c.args.index i is h) c.alias_type.ensures.index c.alias_type.ensures.step

pub returns-then-out-eq0-clause-paid : goal.returns-then-out-eq0-clause-paid
returns-then-out-eq0-clause-paid c d held ts covers priced = pays-nothing d c.args.merged ts c.args.self.now

pub returns-in_default-clause-paid : goal.returns-in_default-clause-paid
returns-in_default-clause-paid c d held ts covers priced = too-far-named d c.args.merged ts c.args.self.now c.args.definition (at_type c.args.index) c.args.out c.try_from.result c.requires.named c.in_default.not-Ok c.try_from.ensures

pub returns-clause-paid : goal.returns-clause-paid
returns-clause-paid c d held ts covers priced =
    bring-named-here c.size_law.ensures.fits d c.args.merged ts c.args.self.now c.alias_type.new.self c.args.definition (at_type c.args.index) c.args.out c.in-Ok.count c.args.index c.try_from.result c.alias_type.result held covers priced (positive c.args.out c.if-out-eq0.false) c.requires.named c.in-Ok.is c.try_from.ensures c.ranges.index.fits c.alias_type.ensures.step c.alias_type.ensures.too_large

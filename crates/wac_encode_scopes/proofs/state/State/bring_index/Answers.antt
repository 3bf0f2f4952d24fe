use Rattle.std.proofs.Common.{refl, subst, ap}
use Rattle.wac_encode_stacks.specs.Scopes.{at_type, Open}
use Rattle.wac_encode_stacks.specs.private.Parts.{IsReached}
use Rattle.wac_encode_scopes.specs.States.{stack}
use Rattle.wac_encode_scopes.proofs.Outward.{positive}
use Rattle.wac_encode_scopes.proofs.Stepped.{on-ok, both-ok, goes-none, all-none, all-here, resource-here, goes-brought-from, resource-brought-from, tried}
use Rattle.wac_encode_scopes.proofs.Calls.{too-far, bring-here}
use Rattle.wac_encode_scopes.proofs.Paying.{pays-nothing}
use Rattle.wac_types_shapes.specs.declared.shapes.component.«Type».{«Type» as AnyType}
use Rattle.wac_encode_scopes.proofs.state.State.bring_index.Goals as goal

pub returns-then-out-eq0-clause-goes : goal.returns-then-out-eq0-clause-goes
returns-then-out-eq0-clause-goes c = goes-none c.still_law.ensures c.args.merged c.args.self.now

pub returns-then-out-eq0-clause-is : goal.returns-then-out-eq0-clause-is
returns-then-out-eq0-clause-is c = resource-here c.inside_law.ensures.has_index_here c.args.merged c.args.self.now c.args.resource c.args.index (subst (λ k. IsReached (stack c.args.merged c.args.self.now) c.args.resource k (at_type c.args.index)) c.if-out-eq0.true c.requires)

pub returns-then-out-eq0-clause-types : goal.returns-then-out-eq0-clause-types
returns-then-out-eq0-clause-types c = all-none c.args.self.now

pub returns-in_default-clause-types : goal.returns-in_default-clause-types
returns-in_default-clause-types c = all-none c.args.self.now

pub returns-clause-types : goal.returns-clause-types
returns-clause-types c = all-here c.args.self.now c.alias_resource.new.self c.alias_resource.ensures.types

pub returns-clause-goes : goal.returns-clause-goes
returns-clause-goes c = on-ok c.alias_resource.result (λ h. goes-brought-from c.inside_law.ensures.has_index_around c.args.merged c.args.self.now c.alias_resource.new.self c.args.resource c.args.out c.in-Ok.count c.args.index (positive c.args.out c.if-out-eq0.false) (tried _ c.try_from.result c.in-Ok.count c.args.out c.in-Ok.is c.try_from.ensures) c.requires h c.alias_resource.ensures.types) c.alias_resource.ensures.step

pub returns-clause-is : goal.returns-clause-is
returns-clause-is c = both-ok c.alias_resource.result (λ i is h. resource-brought-from c.inside_law.ensures.has_index_here c.args.merged c.args.self.now c.alias_resource.new.self c.args.resource c.in-Ok.count c.args.index i is h) c.alias_resource.ensures.index c.alias_resource.ensures.step

pub returns-then-out-eq0-clause-paid : goal.returns-then-out-eq0-clause-paid
returns-then-out-eq0-clause-paid c d own ts covers priced = pays-nothing d c.args.merged ts c.args.self.now

pub returns-in_default-clause-paid : goal.returns-in_default-clause-paid
returns-in_default-clause-paid c d own ts covers priced = too-far d c.args.merged ts c.args.self.now c.args.resource (at_type c.args.index) c.args.out c.try_from.result c.requires c.in_default.not-Ok c.try_from.ensures

pub returns-clause-paid : goal.returns-clause-paid
returns-clause-paid c d own ts covers priced =
    bring-here c.size_law.ensures.fits d c.args.merged ts c.args.self.now c.alias_resource.new.self c.args.resource (at_type c.args.index) c.args.out c.in-Ok.count c.args.index c.try_from.result c.alias_resource.result own covers priced (positive c.args.out c.if-out-eq0.false) c.requires c.in-Ok.is c.try_from.ensures c.ranges.index.fits c.alias_resource.ensures.step c.alias_resource.ensures.too_large

pub returns-clause-kept : goal.returns-clause-kept
returns-clause-kept c = on-ok c.alias_resource.result (λ h (a : AnyType). ap (λ (o : Open). o.types a) h.0) c.alias_resource.ensures.step

pub returns-then-out-eq0-clause-kept : goal.returns-then-out-eq0-clause-kept
returns-then-out-eq0-clause-kept c a = refl

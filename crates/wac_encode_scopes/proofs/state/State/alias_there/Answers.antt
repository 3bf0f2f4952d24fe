use Rattle.std.proofs.Common.{◌-◌, refl, sym, subst, ◌∙◌, arith, length}
use Rattle.std.proofs.lemmas.Option.{slice_get_read}
use Rattle.wac_encode_stacks.specs.Scopes.{at_export}
use Rattle.wac_encode_scopes.specs.Books.{opened}
use Rattle.wac_encode_scopes.specs.private.Steps.{StateChanges, IsExported, settled}
use Rattle.wac_encode_scopes.proofs.Outward.{positive, reached-within, reached-there, next-there}
use Rattle.wac_encode_scopes.proofs.Stepped.{on-ok, if-ok, here-changes, around-changes, all-here, all-set}
use Rattle.wac_encode_scopes.proofs.Calls.{settle-here, settle-around}
use Rattle.wac_encode_stacks.specs.private.Parts.{IsReached}
use Rattle.wac_encode_scopes.specs.States.{stack}
use Rattle.wac_encode_scopes.proofs.state.State.alias_there.Goals as goal

pub returns-then-out-eq0-clause-step : goal.returns-then-out-eq0-clause-step
returns-then-out-eq0-clause-step c = on-ok c.settle_resource.result (λ h. subst (λ k. StateChanges c.args.merged k (settled c.args.resource) c.args.self.now (record c.args.self.now { here = c.settle_resource.new.self })) (sym c.if-out-eq0.true) (here-changes c.args.merged (settled c.args.resource) c.args.self.now c.settle_resource.new.self h)) c.settle_resource.ensures.step

pub returns-then-out-eq0-clause-types : goal.returns-then-out-eq0-clause-types
returns-then-out-eq0-clause-types c = all-here c.args.self.now c.settle_resource.new.self c.settle_resource.ensures.types

pub overflow_sub-at : goal.overflow_sub-at
overflow_sub-at c =
    let is = c.len.ensures in
    let within = reached-within c.args.merged (opened c.args.merged c.args.self.now.here) c.args.self.now.around.items c.args.resource c.args.out (at_export c.requires.0 c.requires.1) c.requires.2 in
    omega (arith, is, within)

pub settle_resource-requires-2 : goal.settle_resource-requires-2
settle_resource-requires-2 c =
    let ss = c.args.self.now.around.items in
    let out = positive c.args.out c.if-out-eq0.false in
    let is = c.len.ensures in
    let within = reached-within c.args.merged (opened c.args.merged c.args.self.now.here) ss c.args.resource c.args.out (at_export c.requires.0 c.requires.1) c.requires.2 in
    let at = slice_get_read ss (length ss) (c.len.result - c.args.out) c.index_mut.result.now refl (omega (arith, out, is, within)) c.index_mut.ensures.value in
    subst IsExported (sym (reached-there c.args.merged ss (c.len.result - c.args.out) c.args.out c.index_mut.result.now (opened c.args.merged c.args.self.now.here) c.args.resource (at_export c.requires.0 c.requires.1) out (omega (arith, is, within)) at c.requires.2)) tt

pub returns-clause-index : goal.returns-clause-index
returns-clause-index c =
    let ss = c.args.self.now.around.items in
    let out = positive c.args.out c.if-out-eq0.false in
    let is = c.len.ensures in
    let within = reached-within c.args.merged (opened c.args.merged c.args.self.now.here) ss c.args.resource c.args.out (at_export c.requires.0 c.requires.1) c.requires.2 in
    let at = slice_get_read ss (length ss) (c.len.result - c.args.out) c.index_mut.result.now refl (omega (arith, out, is, within)) c.index_mut.ensures.value in
    if-ok c.settle_resource-2.result (λ i h. h ∙ next-there c.args.merged ss (c.len.result - c.args.out) c.args.out c.index_mut.result.now (opened c.args.merged c.args.self.now.here) out (omega (arith, is, within)) at) c.settle_resource-2.ensures.index

pub returns-clause-step : goal.returns-clause-step
returns-clause-step c =
    let ss = c.args.self.now.around.items in
    let out = positive c.args.out c.if-out-eq0.false in
    let is = c.len.ensures in
    let within = reached-within c.args.merged (opened c.args.merged c.args.self.now.here) ss c.args.resource c.args.out (at_export c.requires.0 c.requires.1) c.requires.2 in
    let at = slice_get_read ss (length ss) (c.len.result - c.args.out) c.index_mut.result.now refl (omega (arith, out, is, within)) c.index_mut.ensures.value in
    on-ok c.settle_resource-2.result (λ h. around-changes c.args.merged (settled c.args.resource) c.args.self.now.here ss (c.len.result - c.args.out) c.args.out c.index_mut.result.now c.settle_resource-2.new.self out (omega (arith, is, within)) at h) c.settle_resource-2.ensures.step

pub returns-clause-types : goal.returns-clause-types
returns-clause-types c =
    let ss = c.args.self.now.around.items in
    let out = positive c.args.out c.if-out-eq0.false in
    let is = c.len.ensures in
    let within = reached-within c.args.merged (opened c.args.merged c.args.self.now.here) ss c.args.resource c.args.out (at_export c.requires.0 c.requires.1) c.requires.2 in
    let at = slice_get_read ss (length ss) (c.len.result - c.args.out) c.index_mut.result.now refl (omega (arith, out, is, within)) c.index_mut.ensures.value in
    all-set c.args.self.now.here ss (c.len.result - c.args.out) c.index_mut.result.now c.settle_resource-2.new.self at c.settle_resource-2.ensures.types

pub returns-then-out-eq0-clause-paid : goal.returns-then-out-eq0-clause-paid
returns-then-out-eq0-clause-paid c d own ts covers priced =
    settle-here c.size_law.ensures.fits d c.args.merged ts c.args.self.now c.settle_resource.new.self c.args.resource c.requires.0 c.requires.1 c.settle_resource.result own covers
    (subst (λ k. IsReached (stack c.args.merged c.args.self.now) c.args.resource k (at_export c.requires.0 c.requires.1)) c.if-out-eq0.true c.requires.2) c.settle_resource.ensures.small c.settle_resource.ensures.step c.settle_resource.ensures.too_large

pub returns-clause-paid : goal.returns-clause-paid
returns-clause-paid c d own ts covers priced =
    let ss = c.args.self.now.around.items in
    let out = positive c.args.out c.if-out-eq0.false in
    let is = c.len.ensures in
    let within = reached-within c.args.merged (opened c.args.merged c.args.self.now.here) ss c.args.resource c.args.out (at_export c.requires.0 c.requires.1) c.requires.2 in
    let at = slice_get_read ss (length ss) (c.len.result - c.args.out) c.index_mut.result.now refl (omega (arith, out, is, within)) c.index_mut.ensures.value in
    settle-around c.size_law.ensures.fits d c.args.merged ts c.args.self.now _ (c.len.result - c.args.out) c.index_mut.result.now c.settle_resource-2.new.self c.args.resource c.requires.0 c.requires.1 c.settle_resource-2.result own priced (omega (arith, out, is, within)) refl at refl
    (reached-there c.args.merged ss (c.len.result - c.args.out) c.args.out c.index_mut.result.now (opened c.args.merged c.args.self.now.here) c.args.resource (at_export c.requires.0 c.requires.1) out (omega (arith, is, within)) at c.requires.2) c.settle_resource-2.ensures.small c.settle_resource-2.ensures.step c.settle_resource-2.ensures.too_large

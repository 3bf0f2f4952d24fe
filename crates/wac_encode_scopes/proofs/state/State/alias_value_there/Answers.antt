use Rattle.std.proofs.Common.{◌-◌, refl, sym, subst, ◌∙◌, arith, length}
use Rattle.std.proofs.lemmas.Option.{slice_get_read}
use Rattle.wac_encode_stacks.specs.Scopes.{at_export}
use Rattle.wac_encode_scopes.specs.Books.{opened}
use Rattle.wac_encode_scopes.specs.private.Steps.{StateChanges, IsExported, settled_value}
use Rattle.wac_encode_scopes.proofs.Outward.{positive, next-there}
use Rattle.wac_encode_scopes.specs.States.{stack, named_in, IsNamedAt}
use Rattle.wac_encode_scopes.proofs.Looked.{found-within, found-there, named-found, exported-there}
use Rattle.wac_encode_scopes.proofs.Stepped.{on-ok, if-ok, here-changes, around-changes, all-here, all-set}
use Rattle.wac_encode_scopes.proofs.Calls.{settle-value-here, settle-value-around}
use Rattle.wac_encode_scopes.proofs.state.State.alias_value_there.Goals as goal

pub returns-then-out-eq0-clause-step : goal.returns-then-out-eq0-clause-step
returns-then-out-eq0-clause-step c = on-ok c.settle_export.result (λ h. subst (λ k. StateChanges c.args.merged k (settled_value c.args.definition) c.args.self.now (record c.args.self.now { here = c.settle_export.new.self })) (sym c.if-out-eq0.true) (here-changes c.args.merged (settled_value c.args.definition) c.args.self.now c.settle_export.new.self h)) c.settle_export.ensures.step

pub returns-then-out-eq0-clause-types : goal.returns-then-out-eq0-clause-types
returns-then-out-eq0-clause-types c = all-here c.args.self.now c.settle_export.new.self c.settle_export.ensures.types

pub overflow_sub-at : goal.overflow_sub-at
overflow_sub-at c =
    let is = c.len.ensures in
    let within = found-within c.args.merged (opened c.args.merged c.args.self.now.here) c.args.self.now.around.items (named_in c.args.definition) c.args.out (at_export c.requires.0 c.requires.1) (named-found c.args.definition (stack c.args.merged c.args.self.now) c.args.out (at_export c.requires.0 c.requires.1) c.requires.2) in
    omega (arith, is, within)

pub settle_export-requires-2 : goal.settle_export-requires-2
settle_export-requires-2 c =
    let ss = c.args.self.now.around.items in
    let out = positive c.args.out c.if-out-eq0.false in
    let is = c.len.ensures in
    let within = found-within c.args.merged (opened c.args.merged c.args.self.now.here) ss (named_in c.args.definition) c.args.out (at_export c.requires.0 c.requires.1) (named-found c.args.definition (stack c.args.merged c.args.self.now) c.args.out (at_export c.requires.0 c.requires.1) c.requires.2) in
    let at = slice_get_read ss (length ss) (c.len.result - c.args.out) c.index_mut.result.now refl (omega (arith, out, is, within)) c.index_mut.ensures.value in
    subst IsExported (sym (exported-there c.args.definition (opened c.args.merged c.index_mut.result.now) c.requires.0 c.requires.1 (found-there c.args.merged ss (c.len.result - c.args.out) c.args.out c.index_mut.result.now (opened c.args.merged c.args.self.now.here) (named_in c.args.definition) (at_export c.requires.0 c.requires.1) out (omega (arith, is, within)) at (named-found c.args.definition (stack c.args.merged c.args.self.now) c.args.out (at_export c.requires.0 c.requires.1) c.requires.2)))) tt

pub returns-clause-index : goal.returns-clause-index
returns-clause-index c =
    let ss = c.args.self.now.around.items in
    let out = positive c.args.out c.if-out-eq0.false in
    let is = c.len.ensures in
    let within = found-within c.args.merged (opened c.args.merged c.args.self.now.here) ss (named_in c.args.definition) c.args.out (at_export c.requires.0 c.requires.1) (named-found c.args.definition (stack c.args.merged c.args.self.now) c.args.out (at_export c.requires.0 c.requires.1) c.requires.2) in
    let at = slice_get_read ss (length ss) (c.len.result - c.args.out) c.index_mut.result.now refl (omega (arith, out, is, within)) c.index_mut.ensures.value in
    if-ok c.settle_export-2.result (λ i h. h ∙ next-there c.args.merged ss (c.len.result - c.args.out) c.args.out c.index_mut.result.now (opened c.args.merged c.args.self.now.here) out (omega (arith, is, within)) at) c.settle_export-2.ensures.index

pub returns-clause-step : goal.returns-clause-step
returns-clause-step c =
    let ss = c.args.self.now.around.items in
    let out = positive c.args.out c.if-out-eq0.false in
    let is = c.len.ensures in
    let within = found-within c.args.merged (opened c.args.merged c.args.self.now.here) ss (named_in c.args.definition) c.args.out (at_export c.requires.0 c.requires.1) (named-found c.args.definition (stack c.args.merged c.args.self.now) c.args.out (at_export c.requires.0 c.requires.1) c.requires.2) in
    let at = slice_get_read ss (length ss) (c.len.result - c.args.out) c.index_mut.result.now refl (omega (arith, out, is, within)) c.index_mut.ensures.value in
    on-ok c.settle_export-2.result (λ h. around-changes c.args.merged (settled_value c.args.definition) c.args.self.now.here ss (c.len.result - c.args.out) c.args.out c.index_mut.result.now c.settle_export-2.new.self out (omega (arith, is, within)) at h) c.settle_export-2.ensures.step

pub returns-clause-types : goal.returns-clause-types
returns-clause-types c =
    let ss = c.args.self.now.around.items in
    let out = positive c.args.out c.if-out-eq0.false in
    let is = c.len.ensures in
    let within = found-within c.args.merged (opened c.args.merged c.args.self.now.here) ss (named_in c.args.definition) c.args.out (at_export c.requires.0 c.requires.1) (named-found c.args.definition (stack c.args.merged c.args.self.now) c.args.out (at_export c.requires.0 c.requires.1) c.requires.2) in
    let at = slice_get_read ss (length ss) (c.len.result - c.args.out) c.index_mut.result.now refl (omega (arith, out, is, within)) c.index_mut.ensures.value in
    all-set c.args.self.now.here ss (c.len.result - c.args.out) c.index_mut.result.now c.settle_export-2.new.self at c.settle_export-2.ensures.types

pub settle_export-requires : goal.settle_export-requires
settle_export-requires c = subst IsExported (sym (exported-there c.args.definition (opened c.args.merged c.args.self.now.here) c.requires.0 c.requires.1 (subst (λ k. IsNamedAt (stack c.args.merged c.args.self.now) c.args.definition k (at_export c.requires.0 c.requires.1)) c.if-out-eq0.true c.requires.2))) tt

pub returns-then-out-eq0-clause-paid : goal.returns-then-out-eq0-clause-paid
returns-then-out-eq0-clause-paid c d held ts covers priced =
    settle-value-here c.size_law.ensures.fits d c.args.merged ts c.args.self.now c.settle_export.new.self c.args.definition c.requires.0 c.requires.1 c.settle_export.result held covers
    (exported-there c.args.definition (opened c.args.merged c.args.self.now.here) c.requires.0 c.requires.1 (subst (λ k. IsNamedAt (stack c.args.merged c.args.self.now) c.args.definition k (at_export c.requires.0 c.requires.1)) c.if-out-eq0.true c.requires.2))
    c.settle_export.ensures.small c.settle_export.ensures.step c.settle_export.ensures.too_large

pub returns-clause-paid : goal.returns-clause-paid
returns-clause-paid c d held ts covers priced =
    let ss = c.args.self.now.around.items in
    let out = positive c.args.out c.if-out-eq0.false in
    let is = c.len.ensures in
    let within = found-within c.args.merged (opened c.args.merged c.args.self.now.here) ss (named_in c.args.definition) c.args.out (at_export c.requires.0 c.requires.1) (named-found c.args.definition (stack c.args.merged c.args.self.now) c.args.out (at_export c.requires.0 c.requires.1) c.requires.2) in
    let at = slice_get_read ss (length ss) (c.len.result - c.args.out) c.index_mut.result.now refl (omega (arith, out, is, within)) c.index_mut.ensures.value in
    settle-value-around c.size_law.ensures.fits d c.args.merged ts c.args.self.now _ (c.len.result - c.args.out) c.index_mut.result.now c.settle_export-2.new.self c.args.definition c.requires.0 c.requires.1 c.settle_export-2.result held priced (omega (arith, out, is, within)) refl at refl
    (exported-there c.args.definition (opened c.args.merged c.index_mut.result.now) c.requires.0 c.requires.1 (found-there c.args.merged ss (c.len.result - c.args.out) c.args.out c.index_mut.result.now (opened c.args.merged c.args.self.now.here) (named_in c.args.definition) (at_export c.requires.0 c.requires.1) out (omega (arith, is, within)) at (named-found c.args.definition (stack c.args.merged c.args.self.now) c.args.out (at_export c.requires.0 c.requires.1) c.requires.2)))
    c.settle_export-2.ensures.small c.settle_export-2.ensures.step c.settle_export-2.ensures.too_large

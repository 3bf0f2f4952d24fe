use Rattle.std.proofs.Common.{◌≡◌, ◌<◌, ℕ, List, length, Option, Some, None, get_or, sym, ap, ◌∙◌, refl, arith}
use Rattle.std.proofs.lemmas.Option.{slice_get_read}
use Rattle.wac_types_shapes.specs.primitives.Tree.{Leaf}
use Rattle.wac_types_shapes.specs.declared.shapes.component.ResourceId.{ResourceId}
use Rattle.wac_merge_classes.specs.declared.entries.outward.Outward.{Outward}
use Rattle.wac_merge_classes.proofs.lemmas.entries.Lists.{some-at}
use Rattle.wac_merge_classes.proofs.lemmas.entries.Ways.{at-one, through, nowhere, read-at, earlier, to-binding, to-outermost, to-beyond, near-out, behind-below}
use Rattle.wac_merge_classes.proofs.entries.outward.way_out.Goals as goal

pub returns-in_err-parent : goal.returns-in_err-parent
returns-in_err-parent c =
    let ss = c.args.scopes.now in
    let bs = c.args.bound.now in
    at-one ss bs c.args.position c.scope.result c.from_residual.result c.scope.ensures (nowhere ss bs c.scope.result.parent c.from_residual.result (cc) c.from_residual.ensures)

pub overflow_add-result : goal.overflow_add-result
overflow_add-result c =
    let ss = c.args.scopes.now in
    let bs = c.args.bound.now in
    let p : ℕ = c.in_ok-parent.parent in
    let next : Outward = c.in-Some.next in
    let way : get_or c.args.outward.now p None ≡ Some next = c.in-Some.is in
    let inside : c.scope.result.parent ≡ Some p = cc in
    let below = earlier ss bs c.requires.around c.args.position p c.scope.result c.scope.ensures inside in
    let (t, there) = some-at ss p (omega (arith, below, c.requires.within)) in
    let known : p < length c.args.outward.now = omega (arith, below, c.requires.known) in
    let leads = c.requires.ways p t (Some next) there (read-at c.args.outward.now p None known ∙ ap (λ (o : Option Outward). Some o) way) in
    let near = near-out ss bs c.requires.around t.parent (Some next) leads next refl in
    let further = behind-below p t.parent (c.requires.around p t there) in
    omega (arith, near.near, further, below, c.ranges.position.fits)

pub returns-in-Some : goal.returns-in-Some
returns-in-Some c =
    let ss = c.args.scopes.now in
    let bs = c.args.bound.now in
    let p : ℕ = c.in_ok-parent.parent in
    let next : Outward = c.in-Some.next in
    let way : get_or c.args.outward.now p None ≡ Some next = c.in-Some.is in
    let inside : c.scope.result.parent ≡ Some p = cc in
    let below = earlier ss bs c.requires.around c.args.position p c.scope.result c.scope.ensures inside in
    let (t, there) = some-at ss p (omega (arith, below, c.requires.within)) in
    let known : p < length c.args.outward.now = omega (arith, below, c.requires.known) in
    let b : List (ResourceId × Leaf) = c.index-bound-parent.result in
    let within : p < length bs = omega (arith, below, c.requires.within, c.requires.counted) in
    let none : length b ≡ 0 = sym c.len.ensures ∙ c.if-len-eq0.true in
    through ss bs c.args.position p c.scope.result _ c.scope.ensures inside
    (to-beyond ss bs c.args.outward.now c.requires.ways p t b next there (slice_get_read bs (length bs) p b refl within c.index-bound-parent.is) none (read-at c.args.outward.now p None known ∙ ap (λ (o : Option Outward). Some o) way))

pub returns-in_default : goal.returns-in_default
returns-in_default c =
    let ss = c.args.scopes.now in
    let bs = c.args.bound.now in
    let p : ℕ = c.in_ok-parent.parent in
    let inside : c.scope.result.parent ≡ Some p = cc in
    let below = earlier ss bs c.requires.around c.args.position p c.scope.result c.scope.ensures inside in
    let b : List (ResourceId × Leaf) = c.index-bound-parent.result in
    let within : p < length bs = omega (arith, below, c.requires.within, c.requires.counted) in
    through ss bs c.args.position p c.scope.result _ c.scope.ensures inside
    (to-binding ss bs p b (slice_get_read bs (length bs) p b refl within c.index-bound-parent.is) (λ none. c.if-len-eq0.false (c.len.ensures ∙ none)))

pub returns-in_default-2 : goal.returns-in_default-2
returns-in_default-2 c =
    let ss = c.args.scopes.now in
    let bs = c.args.bound.now in
    let p : ℕ = c.in_ok-parent.parent in
    let way : get_or c.args.outward.now p None ≡ None = c.in_default.is in
    let inside : c.scope.result.parent ≡ Some p = cc in
    let below = earlier ss bs c.requires.around c.args.position p c.scope.result c.scope.ensures inside in
    let known : p < length c.args.outward.now = omega (arith, below, c.requires.known) in
    through ss bs c.args.position p c.scope.result _ c.scope.ensures inside
    (to-outermost ss bs c.args.outward.now c.requires.ways p (read-at c.args.outward.now p None known ∙ ap (λ (o : Option Outward). Some o) way))

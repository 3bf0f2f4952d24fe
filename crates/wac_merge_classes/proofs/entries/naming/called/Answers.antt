use Rattle.std.proofs.Common.{◌≡◌, ℕ, ◌<◌, length, Option, Some, None, get_or, refl, sym, ap, ◌∙◌, subst, arith}
use Rattle.wac_types_collection.specs.subtyping.Called.{bound_at}
use Rattle.wac_types_shapes.specs.declared.shapes.component.ResourceId.{ResourceId}
use Rattle.wac_types_collection.specs.subtyping.CalledViews.{side_view, path_view}
use Rattle.wac_merge_classes.specs.entries.Classes.{by_names, is_instance}
use Rattle.wac_merge_classes.specs.entries.Scopes.{binds, called_in, called_in_root}
use Rattle.wac_merge_classes.specs.entries.Places.{place_view}
use Rattle.wac_merge_classes.specs.private.entries.Walking.{past}
use Rattle.wac_merge_classes.specs.declared.entries.outward.Outward.{Outward}
use Rattle.wac_merge_classes.proofs.lemmas.entries.Ways.{read-at, ends, near-out, behind-below}
use Rattle.wac_merge_classes.proofs.lemmas.entries.Lists.{some-at}
use Rattle.wac_merge_classes.proofs.lemmas.entries.Walking.{resolved-held, walk-out, walk-nearer, walk-bound, walk-past, bound-at, if-ok}
use Rattle.wac_merge_classes.proofs.entries.naming.called.Goals as goal

pub own_name-requires : goal.own_name-requires
own_name-requires c =
    subst (λ x. x.0 < length c.args.types.now.resources) (sym c.resolve_resource-resource.ensures.end) (resolved-held c.args.types.now c.law.ensures c.args.resource c.requires.held)

pub returns-in-Some : goal.returns-in-Some
returns-in-Some c = λ es name are at.
    let t = c.args.types.now in
    let ss = c.args.around.now.scopes.now in
    let n = c.walk.position in
    let r : ResourceId = c.resolve_resource-resource.result in
    let within : n < length ss = omega (arith, c.walk.invariant.near, c.requires.within) in
    let s = some-at ss n within in
    let h : binds t s.0.opener r ≡ Some (place_view c.in-Some.place.now) = bound-at t ss c.args.around.now.bound.now c.requires.bound n s.0 c.index-bound-position.result r s.1 c.index-bound-position.is ∙ sym c.in-Some.ensures in
    let walked = walk-bound t r c.args.around.now.kind ss c.requires.scopes c.args.scope c.walk.out n s.0 s.1 c.walk.invariant es name (side_view c.in-Some.place.now.side) (path_view c.in-Some.place.now.path.items) h in
    let path : path_view c.in_ok-path.path.items ≡ path_view c.in-Some.place.now.path.items = c.in_ok-path.ensures ∙ ap path_view c.as_slice.ensures.value in
    ap (λ q. called_in t (called_in_root by_names t es name c.args.around.now.kind) ss c.args.scope q) (sym c.resolve_resource-resource.ensures.end)
    ∙ (walked ∙ (λ i. Some (bound_at (record { out = c.walk.out; side = side_view c.in-Some.place.now.side; path = sym path i }) (sym c.in_ok-name.ensures i))))

pub past_scopes-requires : goal.past_scopes-requires
past_scopes-requires c =
    subst (λ x. x.0 < length c.args.types.now.resources) (sym c.resolve_resource-resource.ensures.end) (resolved-held c.args.types.now c.law.ensures c.args.resource c.requires.held)

pub returns-in_default-outward : goal.returns-in_default-outward
returns-in_default-outward c =
    let t = c.args.types.now in
    let ss = c.args.around.now.scopes.now in
    let ws = c.args.around.now.outward.now in
    let n : ℕ = c.walk.position in
    let r : ResourceId = c.resolve_resource-resource.result in
    let within : n < length ss = omega (arith, c.walk.invariant.near, c.requires.within) in
    let (s, at) = some-at ss n within in
    let none : binds t s.opener r ≡ None = bound-at t ss c.args.around.now.bound.now c.requires.bound n s c.index-bound-position.result r at c.index-bound-position.is ∙ sym c.in_default.ensures in
    let way : get_or ws n None ≡ None = c.in_default-outward.is in
    let known : n < length ws = omega (arith, within, c.requires.outward.counted) in
    let alone = ends ss c.args.around.now.bound.now s.parent None (c.requires.outward.ways n s None at (read-at ws n None known ∙ ap (λ (o : Option Outward). Some o) way)) refl in
    if-ok c.past_scopes.result
    (λ x is es name are class.
    let walked = walk-past t r c.args.around.now.kind ss c.requires.scopes c.args.scope c.walk.out n s at c.walk.invariant es name alone none in
    ap (λ q. called_in t (called_in_root by_names t es name c.args.around.now.kind) ss c.args.scope q) (sym c.resolve_resource-resource.ensures.end)
    ∙ (walked ∙ ap (λ y. Some y) (sym (is ∙ (λ i. past t r (is_instance c.args.around.now.kind) c.walk.out (are.paths c.args.class name r class i) (are.firsts r i))))))
    c.past_scopes.ensures

pub overflow_add-out : goal.overflow_add-out
overflow_add-out c =
    let t = c.args.types.now in
    let ss = c.args.around.now.scopes.now in
    let ws = c.args.around.now.outward.now in
    let n : ℕ = c.walk.position in
    let next : Outward = c.in-Some-outward.next in
    let within : n < length ss = omega (arith, c.walk.invariant.near, c.requires.within) in
    let (s, at) = some-at ss n within in
    let way : get_or ws n None ≡ Some next = c.in-Some-outward.is in
    let known : n < length ws = omega (arith, within, c.requires.outward.counted) in
    let leads = c.requires.outward.ways n s (Some next) at (read-at ws n None known ∙ ap (λ (o : Option Outward). Some o) way) in
    let near = near-out ss c.args.around.now.bound.now c.requires.scopes.around s.parent (Some next) leads next refl in
    let below = behind-below n s.parent (c.requires.scopes.around n s at) in
    omega (arith, near.near, below, c.walk.invariant.near, c.requires.within, c.ranges.scope.fits)

pub walk-smaller : goal.walk-smaller
walk-smaller c =
    let t = c.args.types.now in
    let ss = c.args.around.now.scopes.now in
    let ws = c.args.around.now.outward.now in
    let n : ℕ = c.walk.position in
    let r : ResourceId = c.resolve_resource-resource.result in
    let next : Outward = c.in-Some-outward.next in
    let within : n < length ss = omega (arith, c.walk.invariant.near, c.requires.within) in
    let (s, at) = some-at ss n within in
    let way : get_or ws n None ≡ Some next = c.in-Some-outward.is in
    let known : n < length ws = omega (arith, within, c.requires.outward.counted) in
    let leads = c.requires.outward.ways n s (Some next) at (read-at ws n None known ∙ ap (λ (o : Option Outward). Some o) way) in
    walk-nearer t r c.args.around.now.kind ss c.requires.scopes c.args.scope c.walk.out n s at c.walk.invariant c.args.around.now.bound.now next leads

pub walk-preserved : goal.walk-preserved
walk-preserved c =
    let t = c.args.types.now in
    let ss = c.args.around.now.scopes.now in
    let ws = c.args.around.now.outward.now in
    let n : ℕ = c.walk.position in
    let r : ResourceId = c.resolve_resource-resource.result in
    let next : Outward = c.in-Some-outward.next in
    let within : n < length ss = omega (arith, c.walk.invariant.near, c.requires.within) in
    let (s, at) = some-at ss n within in
    let none : binds t s.opener r ≡ None = bound-at t ss c.args.around.now.bound.now c.requires.bound n s c.index-bound-position.result r at c.index-bound-position.is ∙ sym c.in_default.ensures in
    let way : get_or ws n None ≡ Some next = c.in-Some-outward.is in
    let known : n < length ws = omega (arith, within, c.requires.outward.counted) in
    let leads = c.requires.outward.ways n s (Some next) at (read-at ws n None known ∙ ap (λ (o : Option Outward). Some o) way) in
    walk-out t r c.args.around.now.kind ss c.requires.scopes c.args.scope c.walk.out n s at c.walk.invariant c.args.around.now.bound.now next c.requires.bound leads none

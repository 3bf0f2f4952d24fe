use Rattle.std.proofs.Common.{◌≡◌, ◌<◌, ℕ, length, Option, Some, None, get_or, sym, ap, ◌∙◌, subst, refl, arith}
use Rattle.std.proofs.lemmas.Option.{slice_get-get_or}
use Rattle.wac_merge_classes.specs.terms.Became.{became, new_at, or_itself}
use Rattle.wac_types_collection.specs.subtyping.CalledViews.{path_view}
use Rattle.wac_merge_classes.specs.entries.Places.{find_resource, place_view}
use Rattle.wac_merge_classes.specs.terms.Unions.{IsPart}
use Rattle.wac_merge_resources.specs.private.renaming.Ways.{LeadsOut}
use Rattle.wac_merge_resources.proofs.lemmas.renaming.BecameWalks.{around-bound, around-past, around-start, itself-or, no-part}
use Rattle.wac_merge_resources.proofs.lemmas.renaming.Ways.{around-way, ends, way-below}
use Rattle.wac_merge_resources.proofs.renaming.became.Became.resource.Goals as goal

pub outward-init : goal.outward-init
outward-init c =
    let b = c.args.self.now in
    around-start c.args.types.now b.parts.now b.bound.now b.bindings.now b.fresh.now c.requires.bound c.in-Some.start c.resolve_resource-resource.result
    (subst (IsPart b.parts.now) c.in-Some.is c.requires.within)

pub returns-in-Some-place : goal.returns-in-Some-place
returns-in-Some-place c =
    let t = c.args.types.now in
    let b = c.args.self.now in
    let r = c.resolve_resource-resource.result in
    let x = get_or b.parts.now c.outward.position no-part in
    let found : find_resource c.index-self-position.result r ≡ Some (place_view c.in-Some-place.place.now) = ap (λ y. find_resource y r) c.index-self-position.is ∙ sym c.in-Some-place.ensures in
    c.unwrap_or.ensures
    ∙ itself-or c.at.result r
    ∙ ap (or_itself r) (c.at.ensures ∙ ap (λ path. new_at b.fresh.now x.union (path_view path)) c.as_slice-path.ensures.value)
    ∙ sym (around-bound t b.parts.now b.bound.now b.bindings.now b.fresh.now c.requires.bound c.in-Some.start c.outward.position r x c.index-self-position.result
    (slice_get-get_or b.parts.now c.outward.position no-part c.outward.invariant.near) c.index-self-position.is c.outward.invariant c.in-Some-place.place.now found)
    ∙ (λ i. became t b.parts.now b.bindings.now b.fresh.now (sym c.in-Some.is i) (c.resolve_resource-resource.ensures.end i))

pub returns-in_default-outward : goal.returns-in_default-outward
returns-in_default-outward c =
    let t = c.args.types.now in
    let b = c.args.self.now in
    let r = c.resolve_resource-resource.result in
    let x = get_or b.parts.now c.outward.position no-part in
    let at = slice_get-get_or b.parts.now c.outward.position no-part c.outward.invariant.near in
    let known : c.outward.position < length b.outward.now = omega (arith, c.requires.outward.counted, c.outward.invariant.near) in
    let leads : LeadsOut b.parts.now b.bound.now x.outer None = c.requires.outward.ways c.outward.position x None at (slice_get-get_or b.outward.now c.outward.position None known ∙ ap (λ (o : Option ℕ). Some o) c.in_default-outward.is) in
    c.in_class.ensures
    ∙ sym (around-past t b.parts.now b.bound.now b.bindings.now b.fresh.now c.requires.bound c.in-Some.start c.outward.position r x c.index-self-position.result
    at c.index-self-position.is c.outward.invariant (ends b.parts.now b.bound.now x.outer None leads refl) (ap (λ y. find_resource y r) c.index-self-position.is ∙ sym c.in_default-place.ensures))
    ∙ (λ i. became t b.parts.now b.bindings.now b.fresh.now (sym c.in-Some.is i) (c.resolve_resource-resource.ensures.end i))

pub outward-smaller : goal.outward-smaller
outward-smaller c =
    let b = c.args.self.now in
    let x = get_or b.parts.now c.outward.position no-part in
    let at = slice_get-get_or b.parts.now c.outward.position no-part c.outward.invariant.near in
    let outer : ℕ = c.in-Some-outward.outer in
    let known : c.outward.position < length b.outward.now = omega (arith, c.requires.outward.counted, c.outward.invariant.near) in
    let leads : LeadsOut b.parts.now b.bound.now x.outer (Some outer) = c.requires.outward.ways c.outward.position x (Some outer) at (slice_get-get_or b.outward.now c.outward.position None known ∙ ap (λ (o : Option ℕ). Some o) c.in-Some-outward.is) in
    way-below b.parts.now b.bound.now c.requires.around x.outer (Some outer) leads c.outward.position (λ p inside. c.requires.around c.outward.position p x at inside) outer refl

pub outward-preserved : goal.outward-preserved
outward-preserved c =
    let b = c.args.self.now in
    let r = c.resolve_resource-resource.result in
    let x = get_or b.parts.now c.outward.position no-part in
    let at = slice_get-get_or b.parts.now c.outward.position no-part c.outward.invariant.near in
    let outer : ℕ = c.in-Some-outward.outer in
    let known : c.outward.position < length b.outward.now = omega (arith, c.requires.outward.counted, c.outward.invariant.near) in
    let leads : LeadsOut b.parts.now b.bound.now x.outer (Some outer) = c.requires.outward.ways c.outward.position x (Some outer) at (slice_get-get_or b.outward.now c.outward.position None known ∙ ap (λ (o : Option ℕ). Some o) c.in-Some-outward.is) in
    around-way b.parts.now b.bound.now c.requires.around c.args.types.now b.bindings.now b.fresh.now c.requires.bound c.in-Some.start r x.outer (Some outer) leads c.outward.position x c.index-self-position.result
    at c.index-self-position.is c.outward.invariant refl (ap (λ y. find_resource y r) c.index-self-position.is ∙ sym c.in_default-place.ensures) outer refl

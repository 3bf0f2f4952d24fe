use Rattle.std.proofs.Common.{◌≡◌, ◌<◌, ℕ, List, length, Option, Some, None, get_or, sym, ap, ◌∙◌, refl, arith}
use Rattle.std.proofs.lemmas.Option.{slice_get-get_or, slice_get_read}
use Rattle.wac_types_shapes.specs.primitives.Tree.{Leaf}
use Rattle.wac_types_shapes.specs.declared.shapes.component.ResourceId.{ResourceId}
use Rattle.wac_merge_classes.specs.declared.terms.parts.Part.{Part}
use Rattle.wac_merge_classes.proofs.lemmas.entries.Lists.{some-at}
use Rattle.wac_merge_resources.proofs.lemmas.renaming.BecameWalks.{no-part}
use Rattle.wac_merge_resources.proofs.lemmas.renaming.Ways.{at-one, through, nowhere, to-binding, to-outermost, to-beyond}
use Rattle.wac_merge_resources.proofs.renaming.outward.way_out.Goals as goal

pub returns-in_default : goal.returns-in_default
returns-in_default c =
    let ps = c.args.parts.now in
    let bounds = c.args.bound.now in
    let x : Part = get_or ps c.args.position no-part in
    at-one ps bounds c.args.position x None (slice_get-get_or ps c.args.position no-part c.requires.within) (nowhere ps bounds x.outer None c.in_default.is refl)

pub returns-in-Some-outward : goal.returns-in-Some-outward
returns-in-Some-outward c =
    let ps = c.args.parts.now in
    let bounds = c.args.bound.now in
    let ws = c.args.outward.now in
    let p : ℕ = c.in-Some.outer in
    let next : ℕ = c.in-Some-outward.next in
    let way : get_or ws p None ≡ Some next = c.in-Some-outward.is in
    let x : Part = get_or ps c.args.position no-part in
    let at = slice_get-get_or ps c.args.position no-part c.requires.within in
    let inside : x.outer ≡ Some p = c.in-Some.is in
    let below : p < c.args.position = c.requires.around c.args.position p x at inside in
    let (y, there) = some-at ps p (omega (arith, below, c.requires.within)) in
    let known : p < length ws = omega (arith, below, c.requires.known) in
    let b : List (ResourceId × Leaf) = c.index-bound-outer.result in
    let within : p < length bounds = omega (arith, below, c.requires.within, c.requires.counted) in
    let none : length b ≡ 0 = sym c.len.ensures ∙ c.if-len-eq0.true in
    through ps bounds c.args.position p x (Some next) at inside
    (to-beyond ps bounds ws c.requires.ways p y b next there (slice_get_read bounds (length bounds) p b refl within c.index-bound-outer.is) none (slice_get-get_or ws p None known ∙ ap (λ (o : Option ℕ). Some o) way))

pub returns-in_default-outward : goal.returns-in_default-outward
returns-in_default-outward c =
    let ps = c.args.parts.now in
    let bounds = c.args.bound.now in
    let p : ℕ = c.in-Some.outer in
    let x : Part = get_or ps c.args.position no-part in
    let at = slice_get-get_or ps c.args.position no-part c.requires.within in
    let inside : x.outer ≡ Some p = c.in-Some.is in
    let below : p < c.args.position = c.requires.around c.args.position p x at inside in
    let b : List (ResourceId × Leaf) = c.index-bound-outer.result in
    let within : p < length bounds = omega (arith, below, c.requires.within, c.requires.counted) in
    through ps bounds c.args.position p x (Some p) at inside
    (to-binding ps bounds p b (slice_get_read bounds (length bounds) p b refl within c.index-bound-outer.is) (λ none. c.if-len-eq0.false (c.len.ensures ∙ none)))

pub returns-in_default-outward-2 : goal.returns-in_default-outward-2
returns-in_default-outward-2 c =
    let ps = c.args.parts.now in
    let bounds = c.args.bound.now in
    let ws = c.args.outward.now in
    let p : ℕ = c.in-Some.outer in
    let way : get_or ws p None ≡ None = c.in_default-outward.is in
    let x : Part = get_or ps c.args.position no-part in
    let at = slice_get-get_or ps c.args.position no-part c.requires.within in
    let inside : x.outer ≡ Some p = c.in-Some.is in
    let below : p < c.args.position = c.requires.around c.args.position p x at inside in
    let known : p < length ws = omega (arith, below, c.requires.known) in
    through ps bounds c.args.position p x (Some p) at inside
    (to-outermost ps bounds ws c.requires.ways p (slice_get-get_or ws p None known ∙ ap (λ (o : Option ℕ). Some o) way))

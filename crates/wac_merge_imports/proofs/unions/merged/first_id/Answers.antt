use Rattle.std.proofs.Common.{◌≡◌, ℕ, List, [], ◌∷◌, Some, None, slice_get, length, refl, sym, ap, ◌∙◌, arith}
use Rattle.std.proofs.lemmas.Option.{slice_get_read, slice_get_within}
use Rattle.wac_types_shapes.specs.primitives.Name.{option_case}
use Rattle.wac_types_collection.specs.collection.Collection.{Collection, item_at}
use Rattle.wac_types_shapes.specs.declared.shapes.component.Interface.{Interface}
use Rattle.wac_merge_imports.specs.unions.MergedClasses.{first_id}
use Rattle.wac_merge_classes.specs.declared.terms.parts.Part.{Part}
use Rattle.wac_merge_classes.specs.declared.terms.parts.Union.{Union}
use Rattle.wac_merge_classes.proofs.lemmas.terms.Found.{no_some, one_some, some_same}
use Rattle.wac_merge_unions.proofs.lemmas.uniting.UnionLists.{contains_at}
use Rattle.wac_merge_imports.proofs.unions.merged.first_id.Goals as goal

-- the id of the interface of the first of some parts
first_is : (c : Collection) (ps : List Part) (xs : List ℕ) (p : ℕ) (y : Part) (it : Interface) → slice_get xs 0 ≡ Some p → slice_get ps p ≡ Some y → item_at c.interfaces y.interface.0 ≡ Some it → first_id c ps xs ≡ it.id
first_is c ps [] p y it first at there = absurd (no_some p first)
first_is c ps (q ∷ xs) p y it first at there =
    ap (λ r. first_id c ps (r ∷ xs)) (some_same q p first)
    ∙ ap (λ o. option_case o None (λ x. option_case (item_at c.interfaces x.interface.0) None (λ i. i.id))) at
    ∙ ap (λ o. option_case o None (λ i. i.id)) there

pub index-requires-2 : goal.index-requires-2
index-requires-2 c =
    let us = c.args.unions.now.unions.items in
    let x : Union = c.index.result.now in
    let p : ℕ = c.in-Some.part.now in
    let at : slice_get us c.args.position ≡ Some x = slice_get_read us (length us) c.args.position x refl (omega (arith, c.requires.within)) c.index.ensures in
    let first : slice_get x.parts.items 0 ≡ Some p = ap (λ l. slice_get l 0) (sym c.deref.ensures.value) ∙ sym c.in-Some.ensures.value in
    let (y, there, same) = (c.requires.unions).1.placed c.args.position p x at (contains_at x.parts.items 0 p first) in
    omega (arith, slice_get_within c.args.unions.now.parts.items p y there)

pub index-requires-3 : goal.index-requires-3
index-requires-3 c =
    let us = c.args.unions.now.unions.items in
    let ps = c.args.unions.now.parts.items in
    let x : Union = c.index.result.now in
    let p : ℕ = c.in-Some.part.now in
    let y : Part = c.index-2.result.now in
    let at : slice_get us c.args.position ≡ Some x = slice_get_read us (length us) c.args.position x refl (omega (arith, c.requires.within)) c.index.ensures in
    let first : slice_get x.parts.items 0 ≡ Some p = ap (λ l. slice_get l 0) (sym c.deref.ensures.value) ∙ sym c.in-Some.ensures.value in
    let (z, there, same) = (c.requires.unions).1.placed c.args.position p x at (contains_at x.parts.items 0 p first) in
    (c.requires.unions).1.held p y (slice_get_read ps (length ps) p y refl (slice_get_within ps p z there) c.index-2.ensures)

pub returns-in_ok-from_str-in-Some-id : goal.returns-in_ok-from_str-in-Some-id
returns-in_ok-from_str-in-Some-id c u here =
    let us = c.args.unions.now.unions.items in
    let ps = c.args.unions.now.parts.items in
    let x : Union = c.index.result.now in
    let p : ℕ = c.in-Some.part.now in
    let y : Part = c.index-2.result.now in
    let at : slice_get us c.args.position ≡ Some x = slice_get_read us (length us) c.args.position x refl (omega (arith, c.requires.within)) c.index.ensures in
    let first : slice_get x.parts.items 0 ≡ Some p = ap (λ l. slice_get l 0) (sym c.deref.ensures.value) ∙ sym c.in-Some.ensures.value in
    let (z, there, same) = (c.requires.unions).1.placed c.args.position p x at (contains_at x.parts.items 0 p first) in
    let part = slice_get_read ps (length ps) p y refl (slice_get_within ps p z there) c.index-2.ensures in
    ap Some (c.in_ok-from_str-in-Some-id.ensures.ok ∙ c.as_str.ensures) ∙ sym c.in-Some-id.is
    ∙ sym (first_is c.args.types.now ps x.parts.items p y c.index-3.result.now first part c.index-3.ensures)
    ∙ ap (λ (v : Union). first_id c.args.types.now ps v.parts.items) (one_some (slice_get us c.args.position) x u at here)

pub returns-in-None : goal.returns-in-None
returns-in-None c u here =
    let us = c.args.unions.now.unions.items in
    let ps = c.args.unions.now.parts.items in
    let x : Union = c.index.result.now in
    let p : ℕ = c.in-Some.part.now in
    let y : Part = c.index-2.result.now in
    let at : slice_get us c.args.position ≡ Some x = slice_get_read us (length us) c.args.position x refl (omega (arith, c.requires.within)) c.index.ensures in
    let first : slice_get x.parts.items 0 ≡ Some p = ap (λ l. slice_get l 0) (sym c.deref.ensures.value) ∙ sym c.in-Some.ensures.value in
    let (z, there, same) = (c.requires.unions).1.placed c.args.position p x at (contains_at x.parts.items 0 p first) in
    let part = slice_get_read ps (length ps) p y refl (slice_get_within ps p z there) c.index-2.ensures in
    sym c.in-None.is
    ∙ sym (first_is c.args.types.now ps x.parts.items p y c.index-3.result.now first part c.index-3.ensures)
    ∙ ap (λ (v : Union). first_id c.args.types.now ps v.parts.items) (one_some (slice_get us c.args.position) x u at here)

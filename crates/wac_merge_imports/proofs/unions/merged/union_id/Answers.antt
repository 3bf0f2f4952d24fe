use Rattle.std.proofs.Common.{◌≡◌, ℕ, zero, suc, ◌<◌, Bool, true, false, List, [], ◌∷◌, Some, slice_get, get_or, length, refl, sym, ap, ◌∙◌, subst, arith}
use Rattle.std.specs.Option.{unwrap_or}
use Rattle.std.proofs.lemmas.Option.{slice_get_read, slice_get_within, slice_get-get_or}
use Rattle.wac_types_shapes.specs.primitives.Name.{Name}
use Rattle.wac_merge_classes.specs.entries.Classes.{Entry, AreClasses, by_names, canonical, class_names}
use Rattle.wac_merge_classes.proofs.lemmas.terms.Found.{some_same}
use Rattle.wac_merge_classes.proofs.lemmas.entries.Lists.{some-at}
use Rattle.wac_merge_imports.proofs.unions.merged.union_id.Goals as goal

true-false : true ≡ false → ⊥
true-false h = cc

-- what is true where a default would be false is there
is-true : (xs : List Bool) (k : ℕ) → get_or xs k false ≡ true → slice_get xs k ≡ Some true
is-true [] k h = absurd (true-false (sym h))
is-true (x ∷ xs) zero h = ap Some h
is-true (x ∷ xs) (suc k) h = is-true xs k h

-- the entry of a class with its canonical name
entry_at : (es : List Entry) (numbers positions : List ℕ) (names : List (Name × ℕ)) → AreClasses by_names es numbers positions names → (k : ℕ) → k < length (class_names by_names es)
    → (e : Entry) × (slice_get es (get_or positions k 0) ≡ Some e) × ((class : Name) → slice_get (class_names by_names es) k ≡ Some class → e.name ≡ canonical by_names es class)
entry_at es numbers positions names a k low =
    let at : slice_get positions k ≡ Some (get_or positions k 0) = slice_get-get_or positions k 0 (omega (arith, low, a.positioned)) in
    let (class, known) = some-at (class_names by_names es) k low in
    let g = a.greatest k (get_or positions k 0) class known at in
    (g.0, g.1, λ n also. g.2 ∙ ap (canonical by_names es) (some_same class n (sym known ∙ also)))

pub bounds-entries-positions : goal.bounds-entries-positions
bounds-entries-positions c =
    let es = c.args.entries.now in
    let on : slice_get c.args.on.now c.args.position ≡ Some true = is-true c.args.on.now c.args.position (sym (c.get.ensures.lookup.4 (omega arith) false) ∙ ap (λ o. unwrap_or o false) (sym c.copied.ensures) ∙ sym c.unwrap_or.ensures ∙ c.if-not-unwrap_or.false) in
    let low : c.args.position < length (class_names by_names es) = omega (arith, slice_get_within c.args.on.now c.args.position true on, c.requires.on.0) in
    let w = entry_at es c.args.classes.now.numbers.items c.args.classes.now.positions.items c.args.classes.now.names c.requires.classes c.args.position low in
    subst (λ (l : List ℕ). get_or l c.args.position 0 < length es) (sym c.positions.ensures) (slice_get_within es (get_or c.args.classes.now.positions.items c.args.position 0) w.0 w.1)

pub offset_bounds-entries-positions : goal.offset_bounds-entries-positions
offset_bounds-entries-positions c =
    let es = c.args.entries.now in
    let on : slice_get c.args.on.now c.args.position ≡ Some true = is-true c.args.on.now c.args.position (sym (c.get.ensures.lookup.4 (omega arith) false) ∙ ap (λ o. unwrap_or o false) (sym c.copied.ensures) ∙ sym c.unwrap_or.ensures ∙ c.if-not-unwrap_or.false) in
    let low : c.args.position < length (class_names by_names es) = omega (arith, slice_get_within c.args.on.now c.args.position true on, c.requires.on.0) in
    let w = entry_at es c.args.classes.now.numbers.items c.args.classes.now.positions.items c.args.classes.now.names c.requires.classes c.args.position low in
    let within : get_or c.positions.result.now c.args.position 0 < length es = subst (λ (l : List ℕ). get_or l c.args.position 0 < length es) (sym c.positions.ensures) (slice_get_within es (get_or c.args.classes.now.positions.items c.args.position 0) w.0 w.1) in
    omega arith

pub returns : goal.returns
returns c x here =
    let es = c.args.entries.now in
    let e : Entry = c.index-entries-positions.result in
    let on : slice_get c.args.on.now c.args.position ≡ Some true = is-true c.args.on.now c.args.position (sym (c.get.ensures.lookup.4 (omega arith) false) ∙ ap (λ o. unwrap_or o false) (sym c.copied.ensures) ∙ sym c.unwrap_or.ensures ∙ c.if-not-unwrap_or.false) in
    let low : c.args.position < length (class_names by_names es) = omega (arith, slice_get_within c.args.on.now c.args.position true on, c.requires.on.0) in
    let w = entry_at es c.args.classes.now.numbers.items c.args.classes.now.positions.items c.args.classes.now.names c.requires.classes c.args.position low in
    let k : ℕ = get_or c.positions.result.now c.args.position 0 in
    let there : slice_get es k ≡ Some w.0 = ap (λ (l : List ℕ). slice_get es (get_or l c.args.position 0)) c.positions.ensures ∙ w.1 in
    let is : slice_get es k ≡ Some e = slice_get_read es (length es) k e refl (slice_get_within es k w.0 there) c.index-entries-positions.is in (
      λ class known. (
        (λ yes. ap Some (c.in_ok-from_str.ensures.ok ∙ c.name-name.ensures ∙ ap (λ (y : Entry). y.name) (some_same e w.0 (sym is ∙ there)) ∙ w.2 class known)),
        (λ no. absurd (true-false (c.requires.on.1 c.args.position class true known on ∙ no))),
      ),
      (λ high. absurd (omega (arith, high, low))),
    )

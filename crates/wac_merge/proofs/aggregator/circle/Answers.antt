use Rattle.std.proofs.Common.{◌≡◌, ℕ, ◌<◌, List, Some, slice_get, get_or, length, refl, sym, ap, ◌∙◌, subst, arith}
use Rattle.std.proofs.lemmas.Option.{slice_get_read, slice_get_within, slice_get-get_or}
use Rattle.wac_merge_classes.specs.entries.Classes.{Entry, by_names, canonical}
use Rattle.wac_merge_classes.specs.terms.Faults.{use_each_other}
use Rattle.wac_merge_classes.proofs.lemmas.entries.ClassPaths.{position-at}
use Rattle.wac_merge.proofs.FaultLemmas.{same_some}
use Rattle.wac_merge.proofs.aggregator.circle.Goals as goal

pub offset_bounds-entries-position : goal.offset_bounds-entries-position
offset_bounds-entries-position c =
    let es = c.args.entries.now in
    let k = c.args.classes.now in
    let positions : List ℕ = c.positions.result.now in
    let n : ℕ = c.args.number in
    let there : n < length positions = subst (λ (l : List ℕ). n < length l) (sym c.positions.ensures) (subst (λ m. n < m) (sym c.requires.classes.positioned) c.requires.number) in
    let at : slice_get k.positions.items n ≡ Some (get_or positions n 0) = ap (λ l. slice_get l n) (sym c.positions.ensures) ∙ slice_get-get_or positions n 0 there in
    let w = position-at es k.numbers.items k.positions.items k.names c.requires.classes n (get_or positions n 0) at in
    let within : get_or positions n 0 < length es = slice_get_within es (get_or positions n 0) w.entry w.there in
    omega arith

pub bounds-entries-position : goal.bounds-entries-position
bounds-entries-position c =
    let es = c.args.entries.now in
    let k = c.args.classes.now in
    let positions : List ℕ = c.positions.result.now in
    let n : ℕ = c.args.number in
    let within : n < length positions = subst (λ (l : List ℕ). n < length l) (sym c.positions.ensures) (subst (λ m. n < m) (sym c.requires.classes.positioned) c.requires.number) in
    let at : slice_get k.positions.items n ≡ Some (get_or positions n 0) = ap (λ l. slice_get l n) (sym c.positions.ensures) ∙ slice_get-get_or positions n 0 within in
    let w = position-at es k.numbers.items k.positions.items k.names c.requires.classes n (get_or positions n 0) at in
    slice_get_within es (get_or positions n 0) w.entry w.there

pub returns : goal.returns
returns c = λ class named.
    let es = c.args.entries.now in
    let k = c.args.classes.now in
    let positions : List ℕ = c.positions.result.now in
    let n : ℕ = c.args.number in
    let p : ℕ = get_or positions n 0 in
    let within : n < length positions = subst (λ (l : List ℕ). n < length l) (sym c.positions.ensures) (subst (λ m. n < m) (sym c.requires.classes.positioned) c.requires.number) in
    let at : slice_get k.positions.items n ≡ Some p = ap (λ l. slice_get l n) (sym c.positions.ensures) ∙ slice_get-get_or positions n 0 within in
    let w = c.requires.classes.greatest n p class named at in
    let there : slice_get es p ≡ Some c.index-entries-position.result = slice_get_read es (length es) p c.index-entries-position.result refl (slice_get_within es p w.0 w.1) c.index-entries-position.is in
    let named_so : (c.index-entries-position.result).name ≡ canonical by_names es class = ap (λ (e : Entry). e.name) (same_some (slice_get es p) c.index-entries-position.result w.0 there w.1) ∙ w.2 in
    ap (λ t. Some (use_each_other t)) (c.in_ok-import.ensures.ok ∙ (c.name.ensures ∙ named_so))

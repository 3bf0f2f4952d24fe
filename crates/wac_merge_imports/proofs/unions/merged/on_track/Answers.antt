use Rattle.std.proofs.Common.{◌≡◌, ℕ, zero, suc, Bool, ◌||◌, true, false, replicate, List, [], ◌∷◌, Some, slice_get, get_or, length, refl, sym, ap, ◌∙◌, subst, arith, add-one}
use Rattle.std.specs.List.{list_any}
use Rattle.std.proofs.Math.ListN.{length-set}
use Rattle.std.proofs.lemmas.List.{take_all}
use Rattle.std.proofs.lemmas.List.Folds.{list_any-append}
use Rattle.std.proofs.lemmas.Option.{slice_get_read, slice_get_within, slice_get-get_or}
use Rattle.wac_names.specs.declared.tracks.Track.{Track}
use Rattle.wac_types_shapes.specs.primitives.Name.{Name}
use Rattle.wac_types_collection.specs.collection.Collection.{holds_type}
use Rattle.wac_types_shapes.specs.shapes.Kinds.{kind_type}
use Rattle.wac_merge_classes.specs.entries.Classes.{Entry, by_names, class_names}
use Rattle.wac_merge_classes.specs.terms.Merge.{is_on_track}
use Rattle.wac_merge_unions.proofs.lemmas.uses.ClassFolds.{HaveFolded, folded-more}
use Rattle.wac_merge_classes.proofs.lemmas.terms.Found.{no_some, some_same}
use Rattle.wac_merge_classes.proofs.lemmas.entries.Lists.{some-at}
use Rattle.wac_merge_imports.proofs.unions.merged.on_track.Goals as goal

or-false : (b : Bool) → (b || false) ≡ b
or-false true = refl
or-false false = refl

all-false : (xs : List Bool) (n : ℕ) → xs ≡ replicate n false → (k : ℕ) (v : Bool) → slice_get xs k ≡ Some v → v ≡ false
all-false xs n is k v at = go n k (ap (λ l. slice_get l k) (sym is) ∙ at) where
  go : (n k : ℕ) → slice_get (replicate n false) k ≡ Some v → v ≡ false
  go zero k h = absurd (no_some v h)
  go (suc n) zero h = sym (some_same false v h)
  go (suc n) (suc k) h = go n k h

pub index-requires : goal.index-requires
index-requires c =
    let es = c.args.entries.now in
    let i : ℕ = c.loop-i.i in
    let k : ℕ = get_or c.numbers-numbers.result.now i 0 in
    let (e, at) = some-at es i c.loop-i-test.true in
    let number = ap (λ l. slice_get l i) (sym c.numbers-numbers.ensures) ∙ slice_get-get_or c.numbers-numbers.result.now i 0 (omega (arith, ap length c.numbers-numbers.ensures, c.requires.classes.counted)) in
    let w = c.requires.classes.numbered i k e at number in
    omega (arith, slice_get_within (class_names by_names es) k w.0 w.1, c.in_ok-tracks.ensures.counted)

pub loop-i-init : goal.loop-i-init
loop-i-init c = record {
  counted = omega (arith, c.in_ok-on.ensures.len, c.len.ensures, c.in_ok-tracks.ensures.counted);
  on = λ k n v here at. all-false c.in_ok-on.on.items _ (c.in_ok-on.ensures.items_if_clones_equal (λ x e. e)) k v at;
}

pub is_on_track-requires : goal.is_on_track-requires
is_on_track-requires c =
    let es = c.args.entries.now in
    let e : Entry = c.index-entries-i.result in
    let at : slice_get es c.loop-i.i ≡ Some e = slice_get_read es (length es) c.loop-i.i e refl c.loop-i-test.true c.index-entries-i.is in
    ap (λ k. holds_type c.args.types.now (kind_type k)) c.kind.ensures ∙ c.requires.held c.loop-i.i e at

pub loop-i-preserved : goal.loop-i-preserved
loop-i-preserved c =
    let es = c.args.entries.now in
    let t = c.args.types.now in
    let i : ℕ = c.loop-i.i in
    let numbers : List ℕ = c.args.classes.now.numbers.items in
    let k : ℕ = get_or c.numbers-numbers.result.now i 0 in
    let on : List Bool = c.loop-i.on.items in
    let e : Entry = c.index-entries-i.result in
    let track : Track = c.index.result.now in
    let old : Bool = c.index-in-loop-i.result.now in
    let is : Bool = c.in_ok-is.is' in
    let at : slice_get es i ≡ Some e = slice_get_read es (length es) i e refl c.loop-i-test.true c.index-entries-i.is in
    let number : slice_get numbers i ≡ Some k =
    ap (λ l. slice_get l i) (sym c.numbers-numbers.ensures) ∙ slice_get-get_or c.numbers-numbers.result.now i 0 (omega (arith, ap length c.numbers-numbers.ensures, c.requires.classes.counted)) in
    let w = c.requires.classes.numbered i k e at number in
    let within = slice_get_within (class_names by_names es) k w.0 w.1 in
    let tat : slice_get c.in_ok-tracks.tracks.items k ≡ Some track = slice_get_read c.in_ok-tracks.tracks.items (length c.in_ok-tracks.tracks.items) k track refl (omega (arith, within, c.in_ok-tracks.ensures.counted)) c.index.ensures in
    let known : slice_get on k ≡ Some old = slice_get_read on (length on) k old refl (omega (arith, within, c.loop-i.invariant.counted)) c.index-in-loop-i.ensures in
    let gives : (n : Name) → slice_get (class_names by_names es) k ≡ Some n → is ≡ is_on_track by_names t n e.kind = λ n here.
    c.in_ok-is.ensures n (c.in_ok-tracks.ensures.tracks k n track here tat) ∙ ap (is_on_track by_names t n) c.kind.ensures in
    record {
      counted = length-set on k (old || is) ∙ c.loop-i.invariant.counted;
      on = rw add-one (folded-more (λ (b : Bool). b) (λ n xs. list_any (λ x. is_on_track by_names t n x.kind) xs) es i k e on old (old || is) at w known
          (λ n xs here have. ap (λ b. old || b) (gives n here ∙ sym (or-false (is_on_track by_names t n e.kind))) ∙ ap (λ b. b || list_any (λ x. is_on_track by_names t n x.kind) (e ∷ [])) have ∙ sym (list_any-append (λ x. is_on_track by_names t n x.kind) xs (e ∷ [])))
          c.loop-i.invariant.on);
    }

pub returns : goal.returns
returns c =
    let es = c.args.entries.now in (
      c.loop-i.invariant.counted,
      λ k class b here at. subst (λ (l : List Entry). HaveFolded (λ (x : Bool). x) (λ n xs. list_any (λ e. is_on_track by_names c.args.types.now n e.kind) xs) es l c.loop-i.on.items) (take_all c.loop-i.i es (omega arith)) c.loop-i.invariant.on k class b here at,
    )

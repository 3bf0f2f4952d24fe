-- The first import on each track: what one more import changes, and what is found under a key.
use Rattle.std.proofs.Common.{◌≡◌, ◌+◌, ℕ, zero, suc, cond, true, false, Bool, List, [], ◌∷◌, ◌++◌, length, take, slice_get, refl, ap, ◌∙◌, sym, subst, Option, Some, None, inl, inr, arith}
use Rattle.std.specs.Prelude.{MatchOption}
use Rattle.std.specs.Option.{option_map}
use Rattle.std.proofs.lemmas.Bool.{cases_Bool}
use Rattle.std.proofs.lemmas.Option.{slice_get_within}
use Rattle.std.proofs.lemmas.List.{length-take-le}
use Rattle.wac_names.specs.Track.{OneTrack}
use Rattle.wac_names.specs.Reading.{read_track}
use Rattle.wac_names.proofs.TrackFacts.{track-had}
use Rattle.wac_names.proofs.KeyFacts.{keys}
use Rattle.wac_types_shapes.specs.primitives.Name.{Name, find_name, first_some, same_name}
use Rattle.wac_types_shapes.proofs.lemmas.shapes.Names.{same_name-true, same_name-false, take_at}
use Rattle.wac_types_shapes.specs.declared.shapes.component.ItemKind.{ItemKind}
use Rattle.wac_graph.specs.plugs.Matching.{IsFirstOnTrack}
use Rattle.wac_graph.specs.private.plugs.Tracks.{track_key, first_at, PutsFirst, AreFirsts}

-- names are on one track exactly where their keys are equal
pub one-key : (s t : Name) → OneTrack s t → track_key s ≡ track_key t
one-key s t h = (keys s t (read_track s) (read_track t) (track-had s) (track-had t)).1 h

pub key-one : (s t : Name) → track_key s ≡ track_key t → OneTrack s t
key-one s t e = (keys s t (read_track s) (read_track t) (track-had s) (track-had t)).0 e

nothing-more : {A : Type 0} (o : Option A) → first_some o None ≡ o
nothing-more None = refl
nothing-more (Some a) = refl

first-if : {A : Type 0} (b : Bool) (a : A) (o more : Option A) → cond b (Some a) (first_some o more) ≡ first_some (cond b (Some a) o) more
first-if true a o more = refl
first-if false a o more = refl

-- what is found with one more entry behind
find-push : {V : Type 0} (es : List (Name × V)) (k : Name) (v : V) (key : Name) → find_name (es ++ (k, v) ∷ []) key ≡ first_some (find_name es key) (cond (same_name key k) (Some v) None)
find-push [] k v key = refl
find-push (e ∷ es) k v key = ap (cond (same_name key e.0) (Some e.1)) (find-push es k v key) ∙ first-if (same_name key e.0) e.1 (find_name es key) (cond (same_name key k) (Some v) None)

first-push : {V : Type 0} (es : List (Name × V)) (j : ℕ) (x : Name × V) (key : Name) → first_at j key (es ++ x ∷ []) ≡ first_some (first_at j key es) (cond (same_name key (track_key x.0)) (Some (j + length es)) None)
first-push [] j x key = let e : j ≡ j + 0 = omega arith in ap (λ k. cond (same_name key (track_key x.0)) (Some k) None) e
first-push (e ∷ es) j x key =
    let at : suc j + length es ≡ j + suc (length es) = omega arith in
    ap (cond (same_name key (track_key e.0)) (Some j)) (first-push es (suc j) x key)
    ∙ first-if (same_name key (track_key e.0)) j (first_at (suc j) key es) (cond (same_name key (track_key x.0)) (Some (suc j + length es)) None)
    ∙ ap (λ k. first_some (cond (same_name key (track_key e.0)) (Some j) (first_at (suc j) key es)) (cond (same_name key (track_key x.0)) (Some k) None)) at

-- one more import
module _ {V : Type 0} (imports : List (Name × V)) (i : ℕ) (e : Name × V) (old new : List (Name × ℕ)) (at : slice_get imports i ≡ Some e) (are : AreFirsts (take i imports) old) where
  abbrev key : Name
  key = track_key e.0

  counted : length (take i imports) ≡ i
  counted = let h = slice_get_within imports i e at in length-take-le i imports (omega (arith, h))

  more : (k : Name) → first_at 0 k (take (suc i) imports) ≡ first_some (find_name old k) (cond (same_name k key) (Some i) None)
  more k =
      let place : 0 + length (take i imports) ≡ i = omega (arith, counted) in
      ap (first_at 0 k) (take_at imports i e at) ∙ first-push (take i imports) 0 e k
      ∙ ap (λ o. first_some o (cond (same_name k key) (Some (0 + length (take i imports))) None)) (sym (are k))
      ∙ ap (λ n. first_some (find_name old k) (cond (same_name k key) (Some n) None)) place

  new-key : new ≡ old ++ (key, i) ∷ [] → AreFirsts (take (suc i) imports) new
  new-key is k = ap (λ l. find_name l k) is ∙ find-push old key i k ∙ sym (more k)

  kept-key : (p : ℕ) → find_name old key ≡ Some p → new ≡ old → AreFirsts (take (suc i) imports) new
  kept-key p there is k = ap (λ l. find_name l k) is ∙ by (same_name k key) refl ∙ sym (more k) where
    by : (b : Bool) → same_name k key ≡ b → find_name old k ≡ first_some (find_name old k) (cond b (Some i) None)
    by true same =
        let found : find_name old k ≡ Some p = ap (find_name old) (same_name-true k key same) ∙ there in
        found ∙ sym (ap (λ o. first_some o (Some i)) found)
    by false other = sym (nothing-more (find_name old k))

  pub first-more : PutsFirst old key i new → AreFirsts (take (suc i) imports) new
  first-more h = by (find_name old key) refl h where
    by : (o : Option ℕ) → find_name old key ≡ o → MatchOption o (new ≡ old ++ (key, i) ∷ []) (λ _. new ≡ old) → AreFirsts (take (suc i) imports) new
    by None is put = new-key put
    by (Some p) is same = kept-key p is same

-- the entry of a name at a position
pub entry-named : {V : Type 0} (es : List (Name × V)) (i : ℕ) (n : Name) → option_map (λ e. e.0) (slice_get es i) ≡ Some n → (e : Name × V) × (slice_get es i ≡ Some e) × (e.0 ≡ n)
entry-named [] i n h = cc
entry-named (e ∷ es) zero n h = let same : e.0 ≡ n = cc in (e, refl, same)
entry-named (e ∷ es) (suc i) n h = entry-named es i n h

pub first-next : {V : Type 0} (imports : List (Name × V)) (i : ℕ) (name key : Name) (old new : List (Name × ℕ)) → option_map (λ e. e.0) (slice_get imports i) ≡ Some name → key ≡ track_key name
    → AreFirsts (take i imports) old → PutsFirst old key i new → AreFirsts (take (i + 1) imports) new
first-next imports i name key old new at is are puts =
    let r = entry-named imports i name at in
    let place : suc i ≡ i + 1 = omega arith in
    subst (λ k. AreFirsts (take k imports) new) place
    (first-more imports i r.0 old new r.1 are (subst (λ k. PutsFirst old k i new) (is ∙ ap track_key (sym r.2)) puts))

-- what is found under the key of a name's track
module _ (name : Name) where
  pub none-on-track : (j : ℕ) (imports : List (Name × ItemKind)) → first_at j (track_key name) imports ≡ None → (t : Name × ItemKind) → IsFirstOnTrack imports name t → ⊥
  none-on-track j [] h t w = w
  none-on-track j (e ∷ imports) h t w = elim (cases_Bool (same_name (track_key name) (track_key e.0))) [
    | inl same ↦ let wrong : Some j ≡ None = sym (ap (λ b. cond b (Some j) (first_at (suc j) (track_key name) imports)) same) ∙ h in cc
    | inr other ↦
        let rest : first_at (suc j) (track_key name) imports ≡ None = sym (ap (λ b. cond b (Some j) (first_at (suc j) (track_key name) imports)) other) ∙ h in
        elim w [
          | inl here ↦ same_name-false (track_key name) (track_key e.0) other (one-key name e.0 here.0)
          | inr behind ↦ none-on-track (suc j) imports rest t behind.1
        ]
  ]

  pub some-on-track : (j p : ℕ) (imports : List (Name × ItemKind)) → first_at j (track_key name) imports ≡ Some p → (k : ℕ) × (t : Name × ItemKind) × (p ≡ j + k) × (slice_get imports k ≡ Some t) × IsFirstOnTrack imports name t
  some-on-track j p [] h = cc
  some-on-track j p (e ∷ imports) h = elim (cases_Bool (same_name (track_key name) (track_key e.0))) [
    | inl same ↦
        let here : Some j ≡ Some p = sym (ap (λ b. cond b (Some j) (first_at (suc j) (track_key name) imports)) same) ∙ h in
        let is : j ≡ p = cc in
        (0, e, omega (arith, is), refl, inl (key-one name e.0 (same_name-true (track_key name) (track_key e.0) same), refl))
    | inr other ↦
        let behind : first_at (suc j) (track_key name) imports ≡ Some p = sym (ap (λ b. cond b (Some j) (first_at (suc j) (track_key name) imports)) other) ∙ h in
        let r = some-on-track (suc j) p imports behind in
        (suc r.0, r.1, omega (arith, r.2), r.3, inr ((λ one. same_name-false (track_key name) (track_key e.0) other (one-key name e.0 one)), r.4))
  ]

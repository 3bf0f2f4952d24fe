-- Which matches win by their positions is what wins by their names.
use Rattle.std.proofs.Common.{◌≡◌, ◌<◌, ℕ, zero, suc, Bool, true, false, cond, List, [], ◌∷◌, length, get_or, set, refl, ap, ◌∙◌, sym, subst, Option, Some, inl, inr, arith}
use Rattle.std.proofs.lemmas.Bool.{cases_Bool, false_from_ne_true}
use Rattle.std.proofs.lemmas.Grind.{get_or-set_at}
use Rattle.std.proofs.lemmas.List.{get_or-set_other, length-set}
use Rattle.wac_types_shapes.specs.primitives.Name.{Name, same_name}
use Rattle.wac_types_shapes.specs.shapes.Named.{named_at, NoNameTwice}
use Rattle.wac_types_shapes.proofs.lemmas.shapes.Names.{same_name-true, same_name-from}
use Rattle.wac_types_shapes.specs.declared.shapes.component.ItemKind.{ItemKind}
use Rattle.wac_graph.specs.declared.plugs.matching.Pair.{Pair}
use Rattle.wac_graph.specs.plugs.Matching.{Match}
use Rattle.wac_graph.specs.plugs.Precedence.{is_taken, taken_after, winning, losing}
use Rattle.wac_graph.specs.private.plugs.Pairs.{name_at, match_at, matches_at, IsWithin, AreWithin}
use Rattle.wac_graph.specs.private.plugs.Taking.{won, lost, marked, AreTaken}
use Rattle.wac_graph.proofs.lemmas.plugs.Pairs.{entry-there, named-there}
use Rattle.wac_graph.proofs.lemmas.plugs.Wired.{by-eq}

first-is : {A : Type 0} (i j : ℕ) (x y : A) → ◌≡◌ {A = Option (ℕ × A)} (Some (i, x)) (Some (j, y)) → i ≡ j
first-is {A} i j x y h = let w : ◌≡◌ {A = ℕ × A} (i, x) (j, y) = cc in ap (λ (e : ℕ × A). e.0) w

module _ (exports imports : List (Name × ItemKind)) (once : NoNameTwice imports) where
  -- one name stands at one position
  same-place : (i j : ℕ) → i < length imports → j < length imports → name_at imports i ≡ name_at imports j → i ≡ j
  same-place i j below_i below_j same =
      let e = entry-there imports i below_i in
      let f = entry-there imports j below_j in
      first-is i j e.0.1 f.0.1 (sym (named-there imports i e.0 once e.1) ∙ ap (λ (n : Name). named_at 0 n imports) same ∙ named-there imports j f.0 once f.1)

  -- an import that is taken too
  taken-more : (names : List Name) (taken : List Bool) (j : ℕ) → j < length imports → AreTaken imports names taken → AreTaken imports (name_at imports j ∷ names) (set taken j true)
  taken-more names taken j below agree = record {
    long = length-set taken j true ∙ agree.long;
    same = λ i at. by-eq i j
        (λ e.
        let here : j < length taken = subst (λ n. j < n) (sym agree.long) below in
        get_or-set_at taken j i true false e here ∙ sym (ap (λ b. cond b true (is_taken names (name_at imports i))) (same_name-from (name_at imports j) (name_at imports i) (ap (name_at imports) (sym e)))))
        (λ other.
        let differ : same_name (name_at imports j) (name_at imports i) ≡ false = false_from_ne_true (same_name (name_at imports j) (name_at imports i)) (λ t. other (same-place i j at below (sym (same_name-true (name_at imports j) (name_at imports i) t)))) in
        get_or-set_other taken j i true false other ∙ agree.same i at ∙ sym (ap (λ b. cond b true (is_taken names (name_at imports i))) differ));
  }

  abbrev at : List Pair → List Match
  at ps = matches_at exports imports ps

  -- what wins, what does not, and what is taken then
  abbrev pub IsDivided : List Name → List Bool → List Pair → Type 0
  IsDivided names taken ps = (at (won taken ps) ≡ winning names (at ps)) × (at (lost taken ps) ≡ losing names (at ps)) × AreTaken imports (taken_after names (at ps)) (marked taken ps)

  pub divided : (names : List Name) (taken : List Bool) (ps : List Pair) → AreTaken imports names taken → AreWithin exports imports ps → IsDivided names taken ps
  divided names taken [] agree within = (refl, refl, agree)
  divided names taken (p ∷ ps) agree within =
      elim (cases_Bool (get_or taken p.import false)) [ inl t ↦ old t (divided names taken ps agree behind) | inr f ↦ new f (divided (m.import ∷ names) (set taken p.import true) ps (taken-more names taken p.import here agree) behind) ]
    where
      m : Match
      m = match_at exports imports p

      here : p.import < length imports
      here = (within 0 p refl).1

      behind : AreWithin exports imports ps
      behind i q found = within (suc i) q found

      is-taken : get_or taken p.import false ≡ is_taken names m.import
      is-taken = agree.same p.import here

      old : get_or taken p.import false ≡ true → IsDivided names taken ps → IsDivided names taken (p ∷ ps)
      old t rest =
          let is : is_taken names m.import ≡ true = sym is-taken ∙ t in (
            ap (λ b. at (cond b (won taken ps) (p ∷ won (set taken p.import true) ps))) t ∙ rest.0 ∙ sym (ap (λ b. cond b (winning names (at ps)) (m ∷ winning (m.import ∷ names) (at ps))) is),
            ap (λ b. at (cond b (p ∷ lost taken ps) (lost (set taken p.import true) ps))) t ∙ ap (λ l. m ∷ l) rest.1 ∙ sym (ap (λ b. cond b (m ∷ losing names (at ps)) (losing (m.import ∷ names) (at ps))) is),
            subst (λ b. AreTaken imports (taken_after (cond b names (m.import ∷ names)) (at ps)) (marked taken (p ∷ ps))) (sym is)
                (subst (λ b. AreTaken imports (taken_after names (at ps)) (cond b (marked taken ps) (marked (set taken p.import true) ps))) (sym t) rest.2),
          )

      new : get_or taken p.import false ≡ false → IsDivided (m.import ∷ names) (set taken p.import true) ps → IsDivided names taken (p ∷ ps)
      new f rest =
          let is : is_taken names m.import ≡ false = sym is-taken ∙ f in (
            ap (λ b. at (cond b (won taken ps) (p ∷ won (set taken p.import true) ps))) f ∙ ap (λ l. m ∷ l) rest.0 ∙ sym (ap (λ b. cond b (winning names (at ps)) (m ∷ winning (m.import ∷ names) (at ps))) is),
            ap (λ b. at (cond b (p ∷ lost taken ps) (lost (set taken p.import true) ps))) f ∙ rest.1 ∙ sym (ap (λ b. cond b (m ∷ losing names (at ps)) (losing (m.import ∷ names) (at ps))) is),
            subst (λ b. AreTaken imports (taken_after (cond b names (m.import ∷ names)) (at ps)) (marked taken (p ∷ ps))) (sym is)
                (subst (λ b. AreTaken imports (taken_after (m.import ∷ names) (at ps)) (cond b (marked taken ps) (marked (set taken p.import true) ps))) (sym f) rest.2),
          )

module _ (exports imports : List (Name × ItemKind)) where
  within-first : (p : Pair) (ps : List Pair) → IsWithin exports imports p → AreWithin exports imports ps → AreWithin exports imports (p ∷ ps)
  within-first p ps is are zero q found = let same : p ≡ q = cc in subst (IsWithin exports imports) same is
  within-first p ps is are (suc i) q found = are i q found

  -- pairs that win, and those that do not, are within the lists
  pub won-within : (taken : List Bool) (ps : List Pair) → AreWithin exports imports ps → AreWithin exports imports (won taken ps)
  won-within taken [] h = h
  won-within taken (p ∷ ps) h = elim (cases_Bool (get_or taken p.import false)) [
    | inl t ↦ subst (AreWithin exports imports) (sym (ap (λ b. cond b (won taken ps) (p ∷ won (set taken p.import true) ps)) t)) (won-within taken ps (λ i q at. h (suc i) q at))
    | inr f ↦
        subst (AreWithin exports imports) (sym (ap (λ b. cond b (won taken ps) (p ∷ won (set taken p.import true) ps)) f))
        (within-first p (won (set taken p.import true) ps) (h 0 p refl) (won-within (set taken p.import true) ps (λ i q at. h (suc i) q at)))
  ]

  pub lost-within : (taken : List Bool) (ps : List Pair) → AreWithin exports imports ps → AreWithin exports imports (lost taken ps)
  lost-within taken [] h = h
  lost-within taken (p ∷ ps) h = elim (cases_Bool (get_or taken p.import false)) [
    | inl t ↦
        subst (AreWithin exports imports) (sym (ap (λ b. cond b (p ∷ lost taken ps) (lost (set taken p.import true) ps)) t))
        (within-first p (lost taken ps) (h 0 p refl) (lost-within taken ps (λ i q at. h (suc i) q at)))
    | inr f ↦ subst (AreWithin exports imports) (sym (ap (λ b. cond b (p ∷ lost taken ps) (lost (set taken p.import true) ps)) f)) (lost-within (set taken p.import true) ps (λ i q at. h (suc i) q at))
  ]

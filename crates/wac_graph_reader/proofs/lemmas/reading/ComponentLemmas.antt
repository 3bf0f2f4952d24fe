-- Under which component index a package is noted, and how its slot tells that.
use Rattle.std.proofs.Common.{◌≡◌, ◌≢◌, ◌<◌, ◌+◌, ◌-◌, ◌==◌, ℕ, suc, Bool, true, false, cond, ◌||◌, List, [], ◌∷◌, ◌++◌, drop, length, get_or, Option, Some, None, refl, ap, sym, subst, ◌∙◌, inl, inr, arith}
use Rattle.std.proofs.lemmas.Bool.{and_parts, eqb-true, cases_Bool, cases_eq, or_from}
use Rattle.std.proofs.lemmas.List.{at_drop_more}
use Rattle.std.proofs.lemmas.Option.{slice_get_read, slice_get_within}
use Rattle.std.specs.Prelude.{slice_get, IfSome, IfNone}
use Rattle.std.specs.List.{list_any}
use Rattle.std.specs.Map.{lookup}
use Rattle.wac_merge_classes.proofs.lemmas.entries.Lists.{at-end, at-push, push-cases}
use Rattle.wac_graph_model.specs.declared.nodes.packages.PackageId.{PackageId}
use Rattle.wac_graph_model.specs.meaning.Means.{same_package}
use Rattle.wac_graph_reader.specs.private.reading.Slots.{AreSlotted}

one_package : (p q : PackageId) → same_package p q ≡ true → q ≡ p
one_package p q same =
    let (slots, generations) = and_parts (p.slot == q.slot) (p.generation == q.generation) same in
    let slot : q.slot ≡ p.slot = sym (eqb-true p.slot q.slot slots) in
    let generation : q.generation ≡ p.generation = sym (eqb-true p.generation q.generation generations) in
    λ i. record { slot = slot i; generation = generation i }

-- ---- looked for through all entries

-- the index that is found is noted for the package
noted_for : (id : PackageId) (c : ℕ) (es : List (PackageId × ℕ)) → Some c ≡ lookup (same_package id) es → (k : ℕ) × (slice_get es k ≡ Some (id, c))
noted_for id c [] h = cc
noted_for id c (e ∷ es) h = split (same_package id e.0) refl h (noted_for id c es) where
  split : (b : Bool) → same_package id e.0 ≡ b → Some c ≡ cond b (Some e.1) (lookup (same_package id) es) → (Some c ≡ lookup (same_package id) es → (k : ℕ) × (slice_get es k ≡ Some (id, c))) → (k : ℕ) × (slice_get (e ∷ es) k ≡ Some (id, c))
  split true same h _ =
      let key : e.0 ≡ id = one_package id e.0 same in
      let value : e.1 ≡ c = cc in
      (0, λ i. Some (key i, value i))
  split false differ h more = let (k, at) = more h in (suc k, at)

-- where none is found, the package is noted nowhere
noted_nowhere : (id : PackageId) (es : List (PackageId × ℕ)) → None ≡ lookup (same_package id) es → list_any (λ e. same_package id e.0) es ≡ false
noted_nowhere id [] h = refl
noted_nowhere id (e ∷ es) h = split (same_package id e.0) h (noted_nowhere id es) where
  split : (b : Bool) → None ≡ cond b (Some e.1) (lookup (same_package id) es) → (None ≡ lookup (same_package id) es → list_any (λ e. same_package id e.0) es ≡ false) → (b || list_any (λ e. same_package id e.0) es) ≡ false
  split true h _ = cc
  split false h more = more h

-- what the search through all entries tells
pub record IsTold (id : PackageId) (es : List (PackageId × ℕ)) (o : Option ℕ) : Type 0 where
  pub there : IfSome o (λ c. (k : ℕ) × (slice_get es k ≡ Some (id, c)))
  pub absent : IfNone o (list_any (λ e. same_package id e.0) es ≡ false)

pub looked_for : (id : PackageId) (es : List (PackageId × ℕ)) (o : Option ℕ) → o ≡ lookup (same_package id) es → IsTold id es o
looked_for id es None is = record { there = tt; absent = noted_nowhere id es is }
looked_for id es (Some c) is = record { there = noted_for id c es is; absent = tt }

-- the entries so far are of other packages
module _ (id : PackageId) (es : List (PackageId × ℕ)) (i : ℕ) (d : PackageId × ℕ) (within : i < length es) (so_far : lookup (same_package id) es ≡ lookup (same_package id) (drop i es)) where
  next : lookup (same_package id) es ≡ cond (same_package id (get_or es i d).0) (Some (get_or es i d).1) (lookup (same_package id) (drop (i + 1) es))
  next = so_far ∙ at_drop_more (lookup (same_package id)) es i d within

  pub found_next : same_package id (get_or es i d).0 ≡ true → Some (get_or es i d).1 ≡ lookup (same_package id) es
  found_next same = sym (next ∙ ap (λ b. cond b (Some (get_or es i d).1) (lookup (same_package id) (drop (i + 1) es))) same)

  pub not_next : same_package id (get_or es i d).0 ≡ false → lookup (same_package id) es ≡ lookup (same_package id) (drop (i + 1) es)
  not_next other = next ∙ ap (λ b. cond b (Some (get_or es i d).1) (lookup (same_package id) (drop (i + 1) es))) other

-- ---- found by the slot

-- where no entry is of the slot, the package is noted nowhere
no_slot : (id : PackageId) (es : List (PackageId × ℕ)) → ((k : ℕ) (e : PackageId × ℕ) → slice_get es k ≡ Some e → e.0.slot ≢ id.slot) → list_any (λ e. same_package id e.0) es ≡ false
no_slot id [] h = refl
no_slot id (e ∷ es) h = or_from (same_package id e.0) _ here (no_slot id es (λ k. h (suc k))) where
  here : same_package id e.0 ≡ false
  here = elim (cases_Bool (same_package id e.0)) [
    | inl same ↦ absurd (h 0 e refl (ap (λ (p : PackageId). p.slot) (one_package id e.0 same)))
    | inr other ↦ other
  ]

module _ (es : List (PackageId × ℕ)) (ps : List ℕ) (placed : AreSlotted es ps) where
  pub no_place : (id : PackageId) → get_or ps id.slot 0 ≡ 0 → list_any (λ e. same_package id e.0) es ≡ false
  no_place id none = no_slot id es (λ k e at same. let some = placed.noted k e at in let empty : get_or ps e.0.slot 0 ≡ 0 = ap (λ (s : ℕ). get_or ps s 0) same ∙ none in omega (arith, some, empty))

  -- what is noted for a slot leads to an entry
  pub place_within : (slot next : ℕ) → next ≡ get_or ps slot 0 → next ≢ 0 → next - 1 < length es
  place_within slot next is some =
      let more : next ≡ (next - 1) + 1 = omega (arith, some) in
      let (e, at, same) = placed.found slot (next - 1) (sym is ∙ more) in slice_get_within es (next - 1) e at

  -- the entry there, where it is of this very package
  pub entry_here : (id : PackageId) (next : ℕ) (e : PackageId × ℕ) → next ≡ get_or ps id.slot 0 → next ≢ 0 → e ≡ get_or es (next - 1) e → same_package id e.0 ≡ true → slice_get es (next - 1) ≡ Some (id, e.1)
  entry_here id next e is some read same =
      let key : e.0 ≡ id = one_package id e.0 same in
      slice_get_read es (length es) (next - 1) e refl (place_within id.slot next is some) read ∙ (λ i. Some (key i, e.1))

  -- the same places
  pub placed_still : (qs : List ℕ) → ((s : ℕ) → get_or qs s 0 ≡ get_or ps s 0) → AreSlotted es qs
  placed_still qs same = record {
    noted = λ k e at. subst (λ (n : ℕ). 0 < n) (sym (same e.0.slot)) (placed.noted k e at);
    found = λ slot place is. placed.found slot place (sym (same slot) ∙ is);
  }

  -- one more entry, whose slot has a place now
  module _ (qs : List ℕ) (id : PackageId) (index : ℕ) (new : get_or ps id.slot 0 ≡ 0 → get_or qs id.slot 0 ≡ length es + 1) (kept : 0 < get_or ps id.slot 0 → get_or qs id.slot 0 ≡ get_or ps id.slot 0) (others : (s : ℕ) → s ≢ id.slot → get_or qs s 0 ≡ get_or ps s 0) where
    here : 0 < get_or qs id.slot 0
    here = elim (cases_eq (get_or ps id.slot 0) 0) [
      | inl none ↦ let is = new none in omega (arith, is)
      | inr some ↦ let is = kept (omega (arith, some)) in omega (arith, some, is)
    ]

    noted : (k : ℕ) (e : PackageId × ℕ) → slice_get (es ++ (id, index) ∷ []) k ≡ Some e → 0 < get_or qs e.0.slot 0
    noted k e at = elim (cases_eq e.0.slot id.slot) [
      | inl same ↦ subst (λ (s : ℕ). 0 < get_or qs s 0) (sym same) here
      | inr other ↦ elim (push-cases es (id, index) k e at) [
        | inl before ↦ subst (λ (n : ℕ). 0 < n) (sym (others e.0.slot other)) (placed.noted k e before)
        | inr last ↦ absurd (other (ap (λ (x : PackageId × ℕ). x.0.slot) last.1))
      ]
    ]

    before : (slot place : ℕ) → get_or ps slot 0 ≡ place + 1 → (e : PackageId × ℕ) × (slice_get (es ++ (id, index) ∷ []) place ≡ Some e) × (e.0.slot ≡ slot)
    before slot place is = let (e, at, same) = placed.found slot place is in (e, at-push es (id, index) place e at, same)

    found : (slot place : ℕ) → get_or qs slot 0 ≡ place + 1 → (e : PackageId × ℕ) × (slice_get (es ++ (id, index) ∷ []) place ≡ Some e) × (e.0.slot ≡ slot)
    found slot place is = elim (cases_eq slot id.slot) [
      | inl same ↦
          let now : get_or qs id.slot 0 ≡ place + 1 = ap (λ (s : ℕ). get_or qs s 0) (sym same) ∙ is in
          elim (cases_eq (get_or ps id.slot 0) 0) [
            | inl none ↦
                let first = new none in
                let last : place ≡ length es = omega (arith, now, first) in
                ((id, index), ap (slice_get (es ++ (id, index) ∷ [])) last ∙ at-end es (id, index), sym same)
            | inr some ↦ before slot place (ap (λ (s : ℕ). get_or ps s 0) same ∙ sym (kept (omega (arith, some))) ∙ now)
          ]
      | inr other ↦ before slot place (sym (others slot other) ∙ is)
    ]

    pub placed_more : AreSlotted (es ++ (id, index) ∷ []) qs
    placed_more = record { noted = noted; found = found }

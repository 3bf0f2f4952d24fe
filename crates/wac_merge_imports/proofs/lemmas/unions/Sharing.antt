-- Unions that share interfaces, as they are written one by one.
use Rattle.std.proofs.Common.{◌≡◌, ℕ, ◌+◌, ◌-◌, ◌⊎◌, inl, inr, List, [], ◌∷◌, ◌++◌, length, reverse, slice_get, Option, Some, None, sym, ap, ◌∙◌, subst, arith}
use Rattle.std.proofs.lemmas.List.{length-reverse}
use Rattle.std.proofs.lemmas.Option.{slice_get_within}
use Rattle.wac_types_shapes.specs.primitives.Name.{Name}
use Rattle.wac_types_collection.specs.collection.Collection.{Collection, HasInterface}
use Rattle.wac_types_shapes.specs.declared.shapes.component.InterfaceId.{InterfaceId}
use Rattle.wac_types_collection.specs.private.subtyping.Extended.{IsExtended}
use Rattle.wac_merge_classes.specs.declared.terms.parts.Part.{Part}
use Rattle.wac_merge_classes.specs.declared.terms.parts.Union.{Union}
use Rattle.wac_merge_classes.proofs.lemmas.entries.Lists.{at-end, at-push, push-cases, some-at}
use Rattle.wac_merge_classes.proofs.lemmas.terms.Found.{no_some, some_same}
use Rattle.wac_merge_tables.proofs.lemmas.made.Extending.{kept_item, still_interface}
use Rattle.wac_merge_imports.specs.unions.SharedUnions.{AreShared, AreSharedUnions, IsAloneAt, IsAloneIn, IsOneWhereAlike, IsWrittenLast, Shares}
use Rattle.wac_merge_imports.proofs.lemmas.unions.WritingUnions.{turned}

-- ---- a union is alone one interface

alone-part : (c : Collection) (ps : List Part) (id : Option Name) (parts : List ℕ) (i j : InterfaceId) → IsAloneIn c ps id parts i → IsAloneIn c ps id parts j → i ≡ j
alone-part c ps id parts i j a b =
    let numbers : a.number ≡ b.number = some_same a.number b.number (ap (λ l. slice_get l 0) (sym a.only ∙ b.only)) in
    let same : a.part ≡ b.part = some_same a.part b.part (sym a.at ∙ ap (slice_get ps) numbers ∙ b.at) in
    sym a.of ∙ ap (λ (p : Part). p.interface) same ∙ b.of

pub alone-once : (c : Collection) (us : List Union) (ps : List Part) (ids : List (Option Name)) (u : ℕ) (i j : InterfaceId) → IsAloneAt c us ps ids u i → IsAloneAt c us ps ids u j → i ≡ j
alone-once c us ps ids u i j a b =
    let unions : b.union ≡ a.union = some_same b.union a.union (sym b.at ∙ a.at) in
    let names : b.id ≡ a.id = some_same b.id a.id (sym b.named ∙ a.named) in
    alone-part c ps a.id a.union.parts.items i j a.alone
    (subst (λ (n : Option Name). IsAloneIn c ps n a.union.parts.items j) names (subst (λ (x : Union). IsAloneIn c ps b.id x.parts.items j) unions b.alone))

-- ---- what stays as a collection grows

pub still-one : (m more : Collection) → IsExtended m more → (v w : InterfaceId) → IsOneWhereAlike m v w → IsOneWhereAlike more v w
still-one m more x v w h = record {
  first = h.first;
  second = h.second;
  first_at = kept_item m.interfaces more.interfaces x.kept.interfaces v.0 h.first h.first_at;
  second_at = kept_item m.interfaces more.interfaces x.kept.interfaces w.0 h.second h.second_at;
  one = h.one;
}

pub still-shared : (c m more : Collection) → IsExtended m more → (us : List Union) (ps : List Part) (ids : List (Option Name)) (ws : List InterfaceId) → AreSharedUnions c m us ps ids ws → AreSharedUnions c more us ps ids ws
still-shared c m more x us ps ids ws (first, h) = (
  first,
  record {
    known = h.known;
    each = λ u i w alone at. let (v, is, one) = h.each u i w alone at in (v, is, still-one m more x v w one);
    apart = h.apart;
  },
)

-- what a union became is the same, told otherwise, and said of what was there before
pub shares-along : (P Q : InterfaceId → Type 0) (before mid after : Collection) (old new : InterfaceId → Option InterfaceId) (w : InterfaceId) → IsExtended before mid → ((i : InterfaceId) → P i → Q i) → ((i : InterfaceId) → Q i → P i)
    → Shares P mid after old new w → Shares Q before after old new w
shares-along P Q before mid after old new w x to from h = record {
  stay = h.stay;
  known = λ i v is. elim (h.known i v is) [
    | inl was ↦ inl was
    | inr now ↦ inr (to i now.0, now.1)
  ];
  first = λ i q. h.first i (from i q);
  apart = elim h.apart [
    | inl fresh ↦ inl (λ held. fresh (still_interface before mid x w held))
    | inr known ↦ inr (known.0, to known.0 known.1, known.2)
  ];
}

-- ---- one union more

pub none-shared : (c m : Collection) (us : List Union) (ps : List Part) (ids : List (Option Name)) (written : List InterfaceId) (first : InterfaceId → Option InterfaceId) → written ≡ [] → ((i : InterfaceId) → first i ≡ None)
    → AreShared c m us ps ids first (IsWrittenLast (length us) written)
none-shared c m us ps ids written first empty none = record {
  known = λ i v is. absurd (no_some v (sym (none i) ∙ is));
  each = λ u i w alone (j, at, place). absurd (no_some w (ap (λ l. slice_get l j) (sym empty) ∙ at));
  apart = λ u v w (j, at, place) other. absurd (no_some w (ap (λ l. slice_get l j) (sym empty) ∙ at));
}

module _ (c m more : Collection) (us : List Union) (ps : List Part) (ids : List (Option Name)) (written : List InterfaceId) (u : ℕ) (w : InterfaceId) (x : Union) (id : Option Name) (old new : InterfaceId → Option InterfaceId)
    (grown : IsExtended m more) (count : length written + u + 1 ≡ length us) (there : slice_get us u ≡ Some x) (named : slice_get ids u ≡ Some id) (held : (j : ℕ) (y : InterfaceId) → slice_get written j ≡ Some y → HasInterface m y)
    (s : Shares (IsAloneIn c ps id x.parts.items) m more old new w) (were : AreShared c m us ps ids old (IsWrittenLast (length us) written)) where
  abbrev Now : ℕ → InterfaceId → Type 0
  Now = IsWrittenLast (length us) (written ++ w ∷ [])

  abbrev Before : ℕ → InterfaceId → Type 0
  Before = IsWrittenLast (length us) written

  abbrev Alone : ℕ → InterfaceId → Type 0
  Alone = IsAloneAt c us ps ids

  alone-here : (i : InterfaceId) → IsAloneIn c ps id x.parts.items i → Alone u i
  alone-here i a = record { union = x; id = id; at = there; named = named; alone = a }

  here-alone : (i : InterfaceId) → Alone u i → IsAloneIn c ps id x.parts.items i
  here-alone i a =
      let unions : a.union ≡ x = some_same a.union x (sym a.at ∙ there) in
      let names : a.id ≡ id = some_same a.id id (sym a.named ∙ named) in
      subst (λ (n : Option Name). IsAloneIn c ps n x.parts.items i) names (subst (λ (y : Union). IsAloneIn c ps a.id y.parts.items i) unions a.alone)

  became-here : Now u w
  became-here = (length written, at-end written w, count)

  earlier : (v : ℕ) (y : InterfaceId) → Before v y → Now v y
  earlier v y (j, at, place) = (j, at-push written w j y at, place)

  which : (v : ℕ) (y : InterfaceId) → Now v y → Before v y ⊎ ((v ≡ u) × (y ≡ w))
  which v y (j, at, place) = elim (push-cases written w j y at) [
    | inl before ↦ inl (j, before, place)
    | inr last ↦
        let end = last.0 in
        let same : v ≡ u = omega (arith, end, place, count) in
        inr (same, last.1)
  ]

  -- one that became the same before
  beside : (v : ℕ) → Before v w → (i : InterfaceId) × Alone v i × Alone u i
  beside v (j, at, place) = elim s.apart [
    | inl fresh ↦ absurd (fresh (held j w at))
    | inr shared ↦
        let (i, here, known) = shared in
        let (o, alone, became) = were.known i w known in
        elim (were.apart v o w (j, at, place) became) [
          | inl same ↦ (i, subst (λ (k : ℕ). Alone k i) (sym same) alone, alone-here i here)
          | inr both ↦
              let (k, a, b) = both in
              (i, subst (Alone v) (alone-once c us ps ids o k i b alone) a, alone-here i here)
        ]
  ]

  pub shared-more : AreShared c more us ps ids new Now
  shared-more = record {
    known = λ i v is. elim (s.known i v is) [
      | inl was ↦ let (o, alone, became) = were.known i v was in (o, alone, earlier o v became)
      | inr now ↦ (u, alone-here i now.0, subst (Now u) (sym now.1) became-here)
    ];
    each = λ v i y alone became. elim (which v y became) [
      | inl before ↦ let (f, is, one) = were.each v i y alone before in (f, s.stay i f is, still-one m more grown f y one)
      | inr now ↦
          let (f, is, one) = s.first i (here-alone i (subst (λ (k : ℕ). Alone k i) now.0 alone)) in
          (f, is, subst (λ (z : InterfaceId). IsOneWhereAlike more f z) (sym now.1) one)
    ];
    apart = λ a b y p q. elim (which a y p) [
      | inl before ↦ elim (which b y q) [
        | inl also ↦ were.apart a b y before also
        | inr now ↦
            let (i, one, other) = beside a (subst (Before a) now.1 before) in
            inr (i, one, subst (λ (k : ℕ). Alone k i) (sym now.0) other)
      ]
      | inr now ↦ elim (which b y q) [
        | inl before ↦
            let (i, one, other) = beside b (subst (Before b) now.1 before) in
            inr (i, subst (λ (k : ℕ). Alone k i) (sym now.0) other, one)
        | inr also ↦ inl (now.0 ∙ sym also.0)
      ]
    ];
  }

-- ---- in the end the list is turned round

pub shared-unions : (c m : Collection) (us : List Union) (ps : List Part) (ids : List (Option Name)) (written : List InterfaceId) (first : InterfaceId → Option InterfaceId) → length written ≡ length us
    → AreShared c m us ps ids first (IsWrittenLast (length us) written) → AreSharedUnions c m us ps ids (reverse written)
shared-unions c m us ps ids written first all h = (
  first,
  record {
    known = λ i v is. let (u, alone, (j, at, place)) = h.known i v is in (u, alone, turned written j u v at (place ∙ sym all));
    each = λ u i w alone at. h.each u i w alone (back u w at);
    apart = λ u v w p q. h.apart u v w (back u w p) (back v w q);
  },
) where
  back : (u : ℕ) (w : InterfaceId) → slice_get (reverse written) u ≡ Some w → IsWrittenLast (length us) written u w
  back u w at =
      let low = slice_get_within (reverse written) u w at in
      let long = length-reverse written in
      let j = length us - 1 - u in
      let place : j + u + 1 ≡ length us = omega (arith, low, long, all) in
      let a = some-at written j (omega (arith, low, long, all)) in
      let same : a.0 ≡ w = some_same a.0 w (sym (turned written j u a.0 a.1 (place ∙ sym all)) ∙ at) in
      (j, a.1 ∙ ap Some same, place)

-- Where an export goes to: one import at most.
use Rattle.std.proofs.Common.{◌≡◌, ℕ, suc, ◌+◌, cond, List, [], ◌∷◌, slice_get, refl, ap, ◌∙◌, sym, subst, Option, Some, None, Result, Ok, Err, IfOk, inl, inr, arith}
use Rattle.std.specs.Prelude.{MatchOption, IsSomeAnd}
use Rattle.std.proofs.lemmas.Bool.{cases_Bool}
use Rattle.wac_types_shapes.specs.primitives.Name.{Name, find_name, same_name}
use Rattle.wac_types_shapes.specs.shapes.Named.{named_at}
use Rattle.wac_types_shapes.proofs.lemmas.shapes.Names.{same_name-true}
use Rattle.wac_types_shapes.proofs.lemmas.shapes.Under.{nothing_under}
use Rattle.wac_types_shapes.specs.declared.shapes.component.ItemKind.{ItemKind}
use Rattle.wac_types_collection.specs.collection.Collection.{Collection}
use Rattle.wac_types_collection.specs.subtyping.Subtype.{IsSubtype}
use Rattle.wac_graph.specs.plugs.Matching.{IsFirstOnTrack, IsTarget, HasNoMatch}
use Rattle.wac_graph.specs.private.plugs.Tracks.{track_key, first_at}
use Rattle.wac_graph.proofs.lemmas.plugs.Firsts.{none-on-track, some-on-track}

one-first : (imports : List (Name × ItemKind)) (name : Name) (s t : Name × ItemKind) → IsFirstOnTrack imports name s → IsFirstOnTrack imports name t → s ≡ t
one-first [] name s t a b = absurd a
one-first (i ∷ imports) name s t (inl a) (inl b) = a.1 ∙ sym b.1
one-first (i ∷ imports) name s t (inl a) (inr b) = absurd (b.0 a.0)
one-first (i ∷ imports) name s t (inr a) (inl b) = absurd (a.0 b.0)
one-first (i ∷ imports) name s t (inr a) (inr b) = one-first imports name s t a.1 b.1

pub one-target : (imports : List (Name × ItemKind)) (name : Name) (s t : Name × ItemKind) → IsTarget imports name s → IsTarget imports name t → s ≡ t
one-target imports name s t a b = by (find_name imports name) a b where
  by : (o : Option ItemKind) → MatchOption o (IsFirstOnTrack imports name s) (λ kind. s ≡ (name, kind)) → MatchOption o (IsFirstOnTrack imports name t) (λ kind. t ≡ (name, kind)) → s ≡ t
  by None x y = one-first imports name s t x y
  by (Some kind) x y = x ∙ sym y

-- where no import has the name, the first on its track
pub by-track : (imports : List (Name × ItemKind)) (name : Name) (t : Name × ItemKind) → find_name imports name ≡ None → IsFirstOnTrack imports name t → IsTarget imports name t
by-track imports name t none h = rw none h

pub only-by-track : (imports : List (Name × ItemKind)) (name : Name) (t : Name × ItemKind) → find_name imports name ≡ None → IsTarget imports name t → IsFirstOnTrack imports name t
only-by-track imports name t none h = rw none at h

-- the import of the name
pub by-name : (imports : List (Name × ItemKind)) (name : Name) (kind : ItemKind) → find_name imports name ≡ Some kind → IsTarget imports name (name, kind)
by-name imports name kind there = rw there refl

-- what stands under a name
found : (es : List (Name × ItemKind)) (i : ℕ) (n : Name) (x : ℕ × ItemKind) → Some x ≡ named_at i n es → (find_name es n ≡ Some x.1) × ((j : ℕ) × (x.0 ≡ i + j) × (slice_get es j ≡ Some (n, x.1)))
found [] i n x h = cc
found (e ∷ es) i n x h = elim (cases_Bool (same_name n e.0)) [
  | inl t ↦
      let some : Some x ≡ Some (i, e.1) = h ∙ ap (λ b. cond b (Some (i, e.1)) (named_at (suc i) n es)) t in
      let is : x ≡ (i, e.1) = cc in
      let name : n ≡ e.0 = same_name-true n e.0 t in
      let place : x.0 ≡ i = ap (λ (p : ℕ × ItemKind). p.0) is in
      let kind : e.1 ≡ x.1 = ap (λ (p : ℕ × ItemKind). p.1) (sym is) in
      (ap (λ b. cond b (Some e.1) (find_name es n)) t ∙ ap Some kind, (0, omega (arith, place), (λ k. Some (sym name k, kind k))))
  | inr f ↦
      let r = found es (suc i) n x (h ∙ ap (λ b. cond b (Some (i, e.1)) (named_at (suc i) n es)) f) in
      (ap (λ b. cond b (Some e.1) (find_name es n)) f ∙ r.0, (suc r.1.0, omega (arith, r.1.1), r.1.2))
]

-- the position of the import of the name
pub found-target : (imports : List (Name × ItemKind)) (name : Name) (x : ℕ × ItemKind) → Some x ≡ named_at 0 name imports → IsSomeAnd (slice_get imports x.0) (IsTarget imports name)
found-target imports name x h =
    let r = found imports 0 name x h in
    let place : r.1.0 ≡ x.0 = omega (arith, r.1.1) in
    let at : slice_get imports x.0 ≡ Some (name, x.1) = ap (slice_get imports) (sym place) ∙ r.1.2 in
    subst (λ o. IsSomeAnd o (IsTarget imports name)) (sym at) (by-name imports name x.1 r.0)

-- where no import has the name, the first of its track
pub track-target : (imports : List (Name × ItemKind)) (name : Name) → None ≡ named_at 0 name imports → (o : Option ℕ) → o ≡ first_at 0 (track_key name) imports
    → MatchOption o ((t : Name × ItemKind) → IsTarget imports name t → ⊥) (λ i. IsSomeAnd (slice_get imports i) (IsTarget imports name))
track-target imports name none o is = by o (sym is) where
  unnamed : find_name imports name ≡ None
  unnamed = nothing_under imports 0 name (sym none)

  by : (o : Option ℕ) → first_at 0 (track_key name) imports ≡ o → MatchOption o ((t : Name × ItemKind) → IsTarget imports name t → ⊥) (λ i. IsSomeAnd (slice_get imports i) (IsTarget imports name))
  by None first = λ t h. none-on-track name 0 imports first t (only-by-track imports name t unnamed h)
  by (Some p) first =
      let r = some-on-track name 0 p imports first in
      let place : r.0 ≡ p = omega (arith, r.2) in
      let at : slice_get imports p ≡ Some r.1 = ap (slice_get imports) (sym place) ∙ r.3 in
      subst (λ o. IsSomeAnd o (IsTarget imports name)) (sym at) (by-track imports name r.1 unnamed r.4)

-- what follows from what an answer says
pub then-ok : {A E : Type 0} (r : Result A E) {P Q : A → Type 0} → ((a : A) → P a → Q a) → IfOk r P → IfOk r Q
then-ok (Ok a) h p = h a p
then-ok (Err e) h p = tt

-- an export whose kind is no subtype of its target's matches nothing
pub no-match : (types : Collection) (imports : List (Name × ItemKind)) (name : Name) (kind : ItemKind) (t : Name × ItemKind) → IsTarget imports name t → (IsSubtype types kind types t.1 → ⊥) → HasNoMatch types imports (name, kind)
no-match types imports name kind t target misfit m h =
    let same : (m.import, h.1.0) ≡ t = one-target imports name (m.import, h.1.0) t h.1.1 target in
    misfit (subst (λ (x : Name × ItemKind). IsSubtype types kind types x.1) same h.1.2)

-- the import at a target's position is the target
pub target-of : (imports : List (Name × ItemKind)) (name : Name) (o : Option ℕ) (i : ℕ) (t : Name × ItemKind) → MatchOption o ((t : Name × ItemKind) → IsTarget imports name t → ⊥) (λ i. IsSomeAnd (slice_get imports i) (IsTarget imports name))
    → o ≡ Some i → slice_get imports i ≡ Some t → IsTarget imports name t
target-of imports name o i t h is at =
    let some : IsSomeAnd (slice_get imports i) (IsTarget imports name) = subst (λ o. MatchOption o ((t : Name × ItemKind) → IsTarget imports name t → ⊥) (λ i. IsSomeAnd (slice_get imports i) (IsTarget imports name))) is h in
    subst (λ o. IsSomeAnd o (IsTarget imports name)) at some

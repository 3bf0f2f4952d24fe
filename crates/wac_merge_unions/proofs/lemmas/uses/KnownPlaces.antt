-- Places that are known by the interface that stands there and what it is made of.
use Rattle.std.proofs.Common.{Global, ◌≡◌, ◌<◌, ℕ, zero, suc, Bool, true, cond, ◌&&◌, List, [], ◌∷◌, ◌++◌, length, slice_get, Vec, Some, inl, inr, refl, sym, ap, ◌∙◌, subst, arith}
use Rattle.std.proofs.lemmas.Bool.{cases_Bool, eqb-true, and_parts as both}
use Rattle.std.specs.Cmp.Lexicographic.{pointwise}
use Rattle.std.specs.Map.{lookup_key}
use Rattle.indexmap.specs.IndexMap.{insert_entry}
use Rattle.wac_types_shapes.specs.contracts.shapes.component.InterfaceIdPartialEq.TheImpl as IdEq
use Rattle.wac_types_shapes.specs.declared.shapes.component.InterfaceId.{InterfaceId}
use Rattle.wac_types_shapes.proofs.lemmas.shapes.Names.{key_passes}
use Rattle.wac_types_shapes.specs.declared.shapes.component.ItemKind.{ItemKind}
use Rattle.wac_types_shapes.specs.declared.shapes.component.ItemKind.TheVariants as kind
use Rattle.wac_merge_classes.proofs.lemmas.entries.Lists.{at-end}
use Rattle.wac_merge_classes.proofs.lemmas.terms.Found.{no_some, some_same}
use Rattle.wac_merge_unions.specs.uses.Using.{AreKnown, IsItemPlaced, StandsBehind}

abbrev Key : Type 0
Key = InterfaceId × Vec InterfaceId Global

abbrev pub key_eq : Key → Key → Bool
key_eq x y = (IdEq.ghosts).eq x.0 y.0 && pointwise (IdEq.ghosts).eq x.1.items y.1.items

same_id : (i j : InterfaceId) → (IdEq.ghosts).eq i j ≡ true → i ≡ j
same_id i j e = ap (λ n. record { 0 = n }) (eqb-true i.0 j.0 e)

same_ids : (is js : List InterfaceId) → pointwise (IdEq.ghosts).eq is js ≡ true → is ≡ js
same_ids [] [] e = refl
same_ids [] (j ∷ js) e = cc e
same_ids (i ∷ is) [] e = cc e
same_ids (i ∷ is) (j ∷ js) e =
    let h = both ((IdEq.ghosts).eq i j) (pointwise (IdEq.ghosts).eq is js) e in
    let first = same_id i j h.0 in
    let rest = same_ids is js h.1 in
    (λ t. first t ∷ rest t)

-- ---- one item placed

-- an item that is no instance
pub plain_placed : (q : ℕ) (is : List InterfaceId) (us : List (List InterfaceId)) (k : ItemKind) (of : List InterfaceId) (p : ℕ) → ((i : InterfaceId) → k ≡ kind.Instance i → ⊥) → IsItemPlaced q is us k of is us p
plain_placed q is us (kind.Instance i) of p plain = absurd (plain i refl)
plain_placed q is us (kind.TypeItem t) of p plain = (refl, refl)
plain_placed q is us (kind.Func f) of p plain = (refl, refl)
plain_placed q is us (kind.Component w) of p plain = (refl, refl)
plain_placed q is us (kind.Module y) of p plain = (refl, refl)
plain_placed q is us (kind.Value v) of p plain = (refl, refl)

-- an instance at a new place
pub new_placed : (q : ℕ) (is js : List InterfaceId) (us vs : List (List InterfaceId)) (i : InterfaceId) (of : List InterfaceId) (p : ℕ) → q < length is → length us ≡ length is → p ≡ length is → js ≡ is ++ i ∷ [] → vs ≡ us ++ of ∷ []
    → IsItemPlaced q is us (kind.Instance i) of js vs p
new_placed q is js us vs i of p low counted place more more-users =
    let also : p ≡ length us = place ∙ sym counted in (
      (omega (arith, low, place), (λ t. slice_get (more t) (place t)) ∙ at-end is i, (λ t. slice_get (more-users t) (also t)) ∙ at-end us of),
      inr (more, more-users),
    )

-- ---- what is known

module _ (q : ℕ) (is : List InterfaceId) (us : List (List InterfaceId)) where
  -- what stands at a place for one key stands there for an equal one
  same_key : (k l : Key) (p : ℕ) → key_eq k l ≡ true → StandsBehind q is us l.0 l.1.items p → StandsBehind q is us k.0 k.1.items p
  same_key k l p e h =
      let both_same = both ((IdEq.ghosts).eq k.0 l.0) (pointwise (IdEq.ghosts).eq k.1.items l.1.items) e in
      let first = same_id k.0 l.0 both_same.0 in
      let second = same_ids k.1.items l.1.items both_same.1 in
      (h.0, h.1 ∙ ap Some (sym first), h.2 ∙ ap Some (sym second))

  same_key_back : (k l : Key) (p : ℕ) → key_eq k l ≡ true → StandsBehind q is us k.0 k.1.items p → StandsBehind q is us l.0 l.1.items p
  same_key_back k l p e h =
      let both_same = both ((IdEq.ghosts).eq k.0 l.0) (pointwise (IdEq.ghosts).eq k.1.items l.1.items) e in
      let first = same_id k.0 l.0 both_same.0 in
      let second = same_ids k.1.items l.1.items both_same.1 in
      (h.0, h.1 ∙ ap Some first, h.2 ∙ ap Some second)

  -- the place that is found is that of the key
  pub known_at : (known : List (Key × ℕ)) (key k : Key) (p i : ℕ) → lookup_key (key_eq key) known ≡ Some k → slice_get known i ≡ Some (k, p) → AreKnown q is us known → StandsBehind q is us key.0 key.1.items p
  known_at known key k p i found at h = same_key key k p (key_passes (key_eq key) known k found) (entry known i at h) where
    entry : (known : List (Key × ℕ)) (i : ℕ) → slice_get known i ≡ Some (k, p) → AreKnown q is us known → StandsBehind q is us k.0 k.1.items p
    entry [] i at h = absurd (no_some (k, p) at)
    entry (e ∷ known) zero at h = subst (λ (x : Key × ℕ). StandsBehind q is us x.0.0 x.0.1.items x.1) (some_same e (k, p) at) h.0
    entry (e ∷ known) (suc i) at h = entry known i at h.1

  -- one more is known
  pub known_put : (known : List (Key × ℕ)) (k : Key) (p : ℕ) → StandsBehind q is us k.0 k.1.items p → AreKnown q is us known → AreKnown q is us (insert_entry key_eq known k p)
  known_put [] k p new h = (new, tt)
  known_put (e ∷ known) k p new h = elim (cases_Bool (key_eq k e.0)) [
    | inl t ↦ subst (λ b. AreKnown q is us (cond b ((e.0, p) ∷ known) (e ∷ insert_entry key_eq known k p))) (sym t) (same_key_back k e.0 p t new, h.1)
    | inr f ↦ subst (λ b. AreKnown q is us (cond b ((e.0, p) ∷ known) (e ∷ insert_entry key_eq known k p))) (sym f) (h.0, known_put known k p new h.1)
  ]

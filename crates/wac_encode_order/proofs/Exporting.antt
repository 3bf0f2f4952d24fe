-- The positions in the order of an interface's items: each once, those of own resources aside.
use Rattle.std.specs.Prelude.{◌↔◌, slice_get}
use Rattle.std.proofs.Common.{ℕ, suc, ◌≡◌, ◌⊎◌, inl, inr, Bool, true, false, not, ◌&&◌, ◌||◌, if◌then◌else◌, List, [], ◌∷◌, ◌++◌, Option, Some, None, Contains, refl, ap, sym, ◌∙◌, subst}
use Rattle.wac_types_shapes.specs.primitives.Name.{Name, option_case}
use Rattle.wac_types_shapes.specs.declared.shapes.component.Interface.{Interface}
use Rattle.wac_types_shapes.specs.declared.shapes.component.ItemKind.{ItemKind}
use Rattle.wac_types_shapes.specs.declared.shapes.component.ItemKind.TheVariants as kind
use Rattle.wac_types_collection.specs.collection.Collection.{Collection}
use Rattle.wac_types_collection.specs.collection.Bound.{lists_type}
use Rattle.wac_encode_order.specs.private.TypeItems.{Reaches}
use Rattle.wac_encode_order.specs.private.Interfaces.{lists_own_resource, lists_other_type, is_other_type_at, others_from, comes_later, is_later_at, IsInterfaceOrder}
use Rattle.wac_encode_order.specs.private.SideOrder.{positions_of}
use Rattle.wac_edges.specs.Arranged.{IsOnce}
use Rattle.wac_edges.proofs.KeySets.{In}
use Rattle.wac_edges.proofs.ArrangedLaws.{in_front, in_behind, in_either, in_contains, contains_in, Once, once_joined, once_at}
use Rattle.wac_encode_order.proofs.Siding.{picked-item, item-picked, picked-once, taken-left, left-taken, taken-once}

-- ---- which items come later
later-type : (t o b : Bool) → (t && not o) ≡ true → (not o && (t || not b)) ≡ true
later-type true false b h = refl
later-type true true b h = let no : false ≡ true = h in cc
later-type false o b h = let no : false ≡ true = h in cc

later-other : (t o b : Bool) → t ≡ false → o ≡ false → b ≡ false → (not o && (t || not b)) ≡ true
later-other t o b type own all = ap (λ (x : Bool). not x && (t || not b)) own ∙ ap (λ (x : Bool). t || not x) all ∙ ap (λ (x : Bool). x || true) type

type-or-other : (t o b : Bool) → (not o && (t || not b)) ≡ true → ((t && not o) ≡ true) ⊎ ((t ≡ false) × (b ≡ false))
type-or-other true false b h = inl refl
type-or-other false false false h = inr (refl, refl)
type-or-other false false true h = let no : false ≡ true = h in cc
type-or-other t true b h = let no : false ≡ true = h in cc

not-true : (b : Bool) → not b ≡ true → b ≡ false
not-true true h = let no : false ≡ true = h in cc
not-true false h = refl

module _ (c : Collection) (it : Interface) (b : Bool) where
  no-own : (e : Name × ItemKind) → lists_type e ≡ false → lists_own_resource c it.uses e ≡ false
  no-own (n, kind.TypeItem t) h = let no : true ≡ false = h in cc
  no-own (n, kind.Func f) h = refl
  no-own (n, kind.Instance i) h = refl
  no-own (n, kind.Component w) h = refl
  no-own (n, kind.Module m) h = refl
  no-own (n, kind.Value v) h = refl

  at-type : (o : Option (Name × ItemKind)) → option_case o false (lists_other_type c it.uses) ≡ true → option_case o false (comes_later c it b) ≡ true
  at-type None h = let no : false ≡ true = h in cc
  at-type (Some e) h = later-type (lists_type e) (lists_own_resource c it.uses e) b h

  at-other : (o : Option (Name × ItemKind)) (e : Name × ItemKind) → o ≡ Some e → lists_type e ≡ false → b ≡ false → option_case o false (comes_later c it b) ≡ true
  at-other o e at type all = ap (λ (x : Option (Name × ItemKind)). option_case x false (comes_later c it b)) at ∙ later-other (lists_type e) (lists_own_resource c it.uses e) b type (no-own e type) all

  abbrev IsLater : Option (Name × ItemKind) → Type 0
  IsLater o = (option_case o false (lists_other_type c it.uses) ≡ true) ⊎ ((e : Name × ItemKind) × (o ≡ Some e) × (lists_type e ≡ false) × (b ≡ false))

  later-at : (o : Option (Name × ItemKind)) → option_case o false (comes_later c it b) ≡ true → IsLater o
  later-at None h = let no : false ≡ true = h in cc
  later-at (Some e) h = by (type-or-other (lists_type e) (lists_own_resource c it.uses e) b h)
    where
      by : ((lists_type e && not (lists_own_resource c it.uses e)) ≡ true) ⊎ ((lists_type e ≡ false) × (b ≡ false)) → IsLater (Some e)
      by (inl type) = inl type
      by (inr other) = inr (e, refl, other.0, other.1)

-- ---- the positions of the others
others-picked : (i : ℕ) (es : List (Name × ItemKind)) → others_from i es ≡ positions_of (λ e. not (lists_type e)) i es
others-picked i [] = refl
others-picked i (e ∷ es) = by (lists_type e) (others-picked (suc i) es)
  where
    by : (t : Bool) → others_from (suc i) es ≡ positions_of (λ e. not (lists_type e)) (suc i) es
        → (if t then others_from (suc i) es else i ∷ others_from (suc i) es) ≡ (if not t then i ∷ positions_of (λ e. not (lists_type e)) (suc i) es else positions_of (λ e. not (lists_type e)) (suc i) es)
    by true same = same
    by false same = ap (λ (ps : List ℕ). i ∷ ps) same

others-once : (es : List (Name × ItemKind)) → Once (others_from 0 es)
others-once es = subst Once (sym (others-picked 0 es)) (picked-once (λ e. not (lists_type e)) 0 es)

other-item : (es : List (Name × ItemKind)) (p : ℕ) → In (others_from 0 es) p → (e : Name × ItemKind) × (slice_get es p ≡ Some e) × (lists_type e ≡ false)
other-item es p h =
    let found = picked-item (λ e. not (lists_type e)) es p (subst (λ (ps : List ℕ). In ps p) (others-picked 0 es) h) in
    (found.0, found.1, not-true (lists_type found.0) found.2)

item-other : (es : List (Name × ItemKind)) (p : ℕ) (e : Name × ItemKind) → slice_get es p ≡ Some e → lists_type e ≡ false → In (others_from 0 es) p
item-other es p e at type = subst (λ (ps : List ℕ). In ps p) (sym (others-picked 0 es)) (item-picked (λ e. not (lists_type e)) es p e at (ap not type))

-- ---- the whole order
module _ (c : Collection) (it : Interface) (b : Bool) (order : List ℕ) (h : IsInterfaceOrder c it b order) where
  in-rest : (x : Bool) (p : ℕ) → In (if x then [] else others_from 0 it.exports) p → (x ≡ false) × In (others_from 0 it.exports) p
  in-rest true p w = absurd w
  in-rest false p w = (refl, w)

  rest-in : (x : Bool) (p : ℕ) → x ≡ false → In (others_from 0 it.exports) p → In (if x then [] else others_from 0 it.exports) p
  rest-in x p is w = subst (λ (y : Bool). In (if y then [] else others_from 0 it.exports) p) (sym is) w

  rest-once : (x : Bool) → Once (if x then [] else others_from 0 it.exports)
  rest-once true = tt
  rest-once false = others-once it.exports

  in-order-later : (p : ℕ) → In order p → is_later_at c it b p ≡ true
  in-order-later p w = by (in_either h.types (if b then [] else others_from 0 it.exports) p (subst (λ (ps : List ℕ). In ps p) h.is w))
    where
      by : In h.types p ⊎ In (if b then [] else others_from 0 it.exports) p → is_later_at c it b p ≡ true
      by (inl type) = at-type c it b (slice_get it.exports p) (taken-left (Reaches c it.exports) (is_other_type_at c it) h.types h.taken p type)
      by (inr other) =
          let x = in-rest b p other in
          let e = other-item it.exports p x.1 in
          at-other c it b (slice_get it.exports p) e.0 e.1 e.2 x.0

  later-in-order : (p : ℕ) → is_later_at c it b p ≡ true → In order p
  later-in-order p later = subst (λ (ps : List ℕ). In ps p) (sym h.is) (by (later-at c it b (slice_get it.exports p) later))
    where
      by : IsLater c it b (slice_get it.exports p) → In (h.types ++ (if b then [] else others_from 0 it.exports)) p
      by (inl type) = in_front h.types (if b then [] else others_from 0 it.exports) p (left-taken (Reaches c it.exports) (is_other_type_at c it) h.types h.taken p type)
      by (inr other) = in_behind h.types (if b then [] else others_from 0 it.exports) p (rest-in b p other.3 (item-other it.exports p other.0 other.1 other.2))

  pub position-each : (p : ℕ) → (Contains order p ↔ is_later_at c it b p ≡ true)
  position-each p = ((λ w. in-order-later p (contains_in order p w)), (λ w. in_contains order p (later-in-order p w)))

  apart : (p : ℕ) → In h.types p → In (if b then [] else others_from 0 it.exports) p → ⊥
  apart p type other =
      let e = other-item it.exports p (in-rest b p other).1 in
      no-type e.0 e.2 (sym (ap (λ (x : Option (Name × ItemKind)). option_case x false (lists_other_type c it.uses)) e.1) ∙ taken-left (Reaches c it.exports) (is_other_type_at c it) h.types h.taken p type)
    where
      no-type : (e : Name × ItemKind) → lists_type e ≡ false → (lists_type e && not (lists_own_resource c it.uses e)) ≡ true → ⊥
      no-type e none is = let both : false ≡ true = sym (ap (λ (x : Bool). x && not (lists_own_resource c it.uses e)) none) ∙ is in cc

  pub position-once : IsOnce order
  position-once = once_at order (subst Once (sym h.is) (once_joined h.types (if b then [] else others_from 0 it.exports) (taken-once (Reaches c it.exports) (is_other_type_at c it) h.types h.taken) (rest-once b) apart))

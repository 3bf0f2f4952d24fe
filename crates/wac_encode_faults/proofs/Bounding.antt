-- Types whose free resources are bound, and items that have no fault then.
use Rattle.std.proofs.Common.{ℕ, zero, suc, ◌+◌, ◌<◌, ◌≤◌, true, List, [], ◌∷◌, ◌++◌, length, Contains, Option, Some, None, ◌≡◌, ◌⊎◌, ◌↔◌, inl, inr, refl, ap, sym, ◌∙◌, subst, append_assoc, arith, slice_get}
use Rattle.std.specs.Prelude.{IsSome}
use Rattle.wac_types_shapes.specs.primitives.Name.{Name}
use Rattle.wac_types_shapes.specs.primitives.Tree.{Leaf}
use Rattle.wac_types_shapes.specs.shapes.Kinds.{kind_type}
use Rattle.wac_types_shapes.specs.declared.shapes.component.InterfaceId.{InterfaceId}
use Rattle.wac_types_shapes.specs.declared.shapes.component.ItemKind.{ItemKind}
use Rattle.wac_types_shapes.specs.declared.shapes.component.ItemKind.TheVariants as kind
use Rattle.wac_types_shapes.specs.declared.shapes.component.ResourceId.{ResourceId}
use Rattle.wac_types_shapes.specs.declared.shapes.component.WorldId.{WorldId}
use Rattle.wac_types_shapes.specs.declared.shapes.component.«Type».{«Type» as AnyType}
use Rattle.wac_types_shapes.specs.declared.shapes.component.«Type».TheVariants as ty
use Rattle.wac_types_collection.specs.collection.Bound.{Bindings}
use Rattle.wac_types_collection.specs.collection.Collection.{Collection, holds_type}
use Rattle.wac_types_collection.specs.collection.Held.{resolved}
use Rattle.wac_types_collection.specs.reach.Reach.{IsIn}
use Rattle.wac_types_collection.specs.private.reach.Found.{with_all}
use Rattle.wac_types_collection.proofs.lemmas.reach.Lists.{at_in, all_old, all_new, all_only, all_grown}
use Rattle.wac_types_collection.proofs.lemmas.wide.Members.{in_none}
use Rattle.wac_encode_faults.specs.private.BoundTypes.{AreBoundWithParts}
use Rattle.wac_encode_faults.specs.declared.fault.WriteFault.{WriteFault}
use Rattle.wac_encode_faults.specs.declared.faults.Role.{Role}
use Rattle.wac_encode_faults.specs.declared.faults.Role.TheVariants as role
use Rattle.wac_encode_faults.specs.Faults.{import_fault, listed_items, IsInside, itself, in_item, IsTypeFault, of_listed, of_world, IsImportFault, own, unbound, inside, HasFault}
use Rattle.wac_encode_faults.specs.Free.{parts, IsFree, IsUnbound}
use Rattle.wac_encode_faults.specs.private.Near.{IsPart, first, onward}
use Rattle.wac_encode_faults.specs.private.Plain.{plain_type}
use Rattle.wac_encode_faults.proofs.FreeParts.{free_among}
use Rattle.wac_encode_faults.proofs.Mentioned.{in_front}

-- ---- types
pub none_bound : (c : Collection) (bound : List ResourceId) (ts : List AnyType) → ts ≡ [] → AreBoundWithParts c bound ts
none_bound c bound ts none = subst (AreBoundWithParts c bound) (sym none) (record { held = λ t h. absurd h; closed = λ t u h w. absurd h; resources = λ r h. absurd h })

module _ (c : Collection) (bound : List ResourceId) (old : List AnyType) (are : AreBoundWithParts c bound old) (t : AnyType) (start : List AnyType) (began : start ≡ with_all old (t ∷ [])) where
  in_start : (u : AnyType) → IsIn u start → IsIn u old ⊎ (u ≡ t)
  in_start u h = elim (all_only old (t ∷ []) u (subst (IsIn u) began h)) [ inl w ↦ inl w | inr w ↦ elim w [ inl e ↦ inr e | inr n ↦ absurd n ] ]

  pub start_held : holds_type c t ≡ true → (u : AnyType) → IsIn u start → holds_type c u ≡ true
  start_held held u h = elim (in_start u h) [ inl w ↦ are.held u w | inr e ↦ subst (λ z. holds_type c z ≡ true) (sym e) held ]

  pub start_before : (n p : ℕ) (u v : AnyType) → n ≡ length old → p < n → slice_get start p ≡ Some u → IsIn v (parts c u) → IsIn v start
  start_before n p u v count l at h =
      let (added, is) = all_grown old (t ∷ []) in
      let here = in_front old added p u (omega (arith, l, count)) (subst (λ (z : List AnyType). slice_get z p ≡ Some u) (began ∙ is) at) in
      subst (IsIn v) (sym began) (all_old old (t ∷ []) v (are.closed u v here h))

  module _ (found : List AnyType) (all : (u : AnyType) → IsIn u found ↔ IsPart c start u) (grown : (more : List AnyType) × (found ≡ start ++ more)) where
    there : IsIn t found
    there = (all t).1 (first t (subst (IsIn t) (sym began) (all_new old (t ∷ []) t (inl refl))))

    less_or : (i n : ℕ) → (i < n) ⊎ (n ≤ i)
    less_or i zero = inr (omega arith)
    less_or zero (suc n) = inl (omega arith)
    less_or (suc i) (suc n) = elim (less_or i n) [ inl l ↦ inl (omega (arith, l)) | inr l ↦ inr (omega (arith, l)) ]

    -- with what a type is made of, if each resource after the old types is bound
    pub more_bound : (n : ℕ) → n ≡ length old → ((u : AnyType) → IsIn u found → holds_type c u ≡ true)
        → ((i : ℕ) (r : ResourceId) → n ≤ i → slice_get found i ≡ Some (ty.Resource r) → Contains bound (resolved c r)) → AreBoundWithParts c bound found
    more_bound n count held each = record {
      held = held;
      closed = λ u v h w. (all v).1 (onward u v ((all u).0 h) w);
      resources = λ r h. (let (i, l, at) = at_in (ty.Resource r) found h in by r i at (less_or i n));
    }
      where
        by : (r : ResourceId) (i : ℕ) → slice_get found i ≡ Some (ty.Resource r) → (i < n) ⊎ (n ≤ i) → Contains bound (resolved c r)
        by r i at (inr l) = each i r l at
        by r i at (inl l) =
            let (added, is) = all_grown old (t ∷ []) in
            let whole : found ≡ old ++ (added ++ grown.0) = grown.1 ∙ (ap (λ (z : List AnyType). z ++ grown.0) (began ∙ is) ∙ append_assoc old added grown.0) in
            are.resources r (in_front old (added ++ grown.0) i (ty.Resource r) (omega (arith, l, count)) (subst (λ (z : List AnyType). slice_get z i ≡ Some (ty.Resource r)) whole at))

    -- then its free resources are bound
    pub free_bound : ((i : InterfaceId) → t ≡ ty.Interface i → ⊥) → AreBoundWithParts c bound found → (r : ResourceId) → IsFree c t r → Contains bound r
    free_bound other now r f = free_among c found (Contains bound) now.closed now.resources t r other there f

-- ---- resources from a position on

-- What is known of the resources at the positions from the first one up to the next.
abbrev pub AreBoundTo : Collection → List ResourceId → List AnyType → ℕ → ℕ → Type 0
AreBoundTo c bound ts from next = (i : ℕ) (r : ResourceId) → from ≤ i → i < next → slice_get ts i ≡ Some (ty.Resource r) → Contains bound (resolved c r)

pub bound_to_first : (c : Collection) (bound : List ResourceId) (ts : List AnyType) (from : ℕ) → AreBoundTo c bound ts from from
bound_to_first c bound ts from i r l m at = absurd (omega (arith, l, m))

pub bound_to_next : (c : Collection) (bound : List ResourceId) (ts : List AnyType) (from next : ℕ) (u : AnyType) → slice_get ts next ≡ Some u → ((r : ResourceId) → u ≡ ty.Resource r → Contains bound (resolved c r))
    → AreBoundTo c bound ts from next → AreBoundTo c bound ts from (next + 1)
bound_to_next c bound ts from next u at here was i r l m is = by (split i next m)
  where
    split : (i n : ℕ) → i < n + 1 → (i < n) ⊎ (i ≡ n)
    split zero zero l = inr refl
    split zero (suc n) l = inl (omega arith)
    split (suc i) zero l = absurd (omega (arith, l))
    split (suc i) (suc n) l = elim (split i n (omega (arith, l))) [ inl k ↦ inl (omega (arith, k)) | inr e ↦ inr (ap suc e) ]

    one : (a b : AnyType) → Some a ≡ Some b → a ≡ b
    one a b e = cc

    by : (i < next) ⊎ (i ≡ next) → Contains bound (resolved c r)
    by (inl k) = was i r l k is
    by (inr e) = here r (one u (ty.Resource r) (sym at ∙ subst (λ k. slice_get ts k ≡ Some (ty.Resource r)) e is))

-- ---- items
pub plain_kind : (k : ItemKind) (t : AnyType) → plain_type k ≡ Some t → kind_type k ≡ t
plain_kind (kind.TypeItem (ty.Resource r)) t e = cc
plain_kind (kind.TypeItem (ty.Func f)) t e = cc
plain_kind (kind.TypeItem (ty.Value v)) t e = cc
plain_kind (kind.TypeItem (ty.Interface i)) t e = cc
plain_kind (kind.TypeItem (ty.World w)) t e = cc
plain_kind (kind.TypeItem (ty.Module m)) t e = cc
plain_kind (kind.Func f) t e = cc
plain_kind (kind.Instance i) t e = cc
plain_kind (kind.Component w) t e = cc
plain_kind (kind.Module m) t e = cc
plain_kind (kind.Value v) t e = cc

pub plain_other : (k : ItemKind) (t : AnyType) → plain_type k ≡ Some t → (i : InterfaceId) → t ≡ ty.Interface i → ⊥
plain_other (kind.TypeItem (ty.Resource r)) t e i is = cc
plain_other (kind.TypeItem (ty.Func f)) t e i is = cc
plain_other (kind.TypeItem (ty.Value v)) t e i is = cc
plain_other (kind.TypeItem (ty.Interface j)) t e i is = cc
plain_other (kind.TypeItem (ty.World w)) t e i is = cc
plain_other (kind.TypeItem (ty.Module m)) t e i is = cc
plain_other (kind.Func f) t e i is = cc
plain_other (kind.Instance j) t e i is = cc
plain_other (kind.Component w) t e i is = cc
plain_other (kind.Module m) t e i is = cc
plain_other (kind.Value v) t e i is = cc

module _ (c : Collection) (root : Bindings) where
  -- inside a type without imports and exports there is only the type
  alone : (s t : AnyType) → listed_items c t ≡ [] → IsInside c s t → s ≡ t
  alone s t none (itself _ _ e) = e
  alone s t none (in_item _ _ k listed h) = let (n, w) = listed in absurd (in_none (n, k) (subst (λ (z : List (Name × ItemKind)). Contains z (n, k)) none w))

  no_import : (k : ItemKind) → import_fault k ≡ None → listed_items c (kind_type k) ≡ [] → ((w : WorldId) → kind_type k ≡ ty.World w → ⊥) → (IsUnbound c root (kind_type k) → ⊥) → (f : WriteFault) → IsImportFault c root k f → ⊥
  no_import k none listed no_world is_bound _ (own f e) = let wrong : None ≡ Some f = sym none ∙ e in cc
  no_import k none listed no_world is_bound _ (unbound h) = is_bound h
  no_import k none listed no_world is_bound _ (inside f (s, there, h)) = of_type (kind_type k) listed no_world f (subst (λ z. IsTypeFault c z f) (alone s (kind_type k) listed there) h)
    where
      of_type : (t : AnyType) → listed_items c t ≡ [] → ((w : WorldId) → t ≡ ty.World w → ⊥) → (f : WriteFault) → IsTypeFault c t f → ⊥
      of_type t none no_world _ (of_listed _ f h) = let (k, listed, e) = h in let (n, w) = listed in in_none (n, k) (subst (λ (z : List (Name × ItemKind)). Contains z (n, k)) none w)
      of_type _ none no_world _ (of_world w f h) = no_world w refl

  -- an item that is no scope, and whose free resources are bound, has no fault
  pub plain_clean : (k : ItemKind) (t : AnyType) → plain_type k ≡ Some t → (IsUnbound c root t → ⊥) → (in_role : Role) (f : WriteFault) → HasFault c root in_role k f → ⊥
  plain_clean k t is free in_role f h = by k is (subst (λ z. IsUnbound c root z → ⊥) (sym (plain_kind k t is)) free) in_role f h
    where
      none : (f : WriteFault) → None ≡ Some f → ⊥
      none f e = cc

      never : None ≡ Some t → ⊥
      never e = cc

      by : (k : ItemKind) → plain_type k ≡ Some t → (IsUnbound c root (kind_type k) → ⊥) → (in_role : Role) (f : WriteFault) → HasFault c root in_role k f → ⊥
      by (kind.TypeItem (ty.Resource r)) is free role.Imported f h = no_import (kind.TypeItem (ty.Resource r)) refl refl (λ w e. cc) free f h
      by (kind.TypeItem (ty.Resource r)) is free role.Defined f (inl e) = none f e
      by (kind.TypeItem (ty.Resource r)) is free role.Defined f (inr w) = free w.0
      by (kind.TypeItem (ty.Func x)) is free role.Imported f h = no_import (kind.TypeItem (ty.Func x)) refl refl (λ w e. cc) free f h
      by (kind.TypeItem (ty.Func x)) is free role.Defined f (inl e) = none f e
      by (kind.TypeItem (ty.Func x)) is free role.Defined f (inr w) = free w.0
      by (kind.TypeItem (ty.Value v)) is free role.Imported f h = no_import (kind.TypeItem (ty.Value v)) refl refl (λ w e. cc) free f h
      by (kind.TypeItem (ty.Value v)) is free role.Defined f (inl e) = none f e
      by (kind.TypeItem (ty.Value v)) is free role.Defined f (inr w) = free w.0
      by (kind.TypeItem (ty.Interface i)) is free in_role f h = absurd (never is)
      by (kind.TypeItem (ty.World w)) is free in_role f h = absurd (never is)
      by (kind.TypeItem (ty.Module m)) is free in_role f h = absurd (never is)
      by (kind.Func x) is free role.Imported f h = no_import (kind.Func x) refl refl (λ w e. cc) free f h
      by (kind.Func x) is free role.Defined f (inl e) = none f e
      by (kind.Func x) is free role.Defined f (inr w) = free w.0
      by (kind.Instance i) is free in_role f h = absurd (never is)
      by (kind.Component w) is free in_role f h = absurd (never is)
      by (kind.Module m) is free in_role f h = absurd (never is)
      by (kind.Value v) is free in_role f h = absurd (never is)

  -- what the root binds has a binding
  pub not_unbound : (bound : List ResourceId) (t : AnyType) → ((r : ResourceId) → IsFree c t r → Contains bound r) → ((r : ResourceId) → Contains bound r ↔ IsSome (root r)) → IsUnbound c root t → ⊥
  not_unbound bound t free rooted (r, f, none) = nothing (root r) none ((rooted r).0 (free r f))
    where
      nothing : (o : Option Leaf) → o ≡ None → IsSome o → ⊥
      nothing None e h = cc
      nothing (Some x) e h = cc

-- What was found is what a type reaches.
use Rattle.std.proofs.Common.{ℕ, zero, suc, ◌+◌, ◌<◌, ◌≤◌, true, List, [], ◌∷◌, ◌++◌, Option, Some, None, length, take, ◌≡◌, ◌⊎◌, inl, inr, refl, ap, sym, ◌∙◌, subst, arith, append_assoc}
use Rattle.std.specs.Prelude.{slice_get, ◌↔◌}
use Rattle.std.specs.List.{AllByRecursion}
use Rattle.wac_types_shapes.specs.primitives.Name.{option_case}
use Rattle.wac_types_shapes.specs.declared.shapes.component.ValueType.TheVariants as val
use Rattle.wac_types_shapes.specs.declared.shapes.component.«Type».{«Type» as AnyType}
use Rattle.wac_types_shapes.specs.declared.shapes.component.«Type».TheVariants as ty
use Rattle.wac_types_collection.specs.declared.collection.collection.Held.{Held}
use Rattle.wac_types_collection.specs.collection.Collection.{Collection, IsWellFormed, Each, AreBefore, IsBefore, holds_type, item_of, size, resource_mentions, func_mentions, defined_mentions, interface_mentions, world_mentions}
use Rattle.wac_types_collection.proofs.lemmas.collection.Growth.{type_within}
use Rattle.wac_types_collection.specs.reach.Reach.{IsIn, mentions, Reaches, at_once, further, AreClosed}
use Rattle.wac_types_collection.specs.private.reach.Found.{with_all}
use Rattle.wac_types_collection.proofs.lemmas.reach.Lists.{in_left, in_at, at_in, take_append, all_old, all_new, all_only, all_grown}

-- ---- what a held type mentions is held
in_all : (P : AnyType → Type 0) (ts : List AnyType) (t : AnyType) → AllByRecursion P ts → IsIn t ts → P t
in_all P [] t h w = absurd w
in_all P (x ∷ ts) t h (inl e) = subst P (sym e) h.0
in_all P (x ∷ ts) t h (inr w) = in_all P ts t h.1 w

item_held : {A : Type 0} (c : Collection) (f : A → List AnyType) (xs : List (Held A)) (i : ℕ) → Each xs (λ h. (h.before < size c) × AreBefore c h.before (f h.item)) → (t : AnyType)
    → IsIn t (option_case (item_of (slice_get xs i)) [] f) → holds_type c t ≡ true
item_held c f xs i each t = by (slice_get xs i) refl where
  by : (o : Option (Held _)) → slice_get xs i ≡ o → IsIn t (option_case (item_of o) [] f) → holds_type c t ≡ true
  by None is w = absurd w
  by (Some h) is w = type_within c h.before t (in_all (IsBefore c h.before) (f h.item) t (each i h is).1 w)

pub mentioned_held : (c : Collection) → IsWellFormed c → (u t : AnyType) → holds_type c u ≡ true → IsIn t (mentions c u) → holds_type c t ≡ true
mentioned_held c wf (ty.Resource r) t held w = item_held c resource_mentions c.resources r.0 wf.resources t w
mentioned_held c wf (ty.Func r) t held w = item_held c func_mentions c.funcs r.0 wf.funcs t w
mentioned_held c wf (ty.Value (val.Primitive p)) t held w = absurd w
mentioned_held c wf (ty.Value (val.Own r)) t held (inl e) = subst (λ z. holds_type c z ≡ true) (sym e) held
mentioned_held c wf (ty.Value (val.Own r)) t held (inr w) = absurd w
mentioned_held c wf (ty.Value (val.Borrow r)) t held (inl e) = subst (λ z. holds_type c z ≡ true) (sym e) held
mentioned_held c wf (ty.Value (val.Borrow r)) t held (inr w) = absurd w
mentioned_held c wf (ty.Value (val.Defined d)) t held w = item_held c defined_mentions c.defined d.0 wf.defined t w
mentioned_held c wf (ty.Interface r) t held w = item_held c interface_mentions c.interfaces r.0 wf.interfaces t w
mentioned_held c wf (ty.World r) t held w = item_held c world_mentions c.worlds r.0 wf.worlds t w
mentioned_held c wf (ty.Module r) t held w = absurd w

-- ---- the types that were found behind others, of which those before the next have been looked at
pub record AreFound (c : Collection) (old : List AnyType) (root : AnyType) (ts : List AnyType) (next : ℕ) : Type 0 where
  pub reached : (t : AnyType) → IsIn t ts → IsIn t old ⊎ Reaches c root t
  pub held : (t : AnyType) → IsIn t ts → holds_type c t ≡ true
  pub first : (t : AnyType) → IsIn t (mentions c root) → IsIn t ts
  pub grown : (added : List AnyType) × (ts ≡ old ++ added)
  pub closed : (i : ℕ) (u t : AnyType) → i < next → slice_get ts i ≡ Some u → IsIn t (mentions c u) → IsIn t ts

-- what a reached type mentions is reached
onward : (c : Collection) (a u t : AnyType) → Reaches c a u → IsIn t (mentions c u) → Reaches c a t
onward c a u t (at_once _ _ h) w = further a u t h (at_once u t w)
onward c a u t (further _ b _ h r) w = further a b t h (onward c b u t r w)

-- what stands before an end stands there also where there is more
before_end : (xs added : List AnyType) (i : ℕ) (x : AnyType) → i < length xs → slice_get (xs ++ added) i ≡ Some x → slice_get xs i ≡ Some x
before_end [] added i x l is = absurd (omega (arith, l))
before_end (z ∷ xs) added zero x l is = is
before_end (z ∷ xs) added (suc i) x l is = before_end xs added i x (omega (arith, l)) is

pub found_first : (c : Collection) → IsWellFormed c → (old : List AnyType) → AreClosed c old → (root : AnyType) → holds_type c root ≡ true → AreFound c old root (with_all old (mentions c root)) (length old)
found_first c wf old whole root held = record {
  reached = λ t h. by_reached t (all_only old (mentions c root) t h);
  held = λ t h. by_held t (all_only old (mentions c root) t h);
  first = λ t h. all_new old (mentions c root) t h;
  grown = all_grown old (mentions c root);
  closed = λ i u t l is w.
      let (added, grown) = all_grown old (mentions c root) in
      all_old old (mentions c root) t (whole.mentioned u t (in_at u old i (before_end old added i u l (subst (λ z. slice_get z i ≡ Some u) grown is))) w);
}
  where
    by_reached : (t : AnyType) → IsIn t old ⊎ IsIn t (mentions c root) → IsIn t old ⊎ Reaches c root t
    by_reached t (inl h) = inl h
    by_reached t (inr w) = inr (at_once root t w)

    by_held : (t : AnyType) → IsIn t old ⊎ IsIn t (mentions c root) → holds_type c t ≡ true
    by_held t (inl h) = whole.held t h
    by_held t (inr w) = mentioned_held c wf root t held w

module _ (c : Collection) (wf : IsWellFormed c) (old : List AnyType) (whole : AreClosed c old) (root : AnyType) (ts : List AnyType) (next : ℕ) (u : AnyType) (at : slice_get ts next ≡ Some u) (f : AreFound c old root ts next) where
  there : IsIn u ts
  there = in_at u ts next at

  Either : AnyType → Type 0
  Either t = IsIn t ts ⊎ IsIn t (mentions c u)

  earlier : (xs added : List AnyType) (i : ℕ) (x y : AnyType) → slice_get xs i ≡ Some x → slice_get (xs ++ added) i ≡ Some y → y ≡ x
  earlier [] added i x y is also = cc
  earlier (z ∷ xs) added zero x y is also = cc
  earlier (z ∷ xs) added (suc i) x y is also = earlier xs added i x y is also

  before : (xs added : List AnyType) (i n : ℕ) (x y : AnyType) → i < n → slice_get xs n ≡ Some x → slice_get (xs ++ added) i ≡ Some y → slice_get xs i ≡ Some y
  before [] added i n x y l is also = cc
  before (z ∷ xs) added zero n x y l is also = also
  before (z ∷ xs) added (suc i) zero x y l is also = absurd (omega (arith, l))
  before (z ∷ xs) added (suc i) (suc n) x y l is also = before xs added i n x y (omega (arith, l)) is also

  pub found_next : AreFound c old root (with_all ts (mentions c u)) (next + 1)
  unfolding Either
  found_next = record {
    reached = λ t h. reached t (all_only ts (mentions c u) t h);
    held = λ t h. held t (all_only ts (mentions c u) t h);
    first = λ t h. all_old ts (mentions c u) t (f.first t h);
    grown =
        let (one, first) = f.grown in
        let (more, next) = all_grown ts (mentions c u) in
        (one ++ more, next ∙ ap (λ x. x ++ more) first ∙ append_assoc old one more);
    closed = λ i x t l is w. closed i x t (split i l) is w;
  }
    where
      beyond : (t : AnyType) → IsIn t (mentions c u) → IsIn u old ⊎ Reaches c root u → IsIn t old ⊎ Reaches c root t
      beyond t w (inl h) = inl (whole.mentioned u t h w)
      beyond t w (inr r) = inr (onward c root u t r w)

      reached : (t : AnyType) → Either t → IsIn t old ⊎ Reaches c root t
      reached t (inl h) = f.reached t h
      reached t (inr w) = beyond t w (f.reached u there)

      held : (t : AnyType) → Either t → holds_type c t ≡ true
      held t (inl h) = f.held t h
      held t (inr w) = mentioned_held c wf u t (f.held u there) w

      split : (i : ℕ) → i < next + 1 → (i < next) ⊎ (i ≡ next)
      split i l = order i next l
        where
          order : (i n : ℕ) → i < n + 1 → (i < n) ⊎ (i ≡ n)
          order zero zero l = inr refl
          order zero (suc n) l = inl (omega arith)
          order (suc i) zero l = absurd (omega (arith, l))
          order (suc i) (suc n) l = elim (order i n (omega (arith, l))) [ inl k ↦ inl (omega (arith, k)) | inr e ↦ inr (ap suc e) ]

      closed : (i : ℕ) (x t : AnyType) → (i < next) ⊎ (i ≡ next) → slice_get (with_all ts (mentions c u)) i ≡ Some x → IsIn t (mentions c x) → IsIn t (with_all ts (mentions c u))
      closed i x t (inl l) is w =
          let (added, grown) = all_grown ts (mentions c u) in
          all_old ts (mentions c u) t (f.closed i x t l (before ts added i next u x l at (subst (λ z. slice_get z i ≡ Some x) grown is)) w)
      closed i x t (inr e) is w =
          let (added, grown) = all_grown ts (mentions c u) in
          let same : x ≡ u = earlier ts added next u x at (subst (λ z. slice_get z next ≡ Some x) grown (subst (λ k. slice_get (with_all ts (mentions c u)) k ≡ Some x) e is)) in
          all_new ts (mentions c u) t (subst (λ z. IsIn t (mentions c z)) same w)

-- all was looked at
module _ (c : Collection) (old : List AnyType) (root : AnyType) (ts : List AnyType) (next : ℕ) (past : length ts ≤ next) (f : AreFound c old root ts next) where
  onwards : (u b : AnyType) → IsIn u ts → IsIn b (mentions c u) → IsIn b ts
  onwards u b h w = let (i, l, is) = at_in u ts h in f.closed i u b (omega (arith, l, past)) is w

  all_reached : (a t : AnyType) → ((b : AnyType) → IsIn b (mentions c a) → IsIn b ts) → Reaches c a t → IsIn t ts
  all_reached a t all (at_once _ _ h) = all t h
  all_reached a t all (further _ b _ h r) = all_reached b t (λ d w. onwards b d (all b h) w) r

  all_there : (t : AnyType) → IsIn t old ⊎ Reaches c root t → IsIn t ts
  all_there t (inl h) = let (added, grown) = f.grown in subst (IsIn t) (sym grown) (in_left t old added h)
  all_there t (inr r) = all_reached root t f.first r

  pub found_all : (t : AnyType) → IsIn t ts ↔ (IsIn t old ⊎ Reaches c root t)
  found_all t = (f.reached t, all_there t)

  pub found_closed : AreClosed c ts
  found_closed = record { held = f.held; mentioned = λ u t h w. onwards u t h w }

  pub found_behind : take (length old) ts ≡ old
  found_behind = let (added, grown) = f.grown in ap (take (length old)) grown ∙ take_append old added

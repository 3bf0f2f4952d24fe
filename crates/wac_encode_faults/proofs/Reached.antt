-- Used interfaces were added before those that use them.
use Rattle.std.proofs.Common.{ℕ, zero, suc, ◌+◌, ◌<◌, ◌≤◌, List, [], ◌∷◌, ◌++◌, length, Contains, Option, Some, None, ◌≡◌, ◌⊎◌, inl, inr, refl, ap, sym, subst, arith, slice_get}
use Rattle.std.specs.List.{AllByRecursion}
use Rattle.wac_types_shapes.specs.primitives.Name.{Name, option_case}
use Rattle.wac_types_shapes.specs.declared.shapes.component.Interface.{Interface}
use Rattle.wac_types_shapes.specs.declared.shapes.component.InterfaceId.{InterfaceId}
use Rattle.wac_types_shapes.specs.declared.shapes.component.UsedType.{UsedType}
use Rattle.wac_types_shapes.specs.declared.shapes.component.World.{World}
use Rattle.wac_types_shapes.specs.declared.shapes.component.WorldId.{WorldId}
use Rattle.wac_types_shapes.specs.declared.shapes.component.«Type».{«Type» as AnyType}
use Rattle.wac_types_shapes.specs.declared.shapes.component.«Type».TheVariants as ty
use Rattle.wac_types_collection.specs.declared.collection.collection.Held.{Held}
use Rattle.wac_types_collection.specs.collection.Collection.{Collection, IsWellFormed, IsBefore, AddedBefore, HasInterface, size, item_of, item_at, kind_types, used_types}
use Rattle.wac_types_collection.specs.wide.Wide.{interface_uses, used_interfaces, UsesWidely, by_itself, by_instance}
use Rattle.wac_types_collection.proofs.lemmas.wide.Members.{in_none, in_parts, in_map}

-- ---- used interfaces were added before
all_left : (P : AnyType → Type 0) (xs ys : List AnyType) → AllByRecursion P (xs ++ ys) → AllByRecursion P xs
all_left P [] ys all = tt
all_left P (x ∷ xs) ys all = (all.0, all_left P xs ys all.1)

all_used : (P : AnyType → Type 0) (uses : List (Name × UsedType)) (k : InterfaceId) → AllByRecursion P (used_types uses) → Contains (used_interfaces uses) k → P (ty.Interface k)
all_used P [] k all h = absurd (in_none k h)
all_used P (u ∷ uses) k all h = elim (in_parts u.1.interface k (used_interfaces uses) h) [
  | inl same ↦ subst (λ (z : InterfaceId). P (ty.Interface z)) (sym same) all.0
  | inr w ↦ all_used P uses k all.1 w
]

-- The interface is of the collection, and was added before the n-th item.
abbrev pub IsDeep : Collection → ℕ → InterfaceId → Type 0
IsDeep c n i = AddedBefore n (slice_get c.interfaces i.0)

less_deep : {A : Type 0} (m n : ℕ) (o : Option (Held A)) → m ≤ n → AddedBefore m o → AddedBefore n o
less_deep m n None l h = h
less_deep m n (Some x) l h = omega (arith, l, h)

pub none_before : {A : Type 0} (o : Option (Held A)) → AddedBefore 0 o → ⊥
none_before None h = h
none_before (Some x) h = absurd (omega (arith, h))

pub used_deep : (c : Collection) → IsWellFormed c → (n : ℕ) (i k : InterfaceId) → IsDeep c (suc n) i → Contains (used_interfaces (interface_uses c i)) k → IsDeep c n k
used_deep c wf n i k deep h = by (slice_get c.interfaces i.0) refl deep h
  where
    by : (o : Option (Held Interface)) → slice_get c.interfaces i.0 ≡ o → AddedBefore (suc n) o → Contains (used_interfaces (option_case (item_of o) [] (λ (x : Interface). x.uses))) k → IsDeep c n k
    by None is l w = absurd l
    by (Some x) is l w = less_deep x.before n (slice_get c.interfaces k.0) (omega (arith, l)) (all_used (IsBefore c x.before) x.item.uses k (all_left (IsBefore c x.before) (used_types x.item.uses) (kind_types x.item.exports) (wf.interfaces i.0 x is).1) w)

there_at : {A : Type 0} (xs : List A) (k : ℕ) → k < length xs → (x : A) × (slice_get xs k ≡ Some x)
there_at [] k l = absurd (omega (arith, l))
there_at (x ∷ xs) zero l = (x, refl)
there_at (x ∷ xs) (suc k) l = there_at xs k (omega (arith, l))

pub there_deep : (c : Collection) → IsWellFormed c → (i : InterfaceId) → HasInterface c i → IsDeep c (size c) i
there_deep c wf i l = let (x, is) = there_at c.interfaces i.0 l in subst (AddedBefore (size c)) (sym is) (wf.interfaces i.0 x is).0

deep_there : (c : Collection) (n : ℕ) (i : InterfaceId) → IsDeep c n i → HasInterface c i
deep_there c n i deep = by (slice_get c.interfaces i.0) refl deep
  where
    past : (xs : List (Held Interface)) (k : ℕ) (x : Held Interface) → slice_get xs k ≡ Some x → k < length xs
    past [] k x e = cc
    past (y ∷ xs) zero x e = omega arith
    past (y ∷ xs) (suc k) x e = let l = past xs k x e in omega (arith, l)

    by : (o : Option (Held Interface)) → slice_get c.interfaces i.0 ≡ o → AddedBefore n o → HasInterface c i
    by None is l = absurd l
    by (Some x) is l = past c.interfaces i.0 x is

-- ---- used interfaces are of the collection
module _ (c : Collection) (wf : IsWellFormed c) where
  pub used_there : (i k : InterfaceId) → HasInterface c i → Contains (used_interfaces (interface_uses c i)) k → HasInterface c k
  used_there i k there h = deep_there c (size c) k (less_deep (size c) (size c) (slice_get c.interfaces k.0) (omega arith) (used_deep c wf (size c) i k (less_deep (size c) (suc (size c)) (slice_get c.interfaces i.0) (omega arith) (there_deep c wf i there)) h))

  pub used_is_there : (i k : InterfaceId) → Contains (used_interfaces (interface_uses c i)) k → HasInterface c k
  used_is_there i k h = by (slice_get c.interfaces i.0) refl h
    where
      by : (o : Option (Held Interface)) → slice_get c.interfaces i.0 ≡ o → Contains (used_interfaces (option_case (item_of o) [] (λ (x : Interface). x.uses))) k → HasInterface c k
      by None is w = absurd (in_none k w)
      by (Some x) is w = deep_there c x.before k (all_used (IsBefore c x.before) x.item.uses k (all_left (IsBefore c x.before) (used_types x.item.uses) (kind_types x.item.exports) (wf.interfaces i.0 x is).1) w)

  pub wide_there : (i k : InterfaceId) → UsesWidely c i k → HasInterface c k
  wide_there i _ (by_itself _ n u h) = used_is_there i u.interface (in_map (λ (e : Name × UsedType). e.1.interface) (interface_uses c i) (n, u) h)
  wide_there i k (by_instance _ j _ n h further) = wide_there j k further

  pub world_uses_there : (w : WorldId) (x : World) (k : InterfaceId) → item_at c.worlds w.0 ≡ Some x → Contains (used_interfaces x.uses) k → HasInterface c k
  world_uses_there w x k at h = by (slice_get c.worlds w.0) refl at
    where
      by : (o : Option (Held World)) → slice_get c.worlds w.0 ≡ o → item_of o ≡ Some x → HasInterface c k
      by None is e = cc
      by (Some y) is e =
          let same : y.item ≡ x = one y.item e in
          let uses = subst (λ (z : World). Contains (used_interfaces z.uses) k) (sym same) h in
          deep_there c y.before k (all_used (IsBefore c y.before) y.item.uses k (all_left (IsBefore c y.before) (used_types y.item.uses) (kind_types y.item.imports ++ kind_types y.item.exports) (wf.worlds w.0 y is).1) uses)
        where
          one : (z : World) → Some z ≡ Some x → z ≡ x
          one z e = cc

-- ---- positions
module _ {A : Type 0} where
  pub earlier : (xs added : List A) (i : ℕ) (x y : A) → slice_get xs i ≡ Some x → slice_get (xs ++ added) i ≡ Some y → y ≡ x
  earlier [] added i x y is also = cc
  earlier (z ∷ xs) added zero x y is also = cc
  earlier (z ∷ xs) added (suc i) x y is also = earlier xs added i x y is also

  pub before : (xs added : List A) (i n : ℕ) (x y : A) → i < n → slice_get xs n ≡ Some x → slice_get (xs ++ added) i ≡ Some y → slice_get xs i ≡ Some y
  before [] added i n x y l is also = cc
  before (z ∷ xs) added zero n x y l is also = also
  before (z ∷ xs) added (suc i) zero x y l is also = absurd (omega (arith, l))
  before (z ∷ xs) added (suc i) (suc n) x y l is also = before xs added i n x y (omega (arith, l)) is also

pub split : (i next : ℕ) → i < next + 1 → (i < next) ⊎ (i ≡ next)
split zero zero l = inr refl
split zero (suc n) l = inl (omega arith)
split (suc i) zero l = absurd (omega (arith, l))
split (suc i) (suc n) l = elim (split i n (omega (arith, l))) [ inl k ↦ inl (omega (arith, k)) | inr e ↦ inr (ap suc e) ]

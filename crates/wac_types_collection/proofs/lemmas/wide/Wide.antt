-- The list of what an interface uses widely has exactly what it uses widely, and begins with its own uses.
use Rattle.std.proofs.Common.{ℕ, zero, suc, ◌+◌, ◌<◌, List, [], ◌∷◌, ◌++◌, length, Contains, Option, Some, None, ◌≡◌, ◌↔◌, inl, inr, refl, ap, sym, ◌∙◌, subst, arith, flat_map, slice_get}
use Rattle.std.specs.List.{AllByRecursion}
use Rattle.wac_types_shapes.specs.primitives.Name.{Name, option_case}
use Rattle.wac_types_shapes.specs.shapes.Kinds.{kind_type}
use Rattle.wac_types_shapes.specs.declared.shapes.component.Interface.{Interface}
use Rattle.wac_types_shapes.specs.declared.shapes.component.InterfaceId.{InterfaceId}
use Rattle.wac_types_shapes.specs.declared.shapes.component.ItemKind.{ItemKind}
use Rattle.wac_types_shapes.specs.declared.shapes.component.ItemKind.TheVariants as kind
use Rattle.wac_types_shapes.specs.declared.shapes.component.UsedType.{UsedType}
use Rattle.wac_types_shapes.specs.declared.shapes.component.«Type».{«Type» as AnyType}
use Rattle.wac_types_collection.specs.declared.collection.collection.Held.{Held}
use Rattle.wac_types_collection.specs.collection.Collection.{Collection, IsWellFormed, IsBefore, AddedBefore, HasInterface, size, item_of, interface_exports, kind_types, used_types}
use Rattle.wac_types_collection.specs.wide.Wide.{interface_uses, used_interfaces, instance_of, instances_of, UsesWidely, by_itself, by_instance, wide_uses_to, wide_uses}
use Rattle.wac_types_collection.proofs.lemmas.wide.Members.{in_none, in_first, in_parts, in_one, in_left, in_right, in_either, in_map, map_in, in_flat, flat_in, flat_same}

-- ---- instances among items
instance_is : (k : ItemKind) (i : InterfaceId) → Contains (instance_of k) i → k ≡ kind.Instance i
instance_is (kind.Instance j) i h = ap kind.Instance (sym (in_one j i h))
instance_is (kind.TypeItem t) i h = absurd (in_none i h)
instance_is (kind.Func f) i h = absurd (in_none i h)
instance_is (kind.Component w) i h = absurd (in_none i h)
instance_is (kind.Module m) i h = absurd (in_none i h)
instance_is (kind.Value v) i h = absurd (in_none i h)

pub instance_listed : (es : List (Name × ItemKind)) (i : InterfaceId) → Contains (instances_of es) i → (n : Name) × Contains es (n, kind.Instance i)
instance_listed es i h =
    let (e, there, is) = flat_in (λ (e : Name × ItemKind). instance_of e.1) es i h in
    (e.0, subst (λ (k : ItemKind). Contains es (e.0, k)) (instance_is e.1 i is) there)

pub listed_instance : (es : List (Name × ItemKind)) (n : Name) (i : InterfaceId) → Contains es (n, kind.Instance i) → Contains (instances_of es) i
listed_instance es n i h = in_flat (λ (e : Name × ItemKind). instance_of e.1) es (n, kind.Instance i) i h (in_first i [])

-- ---- what is mentioned was added before
pub all_at : (P : AnyType → Type 0) (es : List (Name × ItemKind)) (e : Name × ItemKind) → AllByRecursion P (kind_types es) → Contains es e → P (kind_type e.1)
all_at P [] e all h = absurd (in_none e h)
all_at P (x ∷ es) e all h = elim (in_parts x e es h) [
  | inl same ↦ subst (λ (z : Name × ItemKind). P (kind_type z.1)) (sym same) all.0
  | inr w ↦ all_at P es e all.1 w
]

pub all_right : (P : AnyType → Type 0) (xs ys : List AnyType) → AllByRecursion P (xs ++ ys) → AllByRecursion P ys
all_right P [] ys all = all
all_right P (x ∷ xs) ys all = all_right P xs ys all.1

-- The interface, if it is of the collection, was added before the n-th item.
abbrev pub IsWithin : Collection → ℕ → InterfaceId → Type 0
IsWithin c n i = (h : Held Interface) → slice_get c.interfaces i.0 ≡ Some h → h.before < n

exports_at : (c : Collection) (i : InterfaceId) (j : InterfaceId) → Contains (instances_of (interface_exports c i)) j
    → (h : Held Interface) × (slice_get c.interfaces i.0 ≡ Some h) × Contains (instances_of h.item.exports) j
exports_at c i j w = by (slice_get c.interfaces i.0) refl w
  where
    by : (o : Option (Held Interface)) → slice_get c.interfaces i.0 ≡ o → Contains (instances_of (option_case (item_of o) [] (λ x. x.exports))) j
        → (h : Held Interface) × (slice_get c.interfaces i.0 ≡ Some h) × Contains (instances_of h.item.exports) j
    by None is w = absurd (in_none j w)
    by (Some h) is w = (h, is, w)

pub added_at : {A : Type 0} (n : ℕ) (o : Option (Held A)) → AddedBefore n o → (h : Held A) × (o ≡ Some h) × (h.before < n)
added_at n None l = absurd l
added_at n (Some h) l = (h, refl, l)

one_held : {A : Type 0} (x y : A) (o : Option A) → o ≡ Some x → o ≡ Some y → x ≡ y
one_held x y o e f = let both : Some x ≡ Some y = sym e ∙ f in inner both
  where
    inner : Some x ≡ Some y → x ≡ y
    inner h = cc

-- An instance that an interface exports was added before it.
pub record IsBelow (c : Collection) (x v : InterfaceId) : Type 0 where
  pub lower : Held Interface
  pub higher : Held Interface
  pub lower_at : slice_get c.interfaces x.0 ≡ Some lower
  pub higher_at : slice_get c.interfaces v.0 ≡ Some higher
  pub less : lower.before < higher.before

pub instance_below : (c : Collection) → IsWellFormed c → (i j : InterfaceId) → Contains (instances_of (interface_exports c i)) j → IsBelow c j i
instance_below c wf i j w =
    let (h, at, here) = exports_at c i j w in
    let (n, listed) = instance_listed h.item.exports j here in
    let before = all_at (IsBefore c h.before) h.item.exports (n, kind.Instance j) (all_right (IsBefore c h.before) (used_types h.item.uses) (kind_types h.item.exports) (wf.interfaces i.0 h at).1) listed in
    let (low, low_at, less) = added_at h.before (slice_get c.interfaces j.0) before in
    record { lower = low; higher = h; lower_at = low_at; higher_at = at; less = less }

pub not_below_itself : (c : Collection) (v : InterfaceId) → IsBelow c v v → ⊥
not_below_itself c v b =
    let same = one_held b.lower b.higher (slice_get c.interfaces v.0) b.lower_at b.higher_at in
    let l = b.less in
    let equal = ap (λ (h : Held Interface). h.before) same in
    omega (arith, l, equal)

pub below_below : (c : Collection) (x y z : InterfaceId) → IsBelow c x y → IsBelow c y z → IsBelow c x z
below_below c x y z a b =
    let same = one_held a.higher b.lower (slice_get c.interfaces y.0) a.higher_at b.lower_at in
    let equal = ap (λ (h : Held Interface). h.before) same in
    let l = a.less in
    let m = b.less in
    record { lower = a.lower; higher = b.higher; lower_at = a.lower_at; higher_at = b.higher_at; less = omega (arith, l, m, equal) }

length_past : {A : Type 0} (xs : List A) (k : ℕ) (x : A) → slice_get xs k ≡ Some x → k < length xs
length_past [] k x e = cc
length_past (y ∷ xs) zero x e = omega arith
length_past (y ∷ xs) (suc k) x e = let l = length_past xs k x e in omega (arith, l)

pub below_there : (c : Collection) (x v : InterfaceId) → IsBelow c x v → HasInterface c x
below_there c x v b = length_past c.interfaces x.0 b.lower b.lower_at

within_instance : (c : Collection) → IsWellFormed c → (n : ℕ) (i j : InterfaceId) → IsWithin c (suc n) i → Contains (instances_of (interface_exports c i)) j → IsWithin c n j
within_instance c wf n i j deep w h at =
    let b = instance_below c wf i j w in
    let same = one_held b.lower h (slice_get c.interfaces j.0) b.lower_at at in
    let equal = ap (λ (x : Held Interface). x.before) same in
    let l = b.less in
    let m = deep b.higher b.higher_at in
    omega (arith, l, m, equal)

within_size : (c : Collection) → IsWellFormed c → (i : InterfaceId) → IsWithin c (size c) i
within_size c wf i h at = (wf.interfaces i.0 h at).0

within_more : (c : Collection) (n : ℕ) (i : InterfaceId) → IsWithin c n i → IsWithin c (suc n) i
within_more c n i deep h at = let l = deep h at in omega (arith, l)

-- ---- an interface that is not there uses nothing
nothing_used : (c : Collection) (i : InterfaceId) → IsWithin c 0 i → (interface_uses c i ≡ []) × (interface_exports c i ≡ [])
nothing_used c i none = by (slice_get c.interfaces i.0) refl
  where
    by : (o : Option (Held Interface)) → slice_get c.interfaces i.0 ≡ o → (option_case (item_of o) [] (λ (x : Interface). x.uses) ≡ []) × (option_case (item_of o) [] (λ (x : Interface). x.exports) ≡ [])
    by None is = (refl, refl)
    by (Some h) is = let l = none h is in absurd (omega (arith, l))

-- ---- the depth does not count where it suffices
module _ (c : Collection) (wf : IsWellFormed c) where
  none_at : (d : ℕ) (i : InterfaceId) → IsWithin c 0 i → wide_uses_to d c i ≡ []
  none_at zero i none = refl
  none_at (suc d) i none =
      let (uses, exports) = nothing_used c i none in
      (λ t. used_interfaces (uses t) ++ flat_map (wide_uses_to d c) (instances_of (exports t)))

  steady : (d e : ℕ) (i : InterfaceId) → IsWithin c d i → IsWithin c e i → wide_uses_to d c i ≡ wide_uses_to e c i
  steady zero e i here there = sym (none_at e i here)
  steady (suc d) zero i here there = none_at (suc d) i there
  steady (suc d) (suc e) i here there =
      ap (λ l. used_interfaces (interface_uses c i) ++ l)
      (flat_same (wide_uses_to d c) (wide_uses_to e c) (instances_of (interface_exports c i)) (λ j w. steady d e j (within_instance c wf d i j here w) (within_instance c wf e i j there w)))

  -- what an interface uses widely is what it uses, and then what each of its instances uses widely
  pub wide_unfolds : (i : InterfaceId) → wide_uses c i ≡ used_interfaces (interface_uses c i) ++ flat_map (wide_uses c) (instances_of (interface_exports c i))
  wide_unfolds i = steady (size c) (suc (size c)) i (within_size c wf i) (within_more c (size c) i (within_size c wf i))

  -- ---- the list and the relation
  listed_wide : (d : ℕ) (i k : InterfaceId) → Contains (wide_uses_to d c i) k → UsesWidely c i k
  listed_wide zero i k h = absurd (in_none k h)
  listed_wide (suc d) i k h = elim (in_either (used_interfaces (interface_uses c i)) (flat_map (wide_uses_to d c) (instances_of (interface_exports c i))) k h) [
    | inl w ↦ itself w
    | inr w ↦ through (λ j h. listed_wide d j k h) w
  ]
    where
      itself : Contains (used_interfaces (interface_uses c i)) k → UsesWidely c i k
      itself w =
          let (u, there, is) = map_in (λ (u : Name × UsedType). u.1.interface) (interface_uses c i) k w in
          subst (UsesWidely c i) (sym is) (by_itself i u.0 u.1 there)

      through : ((j : InterfaceId) → Contains (wide_uses_to d c j) k → UsesWidely c j k) → Contains (flat_map (wide_uses_to d c) (instances_of (interface_exports c i))) k → UsesWidely c i k
      through deeper w =
          let (j, among, is) = flat_in (wide_uses_to d c) (instances_of (interface_exports c i)) k w in
          let (n, there) = instance_listed (interface_exports c i) j among in
          by_instance i j k n there (deeper j is)

  wide_listed : (i k : InterfaceId) → UsesWidely c i k → Contains (wide_uses c i) k
  wide_listed i _ (by_itself _ n u there) =
      subst (λ l. Contains l u.interface) (sym (wide_unfolds i))
      (in_left (used_interfaces (interface_uses c i)) (flat_map (wide_uses c) (instances_of (interface_exports c i))) u.interface (in_map (λ (e : Name × UsedType). e.1.interface) (interface_uses c i) (n, u) there))
  wide_listed i _ (by_instance _ j k n there further) =
      subst (λ l. Contains l k) (sym (wide_unfolds i))
      (in_right (used_interfaces (interface_uses c i)) (flat_map (wide_uses c) (instances_of (interface_exports c i))) k
      (in_flat (wide_uses c) (instances_of (interface_exports c i)) j k (listed_instance (interface_exports c i) n j there) (wide_listed j k further)))

  pub wide_law : (i k : InterfaceId) → UsesWidely c i k ↔ Contains (wide_uses c i) k
  wide_law i k = (wide_listed i k, listed_wide (size c) i k)

-- Which items bind resources, and which supply interfaces, by their numbers.
use Rattle.std.proofs.Common.{ℕ, zero, suc, ◌+◌, ◌<◌, ◌≤◌, Bool, true, false, cond, if◌then◌else◌, List, [], ◌∷◌, ◌++◌, length, take, Contains, Option, Some, None, ◌≡◌, ◌⊎◌, ◌↔◌, inl, inr, refl, ap, sym, ◌∙◌, subst, arith, slice_get}
use Rattle.std.specs.Prelude.{IsSome}
use Rattle.std.specs.List.{list_any}
use Rattle.std.proofs.lemmas.List.{take_all}
use Rattle.wac_types_shapes.specs.primitives.Name.{Name, same_name, option_case, first_some}
use Rattle.wac_types_shapes.specs.primitives.Tree.{Side, Leaf, named}
use Rattle.wac_types_shapes.specs.declared.shapes.component.Interface.{Interface}
use Rattle.wac_types_shapes.specs.declared.shapes.component.InterfaceId.{InterfaceId}
use Rattle.wac_types_shapes.specs.declared.shapes.component.ItemKind.{ItemKind}
use Rattle.wac_types_shapes.specs.declared.shapes.component.ItemKind.TheVariants as kind
use Rattle.wac_types_shapes.specs.declared.shapes.component.ResourceId.{ResourceId}
use Rattle.wac_types_shapes.specs.declared.shapes.component.UsedType.{UsedType}
use Rattle.wac_types_collection.specs.collection.Collection.{Collection, item_at}
use Rattle.wac_types_collection.specs.collection.Bound.{Bindings, lists_own, own_name, bound_by, bound_in_order, first_bound}
use Rattle.wac_encode_faults.specs.Cycle.{IsBindingOf, owner_of, IsOwner, AreOwners}
use Rattle.wac_encode_faults.specs.Free.{SideItem}
use Rattle.wac_types_collection.specs.wide.Wide.{with_each, each_once}
use Rattle.wac_types_collection.proofs.lemmas.wide.Members.{in_none, in_first, in_one}
use Rattle.wac_types_collection.proofs.lemmas.wide.Once.{each_new}
use Rattle.wac_encode_faults.specs.Sides.{listed_interface, under_id}
use Rattle.wac_encode_faults.specs.private.Binding.{Binds}
use Rattle.wac_encode_faults.specs.private.Owners.{AreNoted, bound_then, is_of_group, group_of, AddsOwners, AddsSideOwners, AddsNumbers, AddsSuppliers, IsListedTo}
use Rattle.wac_encode_faults.specs.private.Sets.{value_of}
use Rattle.wac_encode_faults.proofs.Reached.{split}
use Rattle.wac_encode_faults.proofs.Taken.{none_taken, taken_more, taken_next}

-- ---- numbers noted
module _ {K : Type 0} where
  pub noted_first : (xs : List K) (number : ℕ) (old : K → Option ℕ) → AreNoted (Contains (take 0 xs)) number old old
  noted_first xs number old = record { kept = λ k n e. e; noted = λ k h. absurd (none_taken xs k h); sound = λ k n e. inl e }

  pub noted_next : (xs : List K) (n number : ℕ) (x : K) (old before now : K → Option ℕ) → slice_get xs n ≡ Some x → AreNoted (Contains (take n xs)) number old before
      → AreNoted (λ k. k ≡ x) number before now → AreNoted (Contains (take (n + 1) xs)) number old now
  noted_next xs n number x old before now at was step = record {
    kept = λ k m e. step.kept k m (was.kept k m e);
    noted = λ k h. elim ((taken_next xs n x k at).0 h) [ inl w ↦ still k (before k) refl (was.noted k w) | inr e ↦ step.noted k e ];
    sound = λ k m e. elim (step.sound k m e) [
      | inl w ↦ elim (was.sound k m w) [ inl o ↦ inl o | inr p ↦ inr ((taken_next xs n x k at).1 (inl p.0), p.1) ]
      | inr p ↦ inr ((taken_next xs n x k at).1 (inr p.0), p.1)
    ];
  }
    where
      still : (k : K) (o : Option ℕ) → before k ≡ o → IsSome (before k) → IsSome (now k)
      still k None e s = let wrong : false ≡ true = subst IsSome e s in cc
      still k (Some m) e s = subst IsSome (sym (step.kept k m e)) refl

  pub noted_all : (xs : List K) (n number : ℕ) (old now : K → Option ℕ) → length xs ≤ n → AreNoted (Contains (take n xs)) number old now → AreNoted (Contains xs) number old now
  noted_all xs n number old now past all = subst (λ l. AreNoted (Contains l) number old now) (take_all n xs past) all

  pub noted_as : (P Q : K → Type 0) (number : ℕ) (old now : K → Option ℕ) → ((k : K) → P k ↔ Q k) → AreNoted P number old now → AreNoted Q number old now
  noted_as P Q number old now both a = record {
    kept = a.kept;
    noted = λ k h. a.noted k ((both k).1 h);
    sound = λ k n e. elim (a.sound k n e) [ inl w ↦ inl w | inr p ↦ inr ((both k).0 p.0, p.1) ];
  }

  pub noted_none : (P : K → Type 0) (number : ℕ) (old : K → Option ℕ) → ((k : K) → P k → IsSome (old k)) → AreNoted P number old old
  noted_none P number old there = record { kept = λ k n e. e; noted = there; sound = λ k n e. inl e }

  pub noted_one : (eq : K → K → Bool) (same : (a b : K) → eq a b ≡ true → a ≡ b) (itself : (a : K) → eq a a ≡ true) (x : K) (number : ℕ) (old now : K → Option ℕ) → old x ≡ None
      → ((k : K) → now k ≡ cond (eq x k) (Some number) (old k)) → AreNoted (λ k. k ≡ x) number old now
  noted_one eq same itself x number old now none is = record {
    kept = λ k n e. kept k n (eq x k) refl e;
    noted = λ k e. subst (λ z. IsSome (now z)) (sym e) (subst IsSome (sym (is x ∙ ap (λ b. cond b (Some number) (old x)) (itself x))) refl);
    sound = λ k n e. sound k n (eq x k) refl e;
  }
    where
      kept : (k : K) (n : ℕ) (b : Bool) → eq x k ≡ b → old k ≡ Some n → now k ≡ Some n
      kept k n true here e = let wrong : None ≡ Some n = sym none ∙ ap old (same x k here) ∙ e in cc
      kept k n false here e = is k ∙ ap (λ b. cond b (Some number) (old k)) here ∙ e

      inner : (n : ℕ) → Some number ≡ Some n → n ≡ number
      inner n e = cc

      sound : (k : K) (n : ℕ) (b : Bool) → eq x k ≡ b → now k ≡ Some n → (old k ≡ Some n) ⊎ ((k ≡ x) × (n ≡ number))
      sound k n true here e = inr (sym (same x k here), inner n (sym (is k ∙ ap (λ b. cond b (Some number) (old k)) here) ∙ e))
      sound k n false here e = inl (sym (is k ∙ ap (λ b. cond b (Some number) (old k)) here) ∙ e)

-- ---- where an item binds
pub bound_at : (c : Collection) (uses : List (Name × UsedType)) (side : Side) (n : Name) (k : ItemKind) (r : ResourceId) (l : Leaf) → bound_by c uses side (n, k) r ≡ Some l → IsBindingOf (record { side = side; name = n }) l
bound_at c uses side n (kind.TypeItem t) r l h = by (lists_own c uses r (n, kind.TypeItem t)) h
  where
    by : (b : Bool) → (if b then Some (record { out = 0; side = side; path = named n ∷ [] }) else None) ≡ Some l → IsBindingOf (record { side = side; name = n }) l
    by true e = let same : record { out = 0; side = side; path = named n ∷ [] } ≡ l = one e in (sym (ap (λ (z : Leaf). z.side) same), [], sym (ap (λ (z : Leaf). z.path) same))
      where
        one : {x : Leaf} → Some x ≡ Some l → x ≡ l
        one e = cc
    by false e = cc
bound_at c uses side n (kind.Instance i) r l h = by (item_at c.interfaces i.0) h
  where
    at_name : (q : Option Name) → option_case q None (λ q. Some (record { out = 0; side = side; path = named n ∷ named q ∷ [] })) ≡ Some l → IsBindingOf (record { side = side; name = n }) l
    at_name None e = cc
    at_name (Some q) e = let same : record { out = 0; side = side; path = named n ∷ named q ∷ [] } ≡ l = one e in (sym (ap (λ (z : Leaf). z.side) same), named q ∷ [], sym (ap (λ (z : Leaf). z.path) same))
      where
        one : {x : Leaf} → Some x ≡ Some l → x ≡ l
        one e = cc

    if_same : (b : Bool) (q : Option Name) → (if b then option_case q None (λ q. Some (record { out = 0; side = side; path = named n ∷ named q ∷ [] })) else None) ≡ Some l → IsBindingOf (record { side = side; name = n }) l
    if_same true q e = at_name q e
    if_same false q e = cc

    with_id : (it : Interface) (o : Option Name) → option_case o None (λ id. if same_name id n then option_case (own_name c it.uses it.exports r) None (λ q. Some (record { out = 0; side = side; path = named n ∷ named q ∷ [] })) else None) ≡ Some l
        → IsBindingOf (record { side = side; name = n }) l
    with_id it None e = cc
    with_id it (Some id) e = if_same (same_name id n) (own_name c it.uses it.exports r) e

    by : (o : Option Interface) → option_case o None (λ it. option_case it.id None (λ id. if same_name id n then option_case (own_name c it.uses it.exports r) None (λ q. Some (record { out = 0; side = side; path = named n ∷ named q ∷ [] })) else None)) ≡ Some l
        → IsBindingOf (record { side = side; name = n }) l
    by None e = cc
    by (Some it) e = with_id it it.id e
bound_at c uses side n (kind.Func f) r l h = cc
bound_at c uses side n (kind.Component f) r l h = cc
bound_at c uses side n (kind.Module f) r l h = cc
bound_at c uses side n (kind.Value f) r l h = cc

-- ---- owners of more
first_joined : {A : Type 0} (a b d : Option A) → first_some (first_some a b) d ≡ first_some a (first_some b d)
first_joined None b d = refl
first_joined (Some a) b d = refl

first_nothing : {A : Type 0} (a : Option A) → first_some a None ≡ a
first_nothing None = refl
first_nothing (Some a) = refl

module _ (all : List SideItem) (number : ℕ) (x : SideItem) (at : slice_get all number ≡ Some x) where
  owner_step : (o b : Option Leaf) (old now : Option ℕ) → ((l : Leaf) → b ≡ Some l → IsBindingOf x l) → ((n : ℕ) → old ≡ Some n → now ≡ Some n) → (IsSome b → IsSome now)
      → ((n : ℕ) → now ≡ Some n → (old ≡ Some n) ⊎ (IsSome b × (n ≡ number))) → IsOwner all old o → IsOwner all now (first_some o b)
  owner_step o b (Some n) now here kept noted sound (l, y, is, there, bound) =
      subst (λ z. IsOwner all z (first_some o b)) (sym (kept n refl)) (l, y, ap (λ z. first_some z b) is, there, bound)
  owner_step o None None None here kept noted sound none = ap (λ z. first_some z None) none
  owner_step o (Some l) None None here kept noted sound none = let wrong : false ≡ true = noted refl in cc
  owner_step o None None (Some n) here kept noted sound none = elim (sound n refl) [ inl e ↦ (let wrong : None ≡ Some n = e in cc) | inr p ↦ (let wrong : false ≡ true = p.0 in cc) ]
  owner_step o (Some l) None (Some n) here kept noted sound none = elim (sound n refl) [
    | inl e ↦ (let wrong : None ≡ Some n = e in cc)
    | inr p ↦ (l, x, ap (λ z. first_some z (Some l)) none, subst (λ (z : ℕ). slice_get all z ≡ Some x) (sym p.1) at, here l refl)
  ]

pub owners_as : (all : List SideItem) (m n : Bindings) (entries : List (ResourceId × ℕ)) → ((r : ResourceId) → m r ≡ n r) → AreOwners all m entries → AreOwners all n entries
owners_as all m n entries same a r = subst (IsOwner all (owner_of entries r)) (same r) (a r)

module _ (c : Collection) (uses : List (Name × UsedType)) where
  order_joined : (side : Side) (xs ys : List (Name × ItemKind)) (r : ResourceId) → bound_in_order c uses side (xs ++ ys) r ≡ first_some (bound_in_order c uses side xs r) (bound_in_order c uses side ys r)
  order_joined side [] ys r = refl
  order_joined side (e ∷ xs) ys r =
      ap (first_some (bound_by c uses side e r)) (order_joined side xs ys r) ∙ sym (first_joined (bound_by c uses side e r) (bound_in_order c uses side xs r) (bound_in_order c uses side ys r))

  group_joined : (types : Bool) (xs : List (Name × ItemKind)) (e : Name × ItemKind) → group_of types (xs ++ e ∷ []) ≡ group_of types xs ++ group_of types (e ∷ [])
  group_joined types [] e = refl
  group_joined types (x ∷ xs) e = by (is_of_group types x) (group_joined types xs e)
    where
      by : (b : Bool) → group_of types (xs ++ e ∷ []) ≡ group_of types xs ++ group_of types (e ∷ [])
          → cond b (x ∷ group_of types (xs ++ e ∷ [])) (group_of types (xs ++ e ∷ [])) ≡ cond b (x ∷ group_of types xs) (group_of types xs) ++ group_of types (e ∷ [])
      by true rest = ap (λ l. x ∷ l) rest
      by false rest = rest

  -- one item more
  module _ (first : ℕ) (es : List (Name × ItemKind)) (types : Bool) (i : ℕ) (e : Name × ItemKind) (at : slice_get es i ≡ Some e) (old before : List (ResourceId × ℕ)) (was : AddsOwners c uses first es (group_of types (take i es)) old before) where
    whole : (side : Side) (r : ResourceId) → bound_in_order c uses side (group_of types (take (i + 1) es)) r ≡ first_some (bound_in_order c uses side (group_of types (take i es)) r) (bound_in_order c uses side (group_of types (e ∷ [])) r)
    whole side r = ap (λ l. bound_in_order c uses side l r) (ap (group_of types) (taken_more es i e at) ∙ group_joined types (take i es) e) ∙ order_joined side (group_of types (take i es)) (group_of types (e ∷ [])) r

    -- that is not of the group
    pub passed : is_of_group types e ≡ false → AddsOwners c uses first es (group_of types (take (i + 1) es)) old before
    passed other all side m numbered owners =
        owners_as all (bound_then m (bound_in_order c uses side (group_of types (take i es)))) (bound_then m (bound_in_order c uses side (group_of types (take (i + 1) es)))) before
        (λ r. ap (first_some (m r)) (sym (whole side r ∙ ap (λ l. first_some (bound_in_order c uses side (group_of types (take i es)) r) (bound_in_order c uses side l r)) (ap (λ b. cond b (e ∷ []) []) other)
        ∙ first_nothing (bound_in_order c uses side (group_of types (take i es)) r))))
        (was all side m numbered owners)

    -- that is of the group
    pub added : (now : List (ResourceId × ℕ)) → is_of_group types e ≡ true → ((side : Side) → AreNoted (Binds c uses side e) (first + i) (owner_of before) (owner_of now))
        → AddsOwners c uses first es (group_of types (take (i + 1) es)) old now
    added now is noted all side m numbered owners =
        owners_as all (bound_then (bound_then m (bound_in_order c uses side (group_of types (take i es)))) (bound_by c uses side e)) (bound_then m (bound_in_order c uses side (group_of types (take (i + 1) es)))) now
        (λ r. first_joined (m r) (bound_in_order c uses side (group_of types (take i es)) r) (bound_by c uses side e r)
        ∙ ap (first_some (m r)) (ap (first_some (bound_in_order c uses side (group_of types (take i es)) r)) (sym (one r)) ∙ sym (whole side r)))
        (λ r. owner_step all (first + i) (record { side = side; name = e.0 }) (numbered i e at) (bound_then m (bound_in_order c uses side (group_of types (take i es))) r) (bound_by c uses side e r) (owner_of before r) (owner_of now r)
        (λ l h. bound_at c uses side e.0 e.1 r l h) ((noted side).kept r) ((noted side).noted r) ((noted side).sound r) (was all side m numbered owners r))
      where
        one : (r : ResourceId) → bound_in_order c uses side (group_of types (e ∷ [])) r ≡ bound_by c uses side e r
        one r = ap (λ l. bound_in_order c uses side l r) (ap (λ b. cond b (e ∷ []) []) is) ∙ first_nothing (bound_by c uses side e r)

  pub owners_begin : (first : ℕ) (es : List (Name × ItemKind)) (types : Bool) (old : List (ResourceId × ℕ)) → AddsOwners c uses first es (group_of types (take 0 es)) old old
  owners_begin first [] types old all side m numbered owners = owners_as all m (bound_then m (bound_in_order c uses side [])) old (λ r. sym (first_nothing (m r))) owners
  owners_begin first (e ∷ es) types old all side m numbered owners = owners_as all m (bound_then m (bound_in_order c uses side [])) old (λ r. sym (first_nothing (m r))) owners

  pub owners_all : (first : ℕ) (es : List (Name × ItemKind)) (types : Bool) (i : ℕ) (old now : List (ResourceId × ℕ)) → length es ≤ i → AddsOwners c uses first es (group_of types (take i es)) old now
      → AddsOwners c uses first es (group_of types es) old now
  owners_all first es types i old now past a = subst (λ l. AddsOwners c uses first es (group_of types l) old now) (take_all i es past) a

  -- both groups of a side
  pub side_owners : (first : ℕ) (es : List (Name × ItemKind)) (old mid now : List (ResourceId × ℕ)) → AddsOwners c uses first es (group_of false es) old mid → AddsOwners c uses first es (group_of true es) mid now
      → AddsSideOwners c uses first es old now
  side_owners first es old mid now others types all side m numbered owners =
      owners_as all (bound_then (bound_then m (bound_in_order c uses side (group_of false es))) (bound_in_order c uses side (group_of true es))) (bound_then m (first_bound c uses side es)) now
      (λ r. first_joined (m r) (bound_in_order c uses side (group_of false es) r) (bound_in_order c uses side (group_of true es) r))
      (types all side (bound_then m (bound_in_order c uses side (group_of false es))) numbered (others all side m numbered owners))

-- one item more, of the group or not
pub owners_next : (c : Collection) (uses : List (Name × UsedType)) (first : ℕ) (es : List (Name × ItemKind)) (types : Bool) (i : ℕ) (e : Name × ItemKind) (old before now : List (ResourceId × ℕ)) → slice_get es i ≡ Some e
    → (is_of_group types e ≡ false → now ≡ before) → (is_of_group types e ≡ true → (side : Side) → AreNoted (Binds c uses side e) (first + i) (owner_of before) (owner_of now))
    → AddsOwners c uses first es (group_of types (take i es)) old before → AddsOwners c uses first es (group_of types (take (i + 1) es)) old now
owners_next c uses first es types i e old before now at other noted was = by (is_of_group types e) refl
  where
    by : (b : Bool) → is_of_group types e ≡ b → AddsOwners c uses first es (group_of types (take (i + 1) es)) old now
    by true is = added c uses first es types i e at old before was now is (noted is)
    by false is = subst (λ l. AddsOwners c uses first es (group_of types (take (i + 1) es)) old l) (sym (other is)) (passed c uses first es types i e at old before was is)

-- ---- suppliers
pub numbers_first : (c : Collection) (first : ℕ) (es : List (Name × ItemKind)) (old : List (InterfaceId × ℕ)) → AddsNumbers (IsListedTo c first es 0) old old
numbers_first c first es old = record { kept = λ j n e. e; noted = λ j n h. (let l = h.2 in absurd (omega (arith, l))); sound = λ j n e. inl e }

pub numbers_next : (c : Collection) (first : ℕ) (es : List (Name × ItemKind)) (i : ℕ) (e : Name × ItemKind) (old before now : List (InterfaceId × ℕ)) → slice_get es i ≡ Some e → AddsNumbers (IsListedTo c first es i) old before
    → AreNoted (Contains (listed_interface c e)) (first + i) (value_of before) (value_of now) → AddsNumbers (IsListedTo c first es (i + 1)) old now
numbers_next c first es i e old before now at was step = record {
  kept = λ j n h. step.kept j n (was.kept j n h);
  noted = λ j n h. noted j n h (split h.0 i h.2);
  sound = λ j n h. elim (step.sound j n h) [
    | inl w ↦ elim (was.sound j n w) [ inl k ↦ inl k | inr k ↦ inr (k.0, more j n k.1) ]
    | inr w ↦ new j n h w.0 w.1 (value_of old j) refl
  ];
}
  where
    one : (d : Name × ItemKind) → Some d ≡ Some e → d ≡ e
    one d h = cc

    more : (j : InterfaceId) (n : ℕ) → IsListedTo c first es i j n → IsListedTo c first es (i + 1) j n
    more j n (k, d, low, there, h, is) = (k, d, omega (arith, low), there, h, is)

    still : (j : InterfaceId) (o : Option ℕ) → value_of before j ≡ o → IsSome (value_of before j) → IsSome (value_of now j)
    still j None h s = let wrong : false ≡ true = subst IsSome h s in cc
    still j (Some m) h s = subst IsSome (sym (step.kept j m h)) refl

    noted : (j : InterfaceId) (n : ℕ) → (h : IsListedTo c first es (i + 1) j n) → (h.0 < i) ⊎ (h.0 ≡ i) → IsSome (value_of now j)
    noted j n (k, d, low, there, h, is) (inl l) = still j (value_of before j) refl (was.noted j n (k, d, l, there, h, is))
    noted j n (k, d, low, there, h, is) (inr same) = step.noted j (subst (λ z. Contains (listed_interface c z) j) (one d (sym there ∙ ap (slice_get es) same ∙ at)) h)

    inner : (m n : ℕ) → Some m ≡ Some n → m ≡ n
    inner m n h = cc

    new : (j : InterfaceId) (n : ℕ) → value_of now j ≡ Some n → Contains (listed_interface c e) j → n ≡ first + i → (o : Option ℕ) → value_of old j ≡ o
        → (value_of old j ≡ Some n) ⊎ ((value_of old j ≡ None) × IsListedTo c first es (i + 1) j n)
    new j n h w is None none = inr (none, (i, e, omega arith, at, w, is))
    new j n h w is (Some m) there = inl (there ∙ ap Some (inner m n (sym (step.kept j m (was.kept j m there)) ∙ h)))

pub numbers_all : (c : Collection) (first : ℕ) (es : List (Name × ItemKind)) (i : ℕ) (old now : List (InterfaceId × ℕ)) → i ≡ length es → AddsNumbers (IsListedTo c first es i) old now → AddsSuppliers c first es old now
numbers_all c first es i old now whole a = subst (λ (n : ℕ). AddsNumbers (IsListedTo c first es n) old now) whole a

-- ---- the interface that an item lists
listed_alone : (c : Collection) (e : Name × ItemKind) → (listed_interface c e ≡ []) ⊎ ((i : InterfaceId) × (listed_interface c e ≡ i ∷ []))
listed_alone c (n, kind.Instance i) = by (list_any (λ d. same_name n d.0) (under_id c i))
  where
    by : (b : Bool) → ((if b then i ∷ [] else []) ≡ []) ⊎ ((j : InterfaceId) × ((if b then i ∷ [] else []) ≡ j ∷ []))
    by true = inr (i, refl)
    by false = inl refl
listed_alone c (n, kind.TypeItem t) = inl refl
listed_alone c (n, kind.Func f) = inl refl
listed_alone c (n, kind.Component w) = inl refl
listed_alone c (n, kind.Module m) = inl refl
listed_alone c (n, kind.Value v) = inl refl

none_of : {A : Type 0} (xs : List A) → length xs ≡ 0 → xs ≡ []
none_of [] h = refl
none_of (x ∷ xs) h = absurd (omega (arith, h))

pub some_of : (n : ℕ) → (n ≡ 0 → ⊥) → 0 < n
some_of zero h = absurd (h refl)
some_of (suc n) h = omega arith

-- an item that lists none
pub listed_none : (c : Collection) (e : Name × ItemKind) (number : ℕ) (start keys : List InterfaceId) (old : List (InterfaceId × ℕ)) → start ≡ [] → keys ≡ with_each start (listed_interface c e) → length keys ≡ 0
    → AreNoted (Contains (listed_interface c e)) number (value_of old) (value_of old)
listed_none c e number start keys old none is empty =
    noted_none (Contains (listed_interface c e)) number (value_of old) (λ j h. absurd (in_none j (subst (λ l. Contains l j) (none_of keys empty) (subst (λ l. Contains l j) (sym is) (each_new start (listed_interface c e) j h)))))

-- an item that lists one
pub listed_one : (c : Collection) (e : Name × ItemKind) (number : ℕ) (start keys : List InterfaceId) (i : InterfaceId) (old now : List (InterfaceId × ℕ)) → start ≡ [] → keys ≡ with_each start (listed_interface c e)
    → slice_get keys 0 ≡ Some i → AreNoted (λ j. j ≡ i) number (value_of old) (value_of now) → AreNoted (Contains (listed_interface c e)) number (value_of old) (value_of now)
listed_one c e number start keys i old now none is at noted = by (listed_alone c e)
  where
    found : keys ≡ each_once (listed_interface c e)
    found = is ∙ ap (λ l. with_each l (listed_interface c e)) none

    one : (j k : InterfaceId) → Some j ≡ Some k → j ≡ k
    one j k h = cc

    by : (listed_interface c e ≡ []) ⊎ ((j : InterfaceId) × (listed_interface c e ≡ j ∷ [])) → AreNoted (Contains (listed_interface c e)) number (value_of old) (value_of now)
    by (inl empty) = let wrong : None ≡ Some i = sym (ap (λ l. slice_get (each_once l) 0) empty) ∙ sym (ap (λ l. slice_get l 0) found) ∙ at in cc
    by (inr (j, alone)) =
        let same : j ≡ i = one j i (sym (ap (λ l. slice_get (each_once l) 0) alone) ∙ sym (ap (λ l. slice_get l 0) found) ∙ at) in
        noted_as (λ k. k ≡ i) (Contains (listed_interface c e)) number (value_of old) (value_of now)
        (λ k. (
          λ h. subst (λ l. Contains l k) (sym alone) (subst (Contains (j ∷ [])) (same ∙ sym h) (in_first j [])),
          λ h. in_one j k (subst (λ l. Contains l k) alone h) ∙ same,
        )) noted

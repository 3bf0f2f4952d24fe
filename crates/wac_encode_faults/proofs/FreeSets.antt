-- The free resources of interfaces, one after the other.
use Rattle.std.proofs.Common.{ℕ, ◌+◌, ◌<◌, ◌≤◌, Bool, true, false, nat_lt, List, [], ◌∷◌, ◌++◌, length, take, drop, append_assoc, Contains, Option, Some, None, ◌≡◌, ◌⊎◌, ◌↔◌, inl, inr, refl, ap, sym, ◌∙◌, subst, arith, slice_get}
use Rattle.std.specs.List.{IsDistinct}
use Rattle.std.specs.Option.{option_map}
use Rattle.std.proofs.lemmas.List.{take_all}
use Rattle.std.proofs.lemmas.Option.{slice_get_within}
use Rattle.indexmap.specs.IndexSet.{IndexSet}
use Rattle.wac_types_shapes.specs.primitives.Name.{Name, option_case}
use Rattle.wac_types_shapes.specs.shapes.Kinds.{kind_type}
use Rattle.wac_types_shapes.specs.contracts.shapes.component.InterfaceIdPartialEq.TheImpl as IdEq
use Rattle.wac_types_shapes.specs.declared.shapes.component.Interface.{Interface}
use Rattle.wac_types_shapes.specs.declared.shapes.component.InterfaceId.{InterfaceId}
use Rattle.wac_types_shapes.specs.declared.shapes.component.ItemKind.{ItemKind}
use Rattle.wac_types_shapes.specs.declared.shapes.component.ResourceId.{ResourceId}
use Rattle.wac_types_shapes.specs.declared.shapes.component.«Type».{«Type» as AnyType}
use Rattle.wac_types_shapes.specs.declared.shapes.component.«Type».TheVariants as ty
use Rattle.wac_types_collection.specs.collection.Collection.{Collection, IsWellFormed, HasInterface, holds_type, item_at, kind_types, used_types, interface_exports}
use Rattle.wac_types_collection.specs.collection.Bound.{own_name}
use Rattle.wac_types_collection.specs.reach.Reach.{IsIn, mentions}
use Rattle.wac_types_collection.specs.private.reach.Found.{with_all}
use Rattle.wac_types_collection.specs.wide.Wide.{AreThere, with_each}
use Rattle.wac_types_collection.proofs.lemmas.collection.Steady.{within}
use Rattle.wac_types_collection.proofs.lemmas.reach.Lists.{drop_second, all_only, in_left as is_in_left, in_right as is_in_right, in_either as is_in_either}
use Rattle.wac_types_collection.proofs.lemmas.reach.Reaching.{mentioned_held}
use Rattle.wac_types_collection.proofs.lemmas.wide.Members.{in_none, in_first, in_rest, in_parts, in_at, in_flat, flat_in}
use Rattle.wac_types_collection.proofs.lemmas.wide.Once.{id_itself, same_id, each_new, each_only, each_joined}
use Rattle.wac_encode_faults.specs.declared.order.Step.{Step}
use Rattle.wac_encode_faults.specs.declared.order.Step.TheVariants as step
use Rattle.wac_encode_faults.specs.Free.{parts, IsFree}
use Rattle.wac_encode_faults.specs.Free as free
use Rattle.wac_encode_faults.specs.private.Search.{AreHeld}
use Rattle.wac_encode_faults.specs.private.Order.{children, interface_of, interfaces_of, steps_into, IsOrdered}
use Rattle.wac_encode_faults.specs.private.Sets.{other_of, others_of, IsFreeInOne, IsFreeInside, IsInSet, IsInSets, value_of, HasSet, AreLast, AreSets}
use Rattle.wac_encode_faults.proofs.Dependencies.{in_kinds}
use Rattle.wac_encode_faults.proofs.Entries.{IsChanged, value_changed, value_kept}
use Rattle.wac_encode_faults.proofs.Needed.{drop_here}
use Rattle.wac_encode_faults.proofs.Ordering.{interface_is}
use Rattle.wac_encode_faults.proofs.Reached.{split}
use Rattle.wac_encode_faults.proofs.Taken.{none_taken, taken_next, taken_before}
use Rattle.wac_encode_faults.proofs.Twice.{before_is_other}

-- ---- steps into several interfaces
pub pushed_next : (is : List InterfaceId) (n : ℕ) (i : InterfaceId) (pending now all : List Step) → slice_get is n ≡ Some i → now ≡ pending ++ step.Enter i ∷ [] → pending ++ steps_into (drop n is) ≡ all
    → now ++ steps_into (drop (n + 1) is) ≡ all
pushed_next is n i pending now all at grown was =
    let rest = steps_into (drop (n + 1) is) in
    ap (λ l. l ++ rest) grown ∙ append_assoc pending (step.Enter i ∷ []) rest ∙ sym (ap (λ l. pending ++ steps_into l) (drop_here is n i at)) ∙ was

-- ---- the interfaces that are types of items
pub interfaces_next : (es : List (Name × ItemKind)) (n : ℕ) (k : ItemKind) (found now all : List InterfaceId) → option_map (λ e. e.1) (slice_get es n) ≡ Some k → now ≡ with_each found (interface_of (kind_type k))
    → with_each found (interfaces_of (drop n es)) ≡ all → with_each now (interfaces_of (drop (n + 1) es)) ≡ all
interfaces_next es n k found now all at grown was =
    let (name, here) = drop_second es n k at in
    let rest = interfaces_of (drop (n + 1) es) in
    ap (λ l. with_each l rest) grown ∙ sym (each_joined found (interface_of (kind_type k)) rest) ∙ sym (ap (λ xs. with_each found (interfaces_of xs)) here) ∙ was

pub interfaces_same : (es : List (Name × ItemKind)) (start keys : List InterfaceId) → start ≡ [] → keys ≡ with_each start (interfaces_of es) → (j : InterfaceId) → Contains keys j ↔ Contains (interfaces_of es) j
interfaces_same es start keys none is j = (
  λ h. elim (each_only start (interfaces_of es) j (subst (λ l. Contains l j) is h)) [ inl w ↦ absurd (in_none j (subst (λ l. Contains l j) none w)) | inr w ↦ w ],
  λ h. subst (λ l. Contains l j) (sym is) (each_new start (interfaces_of es) j h),
)

pub children_found : (c : Collection) (i : InterfaceId) (it : Interface) (start keys : List InterfaceId) → start ≡ [] → item_at c.interfaces i.0 ≡ Some it → keys ≡ with_each start (interfaces_of it.exports)
    → (j : InterfaceId) → Contains keys j ↔ Contains (children c i) j
children_found c i it start keys none at is j =
    let kids : children c i ≡ interfaces_of it.exports = ap (λ (o : Option Interface). interfaces_of (option_case o [] (λ x. x.exports))) at in (
      λ h. subst (λ l. Contains l j) (sym kids) (elim (each_only start (interfaces_of it.exports) j (subst (λ l. Contains l j) is h)) [ inl w ↦ absurd (in_none j (subst (λ l. Contains l j) none w)) | inr w ↦ w ]),
      λ h. subst (λ l. Contains l j) (sym is) (each_new start (interfaces_of it.exports) j (subst (λ l. Contains l j) kids h)),
    )

-- ---- the types of items that are no interfaces
pub other_first : (ts : List AnyType) (t : AnyType) (us : List AnyType) → with_all (with_all ts (other_of t)) us ≡ with_all ts (other_of t ++ us)
other_first ts (ty.Interface i) us = refl
other_first ts (ty.World w) us = refl
other_first ts (ty.Resource r) us = refl
other_first ts (ty.Func r) us = refl
other_first ts (ty.Value r) us = refl
other_first ts (ty.Module r) us = refl

pub in_other : (s t : AnyType) → IsIn s (other_of t) → s ≡ t
in_other s (ty.Interface i) n = absurd n
in_other s (ty.World w) (inl e) = e
in_other s (ty.World w) (inr n) = absurd n
in_other s (ty.Resource w) (inl e) = e
in_other s (ty.Resource w) (inr n) = absurd n
in_other s (ty.Func w) (inl e) = e
in_other s (ty.Func w) (inr n) = absurd n
in_other s (ty.Value w) (inl e) = e
in_other s (ty.Value w) (inr n) = absurd n
in_other s (ty.Module w) (inl e) = e
in_other s (ty.Module w) (inr n) = absurd n

pub no_interface : (s t : AnyType) → IsIn s (other_of t) → (i : InterfaceId) → s ≡ ty.Interface i → ⊥
no_interface s t h i e =
    let same = in_other s t h in
    nowhere t i (sym same ∙ e) (subst (λ z. IsIn z (other_of t)) same h)
  where
    nowhere : (t : AnyType) (i : InterfaceId) → t ≡ ty.Interface i → IsIn t (other_of t) → ⊥
    nowhere (ty.Interface j) i e n = n
    nowhere (ty.World w) i e n = cc
    nowhere (ty.Resource w) i e n = cc
    nowhere (ty.Func w) i e n = cc
    nowhere (ty.Value w) i e n = cc
    nowhere (ty.Module w) i e n = cc

pub interface_or_other : (t : AnyType) → ((j : InterfaceId) × (t ≡ ty.Interface j)) ⊎ IsIn t (other_of t)
interface_or_other (ty.Interface j) = inl (j, refl)
interface_or_other (ty.World w) = inr (inl refl)
interface_or_other (ty.Resource w) = inr (inl refl)
interface_or_other (ty.Func w) = inr (inl refl)
interface_or_other (ty.Value w) = inr (inl refl)
interface_or_other (ty.Module w) = inr (inl refl)

pub other_listed : (es : List (Name × ItemKind)) (t : AnyType) → IsIn t (others_of es) → (e : Name × ItemKind) × Contains es e × IsIn t (other_of (kind_type e.1))
other_listed [] t h = absurd h
other_listed (x ∷ es) t h = elim (is_in_either t (other_of (kind_type x.1)) (others_of es) h) [
  | inl w ↦ (x, in_first x es, w)
  | inr w ↦ let (e, there, here) = other_listed es t w in (e, in_rest x e es there, here)
]

listed_other : (es : List (Name × ItemKind)) (t : AnyType) (e : Name × ItemKind) → Contains es e → IsIn t (other_of (kind_type e.1)) → IsIn t (others_of es)
listed_other [] t e h w = absurd (in_none e h)
listed_other (x ∷ es) t e h w = elim (in_parts x e es h) [
  | inl same ↦ is_in_left t (other_of (kind_type x.1)) (others_of es) (subst (λ (z : Name × ItemKind). IsIn t (other_of (kind_type z.1))) same w)
  | inr more ↦ is_in_right t (other_of (kind_type x.1)) (others_of es) (listed_other es t e more w)
]

pub others_no_interface : (es : List (Name × ItemKind)) (t : AnyType) → IsIn t (others_of es) → (i : InterfaceId) → t ≡ ty.Interface i → ⊥
others_no_interface es t h = let (e, there, here) = other_listed es t h in no_interface t (kind_type e.1) here

pub others_held : (c : Collection) (es : List (Name × ItemKind)) (start : List AnyType) → start ≡ with_all [] (others_of es) → AreHeld c es → (t : AnyType) → IsIn t start → holds_type c t ≡ true
others_held c es start begun held t h =
    let w : IsIn t (others_of es) = elim (all_only [] (others_of es) t (subst (IsIn t) begun h)) [ inl n ↦ absurd n | inr k ↦ k ] in
    let (e, there, here) = other_listed es t w in
    subst (λ z. holds_type c z ≡ true) (sym (in_other t (kind_type e.1) here)) (held e there)

-- ---- the exports of an interface
less_true : (i n : ℕ) → i < n → nat_lt i n ≡ true
less_true i n l = grind arith

pub own_held : (c : Collection) → IsWellFormed c → (i : InterfaceId) (it : Interface) → HasInterface c i → item_at c.interfaces i.0 ≡ Some it → AreHeld c it.exports
own_held c wf i it there at e h =
    let all : mentions c (ty.Interface i) ≡ used_types it.uses ++ kind_types it.exports = ap (λ (o : Option Interface). option_case o [] (λ x. used_types x.uses ++ kind_types x.exports)) at in
    mentioned_held c wf (ty.Interface i) (kind_type e.1) (less_true i.0 (length c.interfaces) there)
    (subst (IsIn (kind_type e.1)) (sym all) (is_in_right (kind_type e.1) (used_types it.uses) (kind_types it.exports) (in_kinds it.exports e h)))

-- ---- what is free in an interface
one_interface : (i j : InterfaceId) → ty.Interface i ≡ ty.Interface j → i ≡ j
one_interface i j e = cc

one_item : (x y : Interface) → Some x ≡ Some y → x ≡ y
one_item x y e = cc

pub free_export : (c : Collection) (es : List (Name × ItemKind)) (r : ResourceId) (n : Name) (k : ItemKind) → Contains es (n, k) → IsFree c (kind_type k) r → IsFreeInside c (interfaces_of es) r ⊎ IsFreeInOne c (others_of es) r
free_export c es r n k there f = elim (interface_or_other (kind_type k)) [
  | inl w ↦ inl (w.0, in_flat (λ (e : Name × ItemKind). interface_of (kind_type e.1)) es (n, k) w.0 there (subst (λ t. Contains (interface_of t) w.0) (sym w.1) (in_first w.0 [])), subst (λ t. IsFree c t r) w.1 f)
  | inr w ↦ inr (kind_type k, listed_other es (kind_type k) (n, k) there w, f)
]

pub interface_items : (es : List (Name × ItemKind)) (j : InterfaceId) → Contains (interfaces_of es) j → (e : Name × ItemKind) × Contains es e × (kind_type e.1 ≡ ty.Interface j)
interface_items es j h = let (e, there, here) = flat_in (λ (e : Name × ItemKind). interface_of (kind_type e.1)) es j h in (e, there, interface_is (kind_type e.1) j here)

module _ (c : Collection) (i : InterfaceId) (it : Interface) (at : item_at c.interfaces i.0 ≡ Some it) where
  exports_are : interface_exports c i ≡ it.exports
  exports_are = ap (λ (o : Option Interface). option_case o [] (λ x. x.exports)) at

  free_parts : (t : AnyType) (r : ResourceId) → t ≡ ty.Interface i → IsFree c t r → (IsFreeInside c (children c i) r ⊎ IsFreeInOne c (others_of it.exports) r) × (own_name c it.uses it.exports r ≡ None)
  free_parts _ _ e (free.itself q) = cc
  free_parts t r e (free.in_part _ u _ h f) = absurd (in_none u (subst (λ z. Contains (parts c z) u) e h))
  free_parts _ r e (free.in_export j jt n k _ here there own f) =
      let same : j ≡ i = one_interface j i e in
      let is : jt ≡ it = one_item jt it (sym here ∙ ap (λ (z : InterfaceId). item_at c.interfaces z.0) same ∙ at) in (
        elim (free_export c it.exports r n k (subst (λ (z : Interface). Contains z.exports (n, k)) is there) f) [ inl w ↦ inl (w.0, subst (λ es. Contains (interfaces_of es) w.0) (sym exports_are) w.1, w.2) | inr w ↦ inr w ],
        subst (λ (z : Interface). own_name c z.uses z.exports r ≡ None) is own,
      )

  parts_free : (r : ResourceId) → (IsFreeInside c (children c i) r ⊎ IsFreeInOne c (others_of it.exports) r) → own_name c it.uses it.exports r ≡ None → IsFree c (ty.Interface i) r
  parts_free r (inl (j, h, f)) own =
      let (e, there, is) = interface_items (interface_exports c i) j h in
      free.in_export i it e.0 e.1 r at (subst (λ es. Contains es e) exports_are there) own (subst (λ t. IsFree c t r) (sym is) f)
  parts_free r (inr (t, h, f)) own =
      let (e, there, here) = other_listed it.exports t h in
      free.in_export i it e.0 e.1 r at there own (subst (λ z. IsFree c z r) (in_other t (kind_type e.1) here) f)

-- the set of an interface is made of those of its children and of its other exports
pub set_made : (c : Collection) (i : InterfaceId) (it : Interface) (taken more left : List ResourceId) → item_at c.interfaces i.0 ≡ Some it → ((r : ResourceId) → Contains taken r ↔ IsFreeInside c (children c i) r)
    → ((r : ResourceId) → Contains more r ↔ (Contains taken r ⊎ IsFreeInOne c (others_of it.exports) r)) → ((r : ResourceId) → Contains left r ↔ (Contains more r × (own_name c it.uses it.exports r ≡ None)))
    → (r : ResourceId) → Contains left r ↔ IsFree c (ty.Interface i) r
set_made c i it taken more left at inside others own r = (
  λ h. let w = (own r).0 h in parts_free c i it at r (elim ((others r).0 w.0) [ inl k ↦ inl ((inside r).0 k) | inr k ↦ inr k ]) w.1,
  λ f. let w = free_parts c i it at (ty.Interface i) r refl f in (own r).1 ((others r).1 (elim w.0 [ inl k ↦ inl ((inside r).1 k) | inr k ↦ inr k ]), w.1),
)

-- ---- sets in the map
one_id : (a b : InterfaceId) → Some a ≡ Some b → a ≡ b
one_id a b e = cc

pub one_set : {S : Type 0} (a b : IndexSet ResourceId S) → Some a ≡ Some b → a ≡ b
one_set a b e = cc

no_value : {S : Type 0} (a : IndexSet ResourceId S) → None ≡ Some a → ⊥
no_value a e = cc

number : (a b : ℕ) → Some a ≡ Some b → a ≡ b
number a b e = cc

pub copied_set : {S : Type 0} (entries : List (InterfaceId × IndexSet ResourceId S)) (i : InterfaceId) (s : IndexSet ResourceId S) (old now slice : List ResourceId) → Some s ≡ value_of entries i → slice ≡ s.keys
    → ((r : ResourceId) → Contains now r ↔ (Contains old r ⊎ Contains slice r)) → (r : ResourceId) → Contains now r ↔ (Contains old r ⊎ IsInSet entries i r)
copied_set {S} entries i s old now slice is same added r = (
  λ h. elim ((added r).0 h) [ inl w ↦ inl w | inr w ↦ inr (s, sym is, subst (λ l. Contains l r) same w) ],
  λ h. (added r).1 (elim h [ inl w ↦ inl w | inr w ↦ inr (back w) ]),
)
  where
    back : IsInSet entries i r → Contains slice r
    back (t, at, h) = subst (λ l. Contains l r) (sym same) (subst (λ (z : IndexSet ResourceId S). Contains z.keys r) (one_set t s (sym at ∙ sym is)) h)

pub no_set : {S : Type 0} (entries : List (InterfaceId × IndexSet ResourceId S)) (i : InterfaceId) (found : List ResourceId) → None ≡ value_of entries i → (r : ResourceId) → Contains found r ↔ (Contains found r ⊎ IsInSet entries i r)
no_set {S} entries i found is r = (λ h. inl h, λ h. elim h [ inl w ↦ w | inr w ↦ absurd (nowhere w) ])
  where
    nowhere : IsInSet entries i r → ⊥
    nowhere (t, at, h) = no_value t (is ∙ at)

set_kept : {S : Type 0} (c : Collection) (old now : List (InterfaceId × IndexSet ResourceId S)) (j : InterfaceId) → value_of now j ≡ value_of old j → HasSet c old j → HasSet c now j
set_kept c old now j same (s, at, keys) = (s, same ∙ at, keys)

-- ---- one child after the other
-- The sets of the first children were added, and removed where they are not needed further.
pub record AreTaken {S : Type 0} (roots : List InterfaceId) (last : List (InterfaceId × ℕ)) (kids : List InterfaceId) (p n : ℕ) (old now : List (InterfaceId × IndexSet ResourceId S)) (before found : List ResourceId) : Type 0 where
  pub added : (r : ResourceId) → Contains found r ↔ (Contains before r ⊎ IsInSets old (take n kids) r)
  pub kept : (j : InterfaceId) → Contains roots j ⊎ (value_of last j ≡ Some p → ⊥) → value_of now j ≡ value_of old j
  pub left : (j : InterfaceId) → (Contains (take n kids) j → ⊥) → value_of now j ≡ value_of old j

pub taken_first : {S : Type 0} (roots : List InterfaceId) (last : List (InterfaceId × ℕ)) (kids : List InterfaceId) (p : ℕ) (old : List (InterfaceId × IndexSet ResourceId S)) (before : List ResourceId)
    → AreTaken roots last kids p 0 old old before before
taken_first roots last kids p old before = record {
  added = λ r. (λ h. inl h, λ h. elim h [ inl w ↦ w | inr w ↦ absurd (none_taken kids w.0 w.1) ]);
  kept = λ j h. refl;
  left = λ j h. refl;
}

pub taken_more : {S : Type 0} (roots : List InterfaceId) (last : List (InterfaceId × ℕ)) (kids : List InterfaceId) (p n : ℕ) (k : InterfaceId) (old was now : List (InterfaceId × IndexSet ResourceId S)) (before mid found : List ResourceId) (b : Bool)
    → IsDistinct (IdEq.ghosts).eq kids → slice_get kids n ≡ Some k → (b ≡ false → Contains roots k → ⊥) → (b ≡ false → value_of last k ≡ Some p)
    → ((r : ResourceId) → Contains found r ↔ (Contains mid r ⊎ IsInSet was k r)) → ((j : InterfaceId) → (b ≡ true) ⊎ (j ≡ k → ⊥) → value_of now j ≡ value_of was j)
    → AreTaken roots last kids p n old was before mid → AreTaken roots last kids p (n + 1) old now before found
taken_more {S} roots last kids p n k old was now before mid found b once here asked reader grown steady a = record {
  added = λ r. (λ h. to r h, λ h. from r h);
  kept = λ j h. steady j (stays j b refl h) ∙ a.kept j h;
  left = λ j h. steady j (inr (λ e. h ((taken_next kids n k j here).1 (inr e)))) ∙ a.left j (λ w. h ((taken_next kids n k j here).1 (inl w)));
}
  where
    stays : (j : InterfaceId) (z : Bool) → b ≡ z → Contains roots j ⊎ (value_of last j ≡ Some p → ⊥) → (b ≡ true) ⊎ (j ≡ k → ⊥)
    stays j true is h = inl is
    stays j false is (inl w) = inr (λ e. asked is (subst (Contains roots) e w))
    stays j false is (inr w) = inr (λ e. w (ap (value_of last) e ∙ reader is))

    same : value_of was k ≡ value_of old k
    same = a.left k (λ h. before_is_other kids n k k once here h refl)

    turned : (r : ResourceId) → IsInSet was k r → IsInSet old k r
    turned r (s, at, h) = (s, sym same ∙ at, h)

    back : (r : ResourceId) → IsInSet old k r → IsInSet was k r
    back r (s, at, h) = (s, same ∙ at, h)

    to : (r : ResourceId) → Contains found r → Contains before r ⊎ IsInSets old (take (n + 1) kids) r
    to r h = elim ((grown r).0 h) [
      | inl w ↦ elim ((a.added r).0 w) [ inl x ↦ inl x | inr x ↦ inr (x.0, (taken_next kids n k x.0 here).1 (inl x.1), x.2) ]
      | inr w ↦ inr (k, (taken_next kids n k k here).1 (inr refl), turned r w)
    ]

    from : (r : ResourceId) → Contains before r ⊎ IsInSets old (take (n + 1) kids) r → Contains found r
    from r (inl w) = (grown r).1 (inl ((a.added r).1 (inl w)))
    from r (inr w) = elim ((taken_next kids n k w.0 here).0 w.1) [
      | inl x ↦ (grown r).1 (inl ((a.added r).1 (inr (w.0, x, w.2))))
      | inr e ↦ (grown r).1 (inr (back r (subst (λ z. IsInSet old z r) e w.2)))
    ]

pub taken_added : {S : Type 0} (kids : List InterfaceId) (n : ℕ) (old : List (InterfaceId × IndexSet ResourceId S)) (before found : List ResourceId) → length kids ≤ n
    → ((r : ResourceId) → Contains found r ↔ (Contains before r ⊎ IsInSets old (take n kids) r)) → (r : ResourceId) → Contains found r ↔ (Contains before r ⊎ IsInSets old kids r)
taken_added kids n old before found past added r = subst (λ l. Contains found r ↔ (Contains before r ⊎ IsInSets old l r)) (take_all n kids past) (added r)

-- ---- the children of the interface at a position
module _ (c : Collection) (roots order : List InterfaceId) (p : ℕ) (i : InterfaceId) (at : slice_get order p ≡ Some i) where
  pub inside_taken : {S : Type 0} (kids : List InterfaceId) (old : List (InterfaceId × IndexSet ResourceId S)) (start found : List ResourceId) → start ≡ [] → ((j : InterfaceId) → Contains kids j ↔ Contains (children c i) j) → IsOrdered c order
      → AreSets c roots order p p old → ((r : ResourceId) → Contains found r ↔ (Contains start r ⊎ IsInSets old kids r)) → (x : InterfaceId) → slice_get order p ≡ Some x → (r : ResourceId) → Contains found r ↔ IsFreeInside c (children c x) r
  inside_taken {S} kids old start found none same sorted sets added x there r =
      subst (λ z. Contains found r ↔ IsFreeInside c (children c z) r) (one_id i x (sym at ∙ there)) (
        λ h. elim ((added r).0 h) [ inl w ↦ absurd (in_none r (subst (λ l. Contains l r) none w)) | inr w ↦ to w ],
        λ h. (added r).1 (inr (from h)),
      )
    where
      has : (j : InterfaceId) → Contains (children c i) j → HasSet c old j
      has j h = let (q, low, here) = taken_before order p j (sorted p i j at h) in sets q j low here (inr (p, omega arith, (i, at, h)))

      to : IsInSets old kids r → IsFreeInside c (children c i) r
      to (j, h, (s, here, w)) =
          let child = (same j).0 h in
          let (t, there, keys) = has j child in
          (j, child, (keys r).0 (subst (λ (z : IndexSet ResourceId S). Contains z.keys r) (one_set s t (sym here ∙ there)) w))

      from : IsFreeInside c (children c i) r → IsInSets old kids r
      from (j, h, f) = let (t, there, keys) = has j h in (j, (same j).1 h, (t, there, (keys r).1 f))

  pub sets_taken : {S : Type 0} (last : List (InterfaceId × ℕ)) (old now : List (InterfaceId × IndexSet ResourceId S)) → AreLast c order (length order) last → AreSets c roots order p p old
      → ((j : InterfaceId) → Contains roots j ⊎ (value_of last j ≡ Some p → ⊥) → value_of now j ≡ value_of old j) → AreSets c roots order p (p + 1) now
  sets_taken last old now known sets kept q j low there (inl h) = set_kept c old now j (kept j (inl h)) (sets q j low there (inl h))
  sets_taken last old now known sets kept q j low there (inr (z, more, read)) = set_kept c old now j (kept j (inr later)) (sets q j low there (inr (z, omega (arith, more), read)))
    where
      later : value_of last j ≡ Some p → ⊥
      later e =
          let (x, here, h) = read in
          let (m, noted, most) = known z j (slice_get_within order z x here) read in
          let same : m ≡ p = number m p (sym noted ∙ e) in
          omega (arith, more, most, same)

-- ---- one interface after the other
pub sets_next : {S : Type 0} (c : Collection) (roots order : List InterfaceId) (p : ℕ) (i : InterfaceId) (old now : List (InterfaceId × IndexSet ResourceId S)) (s : IndexSet ResourceId S) → slice_get order p ≡ Some i
    → AreSets c roots order p (p + 1) old → IsChanged i (Some s) old now → ((r : ResourceId) → Contains s.keys r ↔ IsFree c (ty.Interface i) r) → AreSets c roots order (p + 1) (p + 1) now
sets_next {S} c roots order p i old now s at was all keys q j low there h = by ((IdEq.ghosts).eq i j) refl
  where
    same_there : q ≡ p → i ≡ j
    same_there e = one_id i j (sym at ∙ subst (λ z. slice_get order z ≡ Some j) e there)

    by : (b : Bool) → (IdEq.ghosts).eq i j ≡ b → HasSet c now j
    by true e = subst (HasSet c now) (same_id i j e) (s, value_changed i (Some s) old now all, keys)
    by false e =
        let other : j ≡ i → ⊥ = λ same. let wrong : true ≡ false = sym (subst (λ (z : InterfaceId). (IdEq.ghosts).eq i z ≡ true) (sym same) (id_itself i)) ∙ e in cc in
        elim (split q p low) [
          | inl less ↦ set_kept c old now j (value_kept i (Some s) old now all j other) (was q j less there h)
          | inr is ↦ absurd (other (sym (same_there is)))
        ]

pub sets_last : {S : Type 0} (c : Collection) (roots order : List InterfaceId) (n : ℕ) (entries : List (InterfaceId × IndexSet ResourceId S)) → length order ≤ n → ((k : InterfaceId) → Contains roots k → Contains order k)
    → AreSets c roots order n n entries → (i : InterfaceId) → Contains roots i → HasSet c entries i
sets_last c roots order n entries past all sets i h =
    let (p, low, at) = in_at order i (all i h) in
    sets p i (omega (arith, low, past)) at (inl h)

-- ---- the interfaces of items
pub interfaces_held : (c : Collection) (es : List (Name × ItemKind)) (start keys : List InterfaceId) → start ≡ [] → keys ≡ with_each start (interfaces_of es) → AreHeld c es → AreThere c keys
interfaces_held c es start keys none is held j h =
    let (e, there, type) = interface_items es j ((interfaces_same es start keys none is j).0 h) in
    within j.0 (length c.interfaces) (subst (λ t. holds_type c t ≡ true) type (held e there))

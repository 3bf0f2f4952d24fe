-- What is free in type items, and what additional imports bind.
use Rattle.std.proofs.Common.{ℕ, ◌+◌, ◌≤◌, true, false, is_some, List, [], ◌∷◌, ◌++◌, length, take, drop, Contains, Option, Some, None, ◌≡◌, ◌⊎◌, ◌↔◌, inl, inr, refl, ap, sym, ◌∙◌, subst, slice_get}
use Rattle.std.specs.Prelude.{IsSome}
use Rattle.std.specs.List.{flat_map}
use Rattle.std.specs.Option.{option_map}
use Rattle.std.proofs.lemmas.List.{take_all}
use Rattle.wac_types_shapes.specs.primitives.Name.{Name, option_case}
use Rattle.wac_types_shapes.specs.primitives.Tree.{Side, imported, exported}
use Rattle.wac_types_shapes.specs.declared.shapes.component.Interface.{Interface}
use Rattle.wac_types_shapes.specs.declared.shapes.component.InterfaceId.{InterfaceId}
use Rattle.wac_types_shapes.specs.declared.shapes.component.ItemKind.{ItemKind}
use Rattle.wac_types_shapes.specs.declared.shapes.component.ItemKind.TheVariants as kind
use Rattle.wac_types_shapes.specs.declared.shapes.component.ResourceId.{ResourceId}
use Rattle.wac_types_shapes.specs.declared.shapes.component.UsedType.{UsedType}
use Rattle.wac_types_shapes.specs.declared.shapes.component.«Type».{«Type» as AnyType}
use Rattle.wac_types_shapes.specs.declared.shapes.component.«Type».TheVariants as ty
use Rattle.wac_types_collection.specs.collection.Collection.{Collection, item_at, holds_type}
use Rattle.wac_types_collection.specs.collection.Bound.{own_name, first_bound}
use Rattle.wac_types_collection.specs.private.reach.Found.{with_all}
use Rattle.wac_types_collection.specs.reach.Reach.{IsIn}
use Rattle.wac_types_collection.specs.wide.Wide.{AreThere, with_each}
use Rattle.wac_types_collection.proofs.lemmas.collection.Steady.{within}
use Rattle.wac_types_collection.proofs.lemmas.reach.Lists.{drop_second, all_only, in_left as is_in_left, in_right as is_in_right, in_either as is_in_either}
use Rattle.wac_types_collection.proofs.lemmas.wide.Members.{in_none, in_first, in_rest, in_parts, in_one, in_left, in_right, in_either, in_flat, flat_in}
use Rattle.wac_types_collection.proofs.lemmas.wide.Once.{each_new, each_only, each_joined}
use Rattle.wac_encode_faults.specs.Free.{IsFree, IsFreeInTypes, SideItem, IsFreeInItem, of_import, of_additional, of_export, HasUnboundItem}
use Rattle.wac_encode_faults.specs.Sides.{under_id, side_bindings}
use Rattle.wac_encode_faults.specs.private.Binding.{Binds, BindsOne, IsFreeInItems, HasMissing, HasUnboundIn, other_of_item, others_alone, interface_of_item, interfaces_alone, IsFreeInTypeItems, IsFreeUnderId, IsFreeInAdditional, HasUnboundImport, sides_with}
use Rattle.wac_encode_faults.specs.private.Order.{interface_of}
use Rattle.wac_encode_faults.specs.private.Search.{AreHeld}
use Rattle.wac_encode_faults.specs.private.Sets.{other_of, IsFreeInOne, IsFreeInside}
use Rattle.wac_encode_faults.proofs.Binding.{binds_under_id, bound_law, first_none, both_none}
use Rattle.wac_encode_faults.proofs.FreeSets.{other_first, in_other, no_interface, interface_or_other}
use Rattle.wac_encode_faults.proofs.Ordering.{interface_is}
use Rattle.wac_encode_faults.proofs.Taken.{none_taken, taken_next}

-- ---- one type item
other_item_first : (ts : List AnyType) (k : ItemKind) (us : List AnyType) → with_all (with_all ts (other_of_item k)) us ≡ with_all ts (other_of_item k ++ us)
other_item_first ts (kind.TypeItem t) us = other_first ts t us
other_item_first ts (kind.Func f) us = refl
other_item_first ts (kind.Instance f) us = refl
other_item_first ts (kind.Component f) us = refl
other_item_first ts (kind.Module f) us = refl
other_item_first ts (kind.Value f) us = refl

item_other : (k : ItemKind) (t : AnyType) → IsIn t (other_of_item k) → (u : AnyType) × (k ≡ kind.TypeItem u) × IsIn t (other_of u)
item_other (kind.TypeItem u) t h = (u, refl, h)
item_other (kind.Func f) t h = absurd h
item_other (kind.Instance f) t h = absurd h
item_other (kind.Component f) t h = absurd h
item_other (kind.Module f) t h = absurd h
item_other (kind.Value f) t h = absurd h

item_interface : (k : ItemKind) (j : InterfaceId) → Contains (interface_of_item k) j → (u : AnyType) × (k ≡ kind.TypeItem u) × (u ≡ ty.Interface j)
item_interface (kind.TypeItem u) j h = (u, refl, interface_is u j h)
item_interface (kind.Func f) j h = absurd (in_none j h)
item_interface (kind.Instance f) j h = absurd (in_none j h)
item_interface (kind.Component f) j h = absurd (in_none j h)
item_interface (kind.Module f) j h = absurd (in_none j h)
item_interface (kind.Value f) j h = absurd (in_none j h)

-- ---- several type items
pub others_next : (es : List (Name × ItemKind)) (n : ℕ) (k : ItemKind) (found now all : List AnyType) → option_map (λ e. e.1) (slice_get es n) ≡ Some k → now ≡ with_all found (other_of_item k)
    → with_all found (others_alone (drop n es)) ≡ all → with_all now (others_alone (drop (n + 1) es)) ≡ all
others_next es n k found now all at grown was =
    let (name, here) = drop_second es n k at in
    let rest = others_alone (drop (n + 1) es) in
    ap (λ l. with_all l rest) grown ∙ other_item_first found k rest ∙ sym (ap (λ xs. with_all found (others_alone xs)) here) ∙ was

pub interfaces_next : (es : List (Name × ItemKind)) (n : ℕ) (k : ItemKind) (found now all : List InterfaceId) → option_map (λ e. e.1) (slice_get es n) ≡ Some k → now ≡ with_each found (interface_of_item k)
    → with_each found (interfaces_alone (drop n es)) ≡ all → with_each now (interfaces_alone (drop (n + 1) es)) ≡ all
interfaces_next es n k found now all at grown was =
    let (name, here) = drop_second es n k at in
    let rest = interfaces_alone (drop (n + 1) es) in
    ap (λ l. with_each l rest) grown ∙ sym (each_joined found (interface_of_item k) rest) ∙ sym (ap (λ xs. with_each found (interfaces_alone xs)) here) ∙ was

alone_listed : (es : List (Name × ItemKind)) (t : AnyType) → IsIn t (others_alone es) → (n : Name) × (u : AnyType) × Contains es (n, kind.TypeItem u) × IsIn t (other_of u)
alone_listed [] t h = absurd h
alone_listed (x ∷ es) t h = elim (is_in_either t (other_of_item x.1) (others_alone es) h) [
  | inl w ↦ let (u, is, here) = item_other x.1 t w in (x.0, u, subst (λ (k : ItemKind). Contains (x ∷ es) (x.0, k)) is (in_first x es), here)
  | inr w ↦ let (n, u, there, here) = alone_listed es t w in (n, u, in_rest x (n, kind.TypeItem u) es there, here)
]

listed_alone : (es : List (Name × ItemKind)) (t : AnyType) (n : Name) (u : AnyType) → Contains es (n, kind.TypeItem u) → IsIn t (other_of u) → IsIn t (others_alone es)
listed_alone [] t n u h w = absurd (in_none (n, kind.TypeItem u) h)
listed_alone (x ∷ es) t n u h w = elim (in_parts x (n, kind.TypeItem u) es h) [
  | inl same ↦ is_in_left t (other_of_item x.1) (others_alone es) (subst (λ (z : Name × ItemKind). IsIn t (other_of_item z.1)) same w)
  | inr more ↦ is_in_right t (other_of_item x.1) (others_alone es) (listed_alone es t n u more w)
]

pub alone_no_interface : (es : List (Name × ItemKind)) (t : AnyType) → IsIn t (others_alone es) → (i : InterfaceId) → t ≡ ty.Interface i → ⊥
alone_no_interface es t h = let (n, u, there, here) = alone_listed es t h in no_interface t u here

pub alone_held : (c : Collection) (es : List (Name × ItemKind)) (start : List AnyType) → start ≡ with_all [] (others_alone es) → AreHeld c es → (t : AnyType) → IsIn t start → holds_type c t ≡ true
alone_held c es start begun held t h =
    let w : IsIn t (others_alone es) = elim (all_only [] (others_alone es) t (subst (IsIn t) begun h)) [ inl n ↦ absurd n | inr k ↦ k ] in
    let (n, u, there, here) = alone_listed es t w in
    subst (λ z. holds_type c z ≡ true) (sym (in_other t u here)) (held (n, kind.TypeItem u) there)

-- the interfaces among the types of type items
module _ (es : List (Name × ItemKind)) (start keys : List InterfaceId) (none : start ≡ []) (is : keys ≡ with_each start (interfaces_alone es)) where
  pub interfaces_same : (j : InterfaceId) → Contains keys j ↔ Contains (interfaces_alone es) j
  interfaces_same j = (
    λ h. elim (each_only start (interfaces_alone es) j (subst (λ l. Contains l j) is h)) [ inl w ↦ absurd (in_none j (subst (λ l. Contains l j) none w)) | inr w ↦ w ],
    λ h. subst (λ l. Contains l j) (sym is) (each_new start (interfaces_alone es) j h),
  )

  interface_item : (j : InterfaceId) → Contains (interfaces_alone es) j → (n : Name) × (u : AnyType) × Contains es (n, kind.TypeItem u) × (u ≡ ty.Interface j)
  interface_item j h =
      let (e, there, here) = flat_in (λ (e : Name × ItemKind). interface_of_item e.1) es j h in
      let (u, type, same) = item_interface e.1 j here in
      (e.0, u, subst (λ (k : ItemKind). Contains es (e.0, k)) type there, same)

  pub interfaces_held : (c : Collection) → AreHeld c es → AreThere c keys
  interfaces_held c held j h =
      let (n, u, there, type) = interface_item j ((interfaces_same j).0 h) in
      within j.0 (length c.interfaces) (subst (λ t. holds_type c t ≡ true) type (held (n, kind.TypeItem u) there))

  pub type_items_free : (c : Collection) (old mid now : List ResourceId) → ((r : ResourceId) → Contains mid r ↔ (Contains old r ⊎ IsFreeInOne c (others_alone es) r)) → ((r : ResourceId) → Contains now r ↔ (Contains mid r ⊎ IsFreeInside c keys r))
      → (r : ResourceId) → Contains now r ↔ (Contains old r ⊎ IsFreeInTypeItems c es r)
  type_items_free c old mid now others inside r = (λ h. to h, λ h. from h)
    where
      to : Contains now r → Contains old r ⊎ IsFreeInTypeItems c es r
      to h = elim ((inside r).0 h) [
        | inl w ↦ elim ((others r).0 w) [
          | inl k ↦ inl k
          | inr k ↦ let (n, u, there, here) = alone_listed es k.0 k.1 in inr (n, u, there, subst (λ t. IsFree c t r) (in_other k.0 u here) k.2)
        ]
        | inr w ↦ let (n, u, there, type) = interface_item w.0 ((interfaces_same w.0).0 w.1) in inr (n, u, there, subst (λ t. IsFree c t r) (sym type) w.2)
      ]

      from : Contains old r ⊎ IsFreeInTypeItems c es r → Contains now r
      from (inl w) = (inside r).1 (inl ((others r).1 (inl w)))
      from (inr (n, u, there, f)) = elim (interface_or_other u) [
        | inl w ↦ (inside r).1 (inr (
          w.0,
          (interfaces_same w.0).1 (in_flat (λ (e : Name × ItemKind). interface_of_item e.1) es (n, kind.TypeItem u) w.0 there
              (subst (λ t. Contains (interface_of t) w.0) (sym w.1) (in_first w.0 []))),
          subst (λ t. IsFree c t r) w.1 f,
        ))
        | inr w ↦ (inside r).1 (inl ((others r).1 (inr (u, listed_alone es u n u there w, f))))
      ]

-- what is free in an instance of an interface with its types only
pub in_types : (c : Collection) (i : InterfaceId) (it : Interface) (start more left : List ResourceId) → item_at c.interfaces i.0 ≡ Some it → start ≡ [] → ((r : ResourceId) → Contains more r ↔ (Contains start r ⊎ IsFreeInTypeItems c it.exports r))
    → ((r : ResourceId) → Contains left r ↔ (Contains more r × (own_name c it.uses it.exports r ≡ None))) → (r : ResourceId) → Contains left r ↔ IsFreeInTypes c i r
in_types c i it start more left at none free own r = (λ h. to ((own r).0 h), λ f. from f)
  where
    same : (x : Interface) → item_at c.interfaces i.0 ≡ Some x → x ≡ it
    same x there = one (sym there ∙ at)
      where
        one : Some x ≡ Some it → x ≡ it
        one e = cc

    to : Contains more r × (own_name c it.uses it.exports r ≡ None) → IsFreeInTypes c i r
    to (h, other) = elim ((free r).0 h) [
      | inl w ↦ absurd (in_none r (subst (λ l. Contains l r) none w))
      | inr w ↦ record { interface = it; there = at; name = w.0; type = w.1; listed = w.2; not_own = other; free = w.3 }
    ]

    from : IsFreeInTypes c i r → Contains left r
    from f =
        let is = same f.interface f.there in
        (own r).1 ((free r).1 (inr (f.name, f.type, subst (λ (z : Interface). Contains z.exports (f.name, kind.TypeItem f.type)) is f.listed, f.free)), subst (λ (z : Interface). own_name c z.uses z.exports r ≡ None) is f.not_own)

pub added_to : (old inner now : List ResourceId) (P : ResourceId → Type 0) → ((r : ResourceId) → Contains inner r ↔ P r) → ((r : ResourceId) → Contains now r ↔ (Contains old r ⊎ Contains inner r)) → (r : ResourceId) → Contains now r ↔ (Contains old r ⊎ P r)
added_to old inner now P law added r = (
  λ h. elim ((added r).0 h) [ inl w ↦ inl w | inr w ↦ inr ((law r).0 w) ],
  λ h. (added r).1 (elim h [ inl w ↦ inl w | inr w ↦ inr ((law r).1 w) ]),
)

-- ---- the instance of an interface under its id

module _ (c : Collection) (i : InterfaceId) (it : Interface) (at : item_at c.interfaces i.0 ≡ Some it) where
  pub under_some : (id : Name) → it.id ≡ Some id → under_id c i ≡ (id, kind.Instance i) ∷ []
  under_some id is = ap (λ (o : Option Interface). option_case o [] (λ x. option_case x.id [] (λ n. (n, kind.Instance i) ∷ []))) at ∙ ap (λ (o : Option Name). option_case o [] (λ n. (n, kind.Instance i) ∷ [])) is

  pub under_none : it.id ≡ None → under_id c i ≡ []
  under_none is = ap (λ (o : Option Interface). option_case o [] (λ x. option_case x.id [] (λ n. (n, kind.Instance i) ∷ []))) at ∙ ap (λ (o : Option Name). option_case o [] (λ n. (n, kind.Instance i) ∷ [])) is

  pub has_some : is_some it.id ≡ true → (id : Name) × (it.id ≡ Some id)
  has_some h = by it.id refl h
    where
      by : (o : Option Name) → it.id ≡ o → is_some o ≡ true → (id : Name) × (it.id ≡ Some id)
      by None is e = cc
      by (Some id) is e = (id, is)

  pub has_none : is_some it.id ≡ false → it.id ≡ None
  has_none h = by it.id refl h
    where
      by : (o : Option Name) → it.id ≡ o → is_some o ≡ false → it.id ≡ None
      by None is e = is
      by (Some id) is e = cc

  pub under_binds : is_some it.id ≡ true → (old now : List ResourceId) → ((r : ResourceId) → Contains now r ↔ (Contains old r ⊎ IsSome (own_name c it.uses it.exports r))) → (uses : List (Name × UsedType)) (side : Side) (r : ResourceId)
      → Contains now r ↔ (Contains old r ⊎ BindsOne c uses side (under_id c i) r)
  under_binds has old now added uses side r =
      let (id, is) = has_some has in
      let all = under_some id is in
      let law = binds_under_id c uses side id r i it at (ap (λ (o : Option Interface). option_case o None (λ x. x.id)) at ∙ is) in (
        λ h. elim ((added r).0 h) [ inl w ↦ inl w | inr w ↦ inr ((id, kind.Instance i), subst (λ l. Contains l (id, kind.Instance i)) (sym all) (in_first (id, kind.Instance i) []), law.0 w) ],
        λ h. (added r).1 (elim h [ inl w ↦ inl w | inr w ↦ inr (law.1 (subst (λ z. Binds c uses side z r) (in_one (id, kind.Instance i) w.0 (subst (λ l. Contains l w.0) all w.1)) w.2)) ]),
      )

  pub under_binds_none : is_some it.id ≡ false → (old : List ResourceId) (uses : List (Name × UsedType)) (side : Side) (r : ResourceId) → Contains old r ↔ (Contains old r ⊎ BindsOne c uses side (under_id c i) r)
  under_binds_none has old uses side r = (λ h. inl h, λ h. elim h [ inl w ↦ w | inr w ↦ absurd (in_none w.0 (subst (λ l. Contains l w.0) (under_none (has_none has)) w.1)) ])

  pub under_free : is_some it.id ≡ true → (old now : List ResourceId) → ((r : ResourceId) → Contains now r ↔ (Contains old r ⊎ IsFreeInTypes c i r)) → (r : ResourceId) → Contains now r ↔ (Contains old r ⊎ IsFreeUnderId c i r)
  under_free has old now added r =
      let (id, is) = has_some has in
      let there = subst (λ l. Contains l (id, kind.Instance i)) (sym (under_some id is)) (in_first (id, kind.Instance i) []) in (
        λ h. elim ((added r).0 h) [ inl w ↦ inl w | inr w ↦ inr (id, there, w) ],
        λ h. (added r).1 (elim h [ inl w ↦ inl w | inr w ↦ inr w.2 ]),
      )

  pub under_free_none : is_some it.id ≡ false → (old : List ResourceId) (r : ResourceId) → Contains old r ↔ (Contains old r ⊎ IsFreeUnderId c i r)
  under_free_none has old r = (λ h. inl h, λ h. elim h [ inl w ↦ w | inr w ↦ absurd (in_none (w.0, kind.Instance i) (subst (λ l. Contains l (w.0, kind.Instance i)) (under_none (has_none has)) w.1)) ])

-- an instance under an id is of that interface
pub under_same : (c : Collection) (i j : InterfaceId) (n : Name) → Contains (under_id c j) (n, kind.Instance i) → i ≡ j
under_same c i j n h = by (item_at c.interfaces j.0) h
  where
    inner : (o : Option Name) → Contains {X = Name × ItemKind} (option_case o [] (λ id. (id, kind.Instance j) ∷ [])) (n, kind.Instance i) → i ≡ j
    inner None w = absurd (in_none (n, kind.Instance i) w)
    inner (Some id) w = one (ap (λ (z : Name × ItemKind). z.1) (in_one (id, kind.Instance j) (n, kind.Instance i) w))
      where
        one : kind.Instance i ≡ kind.Instance j → i ≡ j
        one e = cc

    by : (o : Option Interface) → Contains {X = Name × ItemKind} (option_case o [] (λ it. option_case it.id [] (λ id. (id, kind.Instance j) ∷ []))) (n, kind.Instance i) → i ≡ j
    by None w = absurd (in_none (n, kind.Instance i) w)
    by (Some it) w = inner it.id w

-- ---- several additional imports
abbrev pub AreBoundUnder : Collection → List InterfaceId → ℕ → List ResourceId → List ResourceId → Type 0
AreBoundUnder c is n old now = (uses : List (Name × UsedType)) (side : Side) (r : ResourceId) → Contains now r ↔ (Contains old r ⊎ BindsOne c uses side (flat_map (under_id c) (take n is)) r)

none_flat : {A B : Type 0} (f : A → List B) (xs : List A) (b : B) → Contains (flat_map f (take 0 xs)) b → ⊥
none_flat f xs b h = let (x, there, here) = flat_in f (take 0 xs) b h in none_taken xs x there

pub bound_under_first : (c : Collection) (is : List InterfaceId) (old : List ResourceId) → AreBoundUnder c is 0 old old
bound_under_first c is old uses side r = (λ h. inl h, λ h. elim h [ inl w ↦ w | inr w ↦ absurd (none_flat (under_id c) is w.0 w.1) ])

pub bound_under_more : (c : Collection) (is : List InterfaceId) (n : ℕ) (i : InterfaceId) (old before now : List ResourceId) → slice_get is n ≡ Some i → AreBoundUnder c is n old before
    → ((uses : List (Name × UsedType)) (side : Side) (r : ResourceId) → Contains now r ↔ (Contains before r ⊎ BindsOne c uses side (under_id c i) r)) → AreBoundUnder c is (n + 1) old now
bound_under_more c is n i old before now at was step uses side r = (λ h. to ((step uses side r).0 h), λ h. from h)
  where
    to : Contains before r ⊎ BindsOne c uses side (under_id c i) r → Contains old r ⊎ BindsOne c uses side (flat_map (under_id c) (take (n + 1) is)) r
    to (inl w) = elim ((was uses side r).0 w) [
      | inl k ↦ inl k
      | inr k ↦ let (j, there, here) = flat_in (under_id c) (take n is) k.0 k.1 in inr (k.0, in_flat (under_id c) (take (n + 1) is) j k.0 ((taken_next is n i j at).1 (inl there)) here, k.2)
    ]
    to (inr w) = inr (w.0, in_flat (under_id c) (take (n + 1) is) i w.0 ((taken_next is n i i at).1 (inr refl)) w.1, w.2)

    from : Contains old r ⊎ BindsOne c uses side (flat_map (under_id c) (take (n + 1) is)) r → Contains now r
    from (inl w) = (step uses side r).1 (inl ((was uses side r).1 (inl w)))
    from (inr w) =
        let (j, there, here) = flat_in (under_id c) (take (n + 1) is) w.0 w.1 in
        elim ((taken_next is n i j at).0 there) [
          | inl k ↦ (step uses side r).1 (inl ((was uses side r).1 (inr (w.0, in_flat (under_id c) (take n is) j w.0 k here, w.2))))
          | inr same ↦ (step uses side r).1 (inr (w.0, subst (λ (z : InterfaceId). Contains (under_id c z) w.0) same here, w.2))
        ]

pub bound_under_all : (c : Collection) (is : List InterfaceId) (n : ℕ) (old now : List ResourceId) → length is ≤ n → AreBoundUnder c is n old now
    → (uses : List (Name × UsedType)) (side : Side) (r : ResourceId) → Contains now r ↔ (Contains old r ⊎ BindsOne c uses side (flat_map (under_id c) is) r)
bound_under_all c is n old now past all uses side r = subst (λ l. Contains now r ↔ (Contains old r ⊎ BindsOne c uses side (flat_map (under_id c) l) r)) (take_all n is past) (all uses side r)

abbrev pub AreFreeUnder : Collection → List InterfaceId → ℕ → List ResourceId → List ResourceId → Type 0
AreFreeUnder c is n old now = (r : ResourceId) → Contains now r ↔ (Contains old r ⊎ IsFreeInAdditional c (take n is) r)

pub free_under_first : (c : Collection) (is : List InterfaceId) (old : List ResourceId) → AreFreeUnder c is 0 old old
free_under_first c is old r = (λ h. inl h, λ h. elim h [ inl w ↦ w | inr w ↦ absurd (none_taken is w.0 w.1) ])

pub free_under_more : (c : Collection) (is : List InterfaceId) (n : ℕ) (i : InterfaceId) (old before now : List ResourceId) → slice_get is n ≡ Some i → AreFreeUnder c is n old before
    → ((r : ResourceId) → Contains now r ↔ (Contains before r ⊎ IsFreeUnderId c i r)) → AreFreeUnder c is (n + 1) old now
free_under_more c is n i old before now at was step r = (
  λ h. elim ((step r).0 h) [
    | inl w ↦ elim ((was r).0 w) [ inl k ↦ inl k | inr k ↦ inr (k.0, (taken_next is n i k.0 at).1 (inl k.1), k.2) ]
    | inr w ↦ inr (i, (taken_next is n i i at).1 (inr refl), w)
  ],
  λ h. elim h [
    | inl w ↦ (step r).1 (inl ((was r).1 (inl w)))
    | inr w ↦ elim ((taken_next is n i w.0 at).0 w.1) [
      | inl k ↦ (step r).1 (inl ((was r).1 (inr (w.0, k, w.2))))
      | inr same ↦ (step r).1 (inr (subst (λ z. IsFreeUnderId c z r) same w.2))
    ]
  ],
)

pub free_under_all : (c : Collection) (is : List InterfaceId) (n : ℕ) (old now : List ResourceId) → length is ≤ n → AreFreeUnder c is n old now → (r : ResourceId) → Contains now r ↔ (Contains old r ⊎ IsFreeInAdditional c is r)
free_under_all c is n old now past all r = subst (λ l. Contains now r ↔ (Contains old r ⊎ IsFreeInAdditional c l r)) (take_all n is past) (all r)

-- ---- the sides of a component type
pub missing_import : (c : Collection) (es : List (Name × ItemKind)) (is : List InterfaceId) (bound start items free : List ResourceId) → start ≡ [] → ((r : ResourceId) → Contains items r ↔ (Contains start r ⊎ IsFreeInItems c es r))
    → ((r : ResourceId) → Contains free r ↔ (Contains items r ⊎ IsFreeInAdditional c is r)) → HasMissing bound free ↔ HasUnboundImport c es is bound
missing_import c es is bound start items free begun first second = (
  λ h. (
    h.0,
    elim ((second h.0).0 h.1) [
      | inl w ↦ elim ((first h.0).0 w) [ inl k ↦ absurd (in_none h.0 (subst (λ l. Contains l h.0) begun k)) | inr k ↦ inl k ]
      | inr w ↦ inr w
    ],
    h.2,
  ),
  λ h. (h.0, (second h.0).1 (elim h.1 [ inl k ↦ inl ((first h.0).1 (inr k)) | inr w ↦ inr w ]), h.2),
)

module _ (c : Collection) (uses : List (Name × UsedType)) (imports : List (Name × ItemKind)) (is : List InterfaceId) (exports : List (Name × ItemKind)) (start mid bound : List ResourceId) (begun : start ≡ [])
    (by_imports : (side : Side) (r : ResourceId) → Contains mid r ↔ (Contains start r ⊎ BindsOne c uses side imports r))
    (by_additional : (x : List (Name × UsedType)) (side : Side) (r : ResourceId) → Contains bound r ↔ (Contains mid r ⊎ BindsOne c x side (flat_map (under_id c) is) r)) where
  unbound_imports : (r : ResourceId) → (side_bindings c (sides_with c uses imports is exports) imported r ≡ None) ↔ (Contains bound r → ⊥)
  unbound_imports r =
      let law = bound_law c uses imported r (imports ++ flat_map (under_id c) is) in (
        λ h b. law.0 h (elim ((by_additional uses imported r).0 b) [
          | inl w ↦ elim ((by_imports imported r).0 w) [
            | inl k ↦ absurd (in_none r (subst (λ l. Contains l r) begun k))
            | inr k ↦ (k.0, in_left imports (flat_map (under_id c) is) k.0 k.1, k.2)
          ]
          | inr w ↦ (w.0, in_right imports (flat_map (under_id c) is) w.0 w.1, w.2)
        ]),
        λ h. law.1 (λ b. elim (in_either imports (flat_map (under_id c) is) b.0 b.1) [
          | inl w ↦ h ((by_additional uses imported r).1 (inl ((by_imports imported r).1 (inr (b.0, w, b.2)))))
          | inr w ↦ h ((by_additional uses imported r).1 (inr (b.0, w, b.2)))
        ]),
      )

  pub from_import : HasUnboundImport c imports is bound → HasUnboundItem c (sides_with c uses imports is exports)
  from_import (r, inl (e, there, f), other) = (record { side = imported; name = e.0 }, r, of_import e.0 e.1 r there f, (unbound_imports r).1 other)
  from_import (r, inr (i, there, (n, here, f)), other) = (record { side = imported; name = n }, r, of_additional n i r (in_flat (under_id c) is i (n, kind.Instance i) there here) f, (unbound_imports r).1 other)

  module _ (all : List ResourceId) (by_exports : (side : Side) (r : ResourceId) → Contains all r ↔ (Contains bound r ⊎ BindsOne c uses side exports r)) where
    unbound_exports : (r : ResourceId) → (side_bindings c (sides_with c uses imports is exports) exported r ≡ None) ↔ (Contains all r → ⊥)
    unbound_exports r =
        let s = sides_with c uses imports is exports in
        let law = bound_law c uses exported r exports in (
          λ h b. let parts = first_none (side_bindings c s imported r) (first_bound c uses exported exports r) h in
              elim ((by_exports exported r).0 b) [ inl w ↦ (unbound_imports r).0 parts.0 w | inr w ↦ law.0 parts.1 w ],
          λ h. both_none (side_bindings c s imported r) (first_bound c uses exported exports r)
              ((unbound_imports r).1 (λ b. h ((by_exports exported r).1 (inl b)))) (law.1 (λ b. h ((by_exports exported r).1 (inr b)))),
        )

    item_unbound : (x : SideItem) (r : ResourceId) → IsFreeInItem c (sides_with c uses imports is exports) x r → side_bindings c (sides_with c uses imports is exports) x.side r ≡ None
        → HasUnboundImport c imports is bound ⊎ HasUnboundIn c exports all
    item_unbound _ r (of_import n k _ there f) h = inl (r, inl ((n, k), there, f), (unbound_imports r).0 h)
    item_unbound _ r (of_additional n i _ there f) h =
        let (j, inside, here) = flat_in (under_id c) is (n, kind.Instance i) there in
        let same = under_same c i j n here in
        inl (r, inr (i, subst (Contains is) (sym same) inside, (n, subst (λ (z : InterfaceId). Contains (under_id c z) (n, kind.Instance i)) (sym same) here, f)), (unbound_imports r).0 h)
    item_unbound _ r (of_export n k _ there f) h = inr (r, ((n, k), there, f), (unbound_exports r).0 h)

    pub by_exports_alone : (HasUnboundImport c imports is bound → ⊥) → HasUnboundIn c exports all ↔ HasUnboundItem c (sides_with c uses imports is exports)
    by_exports_alone other = (
      λ w. let (r, (e, there, f), left) = w in (record { side = exported; name = e.0 }, r, of_export e.0 e.1 r there f, (unbound_exports r).1 left),
      λ w. let (x, r, f, none) = w in elim (item_unbound x r f none) [ inl k ↦ absurd (other k) | inr k ↦ k ],
    )

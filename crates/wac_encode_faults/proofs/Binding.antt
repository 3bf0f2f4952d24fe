-- What imports and exports bind, and what is free in them.
use Rattle.std.proofs.Common.{ℕ, ◌+◌, ◌≤◌, Bool, true, false, not, cond, if◌then◌else◌, is_some, List, [], ◌∷◌, ◌++◌, length, take, filter, Contains, Option, Some, None, ◌≡◌, ◌⊎◌, ◌↔◌, inl, inr, refl, ap, sym, ◌∙◌, subst, slice_get}
use Rattle.std.specs.Prelude.{IsSome}
use Rattle.std.proofs.lemmas.List.{append-nil, take_all}
use Rattle.indexmap.specs.IndexSet.{IndexSet}
use Rattle.wac_types_shapes.specs.primitives.Name.{Name, same_name, find_name, option_case, first_some}
use Rattle.wac_types_shapes.specs.primitives.Tree.{Side, imported, exported, Leaf, named}
use Rattle.wac_types_shapes.specs.shapes.Kinds.{kind_type}
use Rattle.wac_types_shapes.proofs.lemmas.shapes.Names.{same_name-true, same_name-refl}
use Rattle.wac_types_shapes.specs.contracts.shapes.component.ResourceIdPartialEq.TheImpl as IdEq
use Rattle.wac_types_shapes.specs.declared.shapes.component.Interface.{Interface}
use Rattle.wac_types_shapes.specs.declared.shapes.component.InterfaceId.{InterfaceId}
use Rattle.wac_types_shapes.specs.declared.shapes.component.ItemKind.{ItemKind}
use Rattle.wac_types_shapes.specs.declared.shapes.component.ItemKind.TheVariants as kind
use Rattle.wac_types_shapes.specs.declared.shapes.component.ResourceId.{ResourceId}
use Rattle.wac_types_shapes.specs.declared.shapes.component.UsedType.{UsedType}
use Rattle.wac_types_shapes.specs.declared.shapes.component.World.{World}
use Rattle.wac_types_shapes.specs.declared.shapes.component.«Type».{«Type» as AnyType}
use Rattle.wac_types_shapes.specs.declared.shapes.component.«Type».TheVariants as ty
use Rattle.wac_types_collection.specs.collection.Collection.{Collection, item_at, holds_type}
use Rattle.wac_types_collection.specs.collection.Bound.{Bindings, lists_own, lists_type, own_name, bound_by, bound_in_order, first_bound}
use Rattle.wac_types_collection.specs.wide.Wide.{AreThere}
use Rattle.wac_types_collection.proofs.lemmas.collection.Steady.{within}
use Rattle.wac_types_collection.proofs.lemmas.wide.Members.{in_none, in_first, in_rest, in_parts, in_one}
use Rattle.wac_encode_faults.specs.Free.{IsFree, IsUnbound, SideItem, IsFreeInItem, of_import, of_additional, of_export, HasUnboundItem}
use Rattle.wac_encode_faults.specs.Sides.{world_sides, side_bindings}
use Rattle.wac_encode_faults.specs.private.Binding.{Binds, BindsOne, IsFreeInItems, HasMissing, HasUnboundIn}
use Rattle.wac_encode_faults.specs.private.Order.{interfaces_of}
use Rattle.wac_encode_faults.specs.private.Search.{IsIdOf}
use Rattle.wac_encode_faults.specs.private.Sets.{own_resource, others_of, IsFreeInOne, IsFreeInside, IsInSet, IsInSets, HasSet}
use Rattle.wac_encode_faults.proofs.FreeParts.{same_id, resource_itself}
use Rattle.wac_encode_faults.proofs.FreeSets.{free_export, interface_items, other_listed, in_other, one_set}
use Rattle.wac_encode_faults.proofs.Owned.{lists_law, nothing}
use Rattle.wac_encode_faults.proofs.Taken.{none_taken, taken_more, taken_next}

never : false ≡ true → ⊥
never h = cc

-- ---- own resources
differ : (q r : ResourceId) → (IdEq.ghosts).eq q r ≡ false → Some q ≡ Some r → ⊥
differ q r e h =
    let same : q ≡ r = cc in
    let wrong : true ≡ false = sym (subst (λ (z : ResourceId). (IdEq.ghosts).eq q z ≡ true) same (resource_itself q)) ∙ e in
    cc

lists_true : (c : Collection) (uses : List (Name × UsedType)) (r : ResourceId) (n : Name) (k : ItemKind) → (lists_own c uses r (n, k) ≡ true) ↔ (own_resource c uses (n, k) ≡ Some r)
lists_true c uses r n k = (λ h. to (own_resource c uses (n, k)) refl h, λ h. from (lists_own c uses r (n, k)) refl h)
  where
    law : (lists_own c uses r (n, k) ≡ false) ↔ (own_resource c uses (n, k) ≡ Some r → ⊥)
    law = lists_law c uses r n k

    both : lists_own c uses r (n, k) ≡ true → lists_own c uses r (n, k) ≡ false → ⊥
    both a b = let wrong : true ≡ false = sym a ∙ b in cc

    to : (o : Option ResourceId) → own_resource c uses (n, k) ≡ o → lists_own c uses r (n, k) ≡ true → own_resource c uses (n, k) ≡ Some r
    to None is h = absurd (both h (law.1 (λ e. let wrong : None ≡ Some r = sym is ∙ e in cc)))
    to (Some q) is h = by ((IdEq.ghosts).eq q r) refl
      where
        by : (b : Bool) → (IdEq.ghosts).eq q r ≡ b → own_resource c uses (n, k) ≡ Some r
        by true e = is ∙ ap Some (same_id q r e)
        by false e = absurd (both h (law.1 (λ x. differ q r e (sym is ∙ x))))

    from : (b : Bool) → lists_own c uses r (n, k) ≡ b → own_resource c uses (n, k) ≡ Some r → lists_own c uses r (n, k) ≡ true
    from true is h = is
    from false is h = absurd (law.0 is h)

own_joined : (c : Collection) (uses : List (Name × UsedType)) (r : ResourceId) (xs : List (Name × ItemKind)) (e : Name × ItemKind)
    → IsSome (own_name c uses (xs ++ e ∷ []) r) ↔ (IsSome (own_name c uses xs r) ⊎ (lists_own c uses r e ≡ true))
own_joined c uses r [] e = by e.0 (lists_own c uses r e)
  where
    by : (n : Name) (b : Bool) → IsSome (if b then Some n else None) ↔ (IsSome (own_name c uses [] r) ⊎ (b ≡ true))
    by n true = (λ h. inr refl, λ h. refl)
    by n false = (λ h. absurd (never h), λ h. elim h [ inl w ↦ w | inr w ↦ w ])
own_joined c uses r (x ∷ xs) e = step x.0 (own_name c uses (xs ++ e ∷ []) r) (own_name c uses xs r) (own_joined c uses r xs e) (lists_own c uses r x)
  where
    step : (n : Name) (whole part : Option Name) → IsSome whole ↔ (IsSome part ⊎ (lists_own c uses r e ≡ true)) → (b : Bool)
        → IsSome (if b then Some n else whole) ↔ (IsSome (if b then Some n else part) ⊎ (lists_own c uses r e ≡ true))
    step n whole part both true = (λ h. inl refl, λ h. refl)
    step n whole part both false = both

own_next : (c : Collection) (uses : List (Name × UsedType)) (es : List (Name × ItemKind)) (n : ℕ) (e : Name × ItemKind) (r : ResourceId) → slice_get es n ≡ Some e
    → IsSome (own_name c uses (take (n + 1) es) r) ↔ (IsSome (own_name c uses (take n es) r) ⊎ (own_resource c uses e ≡ Some r))
own_next c uses es n e r at =
    let whole = taken_more es n e at in
    let joined = own_joined c uses r (take n es) e in
    let law = lists_true c uses r e.0 e.1 in (
      λ h. elim (joined.0 (subst (λ l. IsSome (own_name c uses l r)) whole h)) [ inl w ↦ inl w | inr w ↦ inr (law.0 w) ],
      λ h. subst (λ l. IsSome (own_name c uses l r)) (sym whole) (joined.1 (elim h [ inl w ↦ inl w | inr w ↦ inr (law.1 w) ])),
    )

-- The own resources of the first items are added.
abbrev pub AreWithOwn : Collection → List (Name × UsedType) → List (Name × ItemKind) → ℕ → List ResourceId → List ResourceId → Type 0
AreWithOwn c uses es n old now = (r : ResourceId) → Contains now r ↔ (Contains old r ⊎ IsSome (own_name c uses (take n es) r))

pub with_own_first : (c : Collection) (uses : List (Name × UsedType)) (es : List (Name × ItemKind)) (old : List ResourceId) → AreWithOwn c uses es 0 old old
with_own_first c uses es old r = (λ h. inl h, λ h. elim h [ inl w ↦ w | inr w ↦ absurd (none es w) ])
  where
    none : (es : List (Name × ItemKind)) → IsSome (own_name c uses (take 0 es) r) → ⊥
    none [] h = never h
    none (e ∷ es) h = never h

pub with_own_more : (c : Collection) (uses : List (Name × UsedType)) (es : List (Name × ItemKind)) (n : ℕ) (e : Name × ItemKind) (o : Option ResourceId) (old before now : List ResourceId) → slice_get es n ≡ Some e → o ≡ own_resource c uses e
    → AreWithOwn c uses es n old before → ((r : ResourceId) → Contains now r ↔ (Contains before r ⊎ (o ≡ Some r))) → AreWithOwn c uses es (n + 1) old now
with_own_more c uses es n e o old before now at is was step r =
    let next = own_next c uses es n e r at in (
      λ h. elim ((step r).0 h) [
        | inl w ↦ elim ((was r).0 w) [ inl k ↦ inl k | inr k ↦ inr (next.1 (inl k)) ]
        | inr x ↦ inr (next.1 (inr (sym is ∙ x)))
      ],
      λ h. elim h [
        | inl w ↦ (step r).1 (inl ((was r).1 (inl w)))
        | inr w ↦ elim (next.0 w) [ inl k ↦ (step r).1 (inl ((was r).1 (inr k))) | inr x ↦ (step r).1 (inr (is ∙ x)) ]
      ],
    )

pub with_own_all : (c : Collection) (uses : List (Name × UsedType)) (es : List (Name × ItemKind)) (n : ℕ) (old now : List ResourceId) → length es ≤ n → AreWithOwn c uses es n old now
    → (r : ResourceId) → Contains now r ↔ (Contains old r ⊎ IsSome (own_name c uses es r))
with_own_all c uses es n old now past all r = subst (λ l. Contains now r ↔ (Contains old r ⊎ IsSome (own_name c uses l r))) (take_all n es past) (all r)

-- one resource, if there is one
pub one_added : (old now : List ResourceId) (o : Option ResourceId) (q : ResourceId) → o ≡ Some q → ((r : ResourceId) → Contains now r ↔ (Contains old r ⊎ (r ≡ q))) → (r : ResourceId) → Contains now r ↔ (Contains old r ⊎ (o ≡ Some r))
one_added old now o q is added r = (
  λ h. elim ((added r).0 h) [ inl w ↦ inl w | inr e ↦ inr (is ∙ ap Some (sym e)) ],
  λ h. (added r).1 (elim h [ inl w ↦ inl w | inr e ↦ inr (same (sym e ∙ is)) ]),
)
  where
    same : Some r ≡ Some q → r ≡ q
    same e = cc

pub none_added : (old : List ResourceId) (o : Option ResourceId) → o ≡ None → (r : ResourceId) → Contains old r ↔ (Contains old r ⊎ (o ≡ Some r))
none_added old o is r = (λ h. inl h, λ h. elim h [ inl w ↦ w | inr e ↦ (let wrong : None ≡ Some r = sym is ∙ e in cc) ])

-- ---- what one item binds
abbrev leaf_at : Side → Name → Name → Leaf
leaf_at side n q = record { out = 0; side = side; path = named n ∷ named q ∷ [] }

-- What an instance of an interface with this id binds under a name.
abbrev under : Collection → Side → Name → ResourceId → Interface → Option Name → Option Leaf
under c side n r it o = option_case o None (λ id. if same_name id n then option_case (own_name c it.uses it.exports r) None (λ q. Some (leaf_at side n q)) else None)

module _ (c : Collection) (uses : List (Name × UsedType)) (side : Side) (n : Name) (r : ResourceId) where
  pub binds_other : (k : ItemKind) → ((i : InterfaceId) → k ≡ kind.Instance i → ⊥) → (own_resource c uses (n, k) ≡ Some r) ↔ Binds c uses side (n, k) r
  binds_other (kind.TypeItem t) other = by (record { out = 0; side = side; path = named n ∷ [] }) (lists_own c uses r (n, kind.TypeItem t)) refl
    where
      by : (l : Leaf) (b : Bool) → lists_own c uses r (n, kind.TypeItem t) ≡ b → (own_resource c uses (n, kind.TypeItem t) ≡ Some r) ↔ IsSome (if b then Some l else None)
      by l true e = (λ h. refl, λ h. (lists_true c uses r n (kind.TypeItem t)).0 e)
      by l false e = (λ h. let wrong : true ≡ false = sym ((lists_true c uses r n (kind.TypeItem t)).1 h) ∙ e in cc, λ h. absurd (never h))
  binds_other (kind.Func f) other = (λ h. absurd (nothing r (is_some (find_name uses n)) h), λ h. absurd (never h))
  binds_other (kind.Instance i) other = absurd (other i refl)
  binds_other (kind.Component w) other = (λ h. absurd (nothing r (is_some (find_name uses n)) h), λ h. absurd (never h))
  binds_other (kind.Module m) other = (λ h. absurd (nothing r (is_some (find_name uses n)) h), λ h. absurd (never h))
  binds_other (kind.Value v) other = (λ h. absurd (nothing r (is_some (find_name uses n)) h), λ h. absurd (never h))

  module _ (i : InterfaceId) (it : Interface) (at : item_at c.interfaces i.0 ≡ Some it) where
    whole : bound_by c uses side (n, kind.Instance i) r ≡ under c side n r it it.id
    whole = ap (λ (o : Option Interface). option_case o None (λ x. under c side n r x x.id)) at

    some_case : (o : Option Name) → IsSome o ↔ IsSome (option_case o None (λ q. Some (leaf_at side n q)))
    some_case None = (λ h. h, λ h. h)
    some_case (Some q) = (λ h. refl, λ h. refl)

    pub binds_under_id : IsIdOf c n i → IsSome (own_name c it.uses it.exports r) ↔ Binds c uses side (n, kind.Instance i) r
    binds_under_id h =
        let id : it.id ≡ Some n = sym (ap (λ (o : Option Interface). option_case o None (λ x. x.id)) at) ∙ h in
        let X = option_case (own_name c it.uses it.exports r) None (λ q. Some (leaf_at side n q)) in
        let all : bound_by c uses side (n, kind.Instance i) r ≡ X = whole ∙ ap (under c side n r it) id ∙ ap (λ (b : Bool). if b then X else None) (same_name-refl n) in (
          λ s. subst IsSome (sym all) ((some_case (own_name c it.uses it.exports r)).0 s),
          λ s. (some_case (own_name c it.uses it.exports r)).1 (subst IsSome all s),
        )

    pub binds_under_name : (IsIdOf c n i → ⊥) → Binds c uses side (n, kind.Instance i) r → ⊥
    binds_under_name other s = by it.id refl (subst IsSome whole s)
      where
        inner : (id : Name) (X : Option Leaf) (b : Bool) → it.id ≡ Some id → same_name id n ≡ b → IsSome (if b then X else None) → ⊥
        inner id X true is same h = other (ap (λ (o : Option Interface). option_case o None (λ x. x.id)) at ∙ is ∙ ap Some (same_name-true id n same))
        inner id X false is same h = never h

        by : (o : Option Name) → it.id ≡ o → IsSome (under c side n r it o) → ⊥
        by None is h = never h
        by (Some id) is h = inner id (option_case (own_name c it.uses it.exports r) None (λ q. Some (leaf_at side n q))) (same_name id n) is refl h

-- what an item binds is added
pub bound_instance : (c : Collection) (side : Side) (n : Name) (i : InterfaceId) (it : Interface) (old now : List ResourceId) → item_at c.interfaces i.0 ≡ Some it → IsIdOf c n i
    → ((r : ResourceId) → Contains now r ↔ (Contains old r ⊎ IsSome (own_name c it.uses it.exports r))) → (r : ResourceId) → Contains now r ↔ (Contains old r ⊎ Binds c [] side (n, kind.Instance i) r)
bound_instance c side n i it old now at id added r =
    let law = binds_under_id c [] side n r i it at id in (
      λ h. elim ((added r).0 h) [ inl w ↦ inl w | inr w ↦ inr (law.0 w) ],
      λ h. (added r).1 (elim h [ inl w ↦ inl w | inr w ↦ inr (law.1 w) ]),
    )

pub bound_nothing : (c : Collection) (side : Side) (n : Name) (i : InterfaceId) (it : Interface) (old : List ResourceId) → item_at c.interfaces i.0 ≡ Some it → (IsIdOf c n i → ⊥)
    → (r : ResourceId) → Contains old r ↔ (Contains old r ⊎ Binds c [] side (n, kind.Instance i) r)
bound_nothing c side n i it old at other r = (λ h. inl h, λ h. elim h [ inl w ↦ w | inr w ↦ absurd (binds_under_name c [] side n r i it at other w) ])

pub bound_other : (c : Collection) (uses : List (Name × UsedType)) (side : Side) (n : Name) (k : ItemKind) (o : Option ResourceId) (old now : List ResourceId) → ((i : InterfaceId) → k ≡ kind.Instance i → ⊥) → o ≡ own_resource c uses (n, k)
    → ((r : ResourceId) → Contains now r ↔ (Contains old r ⊎ (o ≡ Some r))) → (r : ResourceId) → Contains now r ↔ (Contains old r ⊎ Binds c uses side (n, k) r)
bound_other c uses side n k o old now other is added r =
    let law = binds_other c uses side n r k other in (
      λ h. elim ((added r).0 h) [ inl w ↦ inl w | inr w ↦ inr (law.0 (sym is ∙ w)) ],
      λ h. (added r).1 (elim h [ inl w ↦ inl w | inr w ↦ inr (is ∙ law.1 w) ]),
    )

-- ---- what several items bind
abbrev pub AreBound : Collection → List (Name × UsedType) → List (Name × ItemKind) → ℕ → List ResourceId → List ResourceId → Type 0
AreBound c uses es n old now = (side : Side) (r : ResourceId) → Contains now r ↔ (Contains old r ⊎ BindsOne c uses side (take n es) r)

pub bound_first : (c : Collection) (uses : List (Name × UsedType)) (es : List (Name × ItemKind)) (old : List ResourceId) → AreBound c uses es 0 old old
bound_first c uses es old side r = (λ h. inl h, λ h. elim h [ inl w ↦ w | inr w ↦ absurd (none_taken es w.0 w.1) ])

pub bound_more : (c : Collection) (uses : List (Name × UsedType)) (es : List (Name × ItemKind)) (n : ℕ) (e : Name × ItemKind) (old before now : List ResourceId) → slice_get es n ≡ Some e → AreBound c uses es n old before
    → ((side : Side) (r : ResourceId) → Contains now r ↔ (Contains before r ⊎ Binds c uses side e r)) → AreBound c uses es (n + 1) old now
bound_more c uses es n e old before now at was step side r = (
  λ h. elim ((step side r).0 h) [
    | inl w ↦ elim ((was side r).0 w) [ inl k ↦ inl k | inr k ↦ inr (k.0, (taken_next es n e k.0 at).1 (inl k.1), k.2) ]
    | inr w ↦ inr (e, (taken_next es n e e at).1 (inr refl), w)
  ],
  λ h. elim h [
    | inl w ↦ (step side r).1 (inl ((was side r).1 (inl w)))
    | inr w ↦ elim ((taken_next es n e w.0 at).0 w.1) [
      | inl k ↦ (step side r).1 (inl ((was side r).1 (inr (w.0, k, w.2))))
      | inr same ↦ (step side r).1 (inr (subst (λ z. Binds c uses side z r) same w.2))
    ]
  ],
)

pub bound_all : (c : Collection) (uses : List (Name × UsedType)) (es : List (Name × ItemKind)) (n : ℕ) (old now : List ResourceId) → length es ≤ n → AreBound c uses es n old now
    → (side : Side) (r : ResourceId) → Contains now r ↔ (Contains old r ⊎ BindsOne c uses side es r)
bound_all c uses es n old now past all side r = subst (λ l. Contains now r ↔ (Contains old r ⊎ BindsOne c uses side l r)) (take_all n es past) (all side r)

-- ---- a side without a binding
pub first_none : {A : Type 0} (a b : Option A) → first_some a b ≡ None → (a ≡ None) × (b ≡ None)
first_none None b h = (refl, h)
first_none (Some a) b h = cc

pub both_none : {A : Type 0} (a b : Option A) → a ≡ None → b ≡ None → first_some a b ≡ None
both_none None b e h = h
both_none (Some a) b e h = cc

some_or_none : {A : Type 0} (o : Option A) → IsSome o → o ≡ None → ⊥
some_or_none None h e = never h
some_or_none (Some a) h e = cc

no_some : {A : Type 0} (o : Option A) → (IsSome o → ⊥) → o ≡ None
no_some None h = refl
no_some (Some a) h = absurd (h refl)

module _ (c : Collection) (uses : List (Name × UsedType)) (side : Side) (r : ResourceId) where
  none_of : (f : Name × ItemKind → Bool) (es : List (Name × ItemKind)) → (bound_in_order c uses side (filter f es) r ≡ None) ↔ ((e : Name × ItemKind) → Contains es e → f e ≡ true → bound_by c uses side e r ≡ None)
  none_of f [] = (λ h e w t. absurd (in_none e w), λ h. refl)
  none_of f (x ∷ es) = by (f x) refl (none_of f es)
    where
      by : (b : Bool) → f x ≡ b → (bound_in_order c uses side (filter f es) r ≡ None) ↔ ((e : Name × ItemKind) → Contains es e → f e ≡ true → bound_by c uses side e r ≡ None)
          → (bound_in_order c uses side (cond b (x ∷ filter f es) (filter f es)) r ≡ None) ↔ ((e : Name × ItemKind) → Contains (x ∷ es) e → f e ≡ true → bound_by c uses side e r ≡ None)
      by true is rest = (
        λ h e w t. let parts = first_none (bound_by c uses side x r) (bound_in_order c uses side (filter f es) r) h in
            elim (in_parts x e es w) [ inl same ↦ subst (λ z. bound_by c uses side z r ≡ None) (sym same) parts.0 | inr k ↦ rest.0 parts.1 e k t ],
        λ h. both_none (bound_by c uses side x r) (bound_in_order c uses side (filter f es) r) (h x (in_first x es) is) (rest.1 (λ e w t. h e (in_rest x e es w) t)),
      )
      by false is rest = (
        λ h e w t. elim (in_parts x e es w) [ inl same ↦ (let wrong : true ≡ false = sym t ∙ ap f same ∙ is in cc) | inr k ↦ rest.0 h e k t ],
        λ h. rest.1 (λ e w t. h e (in_rest x e es w) t),
      )

  pub bound_law : (es : List (Name × ItemKind)) → (first_bound c uses side es r ≡ None) ↔ (BindsOne c uses side es r → ⊥)
  bound_law es = (to, from)
    where
      to : first_bound c uses side es r ≡ None → BindsOne c uses side es r → ⊥
      to h (e, there, s) =
          let parts = first_none (bound_in_order c uses side (filter (λ e. not (lists_type e)) es) r) (bound_in_order c uses side (filter lists_type es) r) h in
          by (lists_type e) refl parts
        where
          by : (b : Bool) → lists_type e ≡ b → (bound_in_order c uses side (filter (λ e. not (lists_type e)) es) r ≡ None) × (bound_in_order c uses side (filter lists_type es) r ≡ None) → ⊥
          by true is parts = some_or_none (bound_by c uses side e r) s ((none_of lists_type es).0 parts.1 e there is)
          by false is parts = some_or_none (bound_by c uses side e r) s ((none_of (λ e. not (lists_type e)) es).0 parts.0 e there (ap not is))

      from : (BindsOne c uses side es r → ⊥) → first_bound c uses side es r ≡ None
      from h = both_none (bound_in_order c uses side (filter (λ e. not (lists_type e)) es) r) (bound_in_order c uses side (filter lists_type es) r)
          ((none_of (λ e. not (lists_type e)) es).1 (λ e w t. none e w)) ((none_of lists_type es).1 (λ e w t. none e w))
        where
          none : (e : Name × ItemKind) → Contains es e → bound_by c uses side e r ≡ None
          none e w = no_some (bound_by c uses side e r) (λ s. h (e, w, s))

-- ---- the items of a world
module _ (c : Collection) (x : World) (start imports : List ResourceId) (begun : start ≡ []) (by_imports : (side : Side) (r : ResourceId) → Contains imports r ↔ (Contains start r ⊎ BindsOne c x.uses side x.imports r)) where
  unbound_imports : (r : ResourceId) → (side_bindings c (world_sides x) imported r ≡ None) ↔ (Contains imports r → ⊥)
  unbound_imports r =
      let same : x.imports ++ [] ≡ x.imports = append-nil x.imports in
      let law = bound_law c x.uses imported r x.imports in (
        λ h b. elim ((by_imports imported r).0 b) [
          | inl w ↦ in_none r (subst (λ l. Contains l r) begun w)
          | inr w ↦ law.0 (subst (λ l. first_bound c x.uses imported l r ≡ None) same h) w
        ],
        λ h. subst (λ l. first_bound c x.uses imported l r ≡ None) (sym same) (law.1 (λ b. h ((by_imports imported r).1 (inr b)))),
      )

  pub from_imports : HasUnboundIn c x.imports imports → HasUnboundItem c (world_sides x)
  from_imports (r, (e, there, f), other) = (record { side = imported; name = e.0 }, r, of_import e.0 e.1 r there f, (unbound_imports r).1 other)

  module _ (exports : List ResourceId) (by_exports : (side : Side) (r : ResourceId) → Contains exports r ↔ (Contains imports r ⊎ BindsOne c x.uses side x.exports r)) where
    unbound_exports : (r : ResourceId) → (side_bindings c (world_sides x) exported r ≡ None) ↔ (Contains exports r → ⊥)
    unbound_exports r =
        let law = bound_law c x.uses exported r x.exports in (
          λ h b. let parts = first_none (side_bindings c (world_sides x) imported r) (first_bound c x.uses exported x.exports r) h in
              elim ((by_exports exported r).0 b) [ inl w ↦ (unbound_imports r).0 parts.0 w | inr w ↦ law.0 parts.1 w ],
          λ h. both_none (side_bindings c (world_sides x) imported r) (first_bound c x.uses exported x.exports r)
              ((unbound_imports r).1 (λ b. h ((by_exports exported r).1 (inl b)))) (law.1 (λ b. h ((by_exports exported r).1 (inr b)))),
        )

    item_unbound : (i : SideItem) (r : ResourceId) → IsFreeInItem c (world_sides x) i r → side_bindings c (world_sides x) i.side r ≡ None → HasUnboundIn c x.imports imports ⊎ HasUnboundIn c x.exports exports
    item_unbound _ r (of_import n k _ there f) h = inl (r, ((n, k), there, f), (unbound_imports r).0 h)
    item_unbound _ r (of_additional n i _ there f) h = absurd (in_none (n, kind.Instance i) there)
    item_unbound _ r (of_export n k _ there f) h = inr (r, ((n, k), there, f), (unbound_exports r).0 h)

    pub by_exports_alone : (HasUnboundIn c x.imports imports → ⊥) → HasUnboundIn c x.exports exports ↔ HasUnboundItem c (world_sides x)
    by_exports_alone other = (
      λ w. let (r, (e, there, f), left) = w in (record { side = exported; name = e.0 }, r, of_export e.0 e.1 r there f, (unbound_exports r).1 left),
      λ w. let (i, r, f, none) = w in elim (item_unbound i r f none) [ inl k ↦ absurd (other k) | inr k ↦ k ],
    )

-- of the same world the same is decided
pub world_same : (c : Collection) (x y : World) (o : Option World) (b : Bool) → o ≡ Some x → o ≡ Some y → (b ≡ true) ↔ HasUnboundItem c (world_sides x) → (b ≡ true) ↔ HasUnboundItem c (world_sides y)
world_same c x y o b first second decided = subst (λ (z : World). (b ≡ true) ↔ HasUnboundItem c (world_sides z)) (one (sym first ∙ second)) decided
  where
    one : Some x ≡ Some y → x ≡ y
    one e = cc

-- ---- what is free in several interfaces
abbrev pub AreCopied : {S : Type 0} → List (InterfaceId × IndexSet ResourceId S) → List InterfaceId → ℕ → List ResourceId → List ResourceId → Type 0
AreCopied entries is n old now = (r : ResourceId) → Contains now r ↔ (Contains old r ⊎ IsInSets entries (take n is) r)

pub copied_first : {S : Type 0} (entries : List (InterfaceId × IndexSet ResourceId S)) (is : List InterfaceId) (old : List ResourceId) → AreCopied entries is 0 old old
copied_first entries is old r = (λ h. inl h, λ h. elim h [ inl w ↦ w | inr w ↦ absurd (none_taken is w.0 w.1) ])

pub copied_more : {S : Type 0} (entries : List (InterfaceId × IndexSet ResourceId S)) (is : List InterfaceId) (n : ℕ) (i : InterfaceId) (old before now : List ResourceId) → slice_get is n ≡ Some i → AreCopied entries is n old before
    → ((r : ResourceId) → Contains now r ↔ (Contains before r ⊎ IsInSet entries i r)) → AreCopied entries is (n + 1) old now
copied_more {S} entries is n i old before now at was step r = (
  λ h. elim ((step r).0 h) [
    | inl w ↦ elim ((was r).0 w) [ inl k ↦ inl k | inr k ↦ inr (k.0, (taken_next is n i k.0 at).1 (inl k.1), k.2) ]
    | inr w ↦ inr (i, (taken_next is n i i at).1 (inr refl), w)
  ],
  λ h. elim h [
    | inl w ↦ (step r).1 (inl ((was r).1 (inl w)))
    | inr w ↦ elim ((taken_next is n i w.0 at).0 w.1) [
      | inl k ↦ (step r).1 (inl ((was r).1 (inr (w.0, k, w.2))))
      | inr same ↦ (step r).1 (inr (subst (λ z. IsInSet entries z r) same w.2))
    ]
  ],
)

pub copied_all : {S : Type 0} (entries : List (InterfaceId × IndexSet ResourceId S)) (is : List InterfaceId) (n : ℕ) (old now : List ResourceId) → length is ≤ n → AreCopied entries is n old now
    → (r : ResourceId) → Contains now r ↔ (Contains old r ⊎ IsInSets entries is r)
copied_all entries is n old now past all r = subst (λ l. Contains now r ↔ (Contains old r ⊎ IsInSets entries l r)) (take_all n is past) (all r)

pub sets_free : {S : Type 0} (c : Collection) (entries : List (InterfaceId × IndexSet ResourceId S)) (is : List InterfaceId) (old now : List ResourceId) → ((i : InterfaceId) → Contains is i → HasSet c entries i)
    → ((r : ResourceId) → Contains now r ↔ (Contains old r ⊎ IsInSets entries is r)) → (r : ResourceId) → Contains now r ↔ (Contains old r ⊎ IsFreeInside c is r)
sets_free {S} c entries is old now has added r = (
  λ h. elim ((added r).0 h) [ inl w ↦ inl w | inr w ↦ inr (to w) ],
  λ h. (added r).1 (elim h [ inl w ↦ inl w | inr w ↦ inr (from w) ]),
)
  where
    to : IsInSets entries is r → IsFreeInside c is r
    to (j, h, (s, at, w)) =
        let (t, there, keys) = has j h in
        (j, h, (keys r).0 (subst (λ (z : IndexSet ResourceId S). Contains z.keys r) (one_set s t (sym at ∙ there)) w))

    from : IsFreeInside c is r → IsInSets entries is r
    from (j, h, f) = let (t, there, keys) = has j h in (j, h, (t, there, (keys r).1 f))

-- ---- what is free in items
pub items_free : (c : Collection) (es : List (Name × ItemKind)) (is : List InterfaceId) (old mid now : List ResourceId) → ((j : InterfaceId) → Contains is j ↔ Contains (interfaces_of es) j)
    → ((r : ResourceId) → Contains mid r ↔ (Contains old r ⊎ IsFreeInOne c (others_of es) r)) → ((r : ResourceId) → Contains now r ↔ (Contains mid r ⊎ IsFreeInside c is r)) → (r : ResourceId) → Contains now r ↔ (Contains old r ⊎ IsFreeInItems c es r)
items_free c es is old mid now same others inside r = (to, from)
  where
    to : Contains now r → Contains old r ⊎ IsFreeInItems c es r
    to h = elim ((inside r).0 h) [
      | inl w ↦ elim ((others r).0 w) [
        | inl k ↦ inl k
        | inr k ↦ let (e, there, here) = other_listed es k.0 k.1 in inr (e, there, subst (λ t. IsFree c t r) (in_other k.0 (kind_type e.1) here) k.2)
      ]
      | inr w ↦ let (e, there, is) = interface_items es w.0 ((same w.0).0 w.1) in inr (e, there, subst (λ t. IsFree c t r) (sym is) w.2)
    ]

    from : Contains old r ⊎ IsFreeInItems c es r → Contains now r
    from (inl w) = (inside r).1 (inl ((others r).1 (inl w)))
    from (inr (e, there, f)) = elim (free_export c es r e.0 e.1 there f) [
      | inl w ↦ (inside r).1 (inr (w.0, (same w.0).1 w.1, w.2))
      | inr w ↦ (inside r).1 (inl ((others r).1 (inr w)))
    ]

-- ---- what is free in a type
pub one_interface_free : (c : Collection) (t : AnyType) (i : InterfaceId) (is : List InterfaceId) (old now : List ResourceId) → t ≡ ty.Interface i → is ≡ i ∷ [] → ((r : ResourceId) → Contains now r ↔ (Contains old r ⊎ IsFreeInside c is r))
    → (r : ResourceId) → Contains now r ↔ (Contains old r ⊎ IsFree c t r)
one_interface_free c t i is old now type one added r = (
  λ h. elim ((added r).0 h) [
    | inl w ↦ inl w
    | inr w ↦ let same = in_one i w.0 (subst (λ l. Contains l w.0) one w.1) in inr (subst (λ z. IsFree c z r) (sym type) (subst (λ (z : InterfaceId). IsFree c (ty.Interface z) r) same w.2))
  ],
  λ h. (added r).1 (elim h [ inl w ↦ inl w | inr w ↦ inr (i, subst (λ l. Contains l i) (sym one) (in_first i []), subst (λ z. IsFree c z r) type w) ]),
)

-- ---- missing bindings
pub missing_items : (c : Collection) (es : List (Name × ItemKind)) (bound start free : List ResourceId) → start ≡ [] → ((r : ResourceId) → Contains free r ↔ (Contains start r ⊎ IsFreeInItems c es r))
    → HasMissing bound free ↔ HasUnboundIn c es bound
missing_items c es bound start free begun added = (
  λ h. (h.0, elim ((added h.0).0 h.1) [ inl w ↦ absurd (in_none h.0 (subst (λ l. Contains l h.0) begun w)) | inr w ↦ w ], h.2),
  λ h. (h.0, (added h.0).1 (inr h.1), h.2),
)

pub missing_root : (c : Collection) (t : AnyType) (bound start free : List ResourceId) (root : Bindings) → start ≡ [] → ((r : ResourceId) → Contains free r ↔ (Contains start r ⊎ IsFree c t r)) → ((r : ResourceId) → Contains bound r ↔ IsSome (root r))
    → HasMissing bound free ↔ IsUnbound c root t
missing_root c t bound start free root begun added rooted = (
  λ h. (h.0, elim ((added h.0).0 h.1) [ inl w ↦ absurd (in_none h.0 (subst (λ l. Contains l h.0) begun w)) | inr w ↦ w ], no_some (root h.0) (λ s. h.2 ((rooted h.0).1 s))),
  λ h. (h.0, (added h.0).1 (inr h.1), λ b. some_or_none (root h.0) ((rooted h.0).0 b) h.2),
)

pub one_there : (c : Collection) (t : AnyType) (i : InterfaceId) (is : List InterfaceId) → t ≡ ty.Interface i → is ≡ i ∷ [] → holds_type c t ≡ true → AreThere c is
one_there c t i is type one held j h =
    within j.0 (length c.interfaces) (subst (λ (z : InterfaceId). holds_type c (ty.Interface z) ≡ true) (sym (in_one i j (subst (λ l. Contains l j) one h))) (subst (λ z. holds_type c z ≡ true) type held))

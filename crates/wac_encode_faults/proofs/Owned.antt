-- The own resources of an interface, export by export.
use Rattle.std.proofs.Common.{ℕ, ◌+◌, ◌≤◌, ◌==◌, Bool, true, false, not, ◌&&◌, if◌then◌else◌, is_some, is_none, List, [], ◌∷◌, ◌++◌, length, take, Contains, Option, Some, None, ◌≡◌, ◌↔◌, refl, ap, sym, ◌∙◌, subst, slice_get}
use Rattle.std.proofs.lemmas.List.{take_all}
use Rattle.wac_types_shapes.specs.primitives.Name.{Name, find_name}
use Rattle.wac_types_shapes.specs.declared.shapes.component.ResourceId.{ResourceId}
use Rattle.wac_types_shapes.specs.declared.shapes.component.UsedType.{UsedType}
use Rattle.wac_types_shapes.specs.declared.shapes.component.ItemKind.{ItemKind}
use Rattle.wac_types_shapes.specs.declared.shapes.component.ItemKind.TheVariants as kind
use Rattle.wac_types_shapes.specs.declared.shapes.component.«Type».TheVariants as ty
use Rattle.wac_types_collection.specs.collection.Collection.{Collection}
use Rattle.wac_types_collection.specs.collection.Bound.{is_alias, lists_own, own_name}
use Rattle.wac_encode_faults.specs.private.Sets.{own_resource}
use Rattle.wac_encode_faults.proofs.FreeParts.{same_id, resource_itself}
use Rattle.wac_encode_faults.proofs.Taken.{taken_more}

-- ---- one item
pub nothing : (r : ResourceId) (b : Bool) → (if b then None else None) ≡ Some r → ⊥
nothing r true h = cc
nothing r false h = cc

own_law : (c : Collection) (uses : List (Name × UsedType)) (r q : ResourceId) (n : Name)
    → (lists_own c uses r (n, kind.TypeItem (ty.Resource q)) ≡ false) ↔ (own_resource c uses (n, kind.TypeItem (ty.Resource q)) ≡ Some r → ⊥)
own_law c uses r q n = by (q.0 == r.0) refl (is_alias c q) (find_name uses n)
  where
    differ : (q.0 == r.0) ≡ false → Some q ≡ Some r → ⊥
    differ e h =
        let same : q ≡ r = cc in
        let wrong : true ≡ false = sym (subst (λ (z : ResourceId). (q.0 == z.0) ≡ true) same (resource_itself q)) ∙ e in
        cc

    by : (s : Bool) → (q.0 == r.0) ≡ s → (a : Bool) (o : Option UsedType) → ((s && (not a && is_none o)) ≡ false) ↔ ((if is_some o then None else (if a then None else Some q)) ≡ Some r → ⊥)
    by true e true None = (λ h x. cc, λ h. refl)
    by true e true (Some u) = (λ h x. cc, λ h. refl)
    by true e false None = (λ h x. let wrong : true ≡ false = h in cc, λ h. absurd (h (ap Some (same_id q r e))))
    by true e false (Some u) = (λ h x. cc, λ h. refl)
    by false e true None = (λ h x. cc, λ h. refl)
    by false e true (Some u) = (λ h x. cc, λ h. refl)
    by false e false None = (λ h x. differ e x, λ h. refl)
    by false e false (Some u) = (λ h x. cc, λ h. refl)

pub lists_law : (c : Collection) (uses : List (Name × UsedType)) (r : ResourceId) (n : Name) (k : ItemKind) → (lists_own c uses r (n, k) ≡ false) ↔ (own_resource c uses (n, k) ≡ Some r → ⊥)
lists_law c uses r n (kind.TypeItem (ty.Resource q)) = own_law c uses r q n
lists_law c uses r n (kind.TypeItem (ty.Func f)) = (λ h x. nothing r (is_some (find_name uses n)) x, λ h. refl)
lists_law c uses r n (kind.TypeItem (ty.Value v)) = (λ h x. nothing r (is_some (find_name uses n)) x, λ h. refl)
lists_law c uses r n (kind.TypeItem (ty.Interface i)) = (λ h x. nothing r (is_some (find_name uses n)) x, λ h. refl)
lists_law c uses r n (kind.TypeItem (ty.World w)) = (λ h x. nothing r (is_some (find_name uses n)) x, λ h. refl)
lists_law c uses r n (kind.TypeItem (ty.Module m)) = (λ h x. nothing r (is_some (find_name uses n)) x, λ h. refl)
lists_law c uses r n (kind.Func f) = (λ h x. nothing r (is_some (find_name uses n)) x, λ h. refl)
lists_law c uses r n (kind.Instance i) = (λ h x. nothing r (is_some (find_name uses n)) x, λ h. refl)
lists_law c uses r n (kind.Component w) = (λ h x. nothing r (is_some (find_name uses n)) x, λ h. refl)
lists_law c uses r n (kind.Module m) = (λ h x. nothing r (is_some (find_name uses n)) x, λ h. refl)
lists_law c uses r n (kind.Value v) = (λ h x. nothing r (is_some (find_name uses n)) x, λ h. refl)

-- ---- the first items
own_joined : (c : Collection) (uses : List (Name × UsedType)) (r : ResourceId) (xs : List (Name × ItemKind)) (e : Name × ItemKind)
    → (own_name c uses (xs ++ e ∷ []) r ≡ None) ↔ ((own_name c uses xs r ≡ None) × (lists_own c uses r e ≡ false))
own_joined c uses r [] e = by e.0 (lists_own c uses r e)
  where
    by : (n : Name) (b : Bool) → ((if b then Some n else None) ≡ None) ↔ ((own_name c uses [] r ≡ None) × (b ≡ false))
    by n true = (λ h. cc, λ h. let wrong : true ≡ false = h.1 in cc)
    by n false = (λ h. (refl, refl), λ h. refl)
own_joined c uses r (x ∷ xs) e = step x.0 (own_name c uses (xs ++ e ∷ []) r) (own_name c uses xs r) (own_joined c uses r xs e) (lists_own c uses r x)
  where
    step : (n : Name) (whole part : Option Name) → (whole ≡ None) ↔ ((part ≡ None) × (lists_own c uses r e ≡ false)) → (b : Bool)
        → ((if b then Some n else whole) ≡ None) ↔ (((if b then Some n else part) ≡ None) × (lists_own c uses r e ≡ false))
    step n whole part both true = (λ h. cc, λ h. let wrong : Some n ≡ None = h.0 in cc)
    step n whole part both false = both

own_next : (c : Collection) (uses : List (Name × UsedType)) (es : List (Name × ItemKind)) (n : ℕ) (e : Name × ItemKind) (r : ResourceId) → slice_get es n ≡ Some e
    → (own_name c uses (take (n + 1) es) r ≡ None) ↔ ((own_name c uses (take n es) r ≡ None) × (own_resource c uses e ≡ Some r → ⊥))
own_next c uses es n e r at =
    let whole = taken_more es n e at in
    let joined = own_joined c uses r (take n es) e in
    let law = lists_law c uses r e.0 e.1 in (
      λ h. let w = joined.0 (subst (λ l. own_name c uses l r ≡ None) whole h) in (w.0, law.0 w.1),
      λ h. subst (λ l. own_name c uses l r ≡ None) (sym whole) (joined.1 (h.0, law.1 h.1)),
    )

-- ---- without the own resources
-- Of the resources, those are left that the first items do not own.
abbrev pub AreWithoutOwn : Collection → List (Name × UsedType) → List (Name × ItemKind) → ℕ → List ResourceId → List ResourceId → Type 0
AreWithoutOwn c uses es n old now = (r : ResourceId) → Contains now r ↔ (Contains old r × (own_name c uses (take n es) r ≡ None))

pub own_first : (c : Collection) (uses : List (Name × UsedType)) (es : List (Name × ItemKind)) (old : List ResourceId) → AreWithoutOwn c uses es 0 old old
own_first c uses es old r = (λ h. (h, none es), λ h. h.0)
  where
    none : (es : List (Name × ItemKind)) → own_name c uses (take 0 es) r ≡ None
    none [] = refl
    none (e ∷ es) = refl

pub own_more : (c : Collection) (uses : List (Name × UsedType)) (es : List (Name × ItemKind)) (n : ℕ) (e : Name × ItemKind) (o : Option ResourceId) (old before now : List ResourceId) → slice_get es n ≡ Some e → o ≡ own_resource c uses e
    → AreWithoutOwn c uses es n old before → ((r : ResourceId) → Contains now r ↔ (Contains before r × (o ≡ Some r → ⊥))) → AreWithoutOwn c uses es (n + 1) old now
own_more c uses es n e o old before now at is was step r =
    let next = own_next c uses es n e r at in (
      λ h. let w = (step r).0 h in let b = (was r).0 w.0 in (b.0, next.1 (b.1, λ x. w.1 (is ∙ x))),
      λ h. let w = next.0 h.1 in (step r).1 ((was r).1 (h.0, w.0), λ x. w.1 (sym is ∙ x)),
    )

pub own_all : (c : Collection) (uses : List (Name × UsedType)) (es : List (Name × ItemKind)) (n : ℕ) (old now : List ResourceId) → length es ≤ n → AreWithoutOwn c uses es n old now
    → (r : ResourceId) → Contains now r ↔ (Contains old r × (own_name c uses es r ≡ None))
own_all c uses es n old now past all r = subst (λ l. Contains now r ↔ (Contains old r × (own_name c uses l r ≡ None))) (take_all n es past) (all r)

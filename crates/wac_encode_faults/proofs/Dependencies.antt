-- Which interfaces are listed under their ids, and which worlds use others.
use Rattle.std.proofs.Common.{ℕ, zero, suc, ◌+◌, ◌<◌, ◌≤◌, Bool, true, false, ◌||◌, if◌then◌else◌, List, [], ◌∷◌, ◌++◌, length, drop, Contains, Option, Some, None, ◌≡◌, ◌⊎◌, ◌↔◌, inl, inr, refl, ap, sym, ◌∙◌, subst, arith, slice_get}
use Rattle.std.specs.List.{list_any}
use Rattle.std.specs.Option.{option_map}
use Rattle.wac_types_shapes.specs.primitives.Name.{Name, same_name, option_case}
use Rattle.wac_types_shapes.specs.shapes.Kinds.{kind_type}
use Rattle.wac_types_shapes.proofs.lemmas.shapes.Names.{same_name-true, same_name-from}
use Rattle.wac_types_shapes.specs.declared.shapes.component.Interface.{Interface}
use Rattle.wac_types_shapes.specs.declared.shapes.component.InterfaceId.{InterfaceId}
use Rattle.wac_types_shapes.specs.declared.shapes.component.ItemKind.{ItemKind}
use Rattle.wac_types_shapes.specs.declared.shapes.component.ItemKind.TheVariants as kind
use Rattle.wac_types_shapes.specs.declared.shapes.component.World.{World}
use Rattle.wac_types_shapes.specs.declared.shapes.component.WorldId.{WorldId}
use Rattle.wac_types_shapes.specs.declared.shapes.component.«Type».TheVariants as ty
use Rattle.wac_types_collection.specs.collection.Collection.{Collection, IsWellFormed, holds_type, item_at, kind_types, used_types, world_imports, world_exports, world_mentions}
use Rattle.wac_types_collection.specs.reach.Reach.{IsIn, mentions}
use Rattle.wac_types_collection.proofs.lemmas.collection.Steady.{within}
use Rattle.wac_types_collection.proofs.lemmas.reach.Lists.{in_left as is_in_left, in_right as is_in_right}
use Rattle.wac_types_collection.proofs.lemmas.reach.Reaching.{mentioned_held}
use Rattle.wac_types_collection.specs.wide.Wide.{world_uses, instances_of, wide_uses, wide_uses_of_items, UsesWidely, with_each, each_once}
use Rattle.wac_encode_faults.specs.Sides.{under_id, listed_interface, listed_interfaces}
use Rattle.wac_encode_faults.specs.Faults.{HasUnlisted, by_world, by_import, by_export}
use Rattle.wac_types_collection.specs.wide.Wide.{AreThere}
use Rattle.wac_encode_faults.specs.private.Search.{AreHeld, IsIdOf, UsesOther, HasOther}
use Rattle.wac_types_collection.proofs.lemmas.wide.Members.{in_none, in_parts, in_left, in_right, in_either, in_at, in_flat, flat_in, flat_joined}
use Rattle.wac_types_collection.proofs.lemmas.wide.Wide.{instance_listed, listed_instance, wide_law}
use Rattle.wac_types_collection.proofs.lemmas.wide.Once.{each_old, each_new, each_only, each_joined}

-- ---- all before a position
abbrev pub AllBefore : {A : Type 0} → (A → Type 0) → List A → ℕ → Type 0
AllBefore P xs n = (p : ℕ) (x : _) → p < n → slice_get xs p ≡ Some x → P x

split : (i next : ℕ) → i < next + 1 → (i < next) ⊎ (i ≡ next)
split zero zero l = inr refl
split zero (suc n) l = inl (omega arith)
split (suc i) zero l = absurd (omega (arith, l))
split (suc i) (suc n) l = elim (split i n (omega (arith, l))) [ inl k ↦ inl (omega (arith, k)) | inr e ↦ inr (ap suc e) ]

module _ {A : Type 0} (P : A → Type 0) (xs : List A) where
  pub all_none : AllBefore P xs 0
  all_none p x l at = absurd (omega (arith, l))

  pub all_next : (n : ℕ) (x : A) → slice_get xs n ≡ Some x → P x → AllBefore P xs n → AllBefore P xs (n + 1)
  all_next n x at here before p y l there = elim (split p n l) [ inl k ↦ before p y k there | inr e ↦ subst P (same (sym at ∙ ap (slice_get xs) (sym e) ∙ there)) here ]
    where
      same : Some x ≡ Some y → x ≡ y
      same e = cc

  pub all_before : (n : ℕ) (x : A) → length xs ≤ n → AllBefore P xs n → Contains xs x → P x
  all_before n x past before h = let (p, l, at) = in_at xs x h in before p x (omega (arith, l, past)) at

-- a value at a position stands there under a name
pub second_at : {A B : Type 0} (xs : List (A × B)) (i : ℕ) (v : B) → option_map (λ e. e.1) (slice_get xs i) ≡ Some v → (a : A) × (slice_get xs i ≡ Some (a, v))
second_at [] i v h = cc
second_at (e ∷ xs) zero v h = (e.0, ap (λ z. Some (e.0, z)) (inner h)) where
  inner : Some e.1 ≡ Some v → e.1 ≡ v
  inner h = cc
second_at (e ∷ xs) (suc i) v h = second_at xs i v h

drop_at : {A : Type 0} (xs : List A) (i : ℕ) (x : A) → slice_get xs i ≡ Some x → drop i xs ≡ x ∷ drop (i + 1) xs
drop_at [] i x h = cc
drop_at (y ∷ xs) zero x h = ap (λ z. z ∷ xs) (inner h) where
  inner : Some y ≡ Some x → y ≡ x
  inner h = cc
drop_at (y ∷ xs) (suc i) x h =
    let same : suc (i + 1) ≡ suc i + 1 = omega arith in
    drop_at xs i x h ∙ ap (λ n. x ∷ drop n (y ∷ xs)) same

-- ---- interfaces under their ids
or_false : (b : Bool) → (b || false) ≡ true → b ≡ true
or_false true e = refl
or_false false e = e

module _ (c : Collection) (name : Name) (i : InterfaceId) where
  of_id : (d : Option Name) → (d ≡ Some name) ↔ (list_any (λ (e : Name × ItemKind). same_name name e.0) (option_case d [] (λ id. (id, kind.Instance i) ∷ [])) ≡ true)
  of_id None = (λ e. cc, λ e. cc)
  of_id (Some id) = (
    λ e. ap (λ b. b || false) (same_name-from name id (sym (inner e))),
    λ e. ap Some (sym (same_name-true name id (or_false (same_name name id) e))),
  )
    where
      inner : Some id ≡ Some name → id ≡ name
      inner e = cc

  of_interface : (o : Option Interface) → (option_case o None (λ it. it.id) ≡ Some name)
      ↔ (list_any (λ (e : Name × ItemKind). same_name name e.0) (option_case o [] (λ it. option_case it.id [] (λ id. (id, kind.Instance i) ∷ []))) ≡ true)
  of_interface None = (λ e. cc, λ e. cc)
  of_interface (Some it) = of_id it.id

  pub id_law : IsIdOf c name i ↔ (list_any (λ (e : Name × ItemKind). same_name name e.0) (under_id c i) ≡ true)
  id_law = of_interface (item_at c.interfaces i.0)

  pub listed_by_id : IsIdOf c name i → listed_interface c (name, kind.Instance i) ≡ i ∷ []
  listed_by_id h = ap (λ b. if b then i ∷ [] else []) (id_law.0 h)

  pub not_by_id : (IsIdOf c name i → ⊥) → listed_interface c (name, kind.Instance i) ≡ []
  not_by_id other = by (list_any (λ (e : Name × ItemKind). same_name name e.0) (under_id c i)) refl
    where
      by : (b : Bool) → list_any (λ (e : Name × ItemKind). same_name name e.0) (under_id c i) ≡ b → (if b then i ∷ [] else []) ≡ []
      by true e = absurd (other (id_law.1 e))
      by false e = refl

pub not_instance : (c : Collection) (name : Name) (k : ItemKind) → ((i : InterfaceId) → k ≡ kind.Instance i → ⊥) → listed_interface c (name, k) ≡ []
not_instance c name (kind.Instance i) other = absurd (other i refl)
not_instance c name (kind.TypeItem t) other = refl
not_instance c name (kind.Func f) other = refl
not_instance c name (kind.Component w) other = refl
not_instance c name (kind.Module m) other = refl
not_instance c name (kind.Value v) other = refl

pub added_none : (c : Collection) (found : List InterfaceId) (name : Name) (k : ItemKind) → listed_interface c (name, k) ≡ [] → found ≡ with_each found (listed_interface c (name, k))
added_none c found name k e = sym (ap (with_each found) e)

pub added_one : (c : Collection) (found now : List InterfaceId) (name : Name) (k : ItemKind) (i : InterfaceId) → k ≡ kind.Instance i → IsIdOf c name i → now ≡ with_each found (i ∷ [])
    → now ≡ with_each found (listed_interface c (name, k))
added_one c found now name k i is id grown =
    grown ∙ ap (with_each found) (sym (listed_by_id c name i id)) ∙ ap (λ (z : ItemKind). with_each found (listed_interface c (name, z))) (sym is)

pub not_under : (c : Collection) (name : Name) (k : ItemKind) (i : InterfaceId) → k ≡ kind.Instance i → (IsIdOf c name i → ⊥) → listed_interface c (name, k) ≡ []
not_under c name k i is other = ap (λ (z : ItemKind). listed_interface c (name, z)) is ∙ not_by_id c name i other

pub listed_next : (c : Collection) (es : List (Name × ItemKind)) (n : ℕ) (e : Name × ItemKind) (before now start : List InterfaceId) → slice_get es n ≡ Some e → now ≡ with_each before (listed_interface c e)
    → with_each before (listed_interfaces c (drop n es)) ≡ with_each start (listed_interfaces c es) → with_each now (listed_interfaces c (drop (n + 1) es)) ≡ with_each start (listed_interfaces c es)
listed_next c es n e before now start at is was =
    let rest = listed_interfaces c (drop (n + 1) es) in
    ap (λ l. with_each l rest) is ∙ sym (each_joined before (listed_interface c e) rest) ∙ ap (λ xs. with_each before (listed_interfaces c xs)) (sym (drop_at es n e at)) ∙ was

-- ---- what is of the collection
pub in_kinds : (es : List (Name × ItemKind)) (e : Name × ItemKind) → Contains es e → IsIn (kind_type e.1) (kind_types es)
in_kinds [] e h = absurd (in_none e h)
in_kinds (x ∷ es) e h = elim (in_parts x e es h) [ inl same ↦ inl (ap (λ (z : Name × ItemKind). kind_type z.1) same) | inr w ↦ inr (in_kinds es e w) ]

pub instances_there : (c : Collection) (es : List (Name × ItemKind)) → AreHeld c es → AreThere c (instances_of es)
instances_there c es held i h = let (n, there) = instance_listed es i h in within i.0 (length c.interfaces) (held (n, kind.Instance i) there)

-- ---- other interfaces
pub other_once : (listed is now : List InterfaceId) → now ≡ each_once is → HasOther listed now ↔ HasOther listed is
other_once listed is now e = (to, from)
  where
    to : HasOther listed now → HasOther listed is
    to (i, h, other) = (i, elim (each_only [] is i (subst (λ l. Contains l i) e h)) [ inl n ↦ absurd (in_none i n) | inr w ↦ w ], other)

    from : HasOther listed is → HasOther listed now
    from (i, h, other) = (i, subst (λ l. Contains l i) (sym e) (each_new [] is i h), other)

module _ (c : Collection) (wf : IsWellFormed c) where
  wide_item : (es : List (Name × ItemKind)) (k : InterfaceId) → Contains (wide_uses_of_items c es) k → (n : Name) × (i : InterfaceId) × Contains es (n, kind.Instance i) × UsesWidely c i k
  wide_item es k h =
      let (i, there, is) = flat_in (wide_uses c) (instances_of es) k h in
      let (n, listed) = instance_listed es i there in
      (n, i, listed, (wide_law c wf i k).1 is)

  item_wide : (es : List (Name × ItemKind)) (n : Name) (i k : InterfaceId) → Contains es (n, kind.Instance i) → UsesWidely c i k → Contains (wide_uses_of_items c es) k
  item_wide es n i k listed is = in_flat (wide_uses c) (instances_of es) i k (listed_instance es n i listed) ((wide_law c wf i k).0 is)

  module _ (id : WorldId) (held : holds_type c (ty.World id) ≡ true) (x : World) (at : item_at c.worlds id.0 ≡ Some x) where
    world_is : mentions c (ty.World id) ≡ world_mentions x
    world_is = ap (λ (o : Option World). option_case o [] world_mentions) at

    imports_is : world_imports c id ≡ x.imports
    imports_is = ap (λ (o : Option World). option_case o [] (λ y. y.imports)) at

    exports_is : world_exports c id ≡ x.exports
    exports_is = ap (λ (o : Option World). option_case o [] (λ y. y.exports)) at

    uses_is : world_uses c id ≡ x.uses
    uses_is = ap (λ (o : Option World). option_case o [] (λ y. y.uses)) at

    pub imports_held : AreHeld c x.imports
    imports_held e h = mentioned_held c wf (ty.World id) (kind_type e.1) held
        (subst (IsIn (kind_type e.1)) (sym world_is) (is_in_right (kind_type e.1) (used_types x.uses) (kind_types x.imports ++ kind_types x.exports) (is_in_left (kind_type e.1) (kind_types x.imports) (kind_types x.exports) (in_kinds x.imports e h))))

    pub exports_held : AreHeld c x.exports
    exports_held e h = mentioned_held c wf (ty.World id) (kind_type e.1) held
        (subst (IsIn (kind_type e.1)) (sym world_is) (is_in_right (kind_type e.1) (used_types x.uses) (kind_types x.imports ++ kind_types x.exports) (is_in_right (kind_type e.1) (kind_types x.imports) (kind_types x.exports) (in_kinds x.exports e h))))

    module _ (start first : List InterfaceId) (none : start ≡ []) (first_is : first ≡ with_each start (listed_interfaces c x.imports)) where
      first_in : (k : InterfaceId) → Contains first k → Contains (listed_interfaces c (world_imports c id)) k
      first_in k h = subst (λ es. Contains (listed_interfaces c es) k) (sym imports_is)
          (elim (each_only [] (listed_interfaces c x.imports) k (subst (λ l. Contains l k) (first_is ∙ ap (λ l. with_each l (listed_interfaces c x.imports)) none) h)) [ inl n ↦ absurd (in_none k n) | inr w ↦ w ])

      in_first_list : (k : InterfaceId) → Contains (listed_interfaces c (world_imports c id)) k → Contains first k
      in_first_list k h = subst (λ l. Contains l k) (sym first_is) (each_new start (listed_interfaces c x.imports) k (subst (λ es. Contains (listed_interfaces c es) k) imports_is h))

      pub from_uses : UsesOther first x.uses → HasUnlisted c id
      from_uses (n, u, there, other) = by_world n u (subst (λ us. Contains us (n, u)) (sym uses_is) there) (λ h. other (in_first_list u.interface h))

      pub from_imports : HasOther first (wide_uses_of_items c x.imports) → HasUnlisted c id
      from_imports (k, there, other) =
          let (n, i, listed, uses) = wide_item x.imports k there in
          by_import n i k (subst (λ es. Contains es (n, kind.Instance i)) (sym imports_is) listed) uses (λ h. other (in_first_list k h))

      module _ (both : List InterfaceId) (both_is : both ≡ with_each first (listed_interfaces c x.exports)) where
        all_is : listed_interfaces c (world_imports c id ++ world_exports c id) ≡ listed_interfaces c (world_imports c id) ++ listed_interfaces c (world_exports c id)
        all_is = flat_joined (listed_interface c) (world_imports c id) (world_exports c id)

        both_in : (k : InterfaceId) → Contains both k → Contains (listed_interfaces c (world_imports c id ++ world_exports c id)) k
        both_in k h = subst (λ l. Contains l k) (sym all_is) (elim (each_only first (listed_interfaces c x.exports) k (subst (λ l. Contains l k) both_is h)) [
          | inl w ↦ in_left (listed_interfaces c (world_imports c id)) (listed_interfaces c (world_exports c id)) k (first_in k w)
          | inr w ↦ in_right (listed_interfaces c (world_imports c id)) (listed_interfaces c (world_exports c id)) k (subst (λ es. Contains (listed_interfaces c es) k) (sym exports_is) w)
        ])

        in_both : (k : InterfaceId) → Contains (listed_interfaces c (world_imports c id ++ world_exports c id)) k → Contains both k
        in_both k h = subst (λ l. Contains l k) (sym both_is) (elim (in_either (listed_interfaces c (world_imports c id)) (listed_interfaces c (world_exports c id)) k (subst (λ l. Contains l k) all_is h)) [
          | inl w ↦ each_old first (listed_interfaces c x.exports) k (in_first_list k w)
          | inr w ↦ each_new first (listed_interfaces c x.exports) k (subst (λ es. Contains (listed_interfaces c es) k) exports_is w)
        ])

        from_exports : HasOther both (wide_uses_of_items c x.exports) → HasUnlisted c id
        from_exports (k, there, other) =
            let (n, i, listed, uses) = wide_item x.exports k there in
            by_export n i k (subst (λ es. Contains es (n, kind.Instance i)) (sym exports_is) listed) uses (λ h. other (in_both k h))

        pub by_exports_alone : (UsesOther first x.uses → ⊥) → (HasOther first (wide_uses_of_items c x.imports) → ⊥) → HasOther both (wide_uses_of_items c x.exports) ↔ HasUnlisted c id
        by_exports_alone not_uses not_imports = (from_exports, to)
          where
            to : HasUnlisted c id → HasOther both (wide_uses_of_items c x.exports)
            to (by_world n u there other) = absurd (not_uses (n, u, subst (λ us. Contains us (n, u)) uses_is there, λ h. other (first_in u.interface h)))
            to (by_import n i k there uses other) = absurd (not_imports (k, item_wide x.imports n i k (subst (λ es. Contains es (n, kind.Instance i)) imports_is there) uses, λ h. other (first_in k h)))
            to (by_export n i k there uses other) = (k, item_wide x.exports n i k (subst (λ es. Contains es (n, kind.Instance i)) exports_is there) uses, λ h. other (both_in k h))

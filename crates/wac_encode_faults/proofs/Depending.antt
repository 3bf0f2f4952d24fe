-- Steps between numbers are the dependencies of the items with these numbers.
use Rattle.std.proofs.Common.{ℕ, ◌+◌, ◌<◌, ◌≤◌, List, [], take, drop, length, Contains, Some, ◌≡◌, ◌⊎◌, ◌↔◌, inl, inr, refl, ap, sym, ◌∙◌, subst, arith, slice_get}
use Rattle.std.specs.BTreeSet.{BTreeSet}
use Rattle.wac_edges.specs.cycles.Cycles.{IsStep}
use Rattle.wac_types_shapes.specs.primitives.Name.{Name}
use Rattle.wac_types_shapes.specs.shapes.Named.{NoNameTwice}
use Rattle.wac_types_shapes.specs.shapes.Kinds.{kind_type}
use Rattle.wac_types_shapes.specs.declared.shapes.component.InterfaceId.{InterfaceId}
use Rattle.wac_types_shapes.specs.declared.shapes.component.ItemKind.{ItemKind}
use Rattle.wac_types_shapes.specs.declared.shapes.component.ItemKind.TheVariants as kind
use Rattle.wac_types_shapes.specs.declared.shapes.component.ResourceId.{ResourceId}
use Rattle.wac_types_shapes.specs.declared.shapes.component.UsedType.{UsedType}
use Rattle.wac_types_collection.specs.collection.Collection.{Collection}
use Rattle.wac_types_collection.specs.wide.Wide.{interface_uses}
use Rattle.wac_types_collection.proofs.lemmas.wide.Members.{at_in, in_at, in_map, map_in}
use Rattle.wac_encode_faults.specs.Cycle.{ItemUses, by_import, by_additional, by_export, Supplies, IsBindingOf, ItemDependsOn, by_use, by_resource, numbered_items, DependsByNumber}
use Rattle.wac_encode_faults.specs.Free.{SideItem, IsFree, IsFreeInItem, of_import, of_additional, of_export}
use Rattle.wac_encode_faults.specs.Sides.{Sides, side_bindings, parted_sides}
use Rattle.wac_encode_faults.specs.private.Owners.{AddsSideOwners, AddsSuppliers, AddsImportSteps, AddsItemSteps, KindUses, AdditionalUses, IsFreeInAddition, IsTarget}
use Rattle.wac_encode_faults.proofs.Numbered.{one_value, in_taken, in_dropped, dropped_after, within_list, less_or_not, one_place, import_item, export_item, sides_differ, numbers, import_at, export_at, numbered_at, one_number, all_numbered}
use Rattle.wac_encode_faults.proofs.Supplying.{AreSupplied, AreBoundAt, imports_bound, exports_bound, imports_supplied, exports_supplied}
use Rattle.wac_encode_faults.proofs.Taken.{taken_before}

-- ---- what holds of an item by where it is
module _ (own : ℕ) (imports exports : List (Name × ItemKind)) (P Q : ItemKind → Type 0) where
  -- P holds of an import or an export, or Q of an additional import.
  abbrev Holds : SideItem → Type 0
  Holds x =
      ((e : Name × ItemKind) × (x ≡ import_item e) × Contains (take own imports) e × P e.1)
      ⊎ (((e : Name × ItemKind) × (x ≡ import_item e) × Contains (drop own imports) e × Q e.1)
      ⊎ ((e : Name × ItemKind) × (x ≡ export_item e) × Contains exports e × P e.1))

  module _ (imports_once : NoNameTwice imports) (a : ℕ) (e : Name × ItemKind) (at : slice_get imports a ≡ Some e) where
    same_place : (k : ℕ) (d : Name × ItemKind) → slice_get imports k ≡ Some d → import_item e ≡ import_item d → k ≡ a
    same_place k d there is = one_place imports imports_once k a d e there at (sym (ap (λ (z : SideItem). z.name) is))

    same_entry : (k : ℕ) (d : Name × ItemKind) → slice_get imports k ≡ Some d → import_item e ≡ import_item d → d ≡ e
    same_entry k d there is = one_value (slice_get imports a) d e (subst (λ (n : ℕ). slice_get imports n ≡ Some d) (same_place k d there is) there) at

    no_export : (d : Name × ItemKind) → import_item e ≡ export_item d → ⊥
    no_export d is = sides_differ (ap (λ (z : SideItem). z.side) is)

    holds_import : a < own → P e.1 ↔ Holds (import_item e)
    holds_import low = (λ p. inl (e, refl, in_taken imports own a e at low, p), from)
      where
        from : Holds (import_item e) → P e.1
        from (inl (d, is, there, p)) = let (k, less, here) = taken_before imports own d there in subst (λ (z : Name × ItemKind). P z.1) (same_entry k d here is) p
        from (inr (inl (d, is, there, q))) = let (k, high, here) = dropped_after imports own d there in let same = same_place k d here is in absurd (omega (arith, low, high, same))
        from (inr (inr (d, is, there, p))) = absurd (no_export d is)

    holds_additional : own ≤ a → Q e.1 ↔ Holds (import_item e)
    holds_additional high = (λ q. inr (inl (e, refl, in_dropped imports own a e at high, q)), from)
      where
        from : Holds (import_item e) → Q e.1
        from (inl (d, is, there, p)) = let (k, less, here) = taken_before imports own d there in let same = same_place k d here is in absurd (omega (arith, high, less, same))
        from (inr (inl (d, is, there, q))) = let (k, more, here) = dropped_after imports own d there in subst (λ (z : Name × ItemKind). Q z.1) (same_entry k d here is) q
        from (inr (inr (d, is, there, p))) = absurd (no_export d is)

  holds_export : NoNameTwice exports → (a : ℕ) (e : Name × ItemKind) → slice_get exports a ≡ Some e → P e.1 ↔ Holds (export_item e)
  holds_export once a e at = (λ p. inr (inr (e, refl, at_in exports a e at, p)), from)
    where
      from : Holds (export_item e) → P e.1
      from (inl (d, is, there, p)) = absurd (sides_differ (sym (ap (λ (z : SideItem). z.side) is)))
      from (inr (inl (d, is, there, q))) = absurd (sides_differ (sym (ap (λ (z : SideItem). z.side) is)))
      from (inr (inr (d, is, there, p))) =
          let (k, low, here) = in_at exports d there in
          let same = one_place exports once k a d e here at (sym (ap (λ (z : SideItem). z.name) is)) in
          subst (λ (z : Name × ItemKind). P z.1) (one_value (slice_get exports a) d e (subst (λ (n : ℕ). slice_get exports n ≡ Some d) same here) at) p

module _ (c : Collection) (uses : List (Name × UsedType)) (own : ℕ) (imports exports : List (Name × ItemKind)) where
  abbrev s : Sides
  s = parted_sides uses own imports exports

  abbrev all : List SideItem
  all = numbers imports exports

  uses_parts : (x : SideItem) (j : InterfaceId) → ItemUses c s x j → Holds own imports exports (λ k. KindUses c k j) (λ k. AdditionalUses c k j) x
  uses_parts _ _ (by_import n i j there w) = inl ((n, kind.Instance i), refl, there, (i, refl, w))
  uses_parts _ _ (by_additional n m i u there w) = inr (inl ((n, kind.Instance i), refl, there, (i, refl, in_map (λ (v : Name × UsedType). v.1.interface) (interface_uses c i) (m, u) w)))
  uses_parts _ _ (by_export n i j there w) = inr (inr ((n, kind.Instance i), refl, there, (i, refl, w)))

  parts_use : (x : SideItem) (j : InterfaceId) → Holds own imports exports (λ k. KindUses c k j) (λ k. AdditionalUses c k j) x → ItemUses c s x j
  parts_use x j (inl (e, is, there, (i, of_kind, w))) =
      subst (λ z. ItemUses c s z j) (sym is) (by_import e.0 i j (subst (λ (k : ItemKind). Contains (take own imports) (e.0, k)) of_kind there) w)
  parts_use x j (inr (inl (e, is, there, (i, of_kind, w)))) =
      let (u, used, same) = map_in (λ (v : Name × UsedType). v.1.interface) (interface_uses c i) j w in
      subst (λ z. ItemUses c s z j) (sym is)
      (subst (λ (z : InterfaceId). ItemUses c s (import_item e) z) (sym same) (by_additional e.0 u.0 i u.1 (subst (λ (k : ItemKind). Contains (drop own imports) (e.0, k)) of_kind there) used))
  parts_use x j (inr (inr (e, is, there, (i, of_kind, w)))) =
      subst (λ z. ItemUses c s z j) (sym is) (by_export e.0 i j (subst (λ (k : ItemKind). Contains exports (e.0, k)) of_kind there) w)

  free_parts : (x : SideItem) (r : ResourceId) → IsFreeInItem c s x r → Holds own imports exports (λ k. IsFree c (kind_type k) r) (λ k. IsFreeInAddition c k r) x
  free_parts _ _ (of_import n k r there f) = inl ((n, k), refl, there, f)
  free_parts _ _ (of_additional n i r there f) = inr (inl ((n, kind.Instance i), refl, there, (i, refl, f)))
  free_parts _ _ (of_export n k r there f) = inr (inr ((n, k), refl, there, f))

  parts_free : (x : SideItem) (r : ResourceId) → Holds own imports exports (λ k. IsFree c (kind_type k) r) (λ k. IsFreeInAddition c k r) x → IsFreeInItem c s x r
  parts_free x r (inl (e, is, there, f)) = subst (λ z. IsFreeInItem c s z r) (sym is) (of_import e.0 e.1 r there f)
  parts_free x r (inr (inl (e, is, there, (i, of_kind, f)))) =
      subst (λ z. IsFreeInItem c s z r) (sym is) (of_additional e.0 i r (subst (λ (k : ItemKind). Contains (drop own imports) (e.0, k)) of_kind there) f)
  parts_free x r (inr (inr (e, is, there, f))) = subst (λ z. IsFreeInItem c s z r) (sym is) (of_export e.0 e.1 r there f)

  -- ---- the steps from one item
  -- The items on which the first depends.
  abbrev DependsAt : SideItem → ℕ → Type 0
  DependsAt x b = (y : SideItem) × (slice_get all b ≡ Some y) × ItemDependsOn c s x y

  -- The predicates are what an item uses and what is free in it.
  abbrev AreNeeds : SideItem → (InterfaceId → Type 0) → (ResourceId → Type 0) → Type 0
  AreNeeds x Uses Free = ((j : InterfaceId) → Uses j ↔ ItemUses c s x j) × ((r : ResourceId) → Free r ↔ IsFreeInItem c s x r)

  module _ (imports_once : NoNameTwice imports) (exports_once : NoNameTwice exports) (a : ℕ) (x : SideItem) (at : slice_get all a ≡ Some x) (suppliers : List (InterfaceId × ℕ)) (owners : List (ResourceId × ℕ))
      (supplied : AreSupplied c uses own imports exports x.side suppliers) (bound : AreBoundAt c uses own imports exports x.side owners) (Uses : InterfaceId → Type 0) (Free : ResourceId → Type 0) (needs : AreNeeds x Uses Free) where
    apart : (b : ℕ) (y : SideItem) → slice_get all b ≡ Some y → (b ≡ a → ⊥) → x ≡ y → ⊥
    apart b y there other same = other (one_number imports exports imports_once exports_once b a x (there ∙ ap Some (sym same)) at)

    other_number : (b : ℕ) (y : SideItem) → slice_get all b ≡ Some y → (x ≡ y → ⊥) → b ≡ a → ⊥
    other_number b y there other same = other (one_value (slice_get all b) x y (subst (λ (n : ℕ). slice_get all n ≡ Some x) (sym same) at) there)

    target_depends : (b : ℕ) → (b ≡ a → ⊥) → IsTarget Uses Free suppliers owners b → DependsAt x b
    target_depends b other (inl (j, u, is)) = let (y, there, supplies) = (supplied j b).0 is in (y, there, by_use x y j (apart b y there other) ((needs.0 j).0 u) supplies)
    target_depends b other (inr (r, f, is)) = let (y, l, there, binding, inside) = (bound r b).0 is in (y, there, by_resource x y r l (apart b y there other) ((needs.1 r).0 f) binding inside)

    depends_target : (b : ℕ) → DependsAt x b → (b ≡ a → ⊥) × IsTarget Uses Free suppliers owners b
    depends_target b (y, there, depends) = by x y depends refl refl
      where
        by : (u v : SideItem) → ItemDependsOn c s u v → u ≡ x → v ≡ y → (b ≡ a → ⊥) × IsTarget Uses Free suppliers owners b
        by _ _ (by_use u v j other used supplies) first second = (
          other_number b y there (λ e. other (first ∙ e ∙ sym second)),
          inl (j, (needs.0 j).1 (subst (λ z. ItemUses c s z j) first used), (supplied j b).1 (y, there, subst (λ z. Supplies c s x.side z j) second (subst (λ (z : SideItem). Supplies c s z.side v j) first supplies))),
        )
        by _ _ (by_resource u v r l other free binding inside) first second = (
          other_number b y there (λ e. other (first ∙ e ∙ sym second)),
          inr (
            r,
            (needs.1 r).1 (subst (λ z. IsFreeInItem c s z r) first free),
            (bound r b).1 (y, l, there, subst (λ (z : SideItem). side_bindings c s z.side r ≡ Some l) first binding, subst (λ z. IsBindingOf z l) second inside),
          ),
        )

  -- ---- all steps
  module _ (imports_once : NoNameTwice imports) (exports_once : NoNameTwice exports) where
    abbrev H : (P Q : ItemKind → Type 0) → SideItem → Type 0
    H P Q = Holds own imports exports P Q

    needs_import : (a : ℕ) (e : Name × ItemKind) → slice_get imports a ≡ Some e → a < own → AreNeeds (import_item e) (KindUses c e.1) (IsFree c (kind_type e.1))
    needs_import a e at low = (
      λ j. let law = holds_import own imports exports (λ k. KindUses c k j) (λ k. AdditionalUses c k j) imports_once a e at low in (λ u. parts_use (import_item e) j (law.0 u), λ u. law.1 (uses_parts (import_item e) j u)),
      λ r. let law = holds_import own imports exports (λ k. IsFree c (kind_type k) r) (λ k. IsFreeInAddition c k r) imports_once a e at low in (λ f. parts_free (import_item e) r (law.0 f), λ f. law.1 (free_parts (import_item e) r f)),
    )

    needs_additional : (a : ℕ) (e : Name × ItemKind) → slice_get imports a ≡ Some e → own ≤ a → AreNeeds (import_item e) (AdditionalUses c e.1) (IsFreeInAddition c e.1)
    needs_additional a e at high = (
      λ j. let law = holds_additional own imports exports (λ k. KindUses c k j) (λ k. AdditionalUses c k j) imports_once a e at high in (λ u. parts_use (import_item e) j (law.0 u), λ u. law.1 (uses_parts (import_item e) j u)),
      λ r. let law = holds_additional own imports exports (λ k. IsFree c (kind_type k) r) (λ k. IsFreeInAddition c k r) imports_once a e at high in (λ f. parts_free (import_item e) r (law.0 f), λ f. law.1 (free_parts (import_item e) r f)),
    )

    needs_export : (a : ℕ) (e : Name × ItemKind) → slice_get exports a ≡ Some e → AreNeeds (export_item e) (KindUses c e.1) (IsFree c (kind_type e.1))
    needs_export a e at = (
      λ j. let law = holds_export own imports exports (λ k. KindUses c k j) (λ k. AdditionalUses c k j) exports_once a e at in (λ u. parts_use (export_item e) j (law.0 u), λ u. law.1 (uses_parts (export_item e) j u)),
      λ r. let law = holds_export own imports exports (λ k. IsFree c (kind_type k) r) (λ k. IsFreeInAddition c k r) exports_once a e at in (λ f. parts_free (export_item e) r (law.0 f), λ f. law.1 (free_parts (export_item e) r f)),
    )

    module _ (no_owners : List (ResourceId × ℕ)) (no_suppliers : List (InterfaceId × ℕ)) (unowned : no_owners ≡ []) (unsupplied : no_suppliers ≡ []) (owners : List (ResourceId × ℕ)) (suppliers : List (InterfaceId × ℕ))
        (imports_own : AddsSideOwners c uses 0 imports no_owners owners) (imports_supply : AddsSuppliers c 0 imports no_suppliers suppliers) (old mid : List (BTreeSet ℕ)) (empty : (a b : ℕ) → IsStep old a b → ⊥)
        (import_steps : AddsImportSteps c own imports suppliers owners old mid) where
      abbrev Target : (InterfaceId → Type 0) → (ResourceId → Type 0) → ℕ → Type 0
      Target Uses Free = IsTarget Uses Free suppliers owners

      import_targets : (a : ℕ) (e : Name × ItemKind) (at : slice_get imports a ≡ Some e) (Uses : InterfaceId → Type 0) (Free : ResourceId → Type 0) → AreNeeds (import_item e) Uses Free → (b : ℕ)
          → ((b ≡ a → ⊥) × Target Uses Free b) ↔ DependsAt (import_item e) b
      import_targets a e at Uses Free needs b =
          let supplied = imports_supplied c uses own imports exports imports_once exports_once no_suppliers suppliers unsupplied imports_supply in
          let bound = imports_bound c uses own imports exports imports_once exports_once no_owners owners unowned imports_own in
          let there = import_at imports exports a e at in (
            λ h. target_depends imports_once exports_once a (import_item e) there suppliers owners supplied bound Uses Free needs b h.0 h.1,
            λ h. depends_target imports_once exports_once a (import_item e) there suppliers owners supplied bound Uses Free needs b h,
          )

      import_step : (a b : ℕ) → IsStep mid a b → (x : SideItem) × (slice_get all a ≡ Some x) × DependsAt x b
      import_step a b h = by ((import_steps a b).0 h)
        where
          by : IsStep old a b ⊎ ((e : Name × ItemKind) × (slice_get imports a ≡ Some e) × (b ≡ a → ⊥)
              × (((a < own) × Target (KindUses c e.1) (IsFree c (kind_type e.1)) b) ⊎ ((own ≤ a) × Target (AdditionalUses c e.1) (IsFreeInAddition c e.1) b)))
              → (x : SideItem) × (slice_get all a ≡ Some x) × DependsAt x b
          by (inl w) = absurd (empty a b w)
          by (inr (e, at, other, inl (low, target))) =
              (import_item e, import_at imports exports a e at, (import_targets a e at (KindUses c e.1) (IsFree c (kind_type e.1)) (needs_import a e at low) b).0 (other, target))
          by (inr (e, at, other, inr (high, target))) =
              (import_item e, import_at imports exports a e at, (import_targets a e at (AdditionalUses c e.1) (IsFreeInAddition c e.1) (needs_additional a e at high) b).0 (other, target))

      step_import : (a b : ℕ) (e : Name × ItemKind) → slice_get imports a ≡ Some e → DependsAt (import_item e) b → IsStep mid a b
      step_import a b e at h = elim (less_or_not a own) [
        | inl low ↦ let (other, target) = (import_targets a e at (KindUses c e.1) (IsFree c (kind_type e.1)) (needs_import a e at low) b).1 h in (import_steps a b).1 (inr (e, at, other, inl (low, target)))
        | inr high ↦ let (other, target) = (import_targets a e at (AdditionalUses c e.1) (IsFreeInAddition c e.1) (needs_additional a e at high) b).1 h in (import_steps a b).1 (inr (e, at, other, inr (high, target)))
      ]

      module _ (all_owners : List (ResourceId × ℕ)) (all_suppliers : List (InterfaceId × ℕ)) (exports_own : AddsSideOwners c uses (length imports) exports owners all_owners)
          (exports_supply : AddsSuppliers c (length imports) exports suppliers all_suppliers) (now : List (BTreeSet ℕ))
          (export_steps : AddsItemSteps (KindUses c) (λ k. IsFree c (kind_type k)) (length imports) exports all_suppliers all_owners mid now) where
        export_targets : (i : ℕ) (e : Name × ItemKind) → slice_get exports i ≡ Some e → (b : ℕ)
            → ((b ≡ length imports + i → ⊥) × IsTarget (KindUses c e.1) (IsFree c (kind_type e.1)) all_suppliers all_owners b) ↔ DependsAt (export_item e) b
        export_targets i e at b =
            let supplied = exports_supplied c uses own imports exports imports_once exports_once no_suppliers suppliers unsupplied imports_supply all_suppliers exports_supply in
            let bound = exports_bound c uses own imports exports imports_once exports_once no_owners owners all_owners unowned imports_own exports_own in
            let there = export_at imports exports i e at in
            let needs = needs_export i e at in (
              λ h. target_depends imports_once exports_once (length imports + i) (export_item e) there all_suppliers all_owners supplied bound (KindUses c e.1) (IsFree c (kind_type e.1)) needs b h.0 h.1,
              λ h. depends_target imports_once exports_once (length imports + i) (export_item e) there all_suppliers all_owners supplied bound (KindUses c e.1) (IsFree c (kind_type e.1)) needs b h,
            )

        export_step : (a b : ℕ) → IsStep now a b → (x : SideItem) × (slice_get all a ≡ Some x) × DependsAt x b
        export_step a b h = by ((export_steps a b).0 h)
          where
            by : IsStep mid a b ⊎ ((i : ℕ) × (e : Name × ItemKind) × (slice_get exports i ≡ Some e) × (a ≡ length imports + i) × (b ≡ a → ⊥) × IsTarget (KindUses c e.1) (IsFree c (kind_type e.1)) all_suppliers all_owners b)
                → (x : SideItem) × (slice_get all a ≡ Some x) × DependsAt x b
            by (inl w) = import_step a b w
            by (inr (i, e, at, is, other, target)) = (
              export_item e,
              subst (λ (n : ℕ). slice_get all n ≡ Some (export_item e)) (sym is) (export_at imports exports i e at),
              (export_targets i e at b).0 (λ same. other (same ∙ sym is), target),
            )

        step_depends : (a b : ℕ) → (x : SideItem) × (slice_get all a ≡ Some x) × DependsAt x b → IsStep now a b
        step_depends a b (x, at, h) = by (numbered_at imports exports a x at)
          where
            by : ((e : Name × ItemKind) × (slice_get imports a ≡ Some e) × (x ≡ import_item e)) ⊎ ((i : ℕ) × (e : Name × ItemKind) × (a ≡ length imports + i) × (slice_get exports i ≡ Some e) × (x ≡ export_item e)) → IsStep now a b
            by (inl (e, here, is)) = (export_steps a b).1 (inl (step_import a b e here (subst (λ z. DependsAt z b) is h)))
            by (inr (i, e, place, here, is)) =
                let (other, target) = (export_targets i e here b).1 (subst (λ z. DependsAt z b) is h) in
                (export_steps a b).1 (inr (i, e, here, place, λ same. other (same ∙ place), target))

        pub steps_depend : (a b : ℕ) → IsStep now a b ↔ DependsByNumber c s a b
        steps_depend a b = (
          λ h. let (x, at, on) = export_step a b h in (x, on.0, numbered a x at, numbered b on.0 on.1, on.2),
          λ h. let (x, y, at, there, depends) = h in step_depends a b (x, plain a x at, (y, plain b y there, depends)),
        )
          where
            numbered : (n : ℕ) (x : SideItem) → slice_get all n ≡ Some x → slice_get (numbered_items s) n ≡ Some x
            numbered n x h = subst (λ l. slice_get l n ≡ Some x) (sym (all_numbered imports exports uses own)) h

            plain : (n : ℕ) (x : SideItem) → slice_get (numbered_items s) n ≡ Some x → slice_get all n ≡ Some x
            plain n x h = subst (λ l. slice_get l n ≡ Some x) (all_numbered imports exports uses own) h

-- ---- steps lead to items
-- Steps lead only to items.
pub depends_within : (c : Collection) (uses : List (Name × UsedType)) (own : ℕ) (imports exports : List (Name × ItemKind)) (a b : ℕ) → DependsByNumber c (parted_sides uses own imports exports) a b → b < length imports + length exports
depends_within c uses own imports exports a b (x, y, at, there, depends) =
    let here : slice_get (numbers imports exports) b ≡ Some y = subst (λ l. slice_get l b ≡ Some y) (all_numbered imports exports uses own) there in
    elim (numbered_at imports exports b y here) [
      | inl w ↦ low (within_list imports b w.0 w.1)
      | inr w ↦ high w.0 w.2 (within_list exports w.0 w.1 w.3)
    ]
  where
    low : b < length imports → b < length imports + length exports
    low l = omega (arith, l)

    high : (i : ℕ) → b ≡ length imports + i → i < length exports → b < length imports + length exports
    high i is l = omega (arith, is, l)

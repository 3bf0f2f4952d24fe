-- A path of steps between numbers is a chain of dependencies between the items with these numbers.
use Rattle.std.proofs.Common.{ℕ, ◌+◌, ◌<◌, Bool, true, false, not, cond, is_some, IsTrue, MatchOption, List, [], ◌∷◌, filter, length, Contains, Option, Some, None, ◌≡◌, ◌⊎◌, ◌↔◌, inl, inr, refl, ap, sym, ◌∙◌, subst, arith, slice_get}
use Rattle.std.specs.BTreeSet.{BTreeSet}
use Rattle.wac_edges.specs.cycles.Cycles.{Path, step, further, IsStep, LeadsBack, HasNoCycle, HasLowestOnCycle}
use Rattle.wac_types_shapes.specs.primitives.Name.{Name, first_some}
use Rattle.wac_types_shapes.specs.primitives.Tree.{Side, imported, exported, Leaf}
use Rattle.wac_types_shapes.specs.declared.shapes.component.InterfaceId.{InterfaceId}
use Rattle.wac_types_shapes.specs.declared.shapes.component.ItemKind.{ItemKind}
use Rattle.wac_types_shapes.specs.declared.shapes.component.ItemKind.TheVariants as kind
use Rattle.wac_types_shapes.specs.declared.shapes.component.ResourceId.{ResourceId}
use Rattle.wac_types_shapes.specs.declared.shapes.component.UsedType.{UsedType}
use Rattle.wac_types_collection.specs.collection.Collection.{Collection}
use Rattle.wac_types_collection.specs.collection.Bound.{lists_type, bound_by, bound_in_order, first_bound}
use Rattle.wac_types_collection.proofs.lemmas.wide.Members.{in_first, in_rest, in_parts, in_at}
use Rattle.wac_encode_faults.specs.Cycle.{Supplies, as_import, as_export, IsBindingOf, ItemDependsOn, by_use, by_resource, LeadsToItem, one, more, HasItemCycle, numbered_items, DependsByNumber}
use Rattle.wac_encode_faults.specs.Free.{SideItem}
use Rattle.wac_encode_faults.specs.Sides.{Sides, all_imports, side_bindings, import_bindings}
use Rattle.wac_encode_faults.proofs.Numbered.{one_value, within_list, import_item, export_item, sides_differ, import_at, export_at, numbered_at}
use Rattle.wac_encode_faults.proofs.Owning.{bound_at}
use Rattle.wac_encode_faults.proofs.Supplying.{one_binding}

-- ---- the item of a binding
some_of_both : {A : Type 0} (a b : Option A) (x : A) → first_some a b ≡ Some x → (a ≡ Some x) ⊎ (b ≡ Some x)
some_of_both None b x h = inr h
some_of_both (Some a) b x h = inl h

filter_in : (f : Name × ItemKind → Bool) (es : List (Name × ItemKind)) (e : Name × ItemKind) → Contains (filter f es) e → Contains es e
filter_in f [] e h = h
filter_in f (x ∷ es) e h = by (f x) (filter_in f es e) h
  where
    by : (b : Bool) → (Contains (filter f es) e → Contains es e) → Contains (cond b (x ∷ filter f es) (filter f es)) e → Contains (x ∷ es) e
    by true rest h = elim (in_parts x e (filter f es) h) [ inl same ↦ subst (Contains (x ∷ es)) (sym same) (in_first x es) | inr w ↦ in_rest x e es (rest w) ]
    by false rest h = in_rest x e es (rest h)

module _ (c : Collection) (uses : List (Name × UsedType)) (side : Side) (r : ResourceId) (l : Leaf) where
  -- The binding is that of one of the items.
  abbrev IsOfOne : List (Name × ItemKind) → Type 0
  IsOfOne items = (e : Name × ItemKind) × Contains items e × IsBindingOf (record { side = side; name = e.0 }) l

  bound_one : (items : List (Name × ItemKind)) → bound_in_order c uses side items r ≡ Some l → IsOfOne items
  bound_one [] h = cc
  bound_one (e ∷ items) h = elim (some_of_both (bound_by c uses side e r) (bound_in_order c uses side items r) l h) [
    | inl w ↦ (e, in_first e items, bound_at c uses side e.0 e.1 r l w)
    | inr w ↦ let (d, there, binding) = bound_one items w in (d, in_rest e d items there, binding)
  ]

  first_one : (items : List (Name × ItemKind)) → first_bound c uses side items r ≡ Some l → IsOfOne items
  first_one items h = elim (some_of_both (bound_in_order c uses side (filter (λ e. not (lists_type e)) items) r) (bound_in_order c uses side (filter lists_type items) r) l h) [
    | inl w ↦ let (e, there, binding) = bound_one (filter (λ e. not (lists_type e)) items) w in (e, filter_in (λ e. not (lists_type e)) items e there, binding)
    | inr w ↦ let (e, there, binding) = bound_one (filter lists_type items) w in (e, filter_in lists_type items e there, binding)
  ]

-- ---- an item on which another depends has a number
module _ (c : Collection) (s : Sides) where
  -- The item has a number.
  abbrev IsNumbered : SideItem → Type 0
  IsNumbered y = (b : ℕ) × (slice_get (numbered_items s) b ≡ Some y)

  import_numbered : (e : Name × ItemKind) → Contains (all_imports s) e → IsNumbered (import_item e)
  import_numbered e there = let (b, low, at) = in_at (all_imports s) e there in (b, import_at (all_imports s) s.exports b e at)

  export_numbered : (e : Name × ItemKind) → Contains s.exports e → IsNumbered (export_item e)
  export_numbered e there = let (i, low, at) = in_at s.exports e there in (length (all_imports s) + i, export_at (all_imports s) s.exports i e at)

  supplier_numbered : (side : Side) (y : SideItem) (j : InterfaceId) → Supplies c s side y j → IsNumbered y
  supplier_numbered _ _ _ (as_import side n i listed) = import_numbered (n, kind.Instance i) listed.0
  supplier_numbered _ _ _ (as_export n i listed other) = export_numbered (n, kind.Instance i) listed.0

  import_owner : (y : SideItem) (r : ResourceId) (l : Leaf) → import_bindings c s r ≡ Some l → IsBindingOf y l → IsNumbered y
  import_owner y r l h inside =
      let (e, there, binding) = first_one c s.uses imported r l (all_imports s) h in
      let (b, at) = import_numbered e there in
      (b, at ∙ ap Some (one_binding (import_item e) y l binding inside))

  owner_numbered : (side : Side) (y : SideItem) (r : ResourceId) (l : Leaf) → side_bindings c s side r ≡ Some l → IsBindingOf y l → IsNumbered y
  owner_numbered imported y r l h inside = import_owner y r l h inside
  owner_numbered exported y r l h inside = elim (some_of_both (import_bindings c s r) (first_bound c s.uses exported s.exports r) l h) [
    | inl w ↦ import_owner y r l w inside
    | inr w ↦
        let (e, there, binding) = first_one c s.uses exported r l s.exports w in
        let (b, at) = export_numbered e there in
        (b, at ∙ ap Some (one_binding (export_item e) y l binding inside))
  ]

  target_numbered : (x y : SideItem) → ItemDependsOn c s x y → IsNumbered y
  target_numbered _ _ (by_use x y j other used supplies) = supplier_numbered x.side y j supplies
  target_numbered _ _ (by_resource x y r l other free binding inside) = owner_numbered x.side y r l binding inside

  last_numbered : (x y : SideItem) → LeadsToItem c s x y → IsNumbered y
  last_numbered _ _ (one x y depends) = target_numbered x y depends
  last_numbered _ _ (more x y z depends rest) = last_numbered y z rest

  -- ---- cycles
  module _ (targets : List (BTreeSet ℕ)) (steps : (a b : ℕ) → IsStep targets a b ↔ DependsByNumber c s a b) where
    path_leads : (a b : ℕ) → Path (IsStep targets) a b → (x y : SideItem) × (slice_get (numbered_items s) a ≡ Some x) × (slice_get (numbered_items s) b ≡ Some y) × LeadsToItem c s x y
    path_leads _ _ (step a b h) = let (x, y, at, there, depends) = (steps a b).0 h in (x, y, at, there, one x y depends)
    path_leads _ _ (further a b d h rest) =
        let (x, y, at, there, depends) = (steps a b).0 h in
        let (u, z, here, end, leads) = path_leads b d rest in
        (x, z, at, end, more x y z depends (subst (λ v. LeadsToItem c s v z) (one_value (slice_get (numbered_items s) b) u y here there) leads))

    pub cycle_found : (n : ℕ) → LeadsBack targets n → HasItemCycle c s
    cycle_found n path =
        let (x, y, at, there, leads) = path_leads n n path in
        (x, subst (λ z. LeadsToItem c s x z) (one_value (slice_get (numbered_items s) n) y x there at) leads)

    leads_path : (x y : SideItem) → LeadsToItem c s x y → (a b : ℕ) → slice_get (numbered_items s) a ≡ Some x → slice_get (numbered_items s) b ≡ Some y → Path (IsStep targets) a b
    leads_path _ _ (one x y depends) a b at there = step a b ((steps a b).1 (x, y, at, there, depends))
    leads_path _ _ (more x y z depends rest) a b at there =
        let (m, here) = target_numbered x y depends in
        further a m b ((steps a m).1 (x, y, at, here, depends)) (leads_path y z rest m b here there)

    pub cycle_back : HasItemCycle c s → (n : ℕ) × LeadsBack targets n
    cycle_back (x, leads) = let (n, at) = last_numbered x x leads in (n, leads_path x x leads n n at at)

    pub cycle_decided : (view : List (BTreeSet ℕ)) → view ≡ targets → (o : Option ℕ) (b : Bool) → b ≡ is_some o → MatchOption o (HasNoCycle view) (λ n. HasLowestOnCycle view n) → IsTrue b ↔ HasItemCycle c s
    cycle_decided view same None b is found = (λ t. never (sym is ∙ t), λ h. let (n, back) = cycle_back h in absurd (found n (subst (λ l. LeadsBack l n) (sym same) back)))
      where
        never : false ≡ true → HasItemCycle c s
        never e = cc
    cycle_decided view same (Some n) b is found = (λ t. cycle_found n (subst (λ l. LeadsBack l n) same found.on), λ h. is)

  -- ---- imports depend on imports alone
  supplier_side : (side : Side) (y : SideItem) (j : InterfaceId) → Supplies c s side y j → side ≡ imported → y.side ≡ imported
  supplier_side _ _ _ (as_import side n i listed) same = refl
  supplier_side _ _ _ (as_export n i listed other) same = absurd (sides_differ (sym same))

  target_side : (x y : SideItem) → ItemDependsOn c s x y → x.side ≡ imported → y.side ≡ imported
  target_side _ _ (by_use x y j other used supplies) same = supplier_side x.side y j supplies same
  target_side _ _ (by_resource x y r l other free binding inside) same =
      let (e, there, is) = first_one c s.uses imported r l (all_imports s) (subst (λ a. side_bindings c s a r ≡ Some l) same binding) in
      sym inside.0 ∙ is.0

  pub imports_alone : (a b : ℕ) → DependsByNumber c s a b → a < length (all_imports s) → b < length (all_imports s)
  imports_alone a b (x, y, at, there, depends) low = elim (numbered_at (all_imports s) s.exports b y there) [
    | inl w ↦ within_list (all_imports s) b w.0 w.1
    | inr w ↦ absurd (sides_differ (sym (target_side x y depends (first_side (numbered_at (all_imports s) s.exports a x at))) ∙ ap (λ (z : SideItem). z.side) w.4))
  ]
    where
      first_side : ((e : Name × ItemKind) × (slice_get (all_imports s) a ≡ Some e) × (x ≡ import_item e)) ⊎ ((i : ℕ) × (e : Name × ItemKind) × (a ≡ length (all_imports s) + i) × (slice_get s.exports i ≡ Some e) × (x ≡ export_item e)) → x.side ≡ imported
      first_side (inl (e, here, is)) = ap (λ (z : SideItem). z.side) is
      first_side (inr (i, e, far, here, is)) = absurd (omega (arith, low, far))

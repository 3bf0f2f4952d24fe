-- The types of a collection have no other faults in one that begins with it.
use Rattle.std.proofs.Common.{◌≡◌, ◌==◌, ◌&&◌, Bool, true, false, cond, not, is_some, is_none, if◌then◌else◌, List, [], ◌∷◌, ◌++◌, filter, length, Contains, Option, Some, None, refl, sym, ap, ◌∙◌, subst, inl, inr}
use Rattle.std.specs.List.{list_any}
use Rattle.wac_types_shapes.specs.primitives.Name.{Name, find_name, first_some, option_case, same_name}
use Rattle.wac_types_shapes.specs.primitives.Tree.{Leaf, Side, imported, exported, named}
use Rattle.wac_types_shapes.specs.shapes.Kinds.{kind_type}
use Rattle.wac_types_shapes.specs.declared.shapes.component.Interface.{Interface}
use Rattle.wac_types_shapes.specs.declared.shapes.component.InterfaceId.{InterfaceId}
use Rattle.wac_types_shapes.specs.declared.shapes.component.ItemKind.{ItemKind}
use Rattle.wac_types_shapes.specs.declared.shapes.component.ItemKind.TheVariants as kind
use Rattle.wac_types_shapes.specs.declared.shapes.component.ResourceId.{ResourceId}
use Rattle.wac_types_shapes.specs.declared.shapes.component.UsedType.{UsedType}
use Rattle.wac_types_shapes.specs.declared.shapes.component.ValueType.TheVariants as val
use Rattle.wac_types_shapes.specs.declared.shapes.component.World.{World}
use Rattle.wac_types_shapes.specs.declared.shapes.component.WorldId.{WorldId}
use Rattle.wac_types_shapes.specs.declared.shapes.component.«Type».{«Type» as AnyType}
use Rattle.wac_types_shapes.specs.declared.shapes.component.«Type».TheVariants as ty
use Rattle.wac_types_collection.specs.collection.Collection.{Collection, IsKeptBy, IsWellFormed, defined_mentions, func_mentions, holds_type, interface_mentions, item_at, item_of, kind_types, used_types, world_exports, world_imports, world_mentions}
use Rattle.wac_types_collection.specs.collection.Held.{source_of}
use Rattle.wac_types_collection.specs.collection.Bound.{bound_by, bound_in_order, first_bound, lists_own, lists_type, own_name}
use Rattle.wac_types_collection.specs.reach.Reach.{IsIn}
use Rattle.wac_types_collection.specs.wide.Wide.{UsesWidely, by_itself, by_instance, interface_uses, world_uses}
use Rattle.wac_types_collection.proofs.lemmas.collection.Steady.{resource_same}
use Rattle.wac_types_collection.proofs.lemmas.reach.Lists.{in_left, in_right}
use Rattle.wac_types_collection.proofs.lemmas.reach.Reaching.{mentioned_held}
use Rattle.wac_types_collection.proofs.lemmas.wide.Members.{flat_same, in_either, in_first, in_none, in_parts, in_rest}
use Rattle.wac_encode_faults.specs.declared.fault.WriteFault.{WriteFault}
use Rattle.wac_encode_faults.specs.Cycle.{HasItemCycle, IsListedAs, ItemDependsOn, ItemUses, LeadsToItem, Supplies}
use Rattle.wac_encode_faults.specs.Cycle as cycle
use Rattle.wac_encode_faults.specs.Faults.{HasUnlisted, IsFaultInside, IsFaultOfListed, IsInside, IsListed, IsTypeFault, IsWorldFault, in_item, listed_fault, listed_items}
use Rattle.wac_encode_faults.specs.Faults as faults
use Rattle.wac_encode_faults.specs.Free.{HasUnboundItem, IsFree, IsFreeInItem, IsFreeInTypes, SideItem, in_export, in_part, parts}
use Rattle.wac_encode_faults.specs.Free as free
use Rattle.wac_encode_faults.specs.Sides.{Sides, all_imports, listed_interface, listed_interfaces, side_bindings, under_id, world_sides}
use Rattle.wac_merge_classes.proofs.lemmas.entries.Opening.{below}
use Rattle.wac_merge_tables.proofs.lemmas.made.Extending.{kept_get}
use Rattle.wac_merge_imports.proofs.lemmas.faults.FreeTrees.{part_mentioned}

-- ---- what items mention

pub kinds_in : (es : List (Name × ItemKind)) (n : Name) (k : ItemKind) → Contains es (n, k) → IsIn (kind_type k) (kind_types es)
kinds_in [] n k h = absurd (in_none (n, k) h)
kinds_in (e ∷ es) n k h = elim (in_parts e (n, k) es h) [
  | inl same ↦ inl (ap (λ (z : Name × ItemKind). kind_type z.1) same)
  | inr more ↦ inr (kinds_in es n k more)
]

-- Each item is of the collection.
abbrev pub AreHeldItems : Collection → List (Name × ItemKind) → Type 0
AreHeldItems c es = (n : Name) (k : ItemKind) → Contains es (n, k) → holds_type c (kind_type k) ≡ true

module _ (c : Collection) (wf : IsWellFormed c) where
  pub exports_held : (i : InterfaceId) (it : Interface) → holds_type c (ty.Interface i) ≡ true → item_at c.interfaces i.0 ≡ Some it → AreHeldItems c it.exports
  exports_held i it held there n k listed = mentioned_held c wf (ty.Interface i) (kind_type k) held
      (subst (λ o. IsIn (kind_type k) (option_case o [] interface_mentions)) (sym there) (in_right (kind_type k) (used_types it.uses) (kind_types it.exports) (kinds_in it.exports n k listed)))

  pub imports_held : (w : WorldId) (x : World) → holds_type c (ty.World w) ≡ true → item_at c.worlds w.0 ≡ Some x → AreHeldItems c x.imports
  imports_held w x held there n k listed = mentioned_held c wf (ty.World w) (kind_type k) held
      (subst (λ o. IsIn (kind_type k) (option_case o [] world_mentions)) (sym there)
      (in_right (kind_type k) (used_types x.uses) (kind_types x.imports ++ kind_types x.exports) (in_left (kind_type k) (kind_types x.imports) (kind_types x.exports) (kinds_in x.imports n k listed))))

  pub outgoing_held : (w : WorldId) (x : World) → holds_type c (ty.World w) ≡ true → item_at c.worlds w.0 ≡ Some x → AreHeldItems c x.exports
  outgoing_held w x held there n k listed = mentioned_held c wf (ty.World w) (kind_type k) held
      (subst (λ o. IsIn (kind_type k) (option_case o [] world_mentions)) (sym there)
      (in_right (kind_type k) (used_types x.uses) (kind_types x.imports ++ kind_types x.exports) (in_right (kind_type k) (kind_types x.imports) (kind_types x.exports) (kinds_in x.exports n k listed))))

  -- so with what is listed by a type
  interface_listed : (i : InterfaceId) (o : Option Interface) → item_at c.interfaces i.0 ≡ o → holds_type c (ty.Interface i) ≡ true → AreHeldItems c (option_case o [] (λ x. x.exports))
  interface_listed i None at held n k listed = absurd (in_none (n, k) listed)
  interface_listed i (Some it) at held n k listed = exports_held i it held at n k listed

  imports_listed : (w : WorldId) (o : Option World) → item_at c.worlds w.0 ≡ o → holds_type c (ty.World w) ≡ true → AreHeldItems c (option_case o [] (λ x. x.imports))
  imports_listed w None at held n k listed = absurd (in_none (n, k) listed)
  imports_listed w (Some x) at held n k listed = imports_held w x held at n k listed

  outgoing_listed : (w : WorldId) (o : Option World) → item_at c.worlds w.0 ≡ o → holds_type c (ty.World w) ≡ true → AreHeldItems c (option_case o [] (λ x. x.exports))
  outgoing_listed w None at held n k listed = absurd (in_none (n, k) listed)
  outgoing_listed w (Some x) at held n k listed = outgoing_held w x held at n k listed

  pub listed_held_items : (t : AnyType) → holds_type c t ≡ true → AreHeldItems c (listed_items c t)
  listed_held_items (ty.Interface i) held n k listed = interface_listed i (item_at c.interfaces i.0) refl held n k listed
  listed_held_items (ty.World w) held n k listed = elim (in_either (world_imports c w) (world_exports c w) (n, k) listed) [
    | inl a ↦ imports_listed w (item_at c.worlds w.0) refl held n k a
    | inr b ↦ outgoing_listed w (item_at c.worlds w.0) refl held n k b
  ]
  listed_held_items (ty.Resource r) held n k listed = absurd (in_none (n, k) listed)
  listed_held_items (ty.Func g) held n k listed = absurd (in_none (n, k) listed)
  listed_held_items (ty.Value v) held n k listed = absurd (in_none (n, k) listed)
  listed_held_items (ty.Module x) held n k listed = absurd (in_none (n, k) listed)

module _ (c m : Collection) (wf : IsWellFormed c) (kept : IsKeptBy c m) where
  -- ---- items

  interface_kept : (i : InterfaceId) → holds_type c (ty.Interface i) ≡ true → item_at m.interfaces i.0 ≡ item_at c.interfaces i.0
  interface_kept i held = ap item_of (kept_get c.interfaces m.interfaces kept.interfaces i.0 (below i.0 (length c.interfaces) held))

  world_kept : (w : WorldId) → holds_type c (ty.World w) ≡ true → item_at m.worlds w.0 ≡ item_at c.worlds w.0
  world_kept w held = ap item_of (kept_get c.worlds m.worlds kept.worlds w.0 (below w.0 (length c.worlds) held))

  listed_kept : (t : AnyType) → holds_type c t ≡ true → listed_items m t ≡ listed_items c t
  listed_kept (ty.Interface i) held = ap (λ (o : Option Interface). option_case o [] (λ x. x.exports)) (interface_kept i held)
  listed_kept (ty.World w) held = ap (λ (o : Option World). option_case o [] (λ x. x.imports) ++ option_case o [] (λ x. x.exports)) (world_kept w held)
  listed_kept (ty.Resource r) held = refl
  listed_kept (ty.Func g) held = refl
  listed_kept (ty.Value v) held = refl
  listed_kept (ty.Module x) held = refl

  parts_kept : (t : AnyType) → holds_type c t ≡ true → parts m t ≡ parts c t
  parts_kept (ty.Func g) held = ap (λ o. option_case (item_of o) [] func_mentions) (kept_get c.funcs m.funcs kept.funcs g.0 (below g.0 (length c.funcs) held))
  parts_kept (ty.Value (val.Primitive p)) held = refl
  parts_kept (ty.Value (val.Own r)) held = refl
  parts_kept (ty.Value (val.Borrow r)) held = refl
  parts_kept (ty.Value (val.Defined d)) held = ap (λ o. option_case (item_of o) [] defined_mentions) (kept_get c.defined m.defined kept.defined d.0 (below d.0 (length c.defined) held))
  parts_kept (ty.Interface i) held = refl
  parts_kept (ty.World w) held = refl
  parts_kept (ty.Resource r) held = refl
  parts_kept (ty.Module x) held = refl

  -- ---- own resources and bindings

  lists_kept : (uses : List (Name × UsedType)) (r : ResourceId) (n : Name) (k : ItemKind) → holds_type c (kind_type k) ≡ true → lists_own m uses r (n, k) ≡ lists_own c uses r (n, k)
  lists_kept uses r n (kind.TypeItem (ty.Resource q)) held =
      ap (λ o. (q.0 == r.0) && (not (is_some (source_of o)) && is_none (find_name uses n))) (kept_get c.resources m.resources kept.resources q.0 (below q.0 (length c.resources) held))
  lists_kept uses r n k held = refl

  rest_held : (e : Name × ItemKind) (es : List (Name × ItemKind)) → AreHeldItems c (e ∷ es) → AreHeldItems c es
  rest_held e es held n k h = held n k (in_rest e (n, k) es h)

  own_kept : (uses : List (Name × UsedType)) (es : List (Name × ItemKind)) (r : ResourceId) → AreHeldItems c es → own_name m uses es r ≡ own_name c uses es r
  own_kept uses [] r held = refl
  own_kept uses (e ∷ es) r held =
      let here = lists_kept uses r e.0 e.1 (held e.0 e.1 (in_first e es)) in
      let rest = own_kept uses es r (rest_held e es held) in
      (λ i. if here i then Some e.0 else rest i)

  -- what an interface of the collection binds
  abbrev of_interface : Collection → Side → Name → ResourceId → Option Interface → Option Leaf
  of_interface d side n r o = option_case o None (λ it. option_case it.id None (λ id.
      if same_name id n then option_case (own_name d it.uses it.exports r) None (λ q. Some (record { out = 0; side = side; path = named n ∷ named q ∷ [] })) else None))

  binds_kept : (side : Side) (n : Name) (r : ResourceId) (i : InterfaceId) → holds_type c (ty.Interface i) ≡ true → (o : Option Interface) → item_at c.interfaces i.0 ≡ o → of_interface m side n r o ≡ of_interface c side n r o
  binds_kept side n r i held None at = refl
  binds_kept side n r i held (Some it) at =
      ap (λ (z : Option Name). option_case it.id None (λ id. if same_name id n then option_case z None (λ q. Some (record { out = 0; side = side; path = named n ∷ named q ∷ [] })) else None))
      (own_kept it.uses it.exports r (exports_held c wf i it held at))

  bound_kept : (uses : List (Name × UsedType)) (side : Side) (n : Name) (k : ItemKind) (r : ResourceId) → holds_type c (kind_type k) ≡ true → bound_by m uses side (n, k) r ≡ bound_by c uses side (n, k) r
  bound_kept uses side n (kind.TypeItem t) r held = ap (λ b. if b then Some (record { out = 0; side = side; path = named n ∷ [] }) else None) (lists_kept uses r n (kind.TypeItem t) held)
  bound_kept uses side n (kind.Instance i) r held = ap (of_interface m side n r) (interface_kept i held) ∙ binds_kept side n r i held (item_at c.interfaces i.0) refl
  bound_kept uses side n (kind.Func g) r held = refl
  bound_kept uses side n (kind.Component g) r held = refl
  bound_kept uses side n (kind.Module g) r held = refl
  bound_kept uses side n (kind.Value g) r held = refl

  order_kept : (uses : List (Name × UsedType)) (side : Side) (p : Name × ItemKind → Bool) (es : List (Name × ItemKind)) (r : ResourceId) → AreHeldItems c es
      → bound_in_order m uses side (filter p es) r ≡ bound_in_order c uses side (filter p es) r
  order_kept uses side p [] r held = refl
  order_kept uses side p (e ∷ es) r held = by (p e) (bound_kept uses side e.0 e.1 r (held e.0 e.1 (in_first e es))) (order_kept uses side p es r (rest_held e es held)) where
    by : (b : Bool) → bound_by m uses side e r ≡ bound_by c uses side e r → bound_in_order m uses side (filter p es) r ≡ bound_in_order c uses side (filter p es) r
        → bound_in_order m uses side (cond b (e ∷ filter p es) (filter p es)) r ≡ bound_in_order c uses side (cond b (e ∷ filter p es) (filter p es)) r
    by true here rest = λ i. first_some (here i) (rest i)
    by false here rest = rest

  first_kept : (uses : List (Name × UsedType)) (side : Side) (es : List (Name × ItemKind)) (r : ResourceId) → AreHeldItems c es → first_bound m uses side es r ≡ first_bound c uses side es r
  first_kept uses side es r held =
      let instances = order_kept uses side (λ e. not (lists_type e)) es r held in
      let types = order_kept uses side lists_type es r held in
      (λ i. first_some (instances i) (types i))

  -- ---- free resources

  pub free_kept : (t : AnyType) (r : ResourceId) → IsFree m t r → holds_type c t ≡ true → IsFree c t r
  free_kept _ _ (free.itself q) held = subst (λ z. IsFree c (ty.Resource q) z) (sym (resource_same c m wf kept q held)) (free.itself q)
  free_kept t r (in_part _ u _ there more) held =
      let here = subst (λ l. Contains l u) (parts_kept t held) there in
      in_part t u r here (free_kept u r more (mentioned_held c wf t u held (part_mentioned c t u here)))
  free_kept _ r (in_export i it n k _ there listed own more) held =
      let here = sym (interface_kept i held) ∙ there in
      let exports = exports_held c wf i it held here in
      in_export i it n k r here listed (sym (own_kept it.uses it.exports r exports) ∙ own) (free_kept (kind_type k) r more (exports n k listed))

  -- ---- uses

  uses_kept : (i : InterfaceId) → holds_type c (ty.Interface i) ≡ true → interface_uses m i ≡ interface_uses c i
  uses_kept i held = ap (λ (o : Option Interface). option_case o [] (λ it. it.uses)) (interface_kept i held)

  wide_kept : (i j : InterfaceId) → UsesWidely m i j → holds_type c (ty.Interface i) ≡ true → UsesWidely c i j
  wide_kept _ _ (by_itself i n u there) held = by_itself i n u (subst (λ l. Contains l (n, u)) (uses_kept i held) there)
  wide_kept _ _ (by_instance i j k n there more) held =
      let here = subst (λ l. Contains l (n, kind.Instance j)) (listed_kept (ty.Interface i) held) there in
      by_instance i j k n here (wide_kept j k more (listed_held_items c wf (ty.Interface i) held n (kind.Instance j) here))

  under_kept : (i : InterfaceId) → holds_type c (ty.Interface i) ≡ true → under_id m i ≡ under_id c i
  under_kept i held = ap (λ (o : Option Interface). option_case o [] (λ it. option_case it.id [] (λ id. (id, kind.Instance i) ∷ []))) (interface_kept i held)

  one_listed : (n : Name) (k : ItemKind) → holds_type c (kind_type k) ≡ true → listed_interface m (n, k) ≡ listed_interface c (n, k)
  one_listed n (kind.Instance i) held = ap (λ l. if list_any (λ e. same_name n e.0) l then i ∷ [] else []) (under_kept i held)
  one_listed n (kind.TypeItem t) held = refl
  one_listed n (kind.Func t) held = refl
  one_listed n (kind.Component t) held = refl
  one_listed n (kind.Module t) held = refl
  one_listed n (kind.Value t) held = refl

  all_listed : (es : List (Name × ItemKind)) → AreHeldItems c es → listed_interfaces m es ≡ listed_interfaces c es
  all_listed es held = flat_same (listed_interface m) (listed_interface c) es (λ e h. one_listed e.0 e.1 (held e.0 e.1 h))

  -- ---- the sides of a component type

  module _ (s : Sides) (imports : AreHeldItems c s.imports) (additional : AreHeldItems c s.additional) (exports : AreHeldItems c s.exports) where
    all_held : AreHeldItems c (all_imports s)
    all_held n k h = elim (in_either s.imports s.additional (n, k) h) [ inl a ↦ imports n k a | inr b ↦ additional n k b ]

    side_kept : (side : Side) (r : ResourceId) → side_bindings m s side r ≡ side_bindings c s side r
    side_kept imported r = first_kept s.uses imported (all_imports s) r all_held
    side_kept exported r =
        let inside = first_kept s.uses imported (all_imports s) r all_held in
        let outside = first_kept s.uses exported s.exports r exports in
        (λ i. first_some (inside i) (outside i))

    types_kept : (n : Name) (i : InterfaceId) (r : ResourceId) → Contains s.additional (n, kind.Instance i) → IsFreeInTypes m i r → IsFreeInTypes c i r
    types_kept n i r there x =
        let held = additional n (kind.Instance i) there in
        let here = sym (interface_kept i held) ∙ x.there in
        let items = exports_held c wf i x.interface held here in
        record {
          interface = x.interface;
          there = here;
          name = x.name;
          type = x.type;
          listed = x.listed;
          not_own = sym (own_kept x.interface.uses x.interface.exports r items) ∙ x.not_own;
          free = free_kept x.type r x.free (items x.name (kind.TypeItem x.type) x.listed);
        }

    item_kept : (x : SideItem) (r : ResourceId) → IsFreeInItem m s x r → IsFreeInItem c s x r
    item_kept _ r (free.of_import n k _ there h) = free.of_import n k r there (free_kept (kind_type k) r h (imports n k there))
    item_kept _ r (free.of_additional n i _ there h) = free.of_additional n i r there (types_kept n i r there h)
    item_kept _ r (free.of_export n k _ there h) = free.of_export n k r there (free_kept (kind_type k) r h (exports n k there))

    unbound_kept : HasUnboundItem m s → HasUnboundItem c s
    unbound_kept w = (w.0, w.1, item_kept w.0 w.1 w.2, sym (side_kept w.0.side w.1) ∙ w.3)

    item_uses : (x : SideItem) (i : InterfaceId) → ItemUses m s x i → ItemUses c s x i
    item_uses _ _ (cycle.by_import n i j there wide) = cycle.by_import n i j there (wide_kept i j wide (imports n (kind.Instance i) there))
    item_uses _ _ (cycle.by_additional n k i u there used) = cycle.by_additional n k i u there (subst (λ l. Contains l (k, u)) (uses_kept i (additional n (kind.Instance i) there)) used)
    item_uses _ _ (cycle.by_export n i j there wide) = cycle.by_export n i j there (wide_kept i j wide (exports n (kind.Instance i) there))

    listed_as : (es : List (Name × ItemKind)) (n : Name) (i : InterfaceId) → AreHeldItems c es → IsListedAs m es n i → IsListedAs c es n i
    listed_as es n i held w = (w.0, subst (λ l. Contains l i) (one_listed n (kind.Instance i) (held n (kind.Instance i) w.0)) w.1)

    supplies : (side : Side) (x : SideItem) (i : InterfaceId) → Supplies m s side x i → Supplies c s side x i
    supplies side _ i (cycle.as_import _ n _ w) = cycle.as_import side n i (listed_as (all_imports s) n i all_held w)
    supplies _ _ i (cycle.as_export n _ w never) = cycle.as_export n i (listed_as s.exports n i exports w) (λ h. never (subst (λ l. Contains l i) (sym (all_listed (all_imports s) all_held)) h))

    depends : (x y : SideItem) → ItemDependsOn m s x y → ItemDependsOn c s x y
    depends x y (cycle.by_use _ _ i apart used supplied) = cycle.by_use x y i apart (item_uses x i used) (supplies x.side y i supplied)
    depends x y (cycle.by_resource _ _ r l apart h bound of) = cycle.by_resource x y r l apart (item_kept x r h) (sym (side_kept x.side r) ∙ bound) of

    leads : (x y : SideItem) → LeadsToItem m s x y → LeadsToItem c s x y
    leads x y (cycle.one _ _ d) = cycle.one x y (depends x y d)
    leads x z (cycle.more _ y _ d rest) = cycle.more x y z (depends x y d) (leads y z rest)

    cycle_kept : HasItemCycle m s → HasItemCycle c s
    cycle_kept w = (w.0, leads w.0 w.0 w.1)

  -- ---- worlds

  none_held : AreHeldItems c []
  none_held n k h = absurd (in_none (n, k) h)

  module _ (w : WorldId) (held : holds_type c (ty.World w) ≡ true) where
    imports_same : world_imports m w ≡ world_imports c w
    imports_same = ap (λ (o : Option World). option_case o [] (λ x. x.imports)) (world_kept w held)

    exports_same : world_exports m w ≡ world_exports c w
    exports_same = ap (λ (o : Option World). option_case o [] (λ x. x.exports)) (world_kept w held)

    world_uses_same : world_uses m w ≡ world_uses c w
    world_uses_same = ap (λ (o : Option World). option_case o [] (λ x. x.uses)) (world_kept w held)

    ins : AreHeldItems c (world_imports c w)
    ins = imports_listed c wf w (item_at c.worlds w.0) refl held

    outs : AreHeldItems c (world_exports c w)
    outs = outgoing_listed c wf w (item_at c.worlds w.0) refl held

    both : AreHeldItems c (world_imports c w ++ world_exports c w)
    both n k h = elim (in_either (world_imports c w) (world_exports c w) (n, k) h) [ inl a ↦ ins n k a | inr b ↦ outs n k b ]

    listed_ins : listed_interfaces m (world_imports m w) ≡ listed_interfaces c (world_imports c w)
    listed_ins = ap (listed_interfaces m) imports_same ∙ all_listed (world_imports c w) ins

    listed_both : listed_interfaces m (world_imports m w ++ world_exports m w) ≡ listed_interfaces c (world_imports c w ++ world_exports c w)
    listed_both = (λ i. listed_interfaces m (imports_same i ++ exports_same i)) ∙ all_listed (world_imports c w ++ world_exports c w) both

    unlisted_kept : HasUnlisted m w → HasUnlisted c w
    unlisted_kept (faults.by_world n u there never) =
        faults.by_world n u (subst (λ l. Contains l (n, u)) world_uses_same there) (λ h. never (subst (λ l. Contains l u.interface) (sym listed_ins) h))
    unlisted_kept (faults.by_import n i j there wide never) =
        let here = subst (λ l. Contains l (n, kind.Instance i)) imports_same there in
        faults.by_import n i j here (wide_kept i j wide (ins n (kind.Instance i) here)) (λ h. never (subst (λ l. Contains l j) (sym listed_ins) h))
    unlisted_kept (faults.by_export n i j there wide never) =
        let here = subst (λ l. Contains l (n, kind.Instance i)) exports_same there in
        faults.by_export n i j here (wide_kept i j wide (outs n (kind.Instance i) here)) (λ h. never (subst (λ l. Contains l j) (sym listed_both) h))

    world_fault_kept : (f : WriteFault) → IsWorldFault m w f → IsWorldFault c w f
    world_fault_kept _ (faults.unbound x there h) =
        let here = sym (world_kept w held) ∙ there in
        faults.unbound x here (unbound_kept (world_sides x) (imports_held c wf w x held here) none_held (outgoing_held c wf w x held here) h)
    world_fault_kept _ (faults.unlisted h) = faults.unlisted (unlisted_kept h)
    world_fault_kept _ (faults.cycle x there h) =
        let here = sym (world_kept w held) ∙ there in
        faults.cycle x here (cycle_kept (world_sides x) (imports_held c wf w x held here) none_held (outgoing_held c wf w x held here) h)

  -- ---- faults

  type_fault_kept : (t : AnyType) (f : WriteFault) → IsTypeFault m t f → holds_type c t ≡ true → IsTypeFault c t f
  type_fault_kept t f (faults.of_listed _ _ h) held = faults.of_listed t f (subst (λ l. IsFaultOfListed l f) (listed_kept t held) h)
  type_fault_kept _ f (faults.of_world w _ h) held = faults.of_world w f (world_fault_kept w held f h)

  inside_kept : (s t : AnyType) → IsInside m s t → holds_type c t ≡ true → IsInside c s t × (holds_type c s ≡ true)
  inside_kept s t (faults.itself _ _ same) held = (faults.itself s t same, ap (holds_type c) same ∙ held)
  inside_kept s t (in_item _ _ k listed more) held =
      let here = subst (λ l. IsListed k l) (listed_kept t held) listed in
      let w = inside_kept s (kind_type k) more (listed_held_items c wf t held here.0 k here.1) in
      (in_item s t k here w.0, w.1)

  -- a fault inside a type of the first collection is one there
  pub fault_kept : (t : AnyType) (f : WriteFault) → IsFaultInside m t f → holds_type c t ≡ true → IsFaultInside c t f
  fault_kept t f w held =
      let inside = inside_kept w.0 t w.1 held in
      (w.0, inside.0, type_fault_kept w.0 f w.2 inside.1)

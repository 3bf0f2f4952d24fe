-- The trees by place and by binding mention a class alike.
use Rattle.std.proofs.Common.{◌≡◌, ◌≢◌, ℕ, zero, suc, Bool, true, false, ◌&&◌, if◌then◌else◌, List, [], ◌∷◌, length, map, Option, Some, None, refl, ap, sym, ◌∙◌, ◌⊎◌, inl, inr, subst, filter, not, ◌==◌, eqb}
use Rattle.std.proofs.lemmas.Bool.{eqb-true}
use Rattle.std.specs.Prelude.{◌↔◌, slice_get}
use Rattle.std.specs.List.{AllByRecursion}
use Rattle.wac_types_shapes.specs.primitives.Name.{Name, same_name, option_case, first_some}
use Rattle.wac_types_shapes.specs.primitives.Tree.{Side, imported, exported, Place, position, named, Leaf, further_out, TypeTree, absent, resource, primitive, own, borrow, record_of, variant_of, list_of, fixed_list_of, tuple_of, flags_of, enum_of, option_of, result_of, stream_of, future_of, function, instance, component, fresh, type_equal, function_item, instance_item, component_item, module_item, value_item}
use Rattle.wac_types_collection.specs.collection.Collection.{Collection, size, item_at}
use Rattle.wac_types_collection.specs.collection.Held.{Names, Unfolding, resolved, part_at, items_under, option_tree, defined_tree, func_tree, item_tree, module_tree, of_held, interface_tree, world_tree, value_tree, unfolded_to, unfolded}
use Rattle.wac_types_collection.specs.collection.Bound.{by_place, held_tree, held_item, binds_here, is_here, same_side, same_path, own_name, inside_interface, bound_by, bound_in_order, first_bound, bound_by_imports, bound_in_world, lists_own, lists_type, is_alias}
use Rattle.wac_types_collection.specs.subtyping.Called.{Called, bound_at, of_class, itself, one_out, called_at, resource_name, by_binding, or_around, own_leaf}
use Rattle.wac_types_collection.specs.declared.collection.collection.Held.{Held}
use Rattle.wac_types_shapes.specs.declared.shapes.component.ResourceId.{ResourceId}
use Rattle.wac_types_shapes.specs.declared.shapes.component.UsedType.{UsedType}
use Rattle.wac_types_shapes.specs.declared.shapes.component.InterfaceId.{InterfaceId}
use Rattle.wac_types_shapes.specs.declared.shapes.component.Interface.{Interface}
use Rattle.wac_types_shapes.specs.declared.shapes.component.World.{World}
use Rattle.wac_types_shapes.specs.declared.shapes.component.FuncType.{FuncType}
use Rattle.wac_types_shapes.specs.declared.shapes.component.DefinedType.{DefinedType}
use Rattle.wac_types_shapes.specs.declared.shapes.component.DefinedType.TheVariants as def
use Rattle.wac_types_shapes.specs.declared.shapes.component.ValueType.{ValueType}
use Rattle.wac_types_shapes.specs.declared.shapes.component.ValueType.TheVariants as val
use Rattle.wac_types_shapes.specs.declared.shapes.component.«Type».{«Type» as AnyType}
use Rattle.wac_types_shapes.specs.declared.shapes.component.«Type».TheVariants as ty
use Rattle.wac_types_shapes.specs.declared.shapes.component.ItemKind.{ItemKind}
use Rattle.wac_types_shapes.specs.declared.shapes.component.ItemKind.TheVariants as kind
use Rattle.wac_merge_classes.specs.entries.Classes.{Entry, NameRules, same_track, members}
use Rattle.wac_merge_classes.specs.entries.Binding.{kind_binds, first_binds, class_binds, binding_class, root_bindings}
use Rattle.wac_merge_classes.specs.terms.Union.{inside_member, member_tree}
use Rattle.wac_merge_classes.specs.entries.Agreement.{called_outside, called_inside, compared}
use Rattle.wac_merge_classes.specs.terms.ClassOrder.{Mentions, begins_at}
use Rattle.wac_merge_classes.specs.terms.ClassOrder as order
use Rattle.wac_merge_agreement.specs.private.agreement.Reach.{Reaches, IsOfClass}
use Rattle.wac_merge_agreement.specs.private.agreement.Reach as reach
use Rattle.wac_merge_agreement.proofs.lemmas.agreement.Reaching.{Inside, inside}

-- ---- what a mention means at each shape
module _ {L : Type 0} (P : L → Type 0) where
  abbrev pub Holding : TypeTree L → Type 0
  Holding (resource l) = P l
  Holding (own l) = P l
  Holding (borrow l) = P l
  Holding (record_of names ts) = (i : ℕ) × Mentions P (ts i)
  Holding (variant_of names ts) = (i : ℕ) × Mentions P (ts i)
  Holding (list_of t) = Mentions P t
  Holding (fixed_list_of n t) = Mentions P t
  Holding (tuple_of n ts) = (i : ℕ) × Mentions P (ts i)
  Holding (option_of t) = Mentions P t
  Holding (result_of t u) = Mentions P t ⊎ Mentions P u
  Holding (stream_of t) = Mentions P t
  Holding (future_of t) = Mentions P t
  Holding (function is_async names ts t) = ((i : ℕ) × Mentions P (ts i)) ⊎ Mentions P t
  Holding (instance exports) = (n : Name) × Mentions P (exports n)
  Holding (component imports exports) = ((n : Name) × Mentions P (imports n)) ⊎ ((n : Name) × Mentions P (exports n))
  Holding (type_equal t) = Mentions P t
  Holding (function_item t) = Mentions P t
  Holding (instance_item t) = Mentions P t
  Holding (component_item t) = Mentions P t
  Holding (module_item t) = Mentions P t
  Holding (value_item t) = Mentions P t
  Holding _ = ⊥

  pub holding : (t : TypeTree L) → Mentions P t → Holding t
  holding t (order.as_resource l p) = p
  holding t (order.as_own l p) = p
  holding t (order.as_borrow l p) = p
  holding t (order.in_field names ts i h) = (i, h)
  holding t (order.in_case names ts i h) = (i, h)
  holding t (order.in_list u h) = h
  holding t (order.in_fixed_list n u h) = h
  holding t (order.in_tuple n ts i h) = (i, h)
  holding t (order.in_option u h) = h
  holding t (order.in_ok u v h) = inl h
  holding t (order.in_err u v h) = inr h
  holding t (order.in_stream u h) = h
  holding t (order.in_future u h) = h
  holding t (order.in_parameter is_async names ts u i h) = inl (i, h)
  holding t (order.in_result is_async names ts u h) = inr h
  holding t (order.in_instance exports n h) = (n, h)
  holding t (order.in_imports imports exports n h) = inl (n, h)
  holding t (order.in_exports imports exports n h) = inr (n, h)
  holding t (order.in_type_item u h) = h
  holding t (order.in_function_item u h) = h
  holding t (order.in_instance_item u h) = h
  holding t (order.in_component_item u h) = h
  holding t (order.in_module_item u h) = h
  holding t (order.in_value_item u h) = h

-- a resource is bound at this position exactly where it is bound by the import of this class
abbrev pub Alike : ℕ → ℕ → Names Leaf → Names Called → Type 0
Alike b d m n = (r : ResourceId) → ((l : Leaf) × (m r ≡ Some l) × begins_at b l.path) ↔ ((x : Called) × (n r ≡ Some x) × IsOfClass d x)

-- an item that is no resource
abbrev pub IsNoResource : ItemKind → Type 0
IsNoResource (kind.TypeItem (ty.Resource q)) = ⊥
IsNoResource k = Unit {0}

-- an item that is neither a resource nor an instance
abbrev pub BindsNothing : ItemKind → Type 0
BindsNothing (kind.Instance i) = ⊥
BindsNothing (kind.TypeItem (ty.Resource q)) = ⊥
BindsNothing k = Unit {0}

kind_none : (rules : NameRules) (c : Collection) (class : Name) (k : ItemKind) (r : ResourceId) → BindsNothing k → kind_binds rules c class k r ≡ None
kind_none rules c class (kind.Instance i) r h = absurd h
kind_none rules c class (kind.TypeItem (ty.Resource q)) r h = absurd h
kind_none rules c class (kind.TypeItem (ty.Func f)) r h = refl
kind_none rules c class (kind.TypeItem (ty.Value v)) r h = refl
kind_none rules c class (kind.TypeItem (ty.Interface i)) r h = refl
kind_none rules c class (kind.TypeItem (ty.World w)) r h = refl
kind_none rules c class (kind.TypeItem (ty.Module x)) r h = refl
kind_none rules c class (kind.Func f) r h = refl
kind_none rules c class (kind.Component w) r h = refl
kind_none rules c class (kind.Module x) r h = refl
kind_none rules c class (kind.Value v) r h = refl

members_none : (rules : NameRules) (c : Collection) (class : Name) (es : List Entry) (r : ResourceId) → AllByRecursion (λ e. BindsNothing e.kind) es → first_binds rules c class es r ≡ None
members_none rules c class [] r h = refl
members_none rules c class (e ∷ es) r h = ap (λ z. first_some z (first_binds rules c class es r)) (kind_none rules c class e.kind r h.0) ∙ members_none rules c class es r h.1

-- a class of such items binds nothing
pub class_none : (rules : NameRules) (c : Collection) (es : List Entry) (class : Name) → AllByRecursion (λ e. BindsNothing e.kind) (members rules es class) → (r : ResourceId) → class_binds rules c es class r ≡ None
class_none rules c es class h r = members_none rules c class (members rules es class) r h

module _ (b : ℕ) where
  abbrev pub M : TypeTree Leaf → Type 0
  M t = Mentions (λ l. begins_at b l.path) t

  pub held : (t : TypeTree Leaf) → M t → Holding (λ l. begins_at b l.path) t
  held t h = holding (λ l. begins_at b l.path) t h

  -- ---- in a component nothing begins at a position
  abbrev pub No : Option Leaf → Type 0
  No o = (l : Leaf) → o ≡ Some l → begins_at b l.path → ⊥

  pub no_none : No None
  no_none l is h = cc

  pub no_some : (k : Leaf) → (begins_at b k.path → ⊥) → No (Some k)
  no_some k none l is h = let same : k ≡ l = cc in none (subst (λ x. begins_at b x.path) (sym same) h)

  no_named : (o : ℕ) (s : Side) (n : Name) (p : List Place) → No (Some (record { out = o; side = s; path = named n ∷ p }))
  no_named o s n p = no_some (record { out = o; side = s; path = named n ∷ p }) (λ h. h)

  pub no_first : (o p : Option Leaf) → No o → No p → No (first_some o p)
  no_first None p h g = g
  no_first (Some l) p h g = h

  no_bound : (c : Collection) (uses : List (Name × UsedType)) (s : Side) (e : Name × ItemKind) (r : ResourceId) → No (bound_by c uses s e r)
  no_bound c uses s (n, kind.TypeItem t) r = elim (lists_own c uses r (n, kind.TypeItem t)) as (λ z. No (if z then Some (record { out = 0; side = s; path = named n ∷ [] }) else None)) [
    | true ↦ no_named 0 s n []
    | false ↦ no_none
  ]
  no_bound c uses s (n, kind.Instance i) r = at (item_at c.interfaces i.0) where
    name : (z : Option Name) → No (option_case z None (λ q. Some (record { out = 0; side = s; path = named n ∷ named q ∷ [] })))
    name None = no_none
    name (Some q) = no_named 0 s n (named q ∷ [])

    here : (it : Interface) (id : Name) (z : Bool) → No (if z then option_case (own_name c it.uses it.exports r) None (λ q. Some (record { out = 0; side = s; path = named n ∷ named q ∷ [] })) else None)
    here it id true = name (own_name c it.uses it.exports r)
    here it id false = no_none

    known : (it : Interface) (z : Option Name)
        → No (option_case z None (λ id. if same_name id n then option_case (own_name c it.uses it.exports r) None (λ q. Some (record { out = 0; side = s; path = named n ∷ named q ∷ [] })) else None))
    known it None = no_none
    known it (Some id) = here it id (same_name id n)

    at : (z : Option Interface) → No (option_case z None (λ it. option_case it.id None (λ id. if same_name id n then option_case (own_name c it.uses it.exports r) None (λ q. Some (record { out = 0; side = s; path = named n ∷ named q ∷ [] })) else None)))
    at None = no_none
    at (Some it) = known it it.id
  no_bound c uses s (n, kind.Func f) r = no_none
  no_bound c uses s (n, kind.Component w) r = no_none
  no_bound c uses s (n, kind.Module w) r = no_none
  no_bound c uses s (n, kind.Value v) r = no_none

  no_in_order : (c : Collection) (uses : List (Name × UsedType)) (s : Side) (es : List (Name × ItemKind)) (r : ResourceId) → No (bound_in_order c uses s es r)
  no_in_order c uses s [] r = no_none
  no_in_order c uses s (e ∷ es) r = no_first (bound_by c uses s e r) (bound_in_order c uses s es r) (no_bound c uses s e r) (no_in_order c uses s es r)

  no_listed : (c : Collection) (uses : List (Name × UsedType)) (s : Side) (es : List (Name × ItemKind)) (r : ResourceId) → No (first_bound c uses s es r)
  no_listed c uses s es r =
      no_first (bound_in_order c uses s (filter (λ e. not (lists_type e)) es) r) (bound_in_order c uses s (filter lists_type es) r)
      (no_in_order c uses s (filter (λ e. not (lists_type e)) es) r) (no_in_order c uses s (filter lists_type es) r)

  abbrev pub Nothing : Names Leaf → Type 0
  Nothing m = (r : ResourceId) → No (m r)

  no_imports : (c : Collection) (w : World) → Nothing (bound_by_imports c w)
  no_imports c w r = no_listed c w.uses imported w.imports r

  no_exports : (c : Collection) (w : World) → Nothing (bound_in_world c w)
  no_exports c w r = no_first (bound_by_imports c w r) (first_bound c w.uses exported w.exports r) (no_imports c w r) (no_listed c w.uses exported w.exports r)

  pub no_outer : (o : Option Leaf) → No o → No (option_case o None (λ l. Some (further_out l)))
  no_outer None h = no_none
  no_outer (Some l) h = no_some (further_out l) (h l refl)

  no_inside : (c : Collection) (i : Interface) (m : Names Leaf) → Nothing m → Nothing (inside_interface c i m)
  no_inside c i m none r = split (own_name c i.uses i.exports r) where
    split : (o : Option Name) → No (option_case o (option_case (m r) None (λ l. Some (further_out l))) (λ n. Some (record { out = 0; side = exported; path = named n ∷ [] })))
    split None = no_outer (m r) (none r)
    split (Some n) = no_named 0 exported n []

  abbrev pub Quiet : TypeTree Leaf → Type 0
  Quiet t = Mentions (λ l. begins_at b l.path) t → ⊥

  quiet_parts : {A : Type 0} (f : A → TypeTree Leaf) → ((a : A) → Quiet (f a)) → (es : List A) (i : ℕ) → Quiet (part_at (map f es) i)
  quiet_parts f q [] i h = held absent h
  quiet_parts f q (e ∷ es) zero h = q e h
  quiet_parts f q (e ∷ es) (suc i) h = quiet_parts f q es i h

  pub quiet_items : (f : Name × ItemKind → TypeTree Leaf) → ((e : Name × ItemKind) → Quiet (f e)) → (es : List (Name × ItemKind)) (n : Name) → Quiet (items_under (map (λ e. (e.0, f e)) es) n)
  quiet_items f q [] n = λ h. held absent h
  quiet_items f q (e ∷ es) n = elim (same_name n e.0) as (λ t. Quiet (if t then f e else items_under (map (λ x. (x.0, f x)) es) n)) [
    | true ↦ q e
    | false ↦ quiet_items f q es n
  ]

  quiet_optional : (t : ValueType → TypeTree Leaf) → ((v : ValueType) → Quiet (t v)) → (o : Option ValueType) → Quiet (option_tree t o)
  quiet_optional t q None h = held absent h
  quiet_optional t q (Some v) h = q v h

  quiet_held : {A : Type 0} (t : A → TypeTree Leaf) → ((a : A) → Quiet (t a)) → (o : Option (Held A)) → Quiet (of_held t o)
  quiet_held t q None h = held absent h
  quiet_held t q (Some x) h = q x.item h

  quiet_defined : (t : ValueType → TypeTree Leaf) → ((v : ValueType) → Quiet (t v)) → (d : DefinedType) → Quiet (defined_tree t d)
  quiet_defined t q (def.Tuple vs) h = let (i, g) = held (defined_tree t (def.Tuple vs)) h in quiet_parts t q vs i g
  quiet_defined t q (def.List v) h = q v (held (list_of (t v)) h)
  quiet_defined t q (def.FixedSizeList v n) h = q v (held (fixed_list_of n (t v)) h)
  quiet_defined t q (def.Option v) h = q v (held (option_of (t v)) h)
  quiet_defined t q (def.Result ok err) h = split (held (defined_tree t (def.Result ok err)) h) where
    split : M (option_tree t ok) ⊎ M (option_tree t err) → ⊥
    split (inl g) = quiet_optional t q ok g
    split (inr g) = quiet_optional t q err g
  quiet_defined t q (def.Variant v) h = let (i, g) = held (defined_tree t (def.Variant v)) h in quiet_parts (λ e. option_tree t e.1) (λ e. quiet_optional t q e.1) v.cases i g
  quiet_defined t q (def.Record r) h = let (i, g) = held (defined_tree t (def.Record r)) h in quiet_parts (λ e. t e.1) (λ e. q e.1) r.fields i g
  quiet_defined t q (def.Flags names) h = held (flags_of names.0) h
  quiet_defined t q (def.Enum names) h = held (enum_of names.0) h
  quiet_defined t q (def.Alias v) h = q v h
  quiet_defined t q (def.Stream v) h = quiet_optional t q v (held (stream_of (option_tree t v)) h)
  quiet_defined t q (def.Future v) h = quiet_optional t q v (held (future_of (option_tree t v)) h)

  quiet_func : (t : ValueType → TypeTree Leaf) → ((v : ValueType) → Quiet (t v)) → (f : FuncType) → Quiet (func_tree t f)
  quiet_func t q f h = split (held (func_tree t f) h) where
    split : ((i : ℕ) × M (part_at (map (λ p. t p.1) f.params) i)) ⊎ M (option_tree t f.result) → ⊥
    split (inl (i, g)) = quiet_parts (λ p. t p.1) (λ p. q p.1) f.params i g
    split (inr g) = quiet_optional t q f.result g

  pub quiet_item : (t : AnyType → TypeTree Leaf) → ((a : AnyType) → Quiet (t a)) → (f : Bool) (k : ItemKind) → Quiet (item_tree t f k)
  quiet_item t q true (kind.TypeItem a) h = held fresh h
  quiet_item t q false (kind.TypeItem a) h = q a (held (type_equal (t a)) h)
  quiet_item t q f (kind.Func x) h = q (ty.Func x) (held (function_item (t (ty.Func x))) h)
  quiet_item t q f (kind.Instance x) h = q (ty.Interface x) (held (instance_item (t (ty.Interface x))) h)
  quiet_item t q f (kind.Component x) h = q (ty.World x) (held (component_item (t (ty.World x))) h)
  quiet_item t q f (kind.Module x) h = q (ty.Module x) (held (module_item (t (ty.Module x))) h)
  quiet_item t q f (kind.Value x) h = q (ty.Value x) (held (value_item (t (ty.Value x))) h)

  quiet_resource : (o : Option Leaf) → No o → Quiet (option_case o absent resource)
  quiet_resource None none h = held absent h
  quiet_resource (Some l) none h = none l refl (held (resource l) h)

  quiet_value : (c : Collection) (m : Names Leaf) → Nothing m → (t : ValueType → TypeTree Leaf) → ((v : ValueType) → Quiet (t v)) → (v : ValueType) → Quiet (value_tree (by_place c) c t m v)
  quiet_value c m none t q (val.Primitive p) h = held (primitive p) h
  quiet_value c m none t q (val.Own r) h = split (m (resolved c r)) (none (resolved c r)) h where
    split : (o : Option Leaf) → No o → M (option_case o absent own) → ⊥
    split None _ g = held absent g
    split (Some l) never g = never l refl (held (own l) g)
  quiet_value c m none t q (val.Borrow r) h = split (m (resolved c r)) (none (resolved c r)) h where
    split : (o : Option Leaf) → No o → M (option_case o absent borrow) → ⊥
    split None _ g = held absent g
    split (Some l) never g = never l refl (held (borrow l) g)
  quiet_value c m none t q (val.Defined d) h = quiet_held (defined_tree t) (quiet_defined t q) (slice_get c.defined d.0) h

  abbrev place_item : (c : Collection) → Names Leaf → Side → (AnyType → TypeTree Leaf) → Name × ItemKind → TypeTree Leaf
  place_item c m side t e = item_tree t (binds_here c m side (named e.0 ∷ []) e.1) e.1

  abbrev place_items : (c : Collection) → Names Leaf → Side → (AnyType → TypeTree Leaf) → List (Name × ItemKind) → Name → TypeTree Leaf
  place_items c m side t es = items_under (map (λ e. (e.0, place_item c m side t e)) es)

  quiet_interface : (c : Collection) (u : Unfolding Leaf) → ((m : Names Leaf) → Nothing m → (t : AnyType) → Quiet (u m t)) → (m : Names Leaf) → Nothing m → (i : Interface) → Quiet (interface_tree (by_place c) c u m i)
  quiet_interface c u q m none i h =
      let (n, g) = held (interface_tree (by_place c) c u m i) h in
      quiet_items (place_item c (inside_interface c i m) exported (u (inside_interface c i m)))
      (λ e. quiet_item (u (inside_interface c i m)) (q (inside_interface c i m) (no_inside c i m none)) (binds_here c (inside_interface c i m) exported (named e.0 ∷ []) e.1) e.1) i.exports n g

  -- in a component, whatever is around it
  quiet_world : (c : Collection) (u : Unfolding Leaf) → ((m : Names Leaf) → Nothing m → (t : AnyType) → Quiet (u m t)) → (m : Names Leaf) (w : World) → Quiet (world_tree (by_place c) c u m w)
  quiet_world c u q m w h = split (held (world_tree (by_place c) c u m w) h) where
    split : ((n : Name) × M (place_items c (bound_by_imports c w) imported (u (bound_by_imports c w)) w.imports n)) ⊎ ((n : Name) × M (place_items c (bound_in_world c w) exported (u (bound_in_world c w)) w.exports n)) → ⊥
    split (inl (n, g)) =
        quiet_items (place_item c (bound_by_imports c w) imported (u (bound_by_imports c w)))
        (λ e. quiet_item (u (bound_by_imports c w)) (q (bound_by_imports c w) (no_imports c w)) (binds_here c (bound_by_imports c w) imported (named e.0 ∷ []) e.1) e.1) w.imports n g
    split (inr (n, g)) =
        quiet_items (place_item c (bound_in_world c w) exported (u (bound_in_world c w)))
        (λ e. quiet_item (u (bound_in_world c w)) (q (bound_in_world c w) (no_exports c w)) (binds_here c (bound_in_world c w) exported (named e.0 ∷ []) e.1) e.1) w.exports n g

  pub quiet_to : (c : Collection) (k : ℕ) (m : Names Leaf) → Nothing m → (t : AnyType) → Quiet (unfolded_to (by_place c) c k m t)
  quiet_to c zero m none t h = held absent h
  quiet_to c (suc k) m none (ty.Resource r) h = quiet_resource (m (resolved c r)) (none (resolved c r)) h
  quiet_to c (suc k) m none (ty.Func f) h =
      quiet_held (func_tree (λ v. unfolded_to (by_place c) c k m (ty.Value v))) (quiet_func (λ v. unfolded_to (by_place c) c k m (ty.Value v)) (λ v. quiet_to c k m none (ty.Value v))) (slice_get c.funcs f.0) h
  quiet_to c (suc k) m none (ty.Value v) h = quiet_value c m none (λ w. unfolded_to (by_place c) c k m (ty.Value w)) (λ w. quiet_to c k m none (ty.Value w)) v h
  quiet_to c (suc k) m none (ty.Interface i) h =
      quiet_held (interface_tree (by_place c) c (unfolded_to (by_place c) c k) m) (quiet_interface c (unfolded_to (by_place c) c k) (λ p q t. quiet_to c k p q t) m none) (slice_get c.interfaces i.0) h
  quiet_to c (suc k) m none (ty.World w) h =
      quiet_held (world_tree (by_place c) c (unfolded_to (by_place c) c k) m) (quiet_world c (unfolded_to (by_place c) c k) (λ p q t. quiet_to c k p q t) m) (slice_get c.worlds w.0) h
  quiet_to c (suc k) m none (ty.Module x) h = quiet_held module_tree (λ y g. held (module_tree y) g) (slice_get c.modules x.0) h

  -- ---- what a class binds begins at no position
  abbrev pub Free : Option (List Place) → Type 0
  Free o = (p : List Place) → o ≡ Some p → begins_at b p → ⊥

  free_none : Free None
  free_none p is h = cc

  free_some : (q : List Place) → (begins_at b q → ⊥) → Free (Some q)
  free_some q none p is h = let same : q ≡ p = cc in none (subst (λ x. begins_at b x) (sym same) h)

  free_kind : (rules : NameRules) (c : Collection) (class : Name) (k : ItemKind) (r : ResourceId) → Free (kind_binds rules c class k r)
  free_kind rules c class (kind.Instance i) r = at (item_at c.interfaces i.0) where
    name : (z : Option Name) → Free (option_case z None (λ n. Some (named n ∷ [])))
    name None = free_none
    name (Some n) = free_some (named n ∷ []) (λ h. h)

    here : (it : Interface) (z : Bool) → Free (if z then option_case (own_name c it.uses it.exports r) None (λ n. Some (named n ∷ [])) else None)
    here it true = name (own_name c it.uses it.exports r)
    here it false = free_none

    known : (it : Interface) (z : Option Name)
        → Free (option_case z None (λ id. if same_track (rules.track id) (rules.track class) then option_case (own_name c it.uses it.exports r) None (λ n. Some (named n ∷ [])) else None))
    known it None = free_none
    known it (Some id) = here it (same_track (rules.track id) (rules.track class))

    at : (z : Option Interface)
        → Free (option_case z None (λ it. option_case it.id None (λ id. if same_track (rules.track id) (rules.track class) then option_case (own_name c it.uses it.exports r) None (λ n. Some (named n ∷ [])) else None)))
    at None = free_none
    at (Some it) = known it it.id
  free_kind rules c class (kind.TypeItem (ty.Resource q)) r = elim ((q.0 == r.0) && not (is_alias c q)) as (λ z. Free (if z then Some [] else None)) [
    | true ↦ free_some [] (λ h. h)
    | false ↦ free_none
  ]
  free_kind rules c class (kind.TypeItem (ty.Func f)) r = free_none
  free_kind rules c class (kind.TypeItem (ty.Value v)) r = free_none
  free_kind rules c class (kind.TypeItem (ty.Interface i)) r = free_none
  free_kind rules c class (kind.TypeItem (ty.World w)) r = free_none
  free_kind rules c class (kind.TypeItem (ty.Module x)) r = free_none
  free_kind rules c class (kind.Func f) r = free_none
  free_kind rules c class (kind.Component w) r = free_none
  free_kind rules c class (kind.Module x) r = free_none
  free_kind rules c class (kind.Value v) r = free_none

  free_first : (o p : Option (List Place)) → Free o → Free p → Free (first_some o p)
  free_first None p h g = g
  free_first (Some l) p h g = h

  free_members : (rules : NameRules) (c : Collection) (class : Name) (es : List Entry) (r : ResourceId) → Free (first_binds rules c class es r)
  free_members rules c class [] r = free_none
  free_members rules c class (e ∷ es) r = free_first (kind_binds rules c class e.kind r) (first_binds rules c class es r) (free_kind rules c class e.kind r) (free_members rules c class es r)

  pub free_class : (rules : NameRules) (c : Collection) (es : List Entry) (class : Name) (r : ResourceId) → Free (class_binds rules c es class r)
  free_class rules c es class r = free_members rules c class (members rules es class) r

  module _ (d : ℕ) where
    abbrev R : TypeTree Called → Type 0
    R u = Reaches (IsOfClass d) u

    abbrev pub Same : TypeTree Leaf → TypeTree Called → Type 0
    Same t u = Mentions (λ l. begins_at b l.path) t ↔ Reaches (IsOfClass d) u

    in_it : (u : TypeTree Called) → R u → Inside (IsOfClass d) u
    in_it u h = inside (IsOfClass d) u h

    -- ---- the same at each shape
    same_absent : Same absent absent
    same_absent = (λ h. absurd (held absent h), λ h. absurd (in_it absent h))

    same_record : (ns : List Name) (ps : ℕ → TypeTree Leaf) (qs : ℕ → TypeTree Called) → ((i : ℕ) → Same (ps i) (qs i)) → Same (record_of ns ps) (record_of ns qs)
    same_record ns ps qs s =
        (λ h. let (i, g) = held (record_of ns ps) h in reach.in_field ns qs i ((s i).0 g), λ h. let (i, g) = in_it (record_of ns qs) h in order.in_field ns ps i ((s i).1 g))

    same_variant : (ns : List Name) (ps : ℕ → TypeTree Leaf) (qs : ℕ → TypeTree Called) → ((i : ℕ) → Same (ps i) (qs i)) → Same (variant_of ns ps) (variant_of ns qs)
    same_variant ns ps qs s =
        (λ h. let (i, g) = held (variant_of ns ps) h in reach.in_case ns qs i ((s i).0 g), λ h. let (i, g) = in_it (variant_of ns qs) h in order.in_case ns ps i ((s i).1 g))

    same_tuple : (n : ℕ) (ps : ℕ → TypeTree Leaf) (qs : ℕ → TypeTree Called) → ((i : ℕ) → Same (ps i) (qs i)) → Same (tuple_of n ps) (tuple_of n qs)
    same_tuple n ps qs s =
        (λ h. let (i, g) = held (tuple_of n ps) h in reach.in_tuple n qs i ((s i).0 g), λ h. let (i, g) = in_it (tuple_of n qs) h in order.in_tuple n ps i ((s i).1 g))

    same_list : (t : TypeTree Leaf) (u : TypeTree Called) → Same t u → Same (list_of t) (list_of u)
    same_list t u s = (λ h. reach.in_list u (s.0 (held (list_of t) h)), λ h. order.in_list t (s.1 (in_it (list_of u) h)))

    same_fixed_list : (n : ℕ) (t : TypeTree Leaf) (u : TypeTree Called) → Same t u → Same (fixed_list_of n t) (fixed_list_of n u)
    same_fixed_list n t u s = (λ h. reach.in_fixed_list n u (s.0 (held (fixed_list_of n t) h)), λ h. order.in_fixed_list n t (s.1 (in_it (fixed_list_of n u) h)))

    same_option : (t : TypeTree Leaf) (u : TypeTree Called) → Same t u → Same (option_of t) (option_of u)
    same_option t u s = (λ h. reach.in_option u (s.0 (held (option_of t) h)), λ h. order.in_option t (s.1 (in_it (option_of u) h)))

    same_stream : (t : TypeTree Leaf) (u : TypeTree Called) → Same t u → Same (stream_of t) (stream_of u)
    same_stream t u s = (λ h. reach.in_stream u (s.0 (held (stream_of t) h)), λ h. order.in_stream t (s.1 (in_it (stream_of u) h)))

    same_future : (t : TypeTree Leaf) (u : TypeTree Called) → Same t u → Same (future_of t) (future_of u)
    same_future t u s = (λ h. reach.in_future u (s.0 (held (future_of t) h)), λ h. order.in_future t (s.1 (in_it (future_of u) h)))

    same_result : (t v : TypeTree Leaf) (u w : TypeTree Called) → Same t u → Same v w → Same (result_of t v) (result_of u w)
    same_result t v u w s z = (λ h. to (held (result_of t v) h), λ h. back (in_it (result_of u w) h)) where
      to : M t ⊎ M v → R (result_of u w)
      to (inl g) = reach.in_ok u w (s.0 g)
      to (inr g) = reach.in_err u w (z.0 g)

      back : R u ⊎ R w → M (result_of t v)
      back (inl g) = order.in_ok t v (s.1 g)
      back (inr g) = order.in_err t v (z.1 g)

    same_function : (a : Bool) (ns : List Name) (ps : ℕ → TypeTree Leaf) (qs : ℕ → TypeTree Called) (t : TypeTree Leaf) (u : TypeTree Called)
        → ((i : ℕ) → Same (ps i) (qs i)) → Same t u → Same (function a ns ps t) (function a ns qs u)
    same_function a ns ps qs t u s z = (λ h. to (held (function a ns ps t) h), λ h. back (in_it (function a ns qs u) h)) where
      to : ((i : ℕ) × M (ps i)) ⊎ M t → R (function a ns qs u)
      to (inl (i, g)) = reach.in_parameter a ns qs u i ((s i).0 g)
      to (inr g) = reach.in_result a ns qs u (z.0 g)

      back : ((i : ℕ) × R (qs i)) ⊎ R u → M (function a ns ps t)
      back (inl (i, g)) = order.in_parameter a ns ps t i ((s i).1 g)
      back (inr g) = order.in_result a ns ps t (z.1 g)

    pub same_instance : (f : Name → TypeTree Leaf) (g : Name → TypeTree Called) → ((n : Name) → Same (f n) (g n)) → Same (instance f) (instance g)
    same_instance f g s =
        (λ h. let (n, r) = held (instance f) h in reach.in_instance g n ((s n).0 r), λ h. let (n, r) = in_it (instance g) h in order.in_instance f n ((s n).1 r))

    same_type_item : (t : TypeTree Leaf) (u : TypeTree Called) → Same t u → Same (type_equal t) (type_equal u)
    same_type_item t u s = (λ h. reach.in_type_item u (s.0 (held (type_equal t) h)), λ h. order.in_type_item t (s.1 (in_it (type_equal u) h)))

    same_function_item : (t : TypeTree Leaf) (u : TypeTree Called) → Same t u → Same (function_item t) (function_item u)
    same_function_item t u s = (λ h. reach.in_function_item u (s.0 (held (function_item t) h)), λ h. order.in_function_item t (s.1 (in_it (function_item u) h)))

    pub same_instance_item : (t : TypeTree Leaf) (u : TypeTree Called) → Same t u → Same (instance_item t) (instance_item u)
    same_instance_item t u s = (λ h. reach.in_instance_item u (s.0 (held (instance_item t) h)), λ h. order.in_instance_item t (s.1 (in_it (instance_item u) h)))

    same_component_item : (t : TypeTree Leaf) (u : TypeTree Called) → Same t u → Same (component_item t) (component_item u)
    same_component_item t u s = (λ h. reach.in_component_item u (s.0 (held (component_item t) h)), λ h. order.in_component_item t (s.1 (in_it (component_item u) h)))

    same_module_item : (t : TypeTree Leaf) (u : TypeTree Called) → Same t u → Same (module_item t) (module_item u)
    same_module_item t u s = (λ h. reach.in_module_item u (s.0 (held (module_item t) h)), λ h. order.in_module_item t (s.1 (in_it (module_item u) h)))

    same_value_item : (t : TypeTree Leaf) (u : TypeTree Called) → Same t u → Same (value_item t) (value_item u)
    same_value_item t u s = (λ h. reach.in_value_item u (s.0 (held (value_item t) h)), λ h. order.in_value_item t (s.1 (in_it (value_item u) h)))

    -- ---- resources
    abbrev Both : Option Leaf → Option Called → Type 0
    Both o p = ((l : Leaf) × (o ≡ Some l) × begins_at b l.path) ↔ ((x : Called) × (p ≡ Some x) × IsOfClass d x)

    same_resource : (o : Option Leaf) (p : Option Called) → Both o p → Same (option_case o absent resource) (option_case p absent resource)
    same_resource o p both = (λ h. to o both h, λ h. back p both h) where
      to : (o : Option Leaf) → Both o p → M (option_case o absent resource) → R (option_case p absent resource)
      to None _ h = absurd (held absent h)
      to (Some l) both h = let (x, is, q) = both.0 (l, refl, held (resource l) h) in subst (λ z. R (option_case z absent resource)) (sym is) (reach.as_resource x q)

      back : (p : Option Called) → Both o p → R (option_case p absent resource) → M (option_case o absent resource)
      back None _ h = absurd (in_it absent h)
      back (Some x) both h = let (l, is, q) = both.1 (x, refl, in_it (resource x) h) in subst (λ z. M (option_case z absent resource)) (sym is) (order.as_resource l q)

    same_own : (o : Option Leaf) (p : Option Called) → Both o p → Same (option_case o absent own) (option_case p absent own)
    same_own o p both = (λ h. to o both h, λ h. back p both h) where
      to : (o : Option Leaf) → Both o p → M (option_case o absent own) → R (option_case p absent own)
      to None _ h = absurd (held absent h)
      to (Some l) both h = let (x, is, q) = both.0 (l, refl, held (own l) h) in subst (λ z. R (option_case z absent own)) (sym is) (reach.as_own x q)

      back : (p : Option Called) → Both o p → R (option_case p absent own) → M (option_case o absent own)
      back None _ h = absurd (in_it absent h)
      back (Some x) both h = let (l, is, q) = both.1 (x, refl, in_it (own x) h) in subst (λ z. M (option_case z absent own)) (sym is) (order.as_own l q)

    same_borrow : (o : Option Leaf) (p : Option Called) → Both o p → Same (option_case o absent borrow) (option_case p absent borrow)
    same_borrow o p both = (λ h. to o both h, λ h. back p both h) where
      to : (o : Option Leaf) → Both o p → M (option_case o absent borrow) → R (option_case p absent borrow)
      to None _ h = absurd (held absent h)
      to (Some l) both h = let (x, is, q) = both.0 (l, refl, held (borrow l) h) in subst (λ z. R (option_case z absent borrow)) (sym is) (reach.as_borrow x q)

      back : (p : Option Called) → Both o p → R (option_case p absent borrow) → M (option_case o absent borrow)
      back None _ h = absurd (in_it absent h)
      back (Some x) both h = let (l, is, q) = both.1 (x, refl, in_it (borrow x) h) in subst (λ z. M (option_case z absent borrow)) (sym is) (order.as_borrow l q)

    -- ---- lists
    same_parts : {A : Type 0} (f : A → TypeTree Leaf) (g : A → TypeTree Called) → ((a : A) → Same (f a) (g a)) → (es : List A) (i : ℕ) → Same (part_at (map f es) i) (part_at (map g es) i)
    same_parts f g s [] i = same_absent
    same_parts f g s (e ∷ es) zero = s e
    same_parts f g s (e ∷ es) (suc i) = same_parts f g s es i

    pub same_items : (f : Name × ItemKind → TypeTree Leaf) (g : Name × ItemKind → TypeTree Called) → ((e : Name × ItemKind) → Same (f e) (g e)) → (es : List (Name × ItemKind)) (n : Name)
        → Same (items_under (map (λ e. (e.0, f e)) es) n) (items_under (map (λ e. (e.0, g e)) es) n)
    same_items f g s [] n = same_absent
    same_items f g s (e ∷ es) n = elim (same_name n e.0) as (λ t. Same (if t then f e else items_under (map (λ x. (x.0, f x)) es) n) (if t then g e else items_under (map (λ x. (x.0, g x)) es) n)) [
      | true ↦ s e
      | false ↦ same_items f g s es n
    ]

    same_optional : (t : ValueType → TypeTree Leaf) (u : ValueType → TypeTree Called) → ((v : ValueType) → Same (t v) (u v)) → (o : Option ValueType) → Same (option_tree t o) (option_tree u o)
    same_optional t u s None = same_absent
    same_optional t u s (Some v) = s v

    same_held : {A : Type 0} (t : A → TypeTree Leaf) (u : A → TypeTree Called) → ((a : A) → Same (t a) (u a)) → (o : Option (Held A)) → Same (of_held t o) (of_held u o)
    same_held t u s None = same_absent
    same_held t u s (Some h) = s h.item

    same_defined : (t : ValueType → TypeTree Leaf) (u : ValueType → TypeTree Called) → ((v : ValueType) → Same (t v) (u v)) → (d : DefinedType) → Same (defined_tree t d) (defined_tree u d)
    same_defined t u s (def.Tuple vs) = same_tuple (length vs) (part_at (map t vs)) (part_at (map u vs)) (same_parts t u s vs)
    same_defined t u s (def.List v) = same_list (t v) (u v) (s v)
    same_defined t u s (def.FixedSizeList v n) = same_fixed_list n (t v) (u v) (s v)
    same_defined t u s (def.Option v) = same_option (t v) (u v) (s v)
    same_defined t u s (def.Result ok err) = same_result (option_tree t ok) (option_tree t err) (option_tree u ok) (option_tree u err) (same_optional t u s ok) (same_optional t u s err)
    same_defined t u s (def.Variant v) =
        same_variant (map (λ e. e.0) v.cases) (part_at (map (λ e. option_tree t e.1) v.cases)) (part_at (map (λ e. option_tree u e.1) v.cases))
        (same_parts (λ e. option_tree t e.1) (λ e. option_tree u e.1) (λ e. same_optional t u s e.1) v.cases)
    same_defined t u s (def.Record r) =
        same_record (map (λ e. e.0) r.fields) (part_at (map (λ e. t e.1) r.fields)) (part_at (map (λ e. u e.1) r.fields)) (same_parts (λ e. t e.1) (λ e. u e.1) (λ e. s e.1) r.fields)
    same_defined t u s (def.Flags names) = (λ h. absurd (held (flags_of names.0) h), λ h. absurd (in_it (flags_of names.0) h))
    same_defined t u s (def.Enum names) = (λ h. absurd (held (enum_of names.0) h), λ h. absurd (in_it (enum_of names.0) h))
    same_defined t u s (def.Alias v) = s v
    same_defined t u s (def.Stream v) = same_stream (option_tree t v) (option_tree u v) (same_optional t u s v)
    same_defined t u s (def.Future v) = same_future (option_tree t v) (option_tree u v) (same_optional t u s v)

    same_func : (t : ValueType → TypeTree Leaf) (u : ValueType → TypeTree Called) → ((v : ValueType) → Same (t v) (u v)) → (f : FuncType) → Same (func_tree t f) (func_tree u f)
    same_func t u s f =
        same_function f.is_async (map (λ p. p.0) f.params) (part_at (map (λ p. t p.1) f.params)) (part_at (map (λ p. u p.1) f.params)) (option_tree t f.result) (option_tree u f.result)
        (same_parts (λ p. t p.1) (λ p. u p.1) (λ p. s p.1) f.params) (same_optional t u s f.result)

    -- ---- an interface keeps what is bound alike
    class_out : (x : Called) → IsOfClass d x → IsOfClass d (one_out x)
    class_out (bound_at l n) h = absurd h
    class_out (of_class k p n) h = h
    class_out (itself r n) h = absurd h

    class_in : (x : Called) → IsOfClass d (one_out x) → IsOfClass d x
    class_in (bound_at l n) h = absurd h
    class_in (of_class k p n) h = h
    class_in (itself r n) h = absurd h

    the_leaf : (k l : Leaf) → Some k ≡ Some l → k ≡ l
    the_leaf k l e = cc

    the_called : (x y : Called) → Some x ≡ Some y → x ≡ y
    the_called x y e = cc

    abbrev outer_leaf : Option Leaf → Option Leaf
    outer_leaf o = option_case o None (λ l. Some (further_out l))

    abbrev outer_called : Option Called → Option Called
    outer_called o = option_case o None (λ x. Some (one_out x))

    both_outer : (o : Option Leaf) (p : Option Called) → Both o p → Both (outer_leaf o) (outer_called p)
    both_outer o p both = (λ h. to o both h, λ h. back p both h) where
      to : (o : Option Leaf) → Both o p → (l : Leaf) × (outer_leaf o ≡ Some l) × begins_at b l.path → (x : Called) × (outer_called p ≡ Some x) × IsOfClass d x
      to None _ (l, is, h) = cc
      to (Some k) both (l, is, h) =
          let same : further_out k ≡ l = the_leaf (further_out k) l is in
          let (x, at, q) = both.0 (k, refl, subst (λ z. begins_at b z.path) (sym same) h) in
          (one_out x, ap outer_called at, class_out x q)

      back : (p : Option Called) → Both o p → (x : Called) × (outer_called p ≡ Some x) × IsOfClass d x → (l : Leaf) × (outer_leaf o ≡ Some l) × begins_at b l.path
      back None _ (x, is, h) = cc
      back (Some y) both (x, is, h) =
          let same : one_out y ≡ x = the_called (one_out y) x is in
          let (l, at, q) = both.1 (y, refl, class_in y (subst (λ z. IsOfClass d z) (sym same) h)) in
          (further_out l, ap outer_leaf at, q)

    -- bound by the item on both sides, which is by no class
    both_here : (k : Leaf) (n : Name) → (begins_at b k.path → ⊥) → Both (Some k) (Some (bound_at k n))
    both_here k n none = (
      λ (l, is, h). absurd (no_some k none l is h),
      λ (x, is, h). let wrong : IsOfClass d (bound_at k n) = subst (λ z. IsOfClass d z) (sym (the_called (bound_at k n) x is)) h in absurd wrong,
    )

    abbrev own_at : Name → Leaf
    own_at q = record { out = 0; side = exported; path = named q ∷ [] }

    both_inside : (c : Collection) (i : Interface) (m : Names Leaf) (n : Names Called) → Alike b d m n → Alike b d (inside_interface c i m) (λ r. or_around c (own_leaf c i r) n r)
    both_inside c i m n alike r = split (own_name c i.uses i.exports r) where
      split : (o : Option Name) → Both (option_case o (outer_leaf (m r)) (λ q. Some (own_at q)))
          (first_some (option_case (option_case o None (λ q. Some (own_at q))) None (λ l. Some (called_at c r l))) (outer_called (n r)))
      split None = both_outer (m r) (n r) (alike r)
      split (Some q) = both_here (own_at q) (resource_name c r) (λ h. h)

    -- ---- items: what is fresh by place is bound here
    here_no : (x s : Bool) (p : List Place) (q : Name) → (x && (s && same_path p (named q ∷ []))) ≡ true → begins_at b p → ⊥
    here_no x s [] q h g = g
    here_no true true (position j ∷ p) q h g = cc
    here_no true false (position j ∷ p) q h g = cc
    here_no false s (position j ∷ p) q h g = cc
    here_no x s (named n ∷ p) q h g = g

    is_here_no : (side : Side) (q : Name) (o : Option Leaf) → is_here side (named q ∷ []) o ≡ true → No o
    is_here_no side q None h l is g = cc
    is_here_no side q (Some k) h l is g = let same : k ≡ l = the_leaf k l is in here_no _ (same_side k.side side) k.path q h (subst (λ z. begins_at b z.path) (sym same) g)

    abbrev Meant : Collection → Names Leaf → (AnyType → TypeTree Leaf) → Type 0
    Meant c m t = (r : ResourceId) → M (t (ty.Resource r)) → (l : Leaf) × (m (resolved c r) ≡ Some l) × begins_at b l.path

    same_listed : (c : Collection) (m : Names Leaf) (t : AnyType → TypeTree Leaf) (u : AnyType → TypeTree Called) → Meant c m t → ((a : AnyType) → Same (t a) (u a)) → (side : Side) (q : Name) (k : ItemKind)
        → Same (item_tree t (binds_here c m side (named q ∷ []) k) k) (item_tree u false k)
    same_listed c m t u meant s side q (kind.TypeItem (ty.Resource r)) = split (is_here side (named q ∷ []) (m (resolved c r))) refl where
      split : (z : Bool) → is_here side (named q ∷ []) (m (resolved c r)) ≡ z → Same (if z then fresh else type_equal (t (ty.Resource r))) (type_equal (u (ty.Resource r)))
      split true here = (
        λ h. absurd (held fresh h),
        λ h.
            let (l, is, g) = meant r ((s (ty.Resource r)).1 (in_it (type_equal (u (ty.Resource r))) h)) in
            absurd (is_here_no side q (m (resolved c r)) here l is g),
      )
      split false _ = same_type_item (t (ty.Resource r)) (u (ty.Resource r)) (s (ty.Resource r))
    same_listed c m t u meant s side q (kind.TypeItem (ty.Func f)) = same_type_item (t (ty.Func f)) (u (ty.Func f)) (s (ty.Func f))
    same_listed c m t u meant s side q (kind.TypeItem (ty.Value v)) = same_type_item (t (ty.Value v)) (u (ty.Value v)) (s (ty.Value v))
    same_listed c m t u meant s side q (kind.TypeItem (ty.Interface i)) = same_type_item (t (ty.Interface i)) (u (ty.Interface i)) (s (ty.Interface i))
    same_listed c m t u meant s side q (kind.TypeItem (ty.World w)) = same_type_item (t (ty.World w)) (u (ty.World w)) (s (ty.World w))
    same_listed c m t u meant s side q (kind.TypeItem (ty.Module x)) = same_type_item (t (ty.Module x)) (u (ty.Module x)) (s (ty.Module x))
    same_listed c m t u meant s side q (kind.Func f) = same_function_item (t (ty.Func f)) (u (ty.Func f)) (s (ty.Func f))
    same_listed c m t u meant s side q (kind.Instance i) = same_instance_item (t (ty.Interface i)) (u (ty.Interface i)) (s (ty.Interface i))
    same_listed c m t u meant s side q (kind.Component w) = same_component_item (t (ty.World w)) (u (ty.World w)) (s (ty.World w))
    same_listed c m t u meant s side q (kind.Module x) = same_module_item (t (ty.Module x)) (u (ty.Module x)) (s (ty.Module x))
    same_listed c m t u meant s side q (kind.Value v) = same_value_item (t (ty.Value v)) (u (ty.Value v)) (s (ty.Value v))

    meant_to : (c : Collection) (k : ℕ) (m : Names Leaf) → Meant c m (unfolded_to (by_place c) c k m)
    meant_to c zero m r h = absurd (held absent h)
    meant_to c (suc k) m r h = split (m (resolved c r)) h where
      split : (o : Option Leaf) → M (option_case o absent resource) → (l : Leaf) × (o ≡ Some l) × begins_at b l.path
      split None g = absurd (held absent g)
      split (Some l) g = (l, refl, held (resource l) g)

    -- ---- both trees, as many ids deep as the number says
    same_value : (c : Collection) (m : Names Leaf) (n : Names Called) → Alike b d m n → (t : ValueType → TypeTree Leaf) (u : ValueType → TypeTree Called) → ((v : ValueType) → Same (t v) (u v))
        → (v : ValueType) → Same (value_tree (by_place c) c t m v) (value_tree (by_binding c) c u n v)
    same_value c m n alike t u s (val.Primitive p) = (λ h. absurd (held (primitive p) h), λ h. absurd (in_it (primitive p) h))
    same_value c m n alike t u s (val.Own r) = same_own (m (resolved c r)) (n (resolved c r)) (alike (resolved c r))
    same_value c m n alike t u s (val.Borrow r) = same_borrow (m (resolved c r)) (n (resolved c r)) (alike (resolved c r))
    same_value c m n alike t u s (val.Defined d) = same_held (defined_tree t) (defined_tree u) (same_defined t u s) (slice_get c.defined d.0)

    pub same_to : (c : Collection) (k : ℕ) (m : Names Leaf) (n : Names Called) → Alike b d m n → (t : AnyType) → Same (unfolded_to (by_place c) c k m t) (unfolded_to (by_binding c) c k n t)
    same_to c zero m n alike t = same_absent
    same_to c (suc k) m n alike (ty.Resource r) = same_resource (m (resolved c r)) (n (resolved c r)) (alike (resolved c r))
    same_to c (suc k) m n alike (ty.Func f) =
        same_held (func_tree (λ v. unfolded_to (by_place c) c k m (ty.Value v))) (func_tree (λ v. unfolded_to (by_binding c) c k n (ty.Value v)))
        (same_func (λ v. unfolded_to (by_place c) c k m (ty.Value v)) (λ v. unfolded_to (by_binding c) c k n (ty.Value v)) (λ v. same_to c k m n alike (ty.Value v))) (slice_get c.funcs f.0)
    same_to c (suc k) m n alike (ty.Value v) =
        same_value c m n alike (λ w. unfolded_to (by_place c) c k m (ty.Value w)) (λ w. unfolded_to (by_binding c) c k n (ty.Value w)) (λ w. same_to c k m n alike (ty.Value w)) v
    same_to c (suc k) m n alike (ty.Interface i) =
        same_held (interface_tree (by_place c) c (unfolded_to (by_place c) c k) m) (interface_tree (by_binding c) c (unfolded_to (by_binding c) c k) n)
        (λ it.
        same_instance
        (place_items c (inside_interface c it m) exported (unfolded_to (by_place c) c k (inside_interface c it m)) it.exports)
        (items_under (map (λ e. (e.0, item_tree (unfolded_to (by_binding c) c k (λ r. or_around c (own_leaf c it r) n r)) false e.1)) it.exports))
        (same_items (place_item c (inside_interface c it m) exported (unfolded_to (by_place c) c k (inside_interface c it m))) (λ e. item_tree (unfolded_to (by_binding c) c k (λ r. or_around c (own_leaf c it r) n r)) false e.1)
        (λ e.
        same_listed c (inside_interface c it m) (unfolded_to (by_place c) c k (inside_interface c it m)) (unfolded_to (by_binding c) c k (λ r. or_around c (own_leaf c it r) n r)) (meant_to c k (inside_interface c it m))
        (λ a. same_to c k (inside_interface c it m) (λ r. or_around c (own_leaf c it r) n r) (both_inside c it m n alike) a) exported e.0 e.1) it.exports))
        (slice_get c.interfaces i.0)
    same_to c (suc k) m n alike (ty.World w) =
        same_held (world_tree (by_place c) c (unfolded_to (by_place c) c k) m) (world_tree (by_binding c) c (unfolded_to (by_binding c) c k) n)
        (λ x. (λ h. absurd (quiet_world c (unfolded_to (by_place c) c k) (λ p q t. quiet_to c k p q t) m x h), λ h. absurd (in_it (world_tree (by_binding c) c (unfolded_to (by_binding c) c k) n x) h)))
        (slice_get c.worlds w.0)
    same_to c (suc k) m n alike (ty.Module x) = same_held module_tree module_tree (λ y. (λ h. absurd (held (module_tree y) h), λ h. absurd (in_it (module_tree y) h))) (slice_get c.modules x.0)

    -- the import of the class of number d, and no other class, stands at the position b
    module _ (place : ℕ → ℕ) (meets : (k : ℕ) → (place k ≡ b) ↔ (k ≡ d)) where
      -- ---- at the root, and inside an entry
      abbrev rooted : Option (ℕ × List Place) → Option Leaf
      rooted o = option_case o None (λ x. Some (record { out = 0; side = imported; path = position (place x.0) ∷ x.1 }))

      both_root : (c : Collection) (r : ResourceId) (o : Option (ℕ × List Place)) → Both (rooted o) (Some (option_case o (itself r (resource_name c r)) (λ x. of_class x.0 x.1 (resource_name c r))))
      both_root c r None = (
        λ (l, is, h). cc,
        λ (x, is, h). let wrong : IsOfClass d (itself r (resource_name c r)) = subst (λ z. IsOfClass d z) (sym (the_called (itself r (resource_name c r)) x is)) h in absurd wrong,
      )
      both_root c r (Some (j, p)) = (
        λ (l, is, h).
            let k : Leaf = record { out = 0; side = imported; path = position (place j) ∷ p } in
            (of_class j p (resource_name c r), refl, (meets j).0 (subst (λ z. begins_at b z.path) (sym (the_leaf k l is)) h)),
        λ (x, is, h).
            let k : Leaf = record { out = 0; side = imported; path = position (place j) ∷ p } in
            (k, refl, (meets j).1 (subst (λ z. IsOfClass d z) (sym (the_called (of_class j p (resource_name c r)) x is)) h)),
      )

      pub alike_root : (rules : NameRules) (c : Collection) (es : List Entry) → Alike b d (root_bindings rules c es place) (called_outside rules c es)
      alike_root rules c es r = both_root c r (binding_class rules c es r)

      both_class : (c : Collection) (r : ResourceId) (side : Side) (z : Option (List Place)) → Free z → (o : Option Leaf) (p : Option Called) → Both o p
          → Both (first_some (option_case z None (λ path. Some (record { out = 0; side = side; path = path }))) o) (first_some (option_case z None (λ path. Some (called_at c r (record { out = 0; side = side; path = path })))) p)
      both_class c r side None free o p both = both
      both_class c r side (Some path) free o p both = both_here (record { out = 0; side = side; path = path }) (resource_name c r) (free path refl)

      -- from an entry of one scope further in the leaves at the root are as they are
      both_deeper : (o : Option Leaf) (p : Option Called) → Both o p → Both (outer_leaf o) p
      both_deeper o p both = (λ h. to o both h, λ h. let (l, at, q) = both.1 h in (further_out l, ap outer_leaf at, q)) where
        to : (o : Option Leaf) → Both o p → (l : Leaf) × (outer_leaf o ≡ Some l) × begins_at b l.path → (x : Called) × (p ≡ Some x) × IsOfClass d x
        to None _ (l, is, h) = cc
        to (Some k) both (l, is, h) = let same : further_out k ≡ l = the_leaf (further_out k) l is in both.0 (k, refl, subst (λ z. begins_at b z.path) (sym same) h)

      pub alike_member : (rules : NameRules) (c : Collection) (es : List Entry) (class : Name) (it : Interface)
          → Alike b d (inside_member rules c es class it (root_bindings rules c es place)) (called_inside rules c es class it)
      alike_member rules c es class it r = split (own_name c it.uses it.exports r) where
        inner : Both (first_some (option_case (class_binds rules c es class r) None (λ path. Some (record { out = 0; side = exported; path = path }))) (outer_leaf (root_bindings rules c es place r)))
            (first_some (option_case (class_binds rules c es class r) None (λ path. Some (called_at c r (record { out = 0; side = exported; path = path })))) (called_outside rules c es r))
        inner =
            both_class c r exported (class_binds rules c es class r) (free_class rules c es class r) (outer_leaf (root_bindings rules c es place r)) (called_outside rules c es r)
            (both_deeper (root_bindings rules c es place r) (called_outside rules c es r) (alike_root rules c es r))

        split : (o : Option Name)
            → Both (first_some (option_case o None (λ n. Some (own_at n))) (first_some (option_case (class_binds rules c es class r) None (λ path. Some (record { out = 0; side = exported; path = path }))) (outer_leaf (root_bindings rules c es place r))))
            (first_some (option_case (option_case o None (λ n. Some (own_at n))) None (λ l. Some (called_at c r l)))
            (first_some (option_case (class_binds rules c es class r) None (λ path. Some (called_at c r (record { out = 0; side = exported; path = path })))) (called_outside rules c es r)))
        split None = inner
        split (Some n) = both_here (own_at n) (resource_name c r) (λ h. h)

      -- ---- entries
      -- an instance
      pub same_member_instance : (rules : NameRules) (c : Collection) (es : List Entry) (class : Name) (a : ℕ) (i : InterfaceId)
          → Same (member_tree rules c es class a (root_bindings rules c es place) (kind.Instance i)) (compared rules c es class (kind.Instance i))
      unfolding held_tree
      same_member_instance rules c es class a i = at (item_at c.interfaces i.0) where
        at : (o : Option Interface)
            → Same (option_case o absent (λ it. instance_item (instance (items_under (map (λ e. (e.0, held_item c (inside_member rules c es class it (root_bindings rules c es place)) exported (named e.0 ∷ []) e.1)) it.exports)))))
            (option_case o absent (λ it. instance_item (instance (items_under (map (λ e. (e.0, item_tree (unfolded (by_binding c) c (called_inside rules c es class it)) false e.1)) it.exports)))))
        at None = same_absent
        at (Some it) =
            let m = inside_member rules c es class it (root_bindings rules c es place) in
            let n = called_inside rules c es class it in
            let f : Name × ItemKind → TypeTree Leaf = λ e. held_item c m exported (named e.0 ∷ []) e.1 in
            let g : Name × ItemKind → TypeTree Called = λ e. item_tree (unfolded (by_binding c) c n) false e.1 in
            same_instance_item (instance (items_under (map (λ e. (e.0, f e)) it.exports))) (instance (items_under (map (λ e. (e.0, g e)) it.exports)))
            (same_instance (items_under (map (λ e. (e.0, f e)) it.exports)) (items_under (map (λ e. (e.0, g e)) it.exports))
            (same_items f g (λ e. same_listed c m (unfolded (by_place c) c m) (unfolded (by_binding c) c n) (meant_to c (suc (size c)) m) (same_to c (suc (size c)) m n (alike_member rules c es class it)) exported e.0 e.1) it.exports))

      same_kind : (t : AnyType → TypeTree Leaf) (u : AnyType → TypeTree Called) → ((x : AnyType) → Same (t x) (u x)) → (k : ItemKind) → Same (item_tree t false k) (item_tree u false k)
      same_kind t u s (kind.TypeItem x) = same_type_item (t x) (u x) (s x)
      same_kind t u s (kind.Func f) = same_function_item (t (ty.Func f)) (u (ty.Func f)) (s (ty.Func f))
      same_kind t u s (kind.Instance i) = same_instance_item (t (ty.Interface i)) (u (ty.Interface i)) (s (ty.Interface i))
      same_kind t u s (kind.Component w) = same_component_item (t (ty.World w)) (u (ty.World w)) (s (ty.World w))
      same_kind t u s (kind.Module x) = same_module_item (t (ty.Module x)) (u (ty.Module x)) (s (ty.Module x))
      same_kind t u s (kind.Value v) = same_value_item (t (ty.Value v)) (u (ty.Value v)) (s (ty.Value v))

      pub same_member : (rules : NameRules) (c : Collection) (es : List Entry) (class : Name) (a : ℕ) (k : ItemKind) → ((r : ResourceId) → class_binds rules c es class r ≡ None) → IsNoResource k
          → Same (member_tree rules c es class a (root_bindings rules c es place) k) (compared rules c es class k)
      unfolding held_tree
      same_member rules c es class a k none other = split k other where
        every : (x : AnyType) → Same (unfolded (by_place c) c (root_bindings rules c es place) x) (unfolded (by_binding c) c (called_outside rules c es) x)
        every x = same_to c (suc (size c)) (root_bindings rules c es place) (called_outside rules c es) (alike_root rules c es) x

        it : (x : ItemKind) → Same (item_tree (unfolded (by_place c) c (root_bindings rules c es place)) false x) (item_tree (unfolded (by_binding c) c (called_outside rules c es)) false x)
        it x = same_kind (unfolded (by_place c) c (root_bindings rules c es place)) (unfolded (by_binding c) c (called_outside rules c es)) every x

        split : (x : ItemKind) → IsNoResource x → Same (member_tree rules c es class a (root_bindings rules c es place) x) (compared rules c es class x)
        split (kind.Instance i) _ = same_member_instance rules c es class a i
        split (kind.TypeItem (ty.Resource q)) wrong = absurd wrong
        split (kind.TypeItem (ty.Func f)) _ = it (kind.TypeItem (ty.Func f))
        split (kind.TypeItem (ty.Value v)) _ = it (kind.TypeItem (ty.Value v))
        split (kind.TypeItem (ty.Interface i)) _ = it (kind.TypeItem (ty.Interface i))
        split (kind.TypeItem (ty.World w)) _ = it (kind.TypeItem (ty.World w))
        split (kind.TypeItem (ty.Module x)) _ = it (kind.TypeItem (ty.Module x))
        split (kind.Func f) _ = it (kind.Func f)
        split (kind.Component w) _ = it (kind.Component w)
        split (kind.Module x) _ = it (kind.Module x)
        split (kind.Value v) _ = it (kind.Value v)

      -- a resource
      abbrev number_in : Option (ℕ × List Place) → ℕ
      number_in o = option_case o 0 (λ x. x.0)

      is_own : (j a : ℕ) (p : List Place) → is_here imported (position a ∷ []) (Some (record { out = 0; side = imported; path = position j ∷ p })) ≡ true → j ≡ a
      is_own j a p h = split (eqb j a) refl h where
        split : (z : Bool) → eqb j a ≡ z → (if z then same_path p [] else false) ≡ true → j ≡ a
        split true same _ = eqb-true j a same
        split false _ wrong = cc

      -- the class of number d binds it, under this path
      abbrev pub IsBoundBy : Option (ℕ × List Place) → List Place → Type 0
      IsBoundBy o p = ◌≡◌ {A = Option (ℕ × List Place)} o (Some (d, p))

      pub member_resource : (rules : NameRules) (c : Collection) (es : List Entry) (class : Name) (a : ℕ) (q : ResourceId) → b ≢ a
          → Mentions (λ l. begins_at b l.path) (member_tree rules c es class a (root_bindings rules c es place) (kind.TypeItem (ty.Resource q)))
          ↔ ((p : List Place) × IsBoundBy (binding_class rules c es (resolved c q)) p)
      unfolding held_tree
      member_resource rules c es class a q apart = go (binding_class rules c es (resolved c q)) where
        go : (o : Option (ℕ × List Place)) → M (if is_here imported (position a ∷ []) (rooted o) then fresh else type_equal (option_case (rooted o) absent resource)) ↔ ((p : List Place) × IsBoundBy o p)
        go None = (λ h. absurd (held absent (held (type_equal absent) h)), λ (p, is). cc)
        go (Some (j, p)) = (λ h. to (is_here imported (position a ∷ []) (Some k)) h, λ (p', is). back p' is (is_here imported (position a ∷ []) (Some k)) refl) where
          k : Leaf
          k = record { out = 0; side = imported; path = position (place j) ∷ p }

          to : (z : Bool) → M (if z then fresh else type_equal (resource k)) → (p' : List Place) × IsBoundBy (Some (j, p)) p'
          to true h = absurd (held fresh h)
          to false h = let same : j ≡ d = (meets j).0 (held (resource k) (held (type_equal (resource k)) h)) in (p, rw same refl)

          back : (p' : List Place) → IsBoundBy (Some (j, p)) p' → (z : Bool) → is_here imported (position a ∷ []) (Some k) ≡ z → M (if z then fresh else type_equal (resource k))
          back p' is true here = let own : place j ≡ a = is_own (place j) a p here in let same : j ≡ d = ap number_in is in absurd (apart (sym ((meets j).1 same) ∙ own))
          back p' is false _ = let same : j ≡ d = ap number_in is in order.in_type_item (resource k) (order.as_resource k ((meets j).1 same))

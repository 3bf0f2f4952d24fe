-- The tree by name is the tree by binding, with each resource's own name.
use Rattle.std.proofs.Common.{◌≡◌, ℕ, zero, suc, ◌<◌, true, false, if◌then◌else◌, List, [], ◌∷◌, length, map, nat_lt, Option, Some, None, slice_get, refl, sym, ap, ◌∙◌, arith}
use Rattle.std.proofs.Math.Path.{fun_ext}
use Rattle.std.specs.List.{AllByRecursion}
use Rattle.std.specs.Option.{option_map}
use Rattle.wac_types_shapes.specs.primitives.Name.{Name, same_name, option_case, first_some}
use Rattle.wac_types_shapes.specs.primitives.Tree.{Leaf, TypeTree, absent, resource, primitive, own, borrow, record_of, variant_of, list_of, fixed_list_of, tuple_of, flags_of, enum_of, option_of, result_of, stream_of, future_of, function, instance, component, module_of, fresh, type_equal, function_item, instance_item, component_item, module_item, value_item}
use Rattle.wac_types_collection.specs.collection.Collection.{Collection, HasResource, IsBefore, IsWellFormed, and_maybe, case_values, defined_values, func_values, holds_type, item_of, kind_types, seconds, size, used_types}
use Rattle.wac_types_shapes.specs.shapes.Kinds.{kind_type}
use Rattle.wac_types_collection.specs.collection.Bound.{bound_by_imports, bound_in_world}
use Rattle.wac_types_collection.specs.collection.Held.{Names, Unfolding, defined_tree, func_tree, interface_tree, item_tree, items_under, module_tree, of_held, option_tree, part_at, resolved, step, unfolded, unfolded_to, world_tree}
use Rattle.wac_types_collection.specs.declared.collection.collection.Held.{Held}
use Rattle.wac_types_shapes.specs.declared.shapes.component.DefinedType.{DefinedType}
use Rattle.wac_types_shapes.specs.declared.shapes.component.DefinedType.TheVariants as def
use Rattle.wac_types_shapes.specs.declared.shapes.component.FuncType.{FuncType}
use Rattle.wac_types_shapes.specs.declared.shapes.component.Interface.{Interface}
use Rattle.wac_types_shapes.specs.declared.shapes.component.ItemKind.{ItemKind}
use Rattle.wac_types_shapes.specs.declared.shapes.component.ItemKind.TheVariants as kind
use Rattle.wac_types_shapes.specs.declared.shapes.component.Resource.{Resource}
use Rattle.wac_types_shapes.specs.declared.shapes.component.ResourceId.{ResourceId}
use Rattle.wac_types_shapes.specs.declared.shapes.component.«Type».{«Type» as AnyType}
use Rattle.wac_types_shapes.specs.declared.shapes.component.«Type».TheVariants as ty
use Rattle.wac_types_shapes.specs.declared.shapes.component.ValueType.{ValueType}
use Rattle.wac_types_shapes.specs.declared.shapes.component.ValueType.TheVariants as val
use Rattle.wac_types_shapes.specs.declared.shapes.component.World.{World}
use Rattle.wac_types_collection.specs.subtyping.Called.{Called, bound_at, by_binding, called_at, itself, of_class, one_out, own_leaf, resource_name}
use Rattle.wac_types_collection.specs.subtyping.Subtype.{by_name, held_name, kind_tree, resource_names, type_tree}
use Rattle.wac_types_collection.proofs.lemmas.collection.Growth.{map_all, type_within}
use Rattle.wac_types_collection.proofs.lemmas.collection.Steady.{all_left, all_right}
use Rattle.wac_types_collection.proofs.lemmas.subtyping.Unfolding.{values_all}
use Rattle.wac_merge_classes.proofs.lemmas.entries.Walking.{resolved-held}

-- ---- a tree with its leaves changed

module _ {A B : Type 0} (f : A → B) where
  abbrev pub renamed : TypeTree A → TypeTree B
  renamed absent = absent
  renamed (resource l) = resource (f l)
  renamed (primitive n) = primitive n
  renamed (own l) = own (f l)
  renamed (borrow l) = borrow (f l)
  renamed (record_of names parts) = record_of names (λ i. renamed (parts i))
  renamed (variant_of names parts) = variant_of names (λ i. renamed (parts i))
  renamed (list_of t) = list_of (renamed t)
  renamed (fixed_list_of n t) = fixed_list_of n (renamed t)
  renamed (tuple_of n parts) = tuple_of n (λ i. renamed (parts i))
  renamed (flags_of names) = flags_of names
  renamed (enum_of names) = enum_of names
  renamed (option_of t) = option_of (renamed t)
  renamed (result_of t u) = result_of (renamed t) (renamed u)
  renamed (stream_of t) = stream_of (renamed t)
  renamed (future_of t) = future_of (renamed t)
  renamed (function is_async names params result) = function is_async names (λ i. renamed (params i)) (renamed result)
  renamed (instance items) = instance (λ n. renamed (items n))
  renamed (component imports exports) = component (λ n. renamed (imports n)) (λ n. renamed (exports n))
  renamed (module_of imports exports) = module_of imports exports
  renamed fresh = fresh
  renamed (type_equal t) = type_equal (renamed t)
  renamed (function_item t) = function_item (renamed t)
  renamed (instance_item t) = instance_item (renamed t)
  renamed (component_item t) = component_item (renamed t)
  renamed (module_item t) = module_item (renamed t)
  renamed (value_item t) = value_item (renamed t)

  parts_renamed : {X : Type 0} (g : X → TypeTree A) (h : X → TypeTree B) (xs : List X) → AllByRecursion (λ x. renamed (g x) ≡ h x) xs → (i : ℕ) → renamed (part_at (map g xs) i) ≡ part_at (map h xs) i
  parts_renamed g h [] each i = refl
  parts_renamed g h (x ∷ xs) each zero = each.0
  parts_renamed g h (x ∷ xs) each (suc i) = parts_renamed g h xs each.1 i

  module _ (t : ValueType → TypeTree A) (u : ValueType → TypeTree B) where
    optional_renamed : (o : Option ValueType) (vs : List ValueType) → AllByRecursion (λ v. renamed (t v) ≡ u v) (and_maybe o vs) → (renamed (option_tree t o) ≡ option_tree u o) × AllByRecursion (λ v. renamed (t v) ≡ u v) vs
    optional_renamed None vs h = (refl, h)
    optional_renamed (Some v) vs h = (h.0, h.1)

    seconds_each : (es : List (Name × ValueType)) → AllByRecursion (λ v. renamed (t v) ≡ u v) (seconds es) → AllByRecursion (λ e. renamed (t e.1) ≡ u e.1) es
    seconds_each [] h = tt
    seconds_each (e ∷ es) h = (h.0, seconds_each es h.1)

    cases_each : (es : List (Name × Option ValueType)) → AllByRecursion (λ v. renamed (t v) ≡ u v) (case_values es) → AllByRecursion (λ e. renamed (option_tree t e.1) ≡ option_tree u e.1) es
    cases_each [] h = tt
    cases_each (e ∷ es) h = let o = optional_renamed e.1 (case_values es) h in (o.0, cases_each es o.1)

    func_renamed : (x : FuncType) → AllByRecursion (λ v. renamed (t v) ≡ u v) (func_values x) → renamed (func_tree t x) ≡ func_tree u x
    func_renamed x h =
        let o = optional_renamed x.result (seconds x.params) h in
        λ i. function x.is_async (map (λ p. p.0) x.params) (fun_ext (parts_renamed (λ p. t p.1) (λ p. u p.1) x.params (seconds_each x.params o.1)) i) (o.0 i)

    defined_renamed : (d : DefinedType) → AllByRecursion (λ v. renamed (t v) ≡ u v) (defined_values d) → renamed (defined_tree t d) ≡ defined_tree u d
    defined_renamed (def.Tuple vs) h = ap (tuple_of (length vs)) (fun_ext (parts_renamed t u vs h))
    defined_renamed (def.List v) h = ap list_of h.0
    defined_renamed (def.FixedSizeList v n) h = ap (fixed_list_of n) h.0
    defined_renamed (def.Option v) h = ap option_of h.0
    defined_renamed (def.Result ok err) h = let o = optional_renamed ok (and_maybe err []) h in let p = optional_renamed err [] o.1 in (λ i. result_of (o.0 i) (p.0 i))
    defined_renamed (def.Variant v) h = ap (variant_of (map (λ e. e.0) v.cases)) (fun_ext (parts_renamed (λ e. option_tree t e.1) (λ e. option_tree u e.1) v.cases (cases_each v.cases h)))
    defined_renamed (def.Record r) h = ap (record_of (map (λ e. e.0) r.fields)) (fun_ext (parts_renamed (λ e. t e.1) (λ e. u e.1) r.fields (seconds_each r.fields h)))
    defined_renamed (def.Flags names) h = refl
    defined_renamed (def.Enum names) h = refl
    defined_renamed (def.Alias v) h = h.0
    defined_renamed (def.Stream v) h = ap stream_of (optional_renamed v [] h).0
    defined_renamed (def.Future v) h = ap future_of (optional_renamed v [] h).0

  module _ (t : AnyType → TypeTree A) (u : AnyType → TypeTree B) where
    item_renamed : (k : ItemKind) → renamed (t (kind_type k)) ≡ u (kind_type k) → renamed (item_tree t false k) ≡ item_tree u false k
    item_renamed (kind.TypeItem a) h = ap type_equal h
    item_renamed (kind.Func x) h = ap function_item h
    item_renamed (kind.Instance i) h = ap instance_item h
    item_renamed (kind.Component w) h = ap component_item h
    item_renamed (kind.Module w) h = ap module_item h
    item_renamed (kind.Value v) h = ap value_item h

    items_renamed : (es : List (Name × ItemKind)) → AllByRecursion (λ a. renamed (t a) ≡ u a) (kind_types es) → (n : Name)
        → renamed (items_under (map (λ e. (e.0, item_tree t false e.1)) es) n) ≡ items_under (map (λ e. (e.0, item_tree u false e.1)) es) n
    items_renamed [] h n = refl
    items_renamed (e ∷ es) h n =
        elim (same_name n e.0) as (λ b. renamed (if b then item_tree t false e.1 else items_under (map (λ x. (x.0, item_tree t false x.1)) es) n) ≡ (if b then item_tree u false e.1 else items_under (map (λ x. (x.0, item_tree u false x.1)) es) n)) [
          | true ↦ item_renamed e.1 h.0
          | false ↦ items_renamed es h.1 n
        ]

  held_renamed : {X : Type 0} (t : X → TypeTree A) (u : X → TypeTree B) (o : Option (Held X)) → ((h : Held X) → o ≡ Some h → renamed (t h.item) ≡ u h.item) → renamed (of_held t o) ≡ of_held u o
  held_renamed t u None each = refl
  held_renamed t u (Some h) each = each h refl

  leaf_renamed : (g : A → TypeTree A) (h : B → TypeTree B) → ((x : A) → renamed (g x) ≡ h (f x)) → (o : Option A) (p : Option B) → option_map f o ≡ p → renamed (option_case o absent g) ≡ option_case p absent h
  leaf_renamed g h same None p e = ap (λ q. option_case q absent h) e
  leaf_renamed g h same (Some x) p e = same x ∙ ap (λ q. option_case q absent h) e

-- ---- what resources are called, by their own names

-- the own name in what a resource is called
abbrev pub called_name : Called → Name
called_name (bound_at l n) = n
called_name (of_class k path n) = n
called_name (itself r n) = n

-- each held resource is called something, with its own name
abbrev pub KeepsNames : Collection → Names Called → Type 0
KeepsNames c m = (r : ResourceId) → HasResource c r → option_map called_name (m r) ≡ Some (resource_name c r)

out_named : (x : Called) → called_name (one_out x) ≡ called_name x
out_named (bound_at l n) = refl
out_named (of_class k path n) = refl
out_named (itself r n) = refl

around_named : (c : Collection) (here : Option Leaf) (r : ResourceId) (o : Option Called) → option_map called_name o ≡ Some (resource_name c r)
    → option_map called_name (first_some (option_case here None (λ l. Some (called_at c r l))) (option_case o None (λ x. Some (one_out x)))) ≡ Some (resource_name c r)
around_named c (Some l) r o e = refl
around_named c None r None e = e
around_named c None r (Some x) e = ap Some (out_named x) ∙ e

-- a held resource has the name
pub name_there : (xs : List (Held Resource)) (i : ℕ) → i < length xs → held_name (slice_get xs i) ≡ Some (option_case (item_of (slice_get xs i)) [] (λ it. it.name))
name_there [] i low = absurd (omega (arith, low))
name_there (x ∷ xs) zero low = refl
name_there (x ∷ xs) (suc i) low = name_there xs i (omega (arith, low))

pub tested_low : (a b : ℕ) → nat_lt a b ≡ true → a < b
tested_low a b h = grind arith

-- inside an instance and on both sides of a component they keep their names
pub instance_keeps : (c : Collection) (it : Interface) (m : Names Called) → KeepsNames c m → KeepsNames c ((by_binding c).in_instance it m)
instance_keeps c it m keeps r held = around_named c (own_leaf c it r) r (m r) (keeps r held)

imports_keep : (c : Collection) (w : World) (m : Names Called) → KeepsNames c m → KeepsNames c ((by_binding c).in_imports w m)
imports_keep c w m keeps r held = around_named c (bound_by_imports c w r) r (m r) (keeps r held)

exports_keep : (c : Collection) (w : World) (m : Names Called) → KeepsNames c m → KeepsNames c ((by_binding c).in_exports w m)
exports_keep c w m keeps r held = around_named c (bound_in_world c w r) r (m r) (keeps r held)

-- ---- the trees

module _ (c : Collection) (wf : IsWellFormed c) where
  end_called : (m : Names Called) → KeepsNames c m → (r : ResourceId) → holds_type c (ty.Resource r) ≡ true → option_map called_name (m (resolved c r)) ≡ resource_names c (resolved c r)
  end_called m keeps r held = let low = resolved-held c wf r (tested_low r.0 (length c.resources) held) in keeps (resolved c r) low ∙ sym (name_there c.resources (resolved c r).0 low)

  module _ (u : Unfolding Called) (v : Unfolding Name) (each : (m : Names Called) (a : AnyType) → KeepsNames c m → holds_type c a ≡ true → renamed called_name (u m a) ≡ v (resource_names c) a) where
    values_named : (m : Names Called) → KeepsNames c m → (n : ℕ) (x : ValueType) → IsBefore c n (ty.Value x) → renamed called_name (u m (ty.Value x)) ≡ v (resource_names c) (ty.Value x)
    values_named m keeps n x before = each m (ty.Value x) keeps (type_within c n (ty.Value x) before)

    listed_named : (m : Names Called) → KeepsNames c m → (n : ℕ) (es : List (Name × ItemKind)) → AllByRecursion (IsBefore c n) (kind_types es) → (name : Name)
        → renamed called_name (items_under (map (λ e. (e.0, item_tree (u m) false e.1)) es) name) ≡ items_under (map (λ e. (e.0, item_tree (v (resource_names c)) false e.1)) es) name
    listed_named m keeps n es before =
        items_renamed called_name (u m) (v (resource_names c)) es
        (map_all (IsBefore c n) (λ a. renamed called_name (u m a) ≡ v (resource_names c) a) (λ a b. each m a keeps (type_within c n a b)) (kind_types es) before)

    step_named : (m : Names Called) (a : AnyType) → KeepsNames c m → holds_type c a ≡ true → renamed called_name (step (by_binding c) c u m a) ≡ step by_name c v (resource_names c) a
    step_named m (ty.Resource r) keeps held = leaf_renamed called_name resource resource (λ x. refl) (m (resolved c r)) (resource_names c (resolved c r)) (end_called m keeps r held)
    step_named m (ty.Value (val.Primitive p)) keeps held = refl
    step_named m (ty.Value (val.Own r)) keeps held = leaf_renamed called_name own own (λ x. refl) (m (resolved c r)) (resource_names c (resolved c r)) (end_called m keeps r held)
    step_named m (ty.Value (val.Borrow r)) keeps held = leaf_renamed called_name borrow borrow (λ x. refl) (m (resolved c r)) (resource_names c (resolved c r)) (end_called m keeps r held)
    step_named m (ty.Value (val.Defined d)) keeps held =
        held_renamed called_name (defined_tree (λ w. u m (ty.Value w))) (defined_tree (λ w. v (resource_names c) (ty.Value w))) (slice_get c.defined d.0)
        (λ h is. defined_renamed called_name (λ w. u m (ty.Value w)) (λ w. v (resource_names c) (ty.Value w)) h.item
        (values_all c (λ w. renamed called_name (u m (ty.Value w)) ≡ v (resource_names c) (ty.Value w)) h.before (λ w b. values_named m keeps h.before w b) (defined_values h.item) (wf.defined d.0 h is).1))
    step_named m (ty.Func r) keeps held =
        held_renamed called_name (func_tree (λ w. u m (ty.Value w))) (func_tree (λ w. v (resource_names c) (ty.Value w))) (slice_get c.funcs r.0)
        (λ h is. func_renamed called_name (λ w. u m (ty.Value w)) (λ w. v (resource_names c) (ty.Value w)) h.item
        (values_all c (λ w. renamed called_name (u m (ty.Value w)) ≡ v (resource_names c) (ty.Value w)) h.before (λ w b. values_named m keeps h.before w b) (func_values h.item) (wf.funcs r.0 h is).1))
    step_named m (ty.Interface i) keeps held =
        held_renamed called_name (interface_tree (by_binding c) c u m) (interface_tree by_name c v (resource_names c)) (slice_get c.interfaces i.0)
        (λ h is.
        let before = all_right (IsBefore c h.before) (used_types h.item.uses) (kind_types h.item.exports) (wf.interfaces i.0 h is).1 in
        ap instance (fun_ext (listed_named ((by_binding c).in_instance h.item m) (instance_keeps c h.item m keeps) h.before h.item.exports before)))
    step_named m (ty.World i) keeps held =
        held_renamed called_name (world_tree (by_binding c) c u m) (world_tree by_name c v (resource_names c)) (slice_get c.worlds i.0)
        (λ h is.
        let before = all_right (IsBefore c h.before) (used_types h.item.uses) _ (wf.worlds i.0 h is).1 in
        let imports = all_left (IsBefore c h.before) (kind_types h.item.imports) (kind_types h.item.exports) before in
        let exports = all_right (IsBefore c h.before) (kind_types h.item.imports) (kind_types h.item.exports) before in
        (λ j. component
        (fun_ext (listed_named ((by_binding c).in_imports h.item m) (imports_keep c h.item m keeps) h.before h.item.imports imports) j)
        (fun_ext (listed_named ((by_binding c).in_exports h.item m) (exports_keep c h.item m keeps) h.before h.item.exports exports) j)))
    step_named m (ty.Module k) keeps held = held_renamed called_name module_tree module_tree (slice_get c.modules k.0) (λ h is. refl)

  depth_named : (n : ℕ) (m : Names Called) (a : AnyType) → KeepsNames c m → holds_type c a ≡ true → renamed called_name (unfolded_to (by_binding c) c n m a) ≡ unfolded_to by_name c n (resource_names c) a
  depth_named zero m a keeps held = refl
  depth_named (suc n) m a keeps held = step_named (unfolded_to (by_binding c) c n) (unfolded_to by_name c n) (λ l b k h. depth_named n l b k h) m a keeps held

  whole_is : (a : AnyType) → unfolded_to by_name c (suc (size c)) (resource_names c) a ≡ type_tree c a
  unfolding type_tree
  whole_is a = refl

  -- the tree by name of a type, from that by binding
  pub tree_named : (m : Names Called) (a : AnyType) → KeepsNames c m → holds_type c a ≡ true → renamed called_name (unfolded (by_binding c) c m a) ≡ type_tree c a
  tree_named m a keeps held = depth_named (suc (size c)) m a keeps held ∙ whole_is a

  -- and of an item
  pub kind_named : (m : Names Called) (k : ItemKind) → KeepsNames c m → holds_type c (kind_type k) ≡ true → renamed called_name (item_tree (unfolded (by_binding c) c m) false k) ≡ kind_tree c k
  kind_named m k keeps held = item_renamed called_name (unfolded (by_binding c) c m) (type_tree c) k (tree_named m (kind_type k) keeps held)

  -- items of equal trees by binding have equal trees by name
  pub same_by_name : (m n : Names Called) (k l : ItemKind) → KeepsNames c m → KeepsNames c n → holds_type c (kind_type k) ≡ true → holds_type c (kind_type l) ≡ true
      → item_tree (unfolded (by_binding c) c m) false k ≡ item_tree (unfolded (by_binding c) c n) false l → kind_tree c k ≡ kind_tree c l
  same_by_name m n k l keeps also held there same = sym (kind_named m k keeps held) ∙ ap (renamed called_name) same ∙ kind_named n l also there

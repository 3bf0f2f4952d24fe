-- The tree of a type of a collection. A naming gives each resource a name, by the scope in which it is used.
use Rattle.std.specs.Prelude.{ℕ, zero, suc, Bool, if◌then◌else◌, List, [], ◌∷◌, length, map, Option, Some, None, slice_get}
use Rattle.wac_types_shapes.specs.primitives.Name.{Name, same_name, find_name, option_case}
use Rattle.wac_types_shapes.specs.shapes.Imports.{Pair, find_import}
use Rattle.wac_types_shapes.specs.primitives.Core.{CoreItem, no_item, core_function, core_table, core_memory, core_global, core_tag}
use Rattle.wac_types_shapes.specs.primitives.Tree.{Side, imported, exported, TypeTree, absent, resource, primitive, own, borrow, record_of, variant_of, list_of, fixed_list_of, tuple_of, flags_of, enum_of, option_of, result_of, stream_of, future_of, function, instance, component, module_of, fresh, type_equal, function_item, instance_item, component_item, module_item, value_item}
use Rattle.wac_types_collection.specs.collection.Collection.{Collection, size}
use Rattle.wac_types_collection.specs.declared.collection.collection.Held.{Held}
use Rattle.wac_types_shapes.specs.declared.shapes.component.Resource.{Resource}
use Rattle.wac_types_shapes.specs.declared.shapes.component.ResourceId.{ResourceId}
use Rattle.wac_types_shapes.specs.declared.shapes.component.FuncType.{FuncType}
use Rattle.wac_types_shapes.specs.declared.shapes.component.DefinedType.{DefinedType}
use Rattle.wac_types_shapes.specs.declared.shapes.component.DefinedType.TheVariants as def
use Rattle.wac_types_shapes.specs.declared.shapes.component.Interface.{Interface}
use Rattle.wac_types_shapes.specs.declared.shapes.component.World.{World}
use Rattle.wac_types_shapes.specs.declared.shapes.core_types.ModuleType.{ModuleType}
use Rattle.wac_types_shapes.specs.declared.shapes.core_types.CoreExtern.{CoreExtern}
use Rattle.wac_types_shapes.specs.declared.shapes.core_types.CoreExtern.TheVariants as core
use Rattle.wac_types_shapes.specs.declared.shapes.component.ValueType.{ValueType}
use Rattle.wac_types_shapes.specs.declared.shapes.component.ValueType.TheVariants as val
use Rattle.wac_types_shapes.specs.declared.shapes.component.«Type».{«Type» as AnyType}
use Rattle.wac_types_shapes.specs.declared.shapes.component.«Type».TheVariants as ty
use Rattle.wac_types_shapes.specs.declared.shapes.component.ItemKind.{ItemKind}
use Rattle.wac_types_shapes.specs.declared.shapes.component.ItemKind.TheVariants as kind

-- The source of a resource that is an alias.
abbrev pub source_of : Option (Held Resource) → Option ResourceId
source_of None = None
source_of (Some h) = option_case h.item.alias None (λ a. Some a.source)

-- The end of a chain of at most n aliases of resources.
abbrev pub resolved_in : ℕ → Collection → ResourceId → ResourceId
resolved_in zero c r = r
resolved_in (suc n) c r = option_case (source_of (slice_get c.resources r.0)) r (λ source. resolved_in n c source)

-- The resource at the end of the aliases.
abbrev pub resolved : Collection → ResourceId → ResourceId
resolved c = resolved_in (length c.resources) c

-- The names of the resources that have one in a scope.
abbrev pub Names : Type 0 → Type 0
Names L = ResourceId → Option L

-- The names inside an instance type and on both sides of a component type, and whether a type item is fresh there.
pub record Naming (L : Type 0) : Type 0 where
  pub in_instance : Interface → Names L → Names L
  pub in_imports : World → Names L → Names L
  pub in_exports : World → Names L → Names L
  pub is_fresh : Names L → Side → Name × ItemKind → Bool

-- The tree of each type, by the names of resources. A resource without a name has no tree.
abbrev pub Unfolding : Type 0 → Type 0
Unfolding L = Names L → AnyType → TypeTree L

-- The type of an import or export of a core module.
abbrev pub core_item : CoreExtern → CoreItem
core_item (core.Func f) = core_function f.params f.results
core_item (core.Table element least most wide shared) = core_table element wide shared least most
core_item (core.Memory wide shared least most page) = core_memory wide shared least most page
core_item (core.Global value mutable shared) = core_global value mutable shared
core_item (core.Tag f) = core_tag f.params f.results

-- The export of a core module under a name.
abbrev pub core_under : List (Name × CoreExtern) → Name → CoreItem
core_under es n = option_case (find_name es n) no_item core_item

-- The import of a core module under a module and a name.
abbrev pub core_imports : List (Pair × CoreExtern) → Name → Name → CoreItem
core_imports es m n = option_case (find_import es m n) no_item core_item

module _ {L : Type 0} where
  -- The tree at an index.
  abbrev pub part_at : List (TypeTree L) → ℕ → TypeTree L
  part_at [] i = absent
  part_at (t ∷ ts) zero = t
  part_at (t ∷ ts) (suc i) = part_at ts i

  -- The tree of a name; of several, the first.
  abbrev pub items_under : List (Name × TypeTree L) → Name → TypeTree L
  items_under [] n = absent
  items_under (e ∷ rest) n = if same_name n e.0 then e.1 else items_under rest n

  -- The tree of an optional type.
  abbrev pub option_tree : (ValueType → TypeTree L) → Option ValueType → TypeTree L
  option_tree t None = absent
  option_tree t (Some v) = t v

  -- The tree of a definition; of an alias, that of its target.
  abbrev pub defined_tree : (ValueType → TypeTree L) → DefinedType → TypeTree L
  defined_tree t (def.Tuple vs) = tuple_of (length vs) (part_at (map t vs))
  defined_tree t (def.List v) = list_of (t v)
  defined_tree t (def.FixedSizeList v n) = fixed_list_of n (t v)
  defined_tree t (def.Option v) = option_of (t v)
  defined_tree t (def.Result ok err) = result_of (option_tree t ok) (option_tree t err)
  defined_tree t (def.Variant v) = variant_of (map (λ e. e.0) v.cases) (part_at (map (λ e. option_tree t e.1) v.cases))
  defined_tree t (def.Record r) = record_of (map (λ e. e.0) r.fields) (part_at (map (λ e. t e.1) r.fields))
  defined_tree t (def.Flags names) = flags_of names.0
  defined_tree t (def.Enum names) = enum_of names.0
  defined_tree t (def.Alias v) = t v
  defined_tree t (def.Stream v) = stream_of (option_tree t v)
  defined_tree t (def.Future v) = future_of (option_tree t v)

  -- The tree of a function type.
  abbrev pub func_tree : (ValueType → TypeTree L) → FuncType → TypeTree L
  func_tree t f = function f.is_async (map (λ p. p.0) f.params) (part_at (map (λ p. t p.1) f.params)) (option_tree t f.result)

  -- The tree of an import or export.
  abbrev pub item_tree : (AnyType → TypeTree L) → Bool → ItemKind → TypeTree L
  item_tree t is_fresh (kind.TypeItem a) = if is_fresh then fresh else type_equal (t a)
  item_tree t is_fresh (kind.Func f) = function_item (t (ty.Func f))
  item_tree t is_fresh (kind.Instance i) = instance_item (t (ty.Interface i))
  item_tree t is_fresh (kind.Component w) = component_item (t (ty.World w))
  item_tree t is_fresh (kind.Module m) = module_item (t (ty.Module m))
  item_tree t is_fresh (kind.Value v) = value_item (t (ty.Value v))

  -- The tree of the type of a core module.
  abbrev pub module_tree : ModuleType → TypeTree L
  module_tree m = module_of (core_imports m.imports) (core_under m.exports)

  -- The tree of an item, if there is one.
  abbrev pub of_held : {A : Type 0} → (A → TypeTree L) → Option (Held A) → TypeTree L
  of_held t None = absent
  of_held t (Some h) = t h.item

  module _ (naming : Naming L) (c : Collection) where
    -- The trees of a side's imports or exports, by name, with these names of resources in scope.
    abbrev pub listed_tree : Unfolding L → Names L → Side → List (Name × ItemKind) → Name → TypeTree L
    listed_tree u m side es = items_under (map (λ e. (e.0, item_tree (u m) (naming.is_fresh m side e) e.1)) es)

    -- The tree of an interface.
    abbrev pub interface_tree : Unfolding L → Names L → Interface → TypeTree L
    interface_tree u m i = instance (listed_tree u (naming.in_instance i m) exported i.exports)

    -- The tree of a world.
    abbrev pub world_tree : Unfolding L → Names L → World → TypeTree L
    world_tree u m w = component (listed_tree u (naming.in_imports w m) imported w.imports) (listed_tree u (naming.in_exports w m) exported w.exports)

    -- The tree of a value type.
    abbrev pub value_tree : (ValueType → TypeTree L) → Names L → ValueType → TypeTree L
    value_tree t m (val.Primitive p) = primitive p
    value_tree t m (val.Own r) = option_case (m (resolved c r)) absent own
    value_tree t m (val.Borrow r) = option_case (m (resolved c r)) absent borrow
    value_tree t m (val.Defined d) = of_held (defined_tree t) (slice_get c.defined d.0)

    -- The tree of a type, in which u gives the trees of the types that it mentions.
    abbrev pub step : Unfolding L → Unfolding L
    step u m (ty.Resource r) = option_case (m (resolved c r)) absent resource
    step u m (ty.Func f) = of_held (func_tree (λ v. u m (ty.Value v))) (slice_get c.funcs f.0)
    step u m (ty.Value v) = value_tree (λ w. u m (ty.Value w)) m v
    step u m (ty.Interface i) = of_held (interface_tree u m) (slice_get c.interfaces i.0)
    step u m (ty.World w) = of_held (world_tree u m) (slice_get c.worlds w.0)
    step u m (ty.Module k) = of_held module_tree (slice_get c.modules k.0)

    -- The tree of a type, unfolded n ids deep.
    abbrev pub unfolded_to : ℕ → Unfolding L
    unfolded_to zero m t = absent
    unfolded_to (suc k) m t = step (unfolded_to k) m t

    -- The tree of a type. No chain of ids is longer than the number of items.
    abbrev pub unfolded : Unfolding L
    unfolded = unfolded_to (suc (size c))

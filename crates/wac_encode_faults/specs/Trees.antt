-- The trees of component types with two sides, and of definitions.
use Rattle.std.specs.Prelude.{List, [], ◌∷◌, ◌++◌, map, filter}
use Rattle.wac_types_shapes.specs.primitives.Name.{Name, option_case}
use Rattle.wac_types_shapes.specs.primitives.Tree.{Side, imported, exported, named, Tree, absent, instance, instance_item, component, component_item}
use Rattle.wac_types_shapes.specs.declared.shapes.component.InterfaceId.{InterfaceId}
use Rattle.wac_types_shapes.specs.declared.shapes.component.ItemKind.{ItemKind}
use Rattle.wac_types_shapes.specs.declared.shapes.component.ItemKind.TheVariants as kind
use Rattle.wac_types_shapes.specs.declared.shapes.component.World.{World}
use Rattle.wac_types_shapes.specs.declared.shapes.component.«Type».{«Type» as AnyType}
use Rattle.wac_types_shapes.specs.declared.shapes.component.«Type».TheVariants as ty
use Rattle.wac_types_collection.specs.collection.Collection.{Collection, item_at}
use Rattle.wac_types_collection.specs.collection.Held.{items_under}
use Rattle.wac_types_collection.specs.collection.Bound.{Bindings, lists_type, inside_interface, held_tree, held_item}
use Rattle.wac_encode_faults.specs.Sides.{Sides, import_bindings, export_bindings, interface_sides, completed_sides}

-- The trees of the items of a side under bindings, by name.
abbrev pub item_trees : Collection → Bindings → Side → List (Name × ItemKind) → List (Name × Tree)
item_trees c m side es = map (λ e. (e.0, held_item c m side (named e.0 ∷ []) e.1)) es

-- The instance type of an interface with its types only.
abbrev pub types_tree : Collection → Bindings → InterfaceId → Tree
types_tree c m i = option_case (item_at c.interfaces i.0) absent (λ it. instance (items_under (item_trees c (inside_interface c it m) exported (filter lists_type it.exports))))

-- The tree of an additional import: an instance with its types only.
abbrev pub additional_tree : Collection → Bindings → ItemKind → Tree
additional_tree c m (kind.Instance i) = instance_item (types_tree c m i)
additional_tree c m k = absent

-- The trees of additional imports, by name.
abbrev pub additional_trees : Collection → Bindings → List (Name × ItemKind) → List (Name × Tree)
additional_trees c m es = map (λ e. (e.0, additional_tree c m e.1)) es

-- The trees of a side's items, by name.
abbrev pub side_trees : Collection → Sides → Side → List (Name × Tree)
side_trees c s imported = item_trees c (import_bindings c s) imported s.imports ++ additional_trees c (import_bindings c s) s.additional
side_trees c s exported = item_trees c (export_bindings c s) exported s.exports

-- The tree of a component type with these sides.
abbrev pub sides_tree : Collection → Sides → Tree
sides_tree c s = component (items_under (side_trees c s imported)) (items_under (side_trees c s exported))

-- A defined world: a component type that exports the completed component type of the world under its id (WIT.md, "Package Format").
abbrev pub world_definition : Collection → World → Tree
world_definition c w = component (λ _. absent) (items_under (option_case w.id [] (λ id. (id, component_item (sides_tree c (completed_sides c w))) ∷ [])))

-- The tree of a defined type under the bindings of the root. An interface is a component type that exports its instance
-- under its id (WIT.md, "Package Format"). Interfaces and worlds bind their resources themselves.
unfoldable pub definition_tree : Collection → Bindings → AnyType → Tree
definition_tree c m (ty.Interface i) = sides_tree c (interface_sides c i)
definition_tree c m (ty.World w) = option_case (item_at c.worlds w.0) absent (world_definition c)
definition_tree c m t = held_tree c m t

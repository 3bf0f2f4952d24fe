-- The two sides of a component type: of a world, and of the definition of an interface or a world.
use Rattle.std.specs.Prelude.{ℕ, zero, suc, not, if◌then◌else◌, List, [], ◌∷◌, ◌++◌, take, drop, filter, Option, Some, None}
use Rattle.std.specs.List.{flat_map, list_any}
use Rattle.wac_types_shapes.specs.primitives.Name.{Name, same_name, option_case, first_some}
use Rattle.wac_types_shapes.specs.primitives.Tree.{Side, imported, exported}
use Rattle.wac_types_shapes.specs.declared.shapes.component.InterfaceId.{InterfaceId}
use Rattle.wac_types_shapes.specs.declared.shapes.component.World.{World}
use Rattle.wac_types_shapes.specs.declared.shapes.component.ItemKind.{ItemKind}
use Rattle.wac_types_shapes.specs.declared.shapes.component.ItemKind.TheVariants as kind
use Rattle.wac_types_shapes.specs.declared.shapes.component.UsedType.{UsedType}
use Rattle.wac_types_shapes.specs.declared.shapes.component.«Type».{«Type» as AnyType}
use Rattle.wac_types_shapes.specs.declared.shapes.component.«Type».TheVariants as ty
use Rattle.wac_types_collection.specs.collection.Collection.{Collection, size, item_at}
use Rattle.wac_types_collection.specs.collection.Bound.{Bindings, first_bound}
use Rattle.wac_types_collection.specs.wide.Wide.{interface_uses, used_interfaces, wide_uses, wide_uses_of_items, is_among, each_once}

-- The imports of a component type, its additional imports (instances with their types only), its exports, and what its world uses.
pub record Sides : Type 0 where
  pub imports : List (Name × ItemKind)
  pub additional : List (Name × ItemKind)
  pub exports : List (Name × ItemKind)
  pub uses : List (Name × UsedType)

-- All imports of a component type.
abbrev pub all_imports : Sides → List (Name × ItemKind)
all_imports s = s.imports ++ s.additional

-- The bindings in which the imports are written.
abbrev pub import_bindings : Collection → Sides → Bindings
import_bindings c s = first_bound c s.uses imported (all_imports s)

-- The bindings in which the exports are written: those of the imports come first.
abbrev pub export_bindings : Collection → Sides → Bindings
export_bindings c s r = first_some (import_bindings c s r) (first_bound c s.uses exported s.exports r)

-- The bindings of a side.
abbrev pub side_bindings : Collection → Sides → Side → Bindings
side_bindings c s imported = import_bindings c s
side_bindings c s exported = export_bindings c s

-- The instance of an interface under the interface's id.
abbrev pub under_id : Collection → InterfaceId → List (Name × ItemKind)
under_id c i = option_case (item_at c.interfaces i.0) [] (λ it. option_case it.id [] (λ id. (id, kind.Instance i) ∷ []))

-- The interface, if the item is its instance under its id.
abbrev pub listed_interface : Collection → Name × ItemKind → List InterfaceId
listed_interface c (n, kind.Instance i) = if list_any (λ e. same_name n e.0) (under_id c i) then i ∷ [] else []
listed_interface c _ = []

-- The interfaces of the instances that have their interface's id as their name.
abbrev pub listed_interfaces : Collection → List (Name × ItemKind) → List InterfaceId
listed_interfaces c items = flat_map (listed_interface c) items

-- The interfaces that are not among the first ones.
abbrev pub without : List InterfaceId → List InterfaceId → List InterfaceId
without known is = filter (λ i. not (is_among known i)) is

-- Interfaces, each after those that it uses itself, down to the given depth.
abbrev pub reached_to : ℕ → Collection → List InterfaceId → List InterfaceId
reached_to zero c is = []
reached_to (suc d) c is = flat_map (λ i. reached_to d c (used_interfaces (interface_uses c i)) ++ i ∷ []) is

-- Interfaces, each after those that it uses itself. No chain of uses is longer than the number of items.
abbrev pub reached : Collection → List InterfaceId → List InterfaceId
reached c = reached_to (size c) c

-- What a world and its imports use and no import is.
abbrev pub needed_by_imports : Collection → World → List InterfaceId
needed_by_imports c w = without (listed_interfaces c w.imports) (used_interfaces w.uses ++ wide_uses_of_items c w.imports)

-- What a world's exports use and no import or export is.
abbrev pub needed_by_exports : Collection → World → List InterfaceId
needed_by_exports c w = without (listed_interfaces c (w.imports ++ w.exports)) (wide_uses_of_items c w.exports)

-- The interfaces that the definition of a world imports in addition: those needed, and what these use in turn, if no import is it.
abbrev pub unlisted : Collection → World → List InterfaceId
unlisted c w = each_once (without (listed_interfaces c w.imports) (reached c (needed_by_imports c w ++ needed_by_exports c w)))

-- The sides of a world's component type.
abbrev pub world_sides : World → Sides
world_sides w = record { imports = w.imports; additional = []; exports = w.exports; uses = w.uses }

-- The id of an interface; empty for one without, whose definition has a fault in any case.
abbrev pub id_or_empty : Collection → InterfaceId → Name
id_or_empty c i = option_case (item_at c.interfaces i.0) [] (λ it. option_case it.id [] (λ id. id))

-- The sides of the definition of an interface: it exports the instance, and imports what this uses.
abbrev pub interface_sides : Collection → InterfaceId → Sides
interface_sides c i = record {
  imports = [];
  additional = flat_map (under_id c) (each_once (reached c (wide_uses c i)));
  exports = (id_or_empty c i, kind.Instance i) ∷ [];
  uses = [];
}

-- The sides of the component type that the definition of a world exports.
abbrev pub completed_sides : Collection → World → Sides
completed_sides c w = record { imports = w.imports; additional = flat_map (under_id c) (unlisted c w); exports = w.exports; uses = w.uses }

-- The sides of a definition, if it is a component type.
abbrev pub defined_sides : Collection → AnyType → Option Sides
defined_sides c (ty.Interface i) = Some (interface_sides c i)
defined_sides c (ty.World w) = option_case (item_at c.worlds w.0) None (λ x. Some (completed_sides c x))
defined_sides c t = None

-- The sides with these imports, of which those from a number on are additional.
abbrev pub parted_sides : List (Name × UsedType) → ℕ → List (Name × ItemKind) → List (Name × ItemKind) → Sides
parted_sides uses own imports exports = record { imports = take own imports; additional = drop own imports; exports = exports; uses = uses }

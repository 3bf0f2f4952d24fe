-- The types of a component type's items; private functions alone cite this.
use Rattle.std.specs.Prelude.{List, [], ◌∷◌, ◌++◌}
use Rattle.std.specs.List.{flat_map}
use Rattle.wac_types_shapes.specs.primitives.Name.{Name}
use Rattle.wac_types_shapes.specs.shapes.Kinds.{kind_type}
use Rattle.wac_types_shapes.specs.declared.shapes.component.InterfaceId.{InterfaceId}
use Rattle.wac_types_shapes.specs.declared.shapes.component.ItemKind.{ItemKind}
use Rattle.wac_types_shapes.specs.declared.shapes.component.ItemKind.TheVariants as kind
use Rattle.wac_types_shapes.specs.declared.shapes.component.«Type».{«Type» as AnyType}
use Rattle.wac_types_collection.specs.collection.Collection.{Collection, interface_exports}
use Rattle.wac_encode_interfaces.specs.declared.sides.Sides.{Sides as GivenSides}

-- The type of the item, as a list.
abbrev pub item_root : Name × ItemKind → List AnyType
item_root e = kind_type e.1 ∷ []

-- The type, if the item is a type item.
abbrev pub type_item_root : ItemKind → List AnyType
type_item_root (kind.TypeItem t) = t ∷ []
type_item_root (kind.Func f) = []
type_item_root (kind.Instance i) = []
type_item_root (kind.Component w) = []
type_item_root (kind.Module m) = []
type_item_root (kind.Value v) = []

-- The types of the type items.
abbrev pub type_item_roots : List (Name × ItemKind) → List AnyType
type_item_roots es = flat_map (λ e. type_item_root e.1) es

-- The types of the type items of an interface.
abbrev pub additional_roots : Collection → InterfaceId → List AnyType
additional_roots c i = type_item_roots (interface_exports c i)

-- The types of the imports and exports of a component type. Of an additional import, those of its type items.
abbrev pub side_roots : Collection → GivenSides → List AnyType
side_roots c x = (flat_map item_root x.imports.now ++ flat_map item_root x.exports.now) ++ flat_map (additional_roots c) x.additional.now

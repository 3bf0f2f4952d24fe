-- Which resources imports and exports bind, and which are free in them; private functions alone cite this.
use Rattle.std.specs.Prelude.{◌⊎◌, List, [], IsSome, Contains}
use Rattle.std.specs.List.{flat_map}
use Rattle.wac_types_shapes.specs.primitives.Name.{Name}
use Rattle.wac_types_shapes.specs.primitives.Tree.{Side}
use Rattle.wac_types_shapes.specs.shapes.Kinds.{kind_type}
use Rattle.wac_types_shapes.specs.declared.shapes.component.ResourceId.{ResourceId}
use Rattle.wac_types_shapes.specs.declared.shapes.component.UsedType.{UsedType}
use Rattle.wac_types_shapes.specs.declared.shapes.component.InterfaceId.{InterfaceId}
use Rattle.wac_types_shapes.specs.declared.shapes.component.ItemKind.{ItemKind}
use Rattle.wac_types_shapes.specs.declared.shapes.component.ItemKind.TheVariants as kind
use Rattle.wac_types_shapes.specs.declared.shapes.component.«Type».{«Type» as AnyType}
use Rattle.wac_types_collection.specs.collection.Collection.{Collection}
use Rattle.wac_types_collection.specs.collection.Bound.{bound_by}
use Rattle.wac_encode_faults.specs.Free.{IsFree, IsFreeInTypes}
use Rattle.wac_encode_faults.specs.Sides.{Sides, under_id}
use Rattle.wac_encode_faults.specs.private.Order.{interface_of}
use Rattle.wac_encode_faults.specs.private.Sets.{other_of}

-- The item of a side binds the resource.
abbrev pub Binds : Collection → List (Name × UsedType) → Side → Name × ItemKind → ResourceId → Type 0
Binds c uses side e r = IsSome (bound_by c uses side e r)

-- One of the items of a side binds the resource.
abbrev pub BindsOne : Collection → List (Name × UsedType) → Side → List (Name × ItemKind) → ResourceId → Type 0
BindsOne c uses side items r = (e : Name × ItemKind) × Contains items e × Binds c uses side e r

-- The resource is free in one of the items.
abbrev pub IsFreeInItems : Collection → List (Name × ItemKind) → ResourceId → Type 0
IsFreeInItems c items r = (e : Name × ItemKind) × Contains items e × IsFree c (kind_type e.1) r

-- One of the resources is not bound.
abbrev pub HasMissing : List ResourceId → List ResourceId → Type 0
HasMissing bound resources = (r : ResourceId) × Contains resources r × (Contains bound r → ⊥)

-- A resource that is free in the items is not bound.
abbrev pub HasUnboundIn : Collection → List (Name × ItemKind) → List ResourceId → Type 0
HasUnboundIn c items bound = (r : ResourceId) × IsFreeInItems c items r × (Contains bound r → ⊥)

-- The type of a type item, if it is no interface.
abbrev pub other_of_item : ItemKind → List AnyType
other_of_item (kind.TypeItem t) = other_of t
other_of_item (kind.Func f) = []
other_of_item (kind.Instance i) = []
other_of_item (kind.Component w) = []
other_of_item (kind.Module m) = []
other_of_item (kind.Value v) = []

-- The types of the type items that are no interfaces.
abbrev pub others_alone : List (Name × ItemKind) → List AnyType
others_alone items = flat_map (λ e. other_of_item e.1) items

-- The type of a type item, if it is an interface.
abbrev pub interface_of_item : ItemKind → List InterfaceId
interface_of_item (kind.TypeItem t) = interface_of t
interface_of_item (kind.Func f) = []
interface_of_item (kind.Instance i) = []
interface_of_item (kind.Component w) = []
interface_of_item (kind.Module m) = []
interface_of_item (kind.Value v) = []

-- The types of the type items that are interfaces.
abbrev pub interfaces_alone : List (Name × ItemKind) → List InterfaceId
interfaces_alone items = flat_map (λ e. interface_of_item e.1) items

-- The resource is free in the type of one of the type items.
abbrev pub IsFreeInTypeItems : Collection → List (Name × ItemKind) → ResourceId → Type 0
IsFreeInTypeItems c items r = (n : Name) × (t : AnyType) × Contains items (n, kind.TypeItem t) × IsFree c t r

-- The resource is free in the types of the instance of the interface under its id.
abbrev pub IsFreeUnderId : Collection → InterfaceId → ResourceId → Type 0
IsFreeUnderId c i r = (n : Name) × Contains (under_id c i) (n, kind.Instance i) × IsFreeInTypes c i r

-- The resource is free in one of these additional imports.
abbrev pub IsFreeInAdditional : Collection → List InterfaceId → ResourceId → Type 0
IsFreeInAdditional c is r = (i : InterfaceId) × Contains is i × IsFreeUnderId c i r

-- A resource that is free in an import is not bound.
abbrev pub HasUnboundImport : Collection → List (Name × ItemKind) → List InterfaceId → List ResourceId → Type 0
HasUnboundImport c imports is bound = (r : ResourceId) × (IsFreeInItems c imports r ⊎ IsFreeInAdditional c is r) × (Contains bound r → ⊥)

-- The sides with these imports, these interfaces as additional imports, these exports and these used types.
abbrev pub sides_with : Collection → List (Name × UsedType) → List (Name × ItemKind) → List InterfaceId → List (Name × ItemKind) → Sides
sides_with c uses imports is exports = record { imports = imports; additional = flat_map (under_id c) is; exports = exports; uses = uses }

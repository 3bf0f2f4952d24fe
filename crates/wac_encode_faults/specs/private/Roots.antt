-- Faults inside several types, and the faults of component types in parts; private functions alone cite this.
use Rattle.std.specs.Prelude.{◌≡◌, ◌⊎◌, ◌++◌, List, Contains}
use Rattle.wac_types_shapes.specs.primitives.Name.{Name}
use Rattle.wac_types_shapes.specs.declared.shapes.component.InterfaceId.{InterfaceId}
use Rattle.wac_types_shapes.specs.declared.shapes.component.ItemKind.TheVariants as kind
use Rattle.wac_types_shapes.specs.declared.shapes.component.«Type».{«Type» as AnyType}
use Rattle.wac_types_collection.specs.collection.Collection.{Collection, interface_exports}
use Rattle.wac_types_collection.specs.reach.Reach.{IsIn}
use Rattle.wac_encode_faults.specs.declared.fault.WriteFault.{WriteFault}
use Rattle.wac_encode_faults.specs.declared.fault.WriteFault.TheVariants as fault
use Rattle.wac_encode_faults.specs.Cycle.{HasItemCycle}
use Rattle.wac_encode_faults.specs.Faults.{IsListed, IsInside, IsTypeFault, IsFaultInside, IsFaultOfItems, IsFaultOfTypes, HasNameTwice}
use Rattle.wac_encode_faults.specs.Sides.{Sides, under_id}

-- The type is written inside one of these.
abbrev pub IsInsideOne : Collection → List AnyType → AnyType → Type 0
IsInsideOne c roots t = (r : AnyType) × IsIn r roots × IsInside c t r

-- A type that is written inside one of these has this fault.
abbrev pub IsFaultInsideOne : Collection → List AnyType → WriteFault → Type 0
IsFaultInsideOne c roots f = (r : AnyType) × IsIn r roots × IsFaultInside c r f

-- One of these types has this fault.
abbrev pub IsFaultOfOne : Collection → List AnyType → WriteFault → Type 0
IsFaultOfOne c ts f = (t : AnyType) × IsIn t ts × IsTypeFault c t f

-- The interface has an id, and a type item of this type.
abbrev pub IsTypeUnderId : Collection → InterfaceId → AnyType → Type 0
IsTypeUnderId c i t = (n : Name) × Contains (under_id c i) (n, kind.Instance i) × IsListed (kind.TypeItem t) (interface_exports c i)

-- One of these additional imports has a type item of this type.
abbrev pub IsTypeOfAdditional : Collection → List InterfaceId → AnyType → Type 0
IsTypeOfAdditional c is t = (i : InterfaceId) × Contains is i × IsTypeUnderId c i t

-- The fault is that of an import or export of a component type, or is inside one.
abbrev pub IsFaultOfParts : Collection → Sides → WriteFault → Type 0
IsFaultOfParts c s f = IsFaultOfItems c (s.imports ++ s.exports) f ⊎ ((n : Name) × (i : InterfaceId) × Contains s.additional (n, kind.Instance i) × IsFaultOfTypes c i f)

-- The fault is that a name is there twice, or that imports or exports depend on each other in a cycle.
abbrev pub IsFaultOfNames : Collection → Sides → WriteFault → Type 0
IsFaultOfNames c s f = (HasNameTwice s × (fault.InterfaceTwice ≡ f)) ⊎ (HasItemCycle c s × (fault.TypesUseEachOther ≡ f))

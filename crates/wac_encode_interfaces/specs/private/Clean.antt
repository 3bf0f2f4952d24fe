-- Items without a fault, as imports of the root and as definitions.
use Rattle.std.specs.Prelude.{◌≡◌, Option, Some, None}
use Rattle.wac_types_shapes.specs.primitives.Tree.{Leaf}
use Rattle.wac_types_shapes.specs.shapes.Kinds.{kind_type}
use Rattle.wac_types_shapes.specs.declared.shapes.component.ResourceId.{ResourceId}
use Rattle.wac_types_shapes.specs.declared.shapes.component.ItemKind.{ItemKind}
use Rattle.wac_types_shapes.specs.declared.shapes.component.«Type».{«Type» as AnyType}
use Rattle.wac_types_collection.specs.collection.Collection.{Collection}
use Rattle.wac_types_collection.specs.collection.Bound.{Bindings}
use Rattle.wac_encode_faults.specs.declared.faults.Role.TheVariants as role
use Rattle.wac_encode_faults.specs.Faults.{IsLowest, HasFault, import_fault, definition_fault}
use Rattle.wac_encode_faults.specs.Free.{IsFree}
use Rattle.wac_encode_faults.specs.Sides.{Sides, defined_sides}
use Rattle.wac_encode_interfaces.specs.private.Ready.{IsClean, AreSidesClean}

-- The bindings have each free resource of the type.
abbrev pub BindsFree : Collection → Bindings → AnyType → Type 0
BindsFree c m t = (r : ResourceId) → IsFree c t r → (l : Leaf) × (m r ≡ Some l)

-- The item can be imported into a root with these bindings: it has no fault itself, none is inside, and each free resource is bound.
pub record IsCleanImport (c : Collection) (root : Bindings) (k : ItemKind) : Type 0 where
  pub own : import_fault k ≡ None
  pub inside : IsClean c (kind_type k)
  pub bound : BindsFree c root (kind_type k)

-- Of a type that is defined as a component type, its sides have no fault. Of any other type, each free resource is bound.
abbrev pub AreCleanOrBound : Collection → Bindings → AnyType → Option Sides → Type 0
AreCleanOrBound c root t (Some s) = AreSidesClean c s
AreCleanOrBound c root t None = BindsFree c root t

-- The type can be defined in a root with these bindings: it has no fault itself, and its component type or its parts have none.
pub record IsCleanDefinition (c : Collection) (root : Bindings) (t : AnyType) : Type 0 where
  pub own : definition_fault c t ≡ None
  pub parts : AreCleanOrBound c root t (defined_sides c t)

-- An item without a fault as an import of the root can be imported there.
abbrev pub IsImportOfNoFault : Type 0
IsImportOfNoFault = (c : Collection) (root : Bindings) (k : ItemKind) → IsLowest (HasFault c root role.Imported k) None → IsCleanImport c root k

-- The type of an item without a fault as a definition can be defined.
abbrev pub IsDefinitionOfNoFault : Type 0
IsDefinitionOfNoFault = (c : Collection) (root : Bindings) (k : ItemKind) → IsLowest (HasFault c root role.Defined k) None → IsCleanDefinition c root (kind_type k)

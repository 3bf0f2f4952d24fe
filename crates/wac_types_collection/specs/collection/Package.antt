-- Packages: the bytes of a component, with its world.
use Rattle.std.specs.Prelude.{ℕ, ◌≡◌, true, List, [], Option, None}
use Rattle.wac_types_shapes.specs.primitives.Name.{Name, find_name}
use Rattle.wac_types_shapes.specs.keys.Key.{VersionParts}
use Rattle.wac_types_collection.specs.collection.Collection.{Collection, holds_type, with_interface, world_exports, interface_exports}
use Rattle.wac_types_collection.specs.collection.Uses.{named_right, unless}
use Rattle.wac_types_collection.specs.declared.collection.collection.AddTypeError.{AddTypeError}
use Rattle.wac_types_collection.specs.declared.collection.collection.AddTypeError.TheVariants.{ResourceMisnamed}
use Rattle.wac_types_shapes.specs.declared.shapes.component.Interface.{Interface}
use Rattle.wac_types_shapes.specs.declared.shapes.component.InterfaceId.{InterfaceId}
use Rattle.wac_types_shapes.specs.declared.shapes.component.WorldId.{WorldId}
use Rattle.wac_types_shapes.specs.declared.shapes.component.ItemKind.{ItemKind}
use Rattle.wac_types_shapes.specs.declared.shapes.component.«Type».TheVariants as ty

-- The parts of a package.
pub record PackageParts : Type 0 where
  pub name : Name
  pub version : Option VersionParts
  pub bytes : List ℕ
  pub world : WorldId
  pub instance_type : InterfaceId

-- The interface of an instance of a component with these exports. It has no id and uses no type.
abbrev pub instance_with : List (Name × ItemKind) → Interface
instance_with es = record { id = None; uses = []; exports = es }

-- The collection with the interface of an instance of this world added.
abbrev pub with_instance_of : Collection → WorldId → Collection
with_instance_of c w = with_interface c (instance_with (world_exports c w))

-- The fault of that interface: a resource that is not an alias is exported under a name other than its own.
abbrev pub package_fault : Collection → WorldId → Option AddTypeError
package_fault c w = unless (named_right c [] (world_exports c w)) ResourceMisnamed

-- Under each name, the interface and the world export the same item, or neither exports one.
abbrev pub HaveSameExports : Collection → InterfaceId → WorldId → Type 0
HaveSameExports c i w = (n : Name) → find_name (interface_exports c i) n ≡ find_name (world_exports c w) n

-- The package's world and instance interface are of the collection and have the same exports.
abbrev pub HoldsPackage : Collection → PackageParts → Type 0
HoldsPackage c p =
    (holds_type c (ty.World p.world) ≡ true)
    × (holds_type c (ty.Interface p.instance_type) ≡ true)
    × HaveSameExports c p.instance_type p.world

-- States whose collection grows.
use Rattle.std.specs.Prelude.{Bool}
use Rattle.wac_types_shapes.specs.declared.shapes.component.DefinedType.{DefinedType}
use Rattle.wac_types_shapes.specs.declared.shapes.component.FuncType.{FuncType}
use Rattle.wac_types_shapes.specs.declared.shapes.component.Interface.{Interface}
use Rattle.wac_types_shapes.specs.declared.shapes.component.Resource.{Resource}
use Rattle.wac_types_shapes.specs.declared.shapes.component.World.{World}
use Rattle.wac_types_shapes.specs.declared.shapes.core_types.ModuleType.{ModuleType}
use Rattle.wac_types_collection.specs.collection.Bound.{Bindings}
use Rattle.wac_types_collection.specs.collection.Collection.{Collection, IsKeptBy, IsWellFormed, with_defined, with_func, with_interface, with_module, with_resource, with_world}
use Rattle.wac_encode.specs.declared.state.State.{State}
use Rattle.wac_encode.specs.Root.{IsStateFor}

-- What is right for the types of a collection is right for each collection that has its items with the same ids.
abbrev pub StaysWhenGrown : Type 0
StaysWhenGrown = (c d : Collection) (b : Bool) (m : Bindings) (s : State) → IsWellFormed c → IsKeptBy c d → IsStateFor c b m s → IsStateFor d b m s

-- A collection with one more item has the items of the collection with the same ids.
pub record KeepsItems (c : Collection) : Type 0 where
  pub resource : (x : Resource) → IsKeptBy c (with_resource c x)
  pub func : (x : FuncType) → IsKeptBy c (with_func c x)
  pub defined : (x : DefinedType) → IsKeptBy c (with_defined c x)
  pub interface : (x : Interface) → IsKeptBy c (with_interface c x)
  pub world : (x : World) → IsKeptBy c (with_world c x)
  pub module_type : (x : ModuleType) → IsKeptBy c (with_module c x)

abbrev pub AllKeepItems : Type 0
AllKeepItems = (c : Collection) → KeepsItems c

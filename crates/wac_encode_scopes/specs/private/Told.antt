-- What a scope records of an instance's items.
use Rattle.std.specs.Prelude.{ℕ, Bool}
use Rattle.wac_types_shapes.specs.declared.shapes.component.DefinedTypeId.{DefinedTypeId}
use Rattle.wac_types_shapes.specs.declared.shapes.component.Interface.{Interface}
use Rattle.wac_types_shapes.specs.declared.shapes.component.ResourceId.{ResourceId}
use Rattle.wac_types_collection.specs.collection.Collection.{Collection}
use Rattle.wac_encode_scopes.specs.declared.state.State.{State}
use Rattle.wac_encode_scopes.specs.private.Closed.{AreApartItems}
use Rattle.wac_encode_scopes.specs.private.Telling.{is_other, telling}
use Rattle.wac_encode_scopes.specs.States.{RecordsHere}

-- Instance j is told, to which the own resources that pass the test belong. Its value types are recorded, but for those in
-- which another own resource of the interface is free.
pub record TellsItems (c : Collection) (b : Bool) (it : Interface) (own : ResourceId → Bool) (j : ℕ) (old new : State) : Type 0 where
  pub told : DefinedTypeId → Bool
  pub apart : AreApartItems c it.exports (is_other c it own) told
  pub records : RecordsHere b (telling c it own told j) old new

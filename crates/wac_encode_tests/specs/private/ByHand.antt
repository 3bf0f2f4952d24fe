-- A component that is written by hand.
use Rattle.std.specs.Prelude.{Bool}
use Rattle.wac_types_collection.specs.collection.Collection.{Collection}
use Rattle.wac_types_collection.specs.collection.Bound.{Bindings}
use Rattle.wac_encode.specs.declared.state.State.{State}
use Rattle.wac_encode.specs.Root.{IsStateFor}

-- The component is right for the types of the collection, under some bindings.
abbrev pub IsReadyFor : Collection → Bool → State → Type 0
IsReadyFor c b s = (m : Bindings) × IsStateFor c b m s

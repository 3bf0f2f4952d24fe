-- The interfaces of a collection with their ids.
use Rattle.std.specs.Prelude.{ℕ, suc, List, [], ◌∷◌}
use Rattle.wac_types_collection.specs.declared.collection.collection.Held.{Held}
use Rattle.wac_types_shapes.specs.declared.shapes.component.Interface.{Interface}
use Rattle.wac_types_shapes.specs.declared.shapes.component.InterfaceId.{InterfaceId}

-- The interfaces with their ids, if counting starts at i.
abbrev pub numbered : ℕ → List (Held Interface) → List (InterfaceId × Interface)
numbered i [] = []
numbered i (h ∷ rest) = (record { 0 = i }, h.item) ∷ numbered (suc i) rest

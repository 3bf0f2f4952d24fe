-- The laws of every collection.
use Rattle.wac_types_collection.specs.collection.Collection.{Collection, IsWellFormed}
use Rattle.wac_types_collection.specs.collection.Names.{HasDistinctNames}
use Rattle.wac_types_collection.specs.collection.Uses.{IsSound}

-- Items mention only items added before them. No interface or world has a fault, or a name twice.
pub record IsLawful (c : Collection) : Type 0 where
  pub ordered : IsWellFormed c
  pub sound : IsSound c
  pub named : HasDistinctNames c

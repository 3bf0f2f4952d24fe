-- How wide uses are found; private functions alone cite this.
use Rattle.std.specs.Prelude.{List, Contains}
use Rattle.wac_types_shapes.specs.declared.shapes.component.InterfaceId.{InterfaceId}
use Rattle.wac_types_collection.specs.collection.Collection.{Collection}
use Rattle.wac_types_collection.specs.wide.Wide.{UsesWidely}

-- What each of the seen interfaces uses widely is among the used ones.
abbrev pub AreWhole : Collection → List InterfaceId → List InterfaceId → Type 0
AreWhole c seen used = (v k : InterfaceId) → Contains seen v → UsesWidely c v k → Contains used k

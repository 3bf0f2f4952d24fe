-- The names that interfaces and worlds of a collection give to their items.
use Rattle.std.specs.Prelude.{◌≡◌, Some}
use Rattle.wac_types_shapes.specs.shapes.Named.{NoNameTwice}
use Rattle.wac_types_shapes.specs.declared.shapes.component.Interface.{Interface}
use Rattle.wac_types_shapes.specs.declared.shapes.component.InterfaceId.{InterfaceId}
use Rattle.wac_types_shapes.specs.declared.shapes.component.World.{World}
use Rattle.wac_types_shapes.specs.declared.shapes.component.WorldId.{WorldId}
use Rattle.wac_types_collection.specs.collection.Collection.{Collection, item_at}

-- No interface of the collection exports a name twice.
abbrev pub ExportsOnce : Collection → Type 0
ExportsOnce c = (i : InterfaceId) (it : Interface) → item_at c.interfaces i.0 ≡ Some it → NoNameTwice it.exports

-- No interface exports a name twice, and no world imports or exports one twice.
pub record HasDistinctNames (c : Collection) : Type 0 where
  pub interfaces : ExportsOnce c
  pub worlds : (i : WorldId) (w : World) → item_at c.worlds i.0 ≡ Some w → NoNameTwice w.imports × NoNameTwice w.exports

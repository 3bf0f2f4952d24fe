-- Items by their sort; private functions alone cite this.
use Rattle.std.specs.Prelude.{Option, Some, None}
use Rattle.wac_types_shapes.specs.declared.shapes.component.ItemKind.{ItemKind}
use Rattle.wac_types_shapes.specs.declared.shapes.component.ItemKind.TheVariants as kind
use Rattle.wac_types_shapes.specs.declared.shapes.component.WorldId.{WorldId}

-- The world of a component.
abbrev pub component_world : ItemKind → Option WorldId
component_world (kind.Component w) = Some w
component_world k = None

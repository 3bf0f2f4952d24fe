-- The tree of a world.
use Rattle.std.specs.Prelude.{◌≡◌, Some}
use Rattle.wac_types_shapes.specs.declared.shapes.component.World.{World}
use Rattle.wac_types_shapes.specs.declared.shapes.component.WorldId.{WorldId}
use Rattle.wac_types_shapes.specs.declared.shapes.component.«Type».TheVariants as ty
use Rattle.wac_types_collection.specs.collection.Collection.{Collection, IsWellFormed, item_at}
use Rattle.wac_types_collection.specs.collection.Bound.{Bindings, held_tree}
use Rattle.wac_encode_faults.specs.Sides.{world_sides}
use Rattle.wac_encode_faults.specs.Trees.{sides_tree}

-- The tree of a world, under all bindings, is the tree of the component type with its sides.
abbrev pub IsTreeOfItsSides : Type 0
IsTreeOfItsSides = (c : Collection) → IsWellFormed c → (w : WorldId) (x : World) → item_at c.worlds w.0 ≡ Some x → (m : Bindings) → held_tree c m (ty.World w) ≡ sides_tree c (world_sides x)

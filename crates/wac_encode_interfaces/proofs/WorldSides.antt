-- The tree of a world is the tree of the component type with its sides.
use Rattle.std.proofs.Common.{◌≡◌, [], ◌++◌, Some, None, ap, sym, ◌∙◌}
use Rattle.std.proofs.lemmas.List.{append-nil}
use Rattle.wac_types_shapes.specs.primitives.Name.{first_some}
use Rattle.wac_types_shapes.specs.primitives.Tree.{imported, exported, component, moved}
use Rattle.wac_types_shapes.specs.declared.shapes.component.World.{World}
use Rattle.wac_types_shapes.specs.declared.shapes.component.WorldId.{WorldId}
use Rattle.wac_types_shapes.specs.declared.shapes.component.«Type».TheVariants as ty
use Rattle.wac_types_collection.specs.collection.Collection.{Collection, IsWellFormed, item_at}
use Rattle.wac_types_collection.specs.collection.Held.{items_under, world_tree}
use Rattle.wac_types_collection.specs.collection.Bound.{Bindings, first_bound, bound_by_imports, bound_in_world, by_place, held_tree}
use Rattle.wac_encode_stacks.specs.Good.{IsHeld}
use Rattle.wac_encode_stacks.proofs.Moved.{changed, held-moves}
use Rattle.wac_encode_stacks.proofs.Whole.{world-step}
use Rattle.wac_encode_faults.specs.Sides.{world_sides, import_bindings, export_bindings}
use Rattle.wac_encode_faults.specs.Trees.{item_trees, sides_tree}
use Rattle.wac_encode_interfaces.specs.private.WorldTrees.{IsTreeOfItsSides}

imports-same : (c : Collection) (x : World) → import_bindings c (world_sides x) ≡ bound_by_imports c x
imports-same c x = ap (first_bound c x.uses imported) (append-nil x.imports)

exports-same : (c : Collection) (x : World) → export_bindings c (world_sides x) ≡ bound_in_world c x
exports-same c x = ap {B = Bindings} (λ (b : Bindings) r. first_some (b r) (first_bound c x.uses exported x.exports r)) (imports-same c x)

sides-step : (c : Collection) (x : World) → sides_tree c (world_sides x) ≡ world_tree (by_place c) c (held_tree c) (λ r. None) x
sides-step c x =
    let m = import_bindings c (world_sides x) in
    let imports : items_under (item_trees c m imported x.imports ++ []) ≡ items_under (item_trees c (bound_by_imports c x) imported x.imports) =
    ap items_under (append-nil (item_trees c m imported x.imports)) ∙ ap (λ (b : Bindings). items_under (item_trees c b imported x.imports)) (imports-same c x) in
    let exports : items_under (item_trees c (export_bindings c (world_sides x)) exported x.exports) ≡ items_under (item_trees c (bound_in_world c x) exported x.exports) =
    ap (λ (b : Bindings). items_under (item_trees c b exported x.exports)) (exports-same c x) in
    (λ i. component (imports i) (exports i))

pub world_tree_of_sides : IsTreeOfItsSides
world_tree_of_sides c wf w x at m = world-step c wf w x at m ∙ sym (sides-step c x)

-- so nothing around changes it
pub world-held : (c : Collection) → IsWellFormed c → (w : WorldId) (x : World) → item_at c.worlds w.0 ≡ Some x → (m : Bindings) → IsHeld c m (ty.World w) (sides_tree c (world_sides x))
world-held c wf w x at m f m' carries =
    world_tree_of_sides c wf w x at m' ∙ sym (world_tree_of_sides c wf w x at (changed f m)) ∙ sym (held-moves c f m (ty.World w)) ∙ ap (moved f) (world_tree_of_sides c wf w x at m)

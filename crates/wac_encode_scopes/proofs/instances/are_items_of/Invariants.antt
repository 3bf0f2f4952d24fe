use Rattle.std.specs.Prelude.{ℕ, ◌≡◌, ◌<◌, true, Some, slice_get}
use Rattle.wac_types_shapes.specs.primitives.Name.{Name}
use Rattle.wac_types_shapes.specs.declared.shapes.component.DefinedTypeId.{DefinedTypeId}
use Rattle.wac_types_shapes.specs.declared.shapes.component.ItemKind.{ItemKind}
use Rattle.wac_encode_scopes.specs.private.Closed.{is_closed_in}
use Rattle.wac_encode_scopes.specs.private.Telling.{definition_in}
use Rattle.wac_encode_scopes.proofs.instances.are_items_of.Given as goal

abbrev pub invariant-loop-i : goal.invariant-loop-i
invariant-loop-i l = (j : ℕ) (e : Name × ItemKind) (d : DefinedTypeId) → j < l.i → slice_get l.fn.interface.exports j ≡ Some e → definition_in l.fn.types e ≡ Some d → is_closed_in l.fn.closed d ≡ true

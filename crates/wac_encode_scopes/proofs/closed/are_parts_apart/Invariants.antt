use Rattle.std.specs.Prelude.{ℕ, ◌≡◌, ◌<◌, ◌-◌, true, Some, slice_get, length}
use Rattle.wac_types_shapes.specs.declared.shapes.component.ValueType.{ValueType}
use Rattle.wac_encode_scopes.specs.private.Parts.{parts}
use Rattle.wac_encode_scopes.specs.private.Bits.{apart_value_bit}
use Rattle.wac_encode_scopes.specs.private.Telling.{is_one_of}
use Rattle.wac_encode_scopes.proofs.closed.are_parts_apart.Given as goal

abbrev pub invariant-loop-part : goal.invariant-loop-part
invariant-loop-part l = (k : ℕ) (v : ValueType) → k < l.next → slice_get (parts l.definition) k ≡ Some (Some v) → apart_value_bit l.types (is_one_of l.these.keys) l.apart v ≡ true

abbrev pub decreases-loop-part : goal.decreases-loop-part
decreases-loop-part l = length (parts l.definition) - l.next

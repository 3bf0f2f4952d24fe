use Rattle.std.proofs.Common.{Contains}
use Rattle.wac_types_shapes.specs.primitives.Name.{Name}
use Rattle.wac_types_shapes.specs.declared.shapes.component.UsedType.{UsedType}
use Rattle.wac_encode_faults.proofs.Dependencies.{AllBefore}
use Rattle.wac_encode_faults.proofs.unlisted.uses_other.Given as goal

abbrev pub invariant-loop-i : goal.invariant-loop-i
invariant-loop-i l = AllBefore (λ (e : Name × UsedType). Contains l.fn.listed.keys e.1.interface) l.fn.uses l.i

use Rattle.wac_types_shapes.specs.declared.shapes.component.ModuleTypeId.{ModuleTypeId}
use Rattle.std.proofs.Common.{◌≡◌}
use Rattle.wac_types_shapes.specs.declared.shapes.component.«Type».TheVariants as ty
use Rattle.wac_encode_faults.proofs.Dependencies.{AllBefore}
use Rattle.wac_encode_faults.proofs.component.has_module_type.Given as goal

abbrev pub invariant-loop-i : goal.invariant-loop-i
invariant-loop-i l = AllBefore (λ t. (m : ModuleTypeId) → t ≡ ty.Module m → ⊥) l.fn.found.keys l.i

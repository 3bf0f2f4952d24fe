use Rattle.std.proofs.Common.{◌≡◌, ℕ, suc, ◌-◌, length, Some}
use Rattle.wac_types_shapes.specs.declared.shapes.component.WorldId.{WorldId}
use Rattle.wac_types_shapes.specs.declared.shapes.component.«Type».TheVariants as ty
use Rattle.wac_merge_classes.specs.entries.Scopes.{number_of}
use Rattle.wac_merge_agreement.proofs.agreement.compared.put_number.Given as goal

abbrev pub invariant-loop-known : goal.invariant-loop-known
invariant-loop-known l = (v : WorldId) (k : ℕ) → number_of l.known.items (ty.World v) ≡ Some k → number_of l.initial.known.items (ty.World v) ≡ Some k

abbrev pub decreases-loop-known : goal.decreases-loop-known
decreases-loop-known l = suc l.id.0 - length l.known.items

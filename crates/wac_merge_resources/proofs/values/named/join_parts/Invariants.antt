use Rattle.std.proofs.Common.{◌≡◌, ℕ, ◌<◌, Some, slice_get}
use Rattle.wac_merge_classes.specs.declared.terms.parts.Part.{Part}
use Rattle.wac_merge_resources.specs.values.NamedTypes.{AreAllOne, IsListedBy, IsUnited, JoinsAlong, StayOne}
use Rattle.wac_merge_resources.proofs.values.named.join_parts.Given as goal

abbrev pub invariant-loop-p : goal.invariant-loop-p
invariant-loop-p l = record {
  stay : StayOne l.initial.named l.named;
  one : (q : ℕ) (x : Part) → q < l.p → slice_get l.parts q ≡ Some x → AreAllOne (IsListedBy l.types l.unions x) l.named;
  along : JoinsAlong (IsUnited l.types l.unions l.parts) l.initial.named l.named;
}

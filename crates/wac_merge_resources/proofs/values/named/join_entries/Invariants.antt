use Rattle.std.proofs.Common.{◌≡◌, ℕ, ◌<◌, Some, slice_get}
use Rattle.wac_merge_classes.specs.entries.Classes.{Entry}
use Rattle.wac_merge_resources.specs.values.NamedTypes.{AreAllOne, IsAskedWith, IsClassed, JoinsAlong, StayOne, class_value}
use Rattle.wac_merge_resources.proofs.values.named.join_entries.Given as goal

abbrev pub invariant-loop-i : goal.invariant-loop-i
invariant-loop-i l = record {
  stay : StayOne l.initial.named l.named;
  one : (j : ℕ) (e : Entry) → j < l.i → slice_get l.entries j ≡ Some e → AreAllOne (IsAskedWith l.types e.kind (class_value l.types l.entries l.numbers l.positions j)) l.named;
  along : JoinsAlong (IsClassed l.types l.entries l.numbers l.positions) l.initial.named l.named;
}

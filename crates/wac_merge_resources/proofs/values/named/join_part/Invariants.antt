use Rattle.std.proofs.Common.{◌≡◌, ℕ, ◌<◌, Some, slice_get}
use Rattle.wac_types_shapes.specs.primitives.Name.{Name}
use Rattle.wac_types_shapes.specs.declared.shapes.component.ItemKind.{ItemKind}
use Rattle.wac_merge_resources.specs.values.NamedTypes.{AreAllOne, IsListedIn, IsListedWith, JoinsAlong, StayOne}
use Rattle.wac_merge_resources.proofs.values.named.join_part.Given as goal

abbrev pub invariant-loop-i : goal.invariant-loop-i
invariant-loop-i l = record {
  stay : StayOne l.initial.named l.named;
  one : (j : ℕ) (n : Name) (k : ItemKind) → j < l.i → slice_get l.exports j ≡ Some (n, k) → AreAllOne (IsListedWith l.types l.union.exports n k) l.named;
  along : JoinsAlong (IsListedIn l.types l.union.exports l.exports) l.initial.named l.named;
}

use Rattle.std.proofs.Common.{◌≡◌, ℕ, List, [], length, slice_get, Some}
use Rattle.wac_types_shapes.specs.primitives.Tree.{Leaf}
use Rattle.wac_types_shapes.specs.declared.shapes.component.ResourceId.{ResourceId}
use Rattle.wac_merge_classes.proofs.entries.bindings.unbound.Given as goal

abbrev pub invariant-loop : goal.invariant-loop
invariant-loop l = record { counted : length l.classes.items ≡ l.counter; empty : (k : ℕ) (m : List (ResourceId × Leaf)) → slice_get l.classes.items k ≡ Some m → m ≡ [] }

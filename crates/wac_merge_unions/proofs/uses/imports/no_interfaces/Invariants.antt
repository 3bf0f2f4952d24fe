use Rattle.std.proofs.Common.{◌≡◌, ℕ, List, [], length, map, slice_get, Some}
use Rattle.wac_types_shapes.specs.declared.shapes.component.InterfaceId.{InterfaceId}
use Rattle.wac_merge_unions.proofs.uses.imports.no_interfaces.Given as goal

abbrev pub invariant-loop : goal.invariant-loop
invariant-loop l = record { counted : length l.lists.items ≡ l.counter; empty : (k : ℕ) (is : List InterfaceId) → slice_get (map (λ is. is.items) l.lists.items) k ≡ Some is → is ≡ [] }

-- How many bytes are added to the items of the root. Only lower layers of the graph use these definitions.
use Rattle.std.specs.Prelude.{ℕ, ◌+◌, ◌^◌, ◌≡◌, ◌≤◌, ◌<◌, List, Result, Ok, Err}
use Rattle.std.specs.List.{AllByRecursion, sum_by}
use Rattle.wac_types_shapes.specs.primitives.Name.{Name}
use Rattle.wac_binary.specs.declared.fault.BinaryFault.{BinaryFault}
use Rattle.wac_binary.specs.declared.fault.BinaryFault.TheVariants as fault
use Rattle.wac_binary.specs.declared.sorts.Sort.{Sort}
use Rattle.wac_binary.specs.Items.{Item}
use Rattle.wac_encode_stacks.specs.private.Sizes.{item_size}
use Rattle.wac_graph_model.specs.declared.causes.errors.EncodeError.{EncodeError}
use Rattle.wac_graph_model.specs.declared.causes.errors.EncodeError.TheVariants as error

-- The bytes of items, each with the head of a section.
abbrev pub items_size : List Item → ℕ
items_size items = sum_by item_size items

-- At most n bytes are added. If the error is `TooLarge`, the items with n bytes more come to 2 ^ 32 or more.
abbrev pub AddsWithin : {T : Type 0} → ℕ → List Item → List Item → Result T EncodeError → Type 0
AddsWithin n old new (Ok x) = items_size new ≤ items_size old + n
AddsWithin n old new (Err e) = e ≡ error.TooLarge → 2 ^ 32 ≤ items_size old + n

-- A fault that is `TooLarge` if and only if P does not hold.
abbrev pub FaultUnless : BinaryFault → Type 0 → Type 0
FaultUnless fault.TooLarge P = P → ⊥
FaultUnless fault.OutOfMemory P = P

-- The named indexes fit in 32 bits.
abbrev pub AreShortNames : List (Sort × ℕ × Name) → Type 0
AreShortNames names = AllByRecursion (λ e. e.1 < 2 ^ 32) names

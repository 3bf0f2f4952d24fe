use Rattle.std.proofs.Common.{◌≡◌, ℕ, [], length, slice_get, Some}
use Rattle.wac_merge_imports.specs.private.unions.BoundNames.{NameSet}
use Rattle.wac_merge_imports.proofs.unions.bound.no_names.Given as goal

abbrev pub invariant-loop : goal.invariant-loop
invariant-loop l = record { counted : length l.all.items ≡ l.counter; empty : (k : ℕ) (ns : NameSet) → slice_get l.all.items k ≡ Some ns → ns ≡ [] }

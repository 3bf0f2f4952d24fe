use Rattle.std.proofs.Common.{◌+◌, ◌≤◌, ◌-◌, length}
use Rattle.wac_encode_faults.specs.private.Owners.{IsListedTo, AddsNumbers}
use Rattle.wac_encode_faults.proofs.owners.note_suppliers.Given as goal

abbrev pub invariant-loop-number : goal.invariant-loop-number
invariant-loop-number l = record {
  low : l.fn.first ≤ l.number;
  high : l.number ≤ l.fn.first + length l.fn.items;
  added : AddsNumbers (IsListedTo l.fn.types l.fn.first l.fn.items (l.number - l.fn.first)) l.initial.suppliers.entries l.suppliers.entries;
}

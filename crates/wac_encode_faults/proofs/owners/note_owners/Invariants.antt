use Rattle.std.proofs.Common.{◌≤◌, ◌-◌, take}
use Rattle.wac_encode_faults.specs.private.Owners.{group_of, AddsOwners}
use Rattle.wac_encode_faults.proofs.owners.note_owners.Given as goal

abbrev pub invariant-loop-number : goal.invariant-loop-number
invariant-loop-number l = record {
  low : l.fn.first ≤ l.number;
  added : AddsOwners l.fn.types l.fn.uses l.fn.first l.fn.items (group_of l.fn.type_items (take (l.number - l.fn.first) l.fn.items)) l.initial.owners.entries l.owners.entries;
}

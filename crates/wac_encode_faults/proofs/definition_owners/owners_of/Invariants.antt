use Rattle.std.proofs.Common.{ℕ, take, ◌↔◌}
use Rattle.wac_edges.specs.private.cycles.Numbers.{Has}
use Rattle.wac_encode_faults.specs.Cycle.{owner_of}
use Rattle.wac_encode_faults.proofs.Steps.{HasNumber}
use Rattle.wac_encode_faults.proofs.definition_owners.owners_of.Given as goal

abbrev pub invariant-loop-i : goal.invariant-loop-i
invariant-loop-i l = (b : ℕ) → Has l.numbers.keys b ↔ HasNumber (owner_of l.fn.owners.entries) 0 (take l.i l.fn.free.keys) b

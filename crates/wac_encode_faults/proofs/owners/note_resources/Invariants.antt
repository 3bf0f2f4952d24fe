use Rattle.std.proofs.Common.{take, Contains}
use Rattle.wac_encode_faults.specs.Cycle.{owner_of}
use Rattle.wac_encode_faults.specs.private.Owners.{AreNoted}
use Rattle.wac_encode_faults.proofs.owners.note_resources.Given as goal

abbrev pub invariant-loop-i : goal.invariant-loop-i
invariant-loop-i l = AreNoted (Contains (take l.i l.fn.resources.keys)) l.fn.number (owner_of l.initial.owners.entries) (owner_of l.owners.entries)

use Rattle.wac_encode_faults.specs.private.DefinitionOwners.{AreDefinitionOwners}
use Rattle.wac_encode_faults.proofs.definition_owners.note_types.Given as goal

abbrev pub invariant-loop-i : goal.invariant-loop-i
invariant-loop-i l = AreDefinitionOwners l.fn.types l.fn.owners.entries l.known.entries

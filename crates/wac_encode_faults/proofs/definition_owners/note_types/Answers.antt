use Rattle.std.proofs.Common.{arith}
use Rattle.std.proofs.lemmas.Option.{slice_get-get_or}
use Rattle.wac_types_collection.proofs.lemmas.reach.Lists.{in_at}
use Rattle.wac_encode_faults.proofs.definition_owners.note_types.Goals as goal

pub note_type-requires-clause-held : goal.note_type-requires-clause-held
note_type-requires-clause-held c = let less = c.loop-i-test.true in c.requires.held _ (in_at _ c.args.found.now c.loop-i.i (slice_get-get_or c.args.found.now c.loop-i.i _ (omega (arith, less))))

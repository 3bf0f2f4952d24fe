use Rattle.std.proofs.Common.{arith}
use Rattle.std.proofs.lemmas.Option.{slice_get-get_or}
use Rattle.wac_types_collection.proofs.lemmas.reach.Lists.{in_at}
use Rattle.wac_encode_faults.specs.private.DefinitionOwners.{IsOwnerOfType}
use Rattle.wac_encode_faults.proofs.OwnedSteps.{ones_first, ones_next, ones_all}
use Rattle.wac_encode_faults.proofs.cycle.add_steps_of_parts.Goals as goal

pub loop-i-init : goal.loop-i-init
loop-i-init c = ones_first (IsOwnerOfType c.args.types.now c.args.owners.now.entries) c.args.from c.args.found.now c.args.targets.now

pub add_steps_of_part-requires-clause-held : goal.add_steps_of_part-requires-clause-held
add_steps_of_part-requires-clause-held c = let less = c.loop-i-test.true in c.requires.held _ (in_at _ c.args.found.now c.loop-i.i (slice_get-get_or c.args.found.now c.loop-i.i _ (omega (arith, less))))

pub loop-i-preserved : goal.loop-i-preserved
loop-i-preserved c =
    let less = c.loop-i-test.true in
    ones_next (IsOwnerOfType c.args.types.now c.args.owners.now.entries) c.args.from c.args.found.now c.loop-i.i _ c.args.targets.now c.loop-i.targets c.add_steps_of_part.new.targets (slice_get-get_or c.args.found.now c.loop-i.i _ (omega (arith, less))) c.loop-i.invariant c.in_ok-add_steps_of_part.ensures

pub returns : goal.returns
returns c =
    let past = c.loop-i-test.false in
    ones_all (IsOwnerOfType c.args.types.now c.args.owners.now.entries) c.args.from c.args.found.now c.loop-i.i c.args.targets.now c.loop-i.targets (omega (arith, past)) c.loop-i.invariant

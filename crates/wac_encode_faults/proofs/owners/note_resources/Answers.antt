use Rattle.std.proofs.Common.{arith}
use Rattle.wac_encode_faults.specs.Cycle.{owner_of}
use Rattle.wac_encode_faults.proofs.Owning.{noted_first, noted_next, noted_all}
use Rattle.wac_encode_faults.proofs.owners.note_resources.Goals as goal

pub loop-i-init : goal.loop-i-init
loop-i-init c = noted_first c.args.resources.now.keys c.args.number (owner_of c.args.owners.now.entries)

pub resource_at-resource-requires : goal.resource_at-resource-requires
resource_at-resource-requires c = let l = c.len-i-end.ensures.len in let t = c.loop-i-test.true in omega (arith, l, t)

pub loop-i-preserved : goal.loop-i-preserved
loop-i-preserved c =
    noted_next c.args.resources.now.keys c.loop-i.i c.args.number c.resource_at-resource.result (owner_of c.args.owners.now.entries) (owner_of c.loop-i.owners.entries) (owner_of c.note_owner.new.owners.entries)
    c.resource_at-resource.ensures c.loop-i.invariant c.in_ok-note_owner.ensures

pub returns : goal.returns
returns c =
    let past = c.loop-i-test.false in
    let counted = c.len-i-end.ensures.len in
    noted_all c.args.resources.now.keys c.loop-i.i c.args.number (owner_of c.args.owners.now.entries) (owner_of c.loop-i.owners.entries) (omega (arith, past, counted)) c.loop-i.invariant

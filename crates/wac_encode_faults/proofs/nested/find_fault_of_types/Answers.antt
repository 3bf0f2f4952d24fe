use Rattle.std.proofs.Common.{arith}
use Rattle.wac_types_collection.proofs.lemmas.reach.Lists.{in_at}
use Rattle.wac_encode_faults.proofs.NestedFaults.{lowest_first, lowest_next, lowest_all}
use Rattle.wac_encode_faults.proofs.nested.find_fault_of_types.Goals as goal

pub loop-i-init : goal.loop-i-init
loop-i-init c = lowest_first c.args.types.now c.args.scopes.now.keys

pub type_at-ty-requires : goal.type_at-ty-requires
type_at-ty-requires c = let l = c.len-i-end.ensures.len in let t = c.loop-i-test.true in omega (arith, l, t)

pub find_type_fault-requires : goal.find_type_fault-requires
find_type_fault-requires c = c.requires c.type_at-ty.result (in_at c.type_at-ty.result c.args.scopes.now.keys c.loop-i.i c.type_at-ty.ensures)

pub loop-i-preserved : goal.loop-i-preserved
loop-i-preserved c =
    lowest_next c.args.types.now c.args.scopes.now.keys c.loop-i.i c.type_at-ty.result c.loop-i.lowest c.in_ok-fault.fault c.lower-lowest.result c.type_at-ty.ensures c.loop-i.invariant c.in_ok-fault.ensures c.lower-lowest.ensures

pub returns : goal.returns
returns c =
    let past = c.loop-i-test.false in
    let counted = c.len-i-end.ensures.len in
    lowest_all c.args.types.now c.args.scopes.now.keys c.loop-i.i c.loop-i.lowest (omega (arith, past, counted)) c.loop-i.invariant

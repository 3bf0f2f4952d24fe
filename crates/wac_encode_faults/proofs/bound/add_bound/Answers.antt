use Rattle.std.proofs.Common.{arith}
use Rattle.wac_types_collection.proofs.lemmas.wide.Members.{at_in}
use Rattle.wac_encode_faults.proofs.Binding.{bound_first, bound_more, bound_all}
use Rattle.wac_encode_faults.proofs.bound.add_bound.Goals as goal

pub loop-i-init : goal.loop-i-init
loop-i-init c = bound_first c.args.types.now c.args.uses.now c.args.items.now c.args.found.now.keys

pub add_bound_by-requires : goal.add_bound_by-requires
add_bound_by-requires c = c.requires _ (at_in c.args.items.now c.loop-i.i _ c.entry_at.ensures)

pub loop-i-preserved : goal.loop-i-preserved
loop-i-preserved c =
    bound_more c.args.types.now c.args.uses.now c.args.items.now c.loop-i.i _ c.args.found.now.keys c.loop-i.found.keys c.add_bound_by.new.found.keys c.entry_at.ensures c.loop-i.invariant c.in_ok-add_bound_by.ensures

pub returns : goal.returns
returns c =
    let past = c.loop-i-test.false in
    let counted = c.len-i-end.ensures in
    bound_all c.args.types.now c.args.uses.now c.args.items.now c.loop-i.i c.args.found.now.keys c.loop-i.found.keys (omega (arith, past, counted)) c.loop-i.invariant

use Rattle.std.proofs.Common.{arith}
use Rattle.wac_types_collection.proofs.lemmas.wide.Members.{at_in}
use Rattle.wac_encode_faults.proofs.Binding.{with_own_first, with_own_more, with_own_all}
use Rattle.wac_encode_faults.proofs.bound.add_own.Goals as goal

pub loop-i-init : goal.loop-i-init
loop-i-init c = with_own_first c.args.types.now c.args.interface.now.uses c.args.interface.now.exports c.args.found.now.keys

pub own_resource-requires : goal.own_resource-requires
own_resource-requires c = c.requires _ (at_in c.args.interface.now.exports c.loop-i.i _ c.entry_at.ensures)

pub loop-i-preserved : goal.loop-i-preserved
loop-i-preserved c =
    with_own_more c.args.types.now c.args.interface.now.uses c.args.interface.now.exports c.loop-i.i _ c.own_resource.result c.args.found.now.keys c.loop-i.found.keys c.add_one.new.found.keys c.entry_at.ensures
    c.own_resource.ensures c.loop-i.invariant c.in_ok-add_one.ensures

pub returns : goal.returns
returns c =
    let past = c.loop-i-test.false in
    let counted = c.len-i-end.ensures in
    with_own_all c.args.types.now c.args.interface.now.uses c.args.interface.now.exports c.loop-i.i c.args.found.now.keys c.loop-i.found.keys (omega (arith, past, counted)) c.loop-i.invariant

use Rattle.std.proofs.Common.{arith}
use Rattle.wac_graph.specs.private.Bound.{IsBoundIn, IsResourceUnder}
use Rattle.wac_graph.proofs.BoundLemmas.{adds_first, adds_next, adds_all}
use Rattle.wac_graph.proofs.bound.add_items.Goals as goal

pub loop-i-init : goal.loop-i-init
loop-i-init c = adds_first IsResourceUnder (IsBoundIn c.args.merge.now) c.args.items.now c.args.bound.now.keys

pub loop-i-preserved : goal.loop-i-preserved
loop-i-preserved c =
    adds_next IsResourceUnder (IsBoundIn c.args.merge.now) c.args.items.now c.args.bound.now.keys c.loop-i.i _ c.loop-i.bound.keys c.add_item.new.bound.keys c.entry_at.ensures c.loop-i.invariant c.in_ok-add_item.ensures

pub returns : goal.returns
returns c =
    let past = c.loop-i-test.false in
    let counted = c.len-i-end.ensures in
    adds_all IsResourceUnder (IsBoundIn c.args.merge.now) c.args.items.now c.args.bound.now.keys c.loop-i.i c.loop-i.bound.keys (omega (arith, past, counted)) c.loop-i.invariant

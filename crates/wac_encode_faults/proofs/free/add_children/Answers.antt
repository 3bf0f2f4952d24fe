use Rattle.std.proofs.Common.{arith}
use Rattle.wac_encode_faults.proofs.FreeSets.{taken_first, taken_more, taken_added}
use Rattle.wac_encode_faults.proofs.free.add_children.Goals as goal

pub loop-i-init : goal.loop-i-init
loop-i-init c = taken_first c.args.roots.now.keys c.args.last.now.entries c.args.children.now.keys c.args.position c.args.sets.now.entries c.args.found.now.keys

pub interface_at-child-requires : goal.interface_at-child-requires
interface_at-child-requires c = let l = c.len-i-end.ensures.len in let t = c.loop-i-test.true in omega (arith, l, t)

pub loop-i-preserved : goal.loop-i-preserved
loop-i-preserved c =
    taken_more c.args.roots.now.keys c.args.last.now.entries c.args.children.now.keys c.args.position c.loop-i.i c.interface_at-child.result c.args.sets.now.entries c.loop-i.sets.entries c.add_child.new.sets.entries
    c.args.found.now.keys c.loop-i.found.keys c.add_child.new.found.keys c.is_needed-needed.result c.len-i-end.ensures.unique c.interface_at-child.ensures c.is_needed-needed.ensures.asked c.is_needed-needed.ensures.last
    c.in_ok-add_child.ensures.added c.in_ok-add_child.ensures.kept c.loop-i.invariant

pub returns-clause-added : goal.returns-clause-added
returns-clause-added c =
    let past = c.loop-i-test.false in
    let counted = c.len-i-end.ensures.len in
    taken_added c.args.children.now.keys c.loop-i.i c.args.sets.now.entries c.args.found.now.keys c.loop-i.found.keys (omega (arith, past, counted)) c.loop-i.invariant.added

pub returns-clause-kept : goal.returns-clause-kept
returns-clause-kept c = c.loop-i.invariant.kept

use Rattle.std.proofs.Common.{arith}
use Rattle.wac_encode_faults.proofs.Binding.{copied_first, copied_more, copied_all}
use Rattle.wac_encode_faults.proofs.unbound.copy_sets.Goals as goal

pub loop-i-init : goal.loop-i-init
loop-i-init c = copied_first c.args.sets.now.entries c.args.interfaces.now.keys c.args.found.now.keys

pub interface_at-id-requires : goal.interface_at-id-requires
interface_at-id-requires c = let l = c.len-i-end.ensures.len in let t = c.loop-i-test.true in omega (arith, l, t)

pub loop-i-preserved : goal.loop-i-preserved
loop-i-preserved c =
    copied_more c.args.sets.now.entries c.args.interfaces.now.keys c.loop-i.i c.interface_at-id.result c.args.found.now.keys c.loop-i.found.keys c.copy_set.new.found.keys c.interface_at-id.ensures c.loop-i.invariant c.in_ok-copy_set.ensures

pub returns : goal.returns
returns c =
    let past = c.loop-i-test.false in
    let counted = c.len-i-end.ensures.len in
    copied_all c.args.sets.now.entries c.args.interfaces.now.keys c.loop-i.i c.args.found.now.keys c.loop-i.found.keys (omega (arith, past, counted)) c.loop-i.invariant

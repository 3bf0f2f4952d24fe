use Rattle.std.proofs.Common.{arith}
use Rattle.wac_encode_faults.proofs.Entries.{noted_first, noted_next, noted_all, others_all}
use Rattle.wac_encode_faults.proofs.readers.note_all.Goals as goal

pub loop-i-init : goal.loop-i-init
loop-i-init c = noted_first c.args.interfaces.now.keys c.args.position c.args.last.now.entries

pub interface_at-id-requires : goal.interface_at-id-requires
interface_at-id-requires c = let l = c.len-i-end.ensures.len in let t = c.loop-i-test.true in omega (arith, l, t)

pub loop-i-preserved : goal.loop-i-preserved
loop-i-preserved c =
    noted_next c.args.interfaces.now.keys c.args.position c.loop-i.i c.interface_at-id.result c.args.last.now.entries c.loop-i.last.entries c.insert.new.self.entries c.interface_at-id.ensures
    c.in_ok-insert.ensures.updates.0 c.loop-i.invariant

pub returns-clause-noted : goal.returns-clause-noted
returns-clause-noted c =
    let past = c.loop-i-test.false in
    let counted = c.len-i-end.ensures.len in
    noted_all c.args.interfaces.now.keys c.args.position c.loop-i.i c.args.last.now.entries c.loop-i.last.entries (omega (arith, past, counted)) c.loop-i.invariant

pub returns-clause-others : goal.returns-clause-others
returns-clause-others c =
    let past = c.loop-i-test.false in
    let counted = c.len-i-end.ensures.len in
    others_all c.args.interfaces.now.keys c.args.position c.loop-i.i c.args.last.now.entries c.loop-i.last.entries (omega (arith, past, counted)) c.loop-i.invariant

use Rattle.std.proofs.Common.{arith}
use Rattle.wac_types_collection.proofs.lemmas.wide.Members.{at_in}
use Rattle.wac_encode_faults.proofs.Entries.{last_next}
use Rattle.wac_encode_faults.proofs.readers.last_readers.Goals as goal

pub loop-position-init : goal.loop-position-init
loop-position-init c = λ q j l h. absurd (omega (arith, l))

pub interface_at-id-requires : goal.interface_at-id-requires
interface_at-id-requires c = let l = c.len-position-end.ensures.len in let t = c.loop-position-test.true in omega (arith, l, t)

pub find_children-requires : goal.find_children-requires
find_children-requires c = c.requires c.interface_at-id.result (at_in c.args.order.now.keys c.loop-position.position c.interface_at-id.result c.interface_at-id.ensures)

pub loop-position-preserved : goal.loop-position-preserved
loop-position-preserved c =
    last_next c.args.types.now c.args.order.now.keys c.in_ok-children.children.keys c.loop-position.position c.interface_at-id.result c.loop-position.last.entries c.note_all.new.last.entries c.interface_at-id.ensures c.in_ok-children.ensures
    c.in_ok-note_all.ensures.noted c.in_ok-note_all.ensures.others c.loop-position.invariant

pub returns : goal.returns
returns c = λ q j l h. c.loop-position.invariant q j (let past = c.loop-position-test.false in let counted = c.len-position-end.ensures.len in omega (arith, l, past, counted)) h

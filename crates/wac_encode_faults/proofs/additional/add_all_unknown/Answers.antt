use Rattle.std.proofs.Common.{ap, sym, ◌∙◌, ◌+◌, arith, drop}
use Rattle.std.proofs.lemmas.List.{drop_all}
use Rattle.wac_types_collection.specs.wide.Wide.{with_each}
use Rattle.wac_encode_faults.specs.Sides.{without}
use Rattle.wac_encode_faults.proofs.Needed.{drop_here, unknown_next}
use Rattle.wac_encode_faults.proofs.additional.add_all_unknown.Goals as goal

pub interface_at-id-requires : goal.interface_at-id-requires
interface_at-id-requires c = let l = c.len-i-end.ensures.len in let t = c.loop-i-test.true in omega (arith, l, t)

pub loop-i-preserved : goal.loop-i-preserved
loop-i-preserved c =
    unknown_next c.args.known.now.keys (drop c.loop-i.i c.args.interfaces.now.keys) (drop (c.loop-i.i + 1) c.args.interfaces.now.keys) c.args.found.now.keys c.loop-i.found.keys c.add_unknown.new.found.keys c.interface_at-id.result
    (drop_here c.args.interfaces.now.keys c.loop-i.i c.interface_at-id.result c.interface_at-id.ensures) c.in_ok-add_unknown.ensures _ c.loop-i.invariant

pub returns : goal.returns
returns c =
    let past = c.loop-i-test.false in
    let counted = c.len-i-end.ensures.len in
    sym (ap (λ xs. with_each c.loop-i.found.keys (without c.args.known.now.keys xs)) (drop_all c.loop-i.i c.args.interfaces.now.keys (omega (arith, past, counted)))) ∙ c.loop-i.invariant

use Rattle.std.proofs.Common.{ap, sym, ◌∙◌, ◌+◌, arith, drop}
use Rattle.std.proofs.lemmas.List.{drop_all}
use Rattle.wac_types_collection.specs.wide.Wide.{with_each, used_interfaces}
use Rattle.wac_encode_faults.specs.Sides.{without}
use Rattle.wac_encode_faults.proofs.Needed.{used_next, unknown_next}
use Rattle.wac_encode_faults.proofs.additional.add_unknown_uses.Goals as goal

pub loop-i-preserved : goal.loop-i-preserved
loop-i-preserved c =
    unknown_next c.args.known.now.keys (used_interfaces (drop c.loop-i.i c.args.uses.now)) (used_interfaces (drop (c.loop-i.i + 1) c.args.uses.now)) c.args.found.now.keys c.loop-i.found.keys c.add_unknown.new.found.keys c.value_at.result.now.interface
    (used_next c.args.uses.now c.loop-i.i c.value_at.result.now c.value_at.ensures) c.in_ok-add_unknown.ensures _ c.loop-i.invariant

pub returns : goal.returns
returns c =
    let past = c.loop-i-test.false in
    let counted = c.len-i-end.ensures in
    sym (ap (λ xs. with_each c.loop-i.found.keys (without c.args.known.now.keys (used_interfaces xs))) (drop_all c.loop-i.i c.args.uses.now (omega (arith, past, counted)))) ∙ c.loop-i.invariant

use Rattle.std.proofs.Common.{ap, sym, ◌∙◌, arith}
use Rattle.std.proofs.lemmas.List.{drop_all}
use Rattle.wac_types_collection.specs.wide.Wide.{with_each}
use Rattle.wac_encode_faults.specs.private.Binding.{interfaces_alone}
use Rattle.wac_encode_faults.proofs.TypeItems.{interfaces_next}
use Rattle.wac_encode_faults.proofs.type_items.add_interfaces_alone.Goals as goal

pub loop-i-preserved : goal.loop-i-preserved
loop-i-preserved c = interfaces_next c.args.items.now c.loop-i.i c.value_at.result.now c.loop-i.found.keys c.add_interface_of.new.found.keys _ c.value_at.ensures c.in_ok-add_interface_of.ensures c.loop-i.invariant

pub returns : goal.returns
returns c =
    let past = c.loop-i-test.false in
    let counted = c.len-i-end.ensures in
    sym (ap (λ es. with_each c.loop-i.found.keys (interfaces_alone es)) (drop_all c.loop-i.i c.args.items.now (omega (arith, past, counted)))) ∙ c.loop-i.invariant

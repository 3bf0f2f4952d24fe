use Rattle.std.proofs.Common.{ap, sym, ◌∙◌, arith}
use Rattle.std.proofs.lemmas.List.{drop_all}
use Rattle.wac_types_collection.specs.wide.Wide.{with_each}
use Rattle.wac_encode_faults.specs.Sides.{listed_interfaces}
use Rattle.wac_types_collection.proofs.lemmas.wide.Members.{at_in}
use Rattle.wac_encode_faults.proofs.Dependencies.{listed_next}
use Rattle.wac_encode_faults.proofs.unlisted.add_listed.Goals as goal

pub add_item-requires : goal.add_item-requires
add_item-requires c = c.requires _ (at_in c.args.items.now c.loop-i.i _ c.entry_at.ensures)

pub loop-i-preserved : goal.loop-i-preserved
loop-i-preserved c = listed_next c.args.types.now c.args.items.now c.loop-i.i _ c.loop-i.listed.keys c.add_item.new.listed.keys c.args.listed.now.keys c.entry_at.ensures c.in_ok-add_item.ensures c.loop-i.invariant

pub returns : goal.returns
returns c =
    let past = c.loop-i-test.false in
    let counted = c.len-i-end.ensures in
    sym (ap (λ xs. with_each c.loop-i.listed.keys (listed_interfaces c.args.types.now xs)) (drop_all c.loop-i.i c.args.items.now (omega (arith, past, counted)))) ∙ c.loop-i.invariant

use Rattle.std.proofs.Common.{◌∙◌, ◌-◌, ap, length}
use Rattle.std.specs.Prelude.{slice_get}
use Rattle.wac_graph_fields.proofs.SlotLemmas.{next_within, next_freed}
use Rattle.wac_graph_fields.proofs.slots.next_id.Goals as goal

pub index-requires : goal.index-requires
index-requires c =
    let within = next_within c.args.slots.now.items c.args.vacant.now.items c.in-Some.number.now c.requires (c.in-Some.ensures.value ∙ ap (λ xs. slice_get xs (length xs - 1)) c.deref.ensures.value) in
    rw c.args.slots.now.ok.0 within

pub returns-in-Some-clause-id : goal.returns-in-Some-clause-id
returns-in-Some-clause-id c =
    rw c.new_package_id.ensures (next_freed c.args.slots.now.items c.args.vacant.now.items c.in-Some.number.now c.index.result.now c.requires (c.in-Some.ensures.value ∙ ap (λ xs. slice_get xs (length xs - 1)) c.deref.ensures.value) c.index.ensures)

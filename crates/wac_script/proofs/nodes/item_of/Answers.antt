use Rattle.std.proofs.Common.{ap, sym, inl, inr, ◌∙◌}
use Rattle.std.proofs.lemmas.Bool.{false≢true}
use Rattle.wac_types_collection.specs.collection.Collection.{holds_type}
use Rattle.wac_script.specs.labels.Things.{things_of}
use Rattle.wac_script.proofs.ReadLemmas.{exit}
use Rattle.wac_script.proofs.nodes.item_of.Goals as goal

pub returns-in_err-item-clause-said : goal.returns-in_err-item-clause-said
returns-in_err-item-clause-said c = exit _ _ c.from_residual.result (c.in_err-item.field-0).0 c.from_residual.ensures.1 c.in_err-item.ensures (λ none. inl none)

pub returns-then-not-contains-clause-said : goal.returns-then-not-contains-clause-said
returns-then-not-contains-clause-said c = inr (inr (c.in_ok-item.item, c.in_ok-item.ensures, λ held. false≢true (sym c.if-not-contains.true ∙ c.contains.ensures ∙ ap (λ t. holds_type t c.ty.result) c.types.ensures ∙ ap (holds_type c.args.graph.now.types) c.ty.ensures ∙ held)))

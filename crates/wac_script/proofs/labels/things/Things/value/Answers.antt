use Rattle.std.proofs.Common.{Some, ap, refl, inr, ◌∙◌}
use Rattle.wac_script.specs.declared.labels.things.Thing.TheVariants as thing
use Rattle.wac_script.specs.labels.Things.{things_of}
use Rattle.wac_script.specs.labels.Values.{primitive, own, borrow, labelled}
use Rattle.wac_script.proofs.LabelLemmas.{other-thing}
use Rattle.wac_script.proofs.ReadLemmas.{exit}
use Rattle.wac_script.proofs.NameLemmas.{no-own, no-borrow, no-value}
use Rattle.wac_script.proofs.labels.things.Things.value.Goals as goal

pub returns-in-Some : goal.returns-in-Some
returns-in-Some c = primitive c.in-Some.primitive c.in-Some.ensures refl

pub returns-in-Some-after_prefix : goal.returns-in-Some-after_prefix
returns-in-Some-after_prefix c = own c.in-Some-after_prefix.label.now c.in_ok-id.id c.in_default.ensures c.in-Some-after_prefix.ensures c.in_ok-id.ensures refl

pub returns-in-Some-after_prefix-2 : goal.returns-in-Some-after_prefix-2
returns-in-Some-after_prefix-2 c = borrow c.in-Some-after_prefix-2.label.now c.in_ok-id-2.id c.in_default.ensures c.in-Some-after_prefix-2.ensures c.in_ok-id-2.ensures refl

pub returns-in-Value : goal.returns-in-Value
returns-in-Value c = labelled c.in_default.ensures c.in_default-after_prefix.ensures c.in_default-after_prefix-2.ensures (c.in_ok-thing.ensures ∙ ap Some c.in-Value.is)

pub returns-in_err-id : goal.returns-in_err-id
returns-in_err-id c = exit _ _ c.from_residual.result (c.in_err-id.field-0).0 c.from_residual.ensures.1 c.in_err-id.ensures (no-own (things_of c.args.self.now) c.args.word.now c.in-Some-after_prefix.label.now c.in_default.ensures c.in-Some-after_prefix.ensures)

pub returns-in_err-id-2 : goal.returns-in_err-id-2
returns-in_err-id-2 c = exit _ _ c.from_residual-in_err-id-2.result (c.in_err-id-2.field-0).0 c.from_residual-in_err-id-2.ensures.1 c.in_err-id-2.ensures (no-borrow (things_of c.args.self.now) c.args.word.now c.in-Some-after_prefix-2.label.now c.in_default.ensures c.in-Some-after_prefix-2.ensures)

pub returns-in_err-thing : goal.returns-in_err-thing
returns-in_err-thing c = exit _ _ c.from_residual-in_err-thing.result (c.in_err-thing.field-0).0 c.from_residual-in_err-thing.ensures.1 c.in_err-thing.ensures (λ none. no-value (things_of c.args.self.now) c.args.word.now c.in_default.ensures c.in_default-after_prefix.ensures c.in_default-after_prefix-2.ensures (λ v h. none (thing.Value v) h))

pub returns-in_default-thing : goal.returns-in_default-thing
returns-in_default-thing c = inr (no-value (things_of c.args.self.now) c.args.word.now c.in_default.ensures c.in_default-after_prefix.ensures c.in_default-after_prefix-2.ensures (other-thing thing.Value (things_of c.args.self.now) c.args.word.now c.in_ok-thing.thing c.in_ok-thing.ensures c.in_default-thing.not-Value))

use Rattle.std.proofs.Common.{Some, Err, ap, inl, inr, refl, subst, sym, ◌∙◌}
use Rattle.wac_types_shapes.specs.declared.shapes.component.DefinedType.TheVariants as defined
use Rattle.wac_types_shapes.specs.shapes.Named.{named_pairs, NoNameTwice, labelled, given_names}
use Rattle.wac_script.specs.lines.Words.{spelled}
use Rattle.wac_script.specs.declared.lines.shapes.Shape.TheVariants as said
use Rattle.wac_script.specs.labels.Things.{things_of}
use Rattle.wac_script.specs.labels.Shapes.{IsShape, HasFieldsOnce}
use Rattle.wac_script.specs.private.Unread.{ReadsSuch}
use Rattle.wac_script.proofs.ReadLemmas.{exit, exit-shape, exit-memory}
use Rattle.wac_script.proofs.labels.things.Things.record.Goals as goal

pub returns : goal.returns
returns c = (named_pairs c.in_ok-fields.fields.items, c.in_ok-fields.ensures, ap defined.Record (c.in_ok-record.ensures.built ∙ ap (λ l. record { fields = named_pairs l }) c.deref.ensures.value))

pub returns-in_err-fields : goal.returns-in_err-fields
returns-in_err-fields c = exit _ _ c.from_residual.result (c.in_err-fields.field-0).0 c.from_residual.ensures.1 c.in_err-fields.ensures (λ none. inl (λ d h. none h.0 h.1))

pub returns-in_err-record : goal.returns-in_err-record
returns-in_err-record c = exit-shape _ _ c.from_residual-in_err-record.result (c.in_err-record.field-0).0 c.from_residual-in_err-record.ensures.1 (λ twice. inr (defined.Record (record { fields = named_pairs c.in_ok-fields.fields.items }), (named_pairs c.in_ok-fields.fields.items, c.in_ok-fields.ensures, refl), subst (λ l. NoNameTwice (named_pairs l) → ⊥) c.deref.ensures.value (c.in_err-record.ensures.name_twice (ap Err twice))))

use Rattle.std.proofs.Common.{Some, Err, ap, inl, inr, refl, subst, sym, ◌∙◌}
use Rattle.wac_types_shapes.specs.declared.shapes.component.DefinedType.TheVariants as defined
use Rattle.wac_types_shapes.specs.shapes.Named.{named_pairs, NoNameTwice, labelled, given_names}
use Rattle.wac_script.specs.lines.Words.{spelled}
use Rattle.wac_script.specs.declared.lines.shapes.Shape.TheVariants as said
use Rattle.wac_script.specs.labels.Things.{things_of}
use Rattle.wac_script.specs.labels.Shapes.{IsShape, HasFieldsOnce}
use Rattle.wac_script.specs.private.Unread.{ReadsSuch}
use Rattle.wac_script.proofs.ReadLemmas.{exit, exit-shape, exit-memory}
use Rattle.wac_script.proofs.labels.things.Things.variant.Goals as goal

pub returns : goal.returns
returns c = (named_pairs c.in_ok-cases.cases.items, c.in_ok-cases.ensures, ap defined.Variant (c.in_ok-variant.ensures.built ∙ ap (λ l. record { cases = named_pairs l }) c.deref.ensures.value))

pub returns-in_err-cases : goal.returns-in_err-cases
returns-in_err-cases c = exit _ _ c.from_residual.result (c.in_err-cases.field-0).0 c.from_residual.ensures.1 c.in_err-cases.ensures (λ none. inl (λ d h. none h.0 h.1))

pub returns-in_err-variant : goal.returns-in_err-variant
returns-in_err-variant c = exit-shape _ _ c.from_residual-in_err-variant.result (c.in_err-variant.field-0).0 c.from_residual-in_err-variant.ensures.1 (λ twice. inr (defined.Variant (record { cases = named_pairs c.in_ok-cases.cases.items }), (named_pairs c.in_ok-cases.cases.items, c.in_ok-cases.ensures, refl), subst (λ l. NoNameTwice (named_pairs l) → ⊥) c.deref.ensures.value (c.in_err-variant.ensures.name_twice (ap Err twice))))

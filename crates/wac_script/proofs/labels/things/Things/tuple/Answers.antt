use Rattle.std.proofs.Common.{Some, Err, ap, inl, inr, refl, subst, sym, ◌∙◌}
use Rattle.wac_types_shapes.specs.declared.shapes.component.DefinedType.TheVariants as defined
use Rattle.wac_types_shapes.specs.shapes.Named.{named_pairs, NoNameTwice, labelled, given_names}
use Rattle.wac_script.specs.lines.Words.{spelled}
use Rattle.wac_script.specs.declared.lines.shapes.Shape.TheVariants as said
use Rattle.wac_script.specs.labels.Things.{things_of}
use Rattle.wac_script.specs.labels.Shapes.{IsShape, HasFieldsOnce}
use Rattle.wac_script.specs.private.Unread.{ReadsSuch}
use Rattle.wac_script.proofs.ReadLemmas.{exit, exit-shape, exit-memory}
use Rattle.wac_script.proofs.labels.things.Things.tuple.Goals as goal

pub returns : goal.returns
returns c = (c.in_ok-values.values.items, c.in_ok-values.ensures, c.in_ok-tuple.ensures ∙ ap defined.Tuple c.deref.ensures.value)

pub returns-in_err-values : goal.returns-in_err-values
returns-in_err-values c = exit _ _ c.from_residual.result (c.in_err-values.field-0).0 c.from_residual.ensures.1 c.in_err-values.ensures (λ none. inl (λ d h. none h.0 h.1))

pub returns-in_err-tuple : goal.returns-in_err-tuple
returns-in_err-tuple c = exit-memory _ _ c.from_residual-in_err-tuple.result c.from_residual-in_err-tuple.ensures.1

use Rattle.std.proofs.Common.{Some, Err, ap, inl, inr, refl, subst, sym, ◌∙◌}
use Rattle.wac_types_shapes.specs.declared.shapes.component.DefinedType.TheVariants as defined
use Rattle.wac_types_shapes.specs.shapes.Named.{named_pairs, NoNameTwice, labelled, given_names}
use Rattle.wac_script.specs.lines.Words.{spelled}
use Rattle.wac_script.specs.declared.lines.shapes.Shape.TheVariants as said
use Rattle.wac_script.specs.labels.Things.{things_of}
use Rattle.wac_script.specs.labels.Shapes.{IsShape, HasFieldsOnce}
use Rattle.wac_script.specs.private.Unread.{ReadsSuch}
use Rattle.wac_script.proofs.ReadLemmas.{exit, exit-shape, exit-memory}
use Rattle.wac_script.proofs.labels.things.Things.fixed_size_list.Goals as goal

pub returns-in-Some : goal.returns-in-Some
returns-in-Some c = (c.in_ok-element.element, c.in-Some.length, c.in_ok-element.ensures, c.in-Some.ensures, refl)

pub returns-in_err-element : goal.returns-in_err-element
returns-in_err-element c = exit _ _ c.from_residual.result (c.in_err-element.field-0).0 c.from_residual.ensures.1 c.in_err-element.ensures (λ none. inl (λ d h. none h.0 h.2))

pub returns-in-None : goal.returns-in-None
returns-in-None c = inr (inl (λ d h. c.in-None.ensures h.1 h.3))

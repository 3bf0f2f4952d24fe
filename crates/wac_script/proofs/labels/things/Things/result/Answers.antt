use Rattle.std.proofs.Common.{Some, Err, ap, inl, inr, refl, subst, sym, ◌∙◌}
use Rattle.wac_types_shapes.specs.declared.shapes.component.DefinedType.TheVariants as defined
use Rattle.wac_types_shapes.specs.shapes.Named.{named_pairs, NoNameTwice, labelled, given_names}
use Rattle.wac_script.specs.lines.Words.{spelled}
use Rattle.wac_script.specs.declared.lines.shapes.Shape.TheVariants as said
use Rattle.wac_script.specs.labels.Things.{things_of}
use Rattle.wac_script.specs.labels.Shapes.{IsShape, HasFieldsOnce}
use Rattle.wac_script.specs.private.Unread.{ReadsSuch}
use Rattle.wac_script.proofs.ReadLemmas.{exit, exit-shape, exit-memory}
use Rattle.wac_script.proofs.labels.things.Things.result.Goals as goal

pub returns : goal.returns
returns c = (c.in_ok-ok.ok, c.in_ok-err.err, c.in_ok-ok.ensures, c.in_ok-err.ensures, refl)

pub returns-in_err-ok : goal.returns-in_err-ok
returns-in_err-ok c = exit _ _ c.from_residual.result (c.in_err-ok.field-0).0 c.from_residual.ensures.1 c.in_err-ok.ensures (λ none. inl (λ d h. none h.0 h.2))

pub returns-in_err-err : goal.returns-in_err-err
returns-in_err-err c = exit _ _ c.from_residual-in_err-err.result (c.in_err-err.field-0).0 c.from_residual-in_err-err.ensures.1 c.in_err-err.ensures (λ none. inl (λ d h. none h.1 h.3))

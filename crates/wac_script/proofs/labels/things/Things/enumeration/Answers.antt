use Rattle.std.proofs.Common.{Some, Err, ap, inl, inr, refl, subst, sym, ◌∙◌}
use Rattle.wac_types_shapes.specs.declared.shapes.component.DefinedType.TheVariants as defined
use Rattle.wac_types_shapes.specs.shapes.Named.{named_pairs, NoNameTwice, labelled, given_names}
use Rattle.wac_script.specs.lines.Words.{spelled}
use Rattle.wac_script.specs.declared.lines.shapes.Shape.TheVariants as said
use Rattle.wac_script.specs.labels.Things.{things_of}
use Rattle.wac_script.specs.labels.Shapes.{IsShape, HasFieldsOnce}
use Rattle.wac_script.specs.private.Unread.{ReadsSuch}
use Rattle.wac_script.proofs.ReadLemmas.{exit, exit-shape, exit-memory}
use Rattle.wac_script.proofs.labels.things.Things.enumeration.Goals as goal

pub returns : goal.returns
returns c = ap defined.Enum (λ i. record { 0 = c.in_ok-cases.ensures.built i })

pub returns-in_err-cases : goal.returns-in_err-cases
returns-in_err-cases c = exit-shape _ _ c.from_residual.result (c.in_err-cases.field-0).0 c.from_residual.ensures.1 (λ twice. inr (defined.Enum (record { 0 = spelled c.args.names.now }), refl, c.in_err-cases.ensures.name_twice (ap Err twice)))

use Rattle.std.proofs.Common.{Some, None, Ok, Err, ap, inl, inr, refl, subst, sym, ◌∙◌}
use Rattle.wac_types_shapes.specs.shapes.Named.{named_pairs, used_pairs, NoNameTwice}
use Rattle.wac_script.specs.lines.Words.{spelled}
use Rattle.wac_script.specs.labels.Things.{things_of}
use Rattle.wac_types_shapes.specs.declared.shapes.component.ItemKind.TheVariants as kind
use Rattle.wac_script.specs.labels.Items.{primitive, value, type_of}
use Rattle.wac_script.proofs.ItemLemmas.{labelled-items}
use Rattle.wac_script.proofs.ReadLemmas.{exit}
use Rattle.wac_script.proofs.NameLemmas.{no-value-item, no-type-item}
use Rattle.wac_script.proofs.labels.things.Things.item.Goals as goal

pub returns-in-Some : goal.returns-in-Some
returns-in-Some c = primitive c.in-Some.primitive c.in-Some.ensures refl

pub returns-in-Some-after_prefix : goal.returns-in-Some-after_prefix
returns-in-Some-after_prefix c = value c.in-Some-after_prefix.ty.now c.in_ok-value.value c.in_default.ensures c.in-Some-after_prefix.ensures c.in_ok-value.ensures refl

pub returns-in-Some-after_prefix-2 : goal.returns-in-Some-after_prefix-2
returns-in-Some-after_prefix-2 c = type_of c.in-Some-after_prefix-2.label.now c.in_ok-item.item c.in_default.ensures c.in-Some-after_prefix-2.ensures c.in_ok-item.ensures (ap kind.TypeItem c.ty.ensures)

pub returns : goal.returns
returns c = labelled-items (things_of c.args.self.now) c.args.word.now c.labelled_item-2.result c.in_default.ensures c.in_default-after_prefix.ensures c.in_default-after_prefix-2.ensures c.labelled_item-2.ensures

pub returns-in_err-value : goal.returns-in_err-value
returns-in_err-value c = exit _ _ c.from_residual.result (c.in_err-value.field-0).0 c.from_residual.ensures.1 c.in_err-value.ensures (no-value-item (things_of c.args.self.now) c.args.word.now c.in-Some-after_prefix.ty.now c.in_default.ensures c.in-Some-after_prefix.ensures)

pub returns-in_err-item : goal.returns-in_err-item
returns-in_err-item c = exit _ _ c.from_residual-in_err-item.result (c.in_err-item.field-0).0 c.from_residual-in_err-item.ensures.1 c.in_err-item.ensures (no-type-item (things_of c.args.self.now) c.args.word.now c.in-Some-after_prefix-2.label.now c.in_default.ensures c.in-Some-after_prefix-2.ensures)

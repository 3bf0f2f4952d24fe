use Rattle.std.proofs.Common.{Some, None, Ok, Err, ap, inl, inr, refl, subst, sym, ◌∙◌}
use Rattle.wac_types_shapes.specs.shapes.Named.{named_pairs, used_pairs, NoNameTwice}
use Rattle.wac_script.specs.lines.Words.{spelled}
use Rattle.wac_script.specs.labels.Things.{things_of}
use Rattle.wac_script.proofs.ReadLemmas.{exit}
use Rattle.wac_script.proofs.NameLemmas.{no-item-of, no-thing-item}
use Rattle.wac_script.proofs.labels.things.Things.labelled_item.Goals as goal

pub returns-in_err-thing : goal.returns-in_err-thing
returns-in_err-thing c = exit _ _ c.from_residual.result (c.in_err-thing.field-0).0 c.from_residual.ensures.1 c.in_err-thing.ensures (no-thing-item (things_of c.args.self.now) c.args.label.now)

pub returns-in-None : goal.returns-in-None
returns-in-None c = inr (no-item-of (things_of c.args.self.now) c.args.label.now c.in_ok-thing.thing c.in_ok-thing.ensures (sym c.in-None.ensures))

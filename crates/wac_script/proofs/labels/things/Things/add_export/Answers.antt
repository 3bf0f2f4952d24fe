use Rattle.std.proofs.Common.{Some, None, Ok, Err, ap, inl, inr, refl, subst, sym, ◌∙◌}
use Rattle.wac_script.specs.labels.Things.{things_of, cores_of}
use Rattle.wac_script.proofs.ReadLemmas.{exit, exit-shape}
use Rattle.wac_script.proofs.CoreLemmas.{no-export-pair, no-export-core, no-export-twice, none-twice}
use Rattle.wac_script.proofs.labels.things.Things.add_export.Goals as goal

pub returns : goal.returns
returns c = (c.in_ok-name.name.now, c.in_ok-name.label.now, c.in_ok-item.item, c.in_ok-name.ensures, c.in_ok-item.ensures, none-twice _ c.in_ok-export.ensures.name_twice (λ e. cc), c.in_ok-export.ensures.exported)

pub returns-in_err-name : goal.returns-in_err-name
returns-in_err-name c = exit _ _ c.from_residual.result (c.in_err-name.field-0).0 c.from_residual.ensures.1 c.in_err-name.ensures (no-export-pair (things_of c.args.self.now) (cores_of c.args.self.now) c.args.word.now c.args.ty.now)

pub returns-in_err-item : goal.returns-in_err-item
returns-in_err-item c = exit _ _ c.from_residual-in_err-item.result (c.in_err-item.field-0).0 c.from_residual-in_err-item.ensures.1 c.in_err-item.ensures (no-export-core (things_of c.args.self.now) (cores_of c.args.self.now) c.args.word.now c.in_ok-name.name.now c.in_ok-name.label.now c.args.ty.now c.in_ok-name.ensures)

pub returns-in_err-export : goal.returns-in_err-export
returns-in_err-export c = exit-shape _ _ c.from_residual-in_err-export.result (c.in_err-export.field-0).0 c.from_residual-in_err-export.ensures.1 (λ twice. no-export-twice (things_of c.args.self.now) (cores_of c.args.self.now) c.args.word.now c.in_ok-name.name.now c.in_ok-name.label.now c.args.ty.now c.in_ok-name.ensures (c.in_err-export.ensures.name_twice.0 (ap Err twice)))

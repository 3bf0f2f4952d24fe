use Rattle.std.proofs.Common.{Some, None, Ok, Err, ap, inl, inr, refl, subst, sym, ◌∙◌}
use Rattle.wac_script.specs.labels.Things.{things_of, cores_of}
use Rattle.wac_script.proofs.ReadLemmas.{exit, exit-shape}
use Rattle.wac_script.proofs.CoreLemmas.{no-import-pair, no-import-core, no-import-twice, none-twice}
use Rattle.wac_script.proofs.labels.things.Things.add_import.Goals as goal

pub returns : goal.returns
returns c = (c.in_ok-name.name.now, c.in_ok-name.label.now, c.in_ok-item.item, c.in_ok-name.ensures, c.in_ok-item.ensures, none-twice _ c.in_ok-import.ensures.name_twice (λ e. cc), c.in_ok-import.ensures.imported)

pub returns-in_err-name : goal.returns-in_err-name
returns-in_err-name c = exit _ _ c.from_residual.result (c.in_err-name.field-0).0 c.from_residual.ensures.1 c.in_err-name.ensures (no-import-pair (things_of c.args.self.now) (cores_of c.args.self.now) c.args.source.now c.args.word.now c.args.ty.now)

pub returns-in_err-item : goal.returns-in_err-item
returns-in_err-item c = exit _ _ c.from_residual-in_err-item.result (c.in_err-item.field-0).0 c.from_residual-in_err-item.ensures.1 c.in_err-item.ensures (no-import-core (things_of c.args.self.now) (cores_of c.args.self.now) c.args.source.now c.args.word.now c.in_ok-name.name.now c.in_ok-name.label.now c.args.ty.now c.in_ok-name.ensures)

pub returns-in_err-import : goal.returns-in_err-import
returns-in_err-import c = exit-shape _ _ c.from_residual-in_err-import.result (c.in_err-import.field-0).0 c.from_residual-in_err-import.ensures.1 (λ twice. no-import-twice (things_of c.args.self.now) (cores_of c.args.self.now) c.args.source.now c.args.word.now c.in_ok-name.name.now c.in_ok-name.label.now c.args.ty.now c.in_ok-name.ensures (c.in_err-import.ensures.name_twice.0 (ap Err twice)))

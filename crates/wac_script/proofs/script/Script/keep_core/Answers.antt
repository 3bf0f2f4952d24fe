use Rattle.std.proofs.Common.{refl, inl, inr}
use Rattle.wac_script.specs.labels.Things.{things_of, cores_of}
use Rattle.wac_script.specs.Runs.{state_of}
use Rattle.wac_script.proofs.RunLemmas.{core-refused, core-memory, same-state}
use Rattle.wac_script.proofs.script.Script.keep_core.Goals as goal

pub returns-in_err-check_label : goal.returns-in_err-check_label
returns-in_err-check_label c = core-refused c.args.number c.args.label c.args.item (state_of c.args.self.now) c.from_residual.result (c.in_err-check_label.field-0).0 c.from_residual.ensures.1 c.in_err-check_label.ensures (λ taken. inl taken)

pub returns-in_err-item : goal.returns-in_err-item
returns-in_err-item c = core-refused c.args.number c.args.label c.args.item (state_of c.args.self.now) c.from_residual-in_err-item.result (c.in_err-item.field-0).0 c.from_residual-in_err-item.ensures.1 c.in_err-item.ensures (λ none. inr none)

pub returns-in_err-insert_core : goal.returns-in_err-insert_core
returns-in_err-insert_core c = core-memory c.args.number c.args.label c.args.item (state_of c.args.self.now) (record { graph = c.args.self.now.graph; labels = things_of c.insert_core.new.self; cores = cores_of c.insert_core.new.self }) c.from_residual-in_err-insert_core.result c.from_residual-in_err-insert_core.ensures.1 (same-state c.args.self.now.graph _ _ _ _ c.in_err-insert_core.ensures.kept.0 c.in_err-insert_core.ensures.kept.1)

pub returns : goal.returns
returns c = (c.in_ok-item.item, c.in_ok-check_label.ensures, c.in_ok-item.ensures, refl, c.in_ok-insert_core.ensures.labels, c.in_ok-insert_core.ensures.cores)

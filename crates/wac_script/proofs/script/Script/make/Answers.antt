use Rattle.std.proofs.Common.{refl, inl, inr}
use Rattle.wac_script.specs.Runs.{state_of}
use Rattle.wac_script.proofs.RunLemmas.{label-refused, call-refused}
use Rattle.wac_script.proofs.script.Script.make.Goals as goal

pub returns-in_err-check_label : goal.returns-in_err-check_label
returns-in_err-check_label c = label-refused c.args.number c.args.label c.args.call c.args.bytes.items (state_of c.args.self.now) c.from_residual.result (c.in_err-check_label.field-0).0 c.from_residual.ensures.1 c.in_err-check_label.ensures

pub returns-in_err-thing : goal.returns-in_err-thing
returns-in_err-thing c = call-refused c.args.number c.args.label c.args.call c.args.bytes.items (state_of c.args.self.now) (record (state_of c.args.self.now) { graph = c.add.new.graph }) (c.in_err-thing.field-0).0 c.from_residual-in_err-thing.result c.from_residual-in_err-thing.ensures.1 c.in_err-thing.ensures refl refl

pub returns : goal.returns
returns c = (c.in_ok-thing.thing, c.in_ok-check_label.ensures, c.in_ok-thing.ensures, c.in_default.ensures.inserted, c.in_default.ensures.cores)

pub returns-in-Err : goal.returns-in-Err
returns-in-Err c = inr (inr (c.in_ok-thing.thing, c.in_ok-thing.ensures), (c.in-Err.ensures.kept, c.in-Err.ensures.cores))

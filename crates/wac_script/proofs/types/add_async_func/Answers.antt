use Rattle.wac_types_shapes.specs.declared.shapes.component.FuncTypeId.{FuncTypeId}
use Rattle.wac_types_collection.specs.collection.Collection.{with_func}
use Rattle.wac_script.specs.declared.lines.calls.Call.TheVariants as said
use Rattle.wac_script.specs.labels.Things.{things_of, cores_of}
use Rattle.wac_script.proofs.StepLemmas.{grown}
use Rattle.wac_script.proofs.RefuseLemmas.{plain-words, error-for}
use Rattle.wac_script.proofs.types.add_async_func.Goals as goal

pub returns-in_err-func : goal.returns-in_err-func
returns-in_err-func c = plain-words (things_of c.args.labels.now) (cores_of c.args.labels.now) c.args.graph.now (said.AsyncFunc c.args.params c.args.results) c.from_residual.result (c.in_err-func.field-0).0 c.from_residual.ensures.1 c.in_err-func.ensures (λ none. none)

pub returns-in-Ok : goal.returns-in-Ok
returns-in-Ok c = (c.in_ok-func.func, c.in_ok-func.ensures, c.in-Ok.ensures.added.0.0, grown c.args.graph.now c.add_func_type.new.self (with_func c.args.graph.now.types c.in_ok-func.func) c.in-Ok.ensures.added.0.1 c.in-Ok.ensures.added.1)

pub returns-in-Err : goal.returns-in-Err
returns-in-Err c = ((c.in_ok-func.func, c.in_ok-func.ensures, error-for FuncTypeId _ _ c.in-Err.ensures.fault), c.in-Err.ensures.added)

use Rattle.wac_types_shapes.specs.declared.shapes.component.ModuleTypeId.{ModuleTypeId}
use Rattle.wac_types_collection.specs.collection.Collection.{with_module}
use Rattle.wac_script.specs.declared.lines.calls.Call.TheVariants as said
use Rattle.wac_script.specs.labels.Things.{things_of, cores_of}
use Rattle.wac_script.proofs.StepLemmas.{grown}
use Rattle.wac_script.proofs.RefuseLemmas.{plain-words, error-for}
use Rattle.wac_script.proofs.types.add_module.Goals as goal

pub returns-in_err-module : goal.returns-in_err-module
returns-in_err-module c = plain-words (things_of c.args.labels.now) (cores_of c.args.labels.now) c.args.graph.now (said.Module c.args.imports c.args.exports) c.from_residual.result (c.in_err-module.field-0).0 c.from_residual.ensures.1 c.in_err-module.ensures (λ none. none)

pub returns-in-Ok : goal.returns-in-Ok
returns-in-Ok c = (c.in_ok-module.module, c.in_ok-module.ensures, c.in-Ok.ensures.added.0.0, grown c.args.graph.now c.add_module_type.new.self (with_module c.args.graph.now.types c.in_ok-module.module) c.in-Ok.ensures.added.0.1 c.in-Ok.ensures.added.1)

pub returns-in-Err : goal.returns-in-Err
returns-in-Err c = ((c.in_ok-module.module, c.in_ok-module.ensures, error-for ModuleTypeId _ _ c.in-Err.ensures.fault), c.in-Err.ensures.added)

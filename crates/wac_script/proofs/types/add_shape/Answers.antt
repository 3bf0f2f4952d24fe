use Rattle.wac_types_shapes.specs.declared.shapes.component.DefinedTypeId.{DefinedTypeId}
use Rattle.wac_types_collection.specs.collection.Collection.{with_defined}
use Rattle.wac_script.specs.declared.lines.calls.Call.TheVariants as said
use Rattle.wac_script.specs.labels.Things.{things_of, cores_of}
use Rattle.wac_script.proofs.StepLemmas.{grown}
use Rattle.wac_script.proofs.RefuseLemmas.{plain-words, error-for}
use Rattle.wac_script.proofs.types.add_shape.Goals as goal

pub returns-in_err-defined : goal.returns-in_err-defined
returns-in_err-defined c = plain-words (things_of c.args.labels.now) (cores_of c.args.labels.now) c.args.graph.now (said.Shape c.args.shape) c.from_residual.result (c.in_err-defined.field-0).0 c.from_residual.ensures.1 c.in_err-defined.ensures (λ none. none)

pub returns-in-Ok : goal.returns-in-Ok
returns-in-Ok c = (c.in_ok-defined.defined, c.in_ok-defined.ensures, c.in-Ok.ensures.added.0.0, grown c.args.graph.now c.add_defined_type.new.self (with_defined c.args.graph.now.types c.in_ok-defined.defined) c.in-Ok.ensures.added.0.1 c.in-Ok.ensures.added.1)

pub returns-in-Err : goal.returns-in-Err
returns-in-Err c = ((c.in_ok-defined.defined, c.in_ok-defined.ensures, error-for DefinedTypeId _ _ c.in-Err.ensures.fault), c.in-Err.ensures.added)

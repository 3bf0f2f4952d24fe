use Rattle.wac_types_shapes.specs.declared.shapes.component.ResourceId.{ResourceId}
use Rattle.wac_types_collection.specs.collection.Collection.{with_resource}
use Rattle.wac_script.proofs.StepLemmas.{grown}
use Rattle.wac_script.proofs.RefuseLemmas.{error-for}
use Rattle.wac_script.proofs.types.put_resource.Goals as goal

pub returns-in-Ok : goal.returns-in-Ok
returns-in-Ok c = (c.in-Ok.ensures.added.0.0, grown c.args.graph.now c.add_resource.new.self (with_resource c.args.graph.now.types c.args.resource) c.in-Ok.ensures.added.0.1 c.in-Ok.ensures.added.1)

pub returns-in-Err : goal.returns-in-Err
returns-in-Err c = (error-for ResourceId _ _ c.in-Err.ensures.fault, c.in-Err.ensures.added)

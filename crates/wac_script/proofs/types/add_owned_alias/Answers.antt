use Rattle.wac_script.specs.declared.lines.calls.Call.TheVariants as said
use Rattle.wac_script.specs.labels.Things.{things_of, cores_of}
use Rattle.wac_script.proofs.RefuseLemmas.{plain-words, owned-made}
use Rattle.wac_script.proofs.types.add_owned_alias.Goals as goal

pub returns-in_err-resource : goal.returns-in_err-resource
returns-in_err-resource c = plain-words (things_of c.args.labels.now) (cores_of c.args.labels.now) c.args.graph.now (said.OwnedAlias c.args.name c.args.source c.args.owner) c.from_residual.result (c.in_err-resource.field-0).0 c.from_residual.ensures.1 c.in_err-resource.ensures (λ none. none)

pub returns : goal.returns
returns c = owned-made (things_of c.args.labels.now) (cores_of c.args.labels.now) c.args.graph.now c.put_resource.new.graph c.args.name c.args.source c.args.owner c.in_ok-resource.resource c.put_resource.result c.in_ok-resource.ensures c.put_resource.ensures

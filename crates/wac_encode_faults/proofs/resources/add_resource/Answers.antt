use Rattle.std.proofs.Common.{ap, ◌∙◌}
use Rattle.indexmap.specs.IndexSet.{insert_key}
use Rattle.wac_types_shapes.specs.contracts.shapes.component.ResourceIdPartialEq.TheImpl as IdEq
use Rattle.wac_encode_faults.proofs.FreeParts.{added_resource, added_nothing}
use Rattle.wac_encode_faults.proofs.resources.add_resource.Goals as goal

pub returns-in_default : goal.returns-in_default
returns-in_default c = added_nothing c.args.types.now c.args.resources.now.keys c.args.ty (λ q is. c.in_default.not-Resource q is)

pub returns : goal.returns
returns c = added_resource c.args.types.now c.args.resources.now.keys c.insert.new.self.keys c.args.ty c.in-Resource.id c.in-Resource.is
    (c.in_ok-insert.ensures.keys ∙ ap (insert_key (IdEq.ghosts).eq c.args.resources.now.keys) c.resolve_resource.ensures.end)

use Rattle.wac_types_collection.specs.wide.Wide.{wide_uses_of_items}
use Rattle.wac_encode_faults.proofs.Dependencies.{instances_there, other_once}
use Rattle.wac_encode_faults.proofs.unlisted.items_use_other.Goals as goal

pub wide_uses_of_items-requires : goal.wide_uses_of_items-requires
wide_uses_of_items-requires c = instances_there c.args.types.now c.args.items.now c.requires

pub returns : goal.returns
returns c =
    let both = other_once c.args.listed.now.keys (wide_uses_of_items c.args.types.now c.args.items.now) c.in_ok-used.used.keys c.in_ok-used.ensures in
    (λ t. both.0 (c.has_other.ensures.0 t), λ h. c.has_other.ensures.1 (both.1 h))

use Rattle.wac_encode_faults.proofs.TypeItems.{missing_import}
use Rattle.wac_encode_faults.proofs.sides.imports_have_unbound.Goals as goal

pub returns : goal.returns
returns c =
    let both = missing_import c.args.types.now c.args.imports.now c.args.additional.now.keys c.args.bound.now.keys c.new-free.result.keys c.add_free_of_items.new.found.keys c.add_free_of_additional.new.found.keys
    c.new-free.ensures.empty c.in_ok-add_free_of_items.ensures c.in_ok-add_free_of_additional.ensures in
    (λ t. both.0 (c.has_missing.ensures.0 t), λ h. c.has_missing.ensures.1 (both.1 h))

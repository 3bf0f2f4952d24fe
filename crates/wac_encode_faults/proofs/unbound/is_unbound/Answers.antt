use Rattle.wac_encode_faults.proofs.Binding.{missing_root}
use Rattle.wac_encode_faults.proofs.unbound.is_unbound.Goals as goal

pub returns : goal.returns
returns c root rooted =
    let both = missing_root c.args.types.now c.args.ty c.args.bound.now.keys c.new-free.result.keys c.add_free_of_type.new.found.keys root c.new-free.ensures.empty c.in_ok-add_free_of_type.ensures rooted in
    (λ t. both.0 (c.has_missing.ensures.0 t), λ h. c.has_missing.ensures.1 (both.1 h))

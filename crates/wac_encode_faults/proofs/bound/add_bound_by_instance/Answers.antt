use Rattle.std.proofs.Common.{◌≡◌, true, false, length, sym, ◌∙◌}
use Rattle.std.proofs.lemmas.Result.{on_ok_weaker}
use Rattle.wac_types_collection.proofs.lemmas.collection.Steady.{within}
use Rattle.wac_encode_faults.proofs.Binding.{bound_instance, bound_nothing}
use Rattle.wac_encode_faults.proofs.FreeSets.{own_held}
use Rattle.wac_encode_faults.proofs.bound.add_bound_by_instance.Goals as goal

pub add_own-requires : goal.add_own-requires
add_own-requires c = own_held c.args.types.now c.law.ensures c.args.id c.index-interface.result.now (within c.args.id.0 (length c.args.types.now.interfaces) c.requires) c.index-interface.ensures

pub returns-then-not-has_id : goal.returns-then-not-has_id
returns-then-not-has_id c side =
    bound_nothing c.args.types.now side c.args.name.now c.args.id c.index-interface.result.now c.args.found.now.keys c.index-interface.ensures
    (λ h. let wrong : false ≡ true = sym c.if-not-has_id.true ∙ c.has_id.ensures.1 h in cc)

pub returns : goal.returns
returns c =
    on_ok_weaker c.add_own.result (λ added side.
    bound_instance c.args.types.now side c.args.name.now c.args.id c.index-interface.result.now c.args.found.now.keys c.add_own.new.found.keys c.index-interface.ensures (c.has_id.ensures.0 c.if-not-has_id.false) added) c.add_own.ensures

use Rattle.std.proofs.Common.{sym, ◌∙◌}
use Rattle.std.proofs.lemmas.Result.{on_ok_weaker}
use Rattle.wac_encode_faults.proofs.FreeSets.{own_held}
use Rattle.wac_encode_faults.proofs.TypeItems.{under_binds, under_binds_none}
use Rattle.wac_encode_faults.proofs.sides.add_bound_under_id.Goals as goal

pub add_own-requires : goal.add_own-requires
add_own-requires c = own_held c.args.types.now c.law.ensures c.args.id c.index-interface.result.now c.requires c.index-interface.ensures

pub returns-then-has_name : goal.returns-then-has_name
returns-then-has_name c =
    on_ok_weaker c.add_own.result (λ added.
    under_binds c.args.types.now c.args.id c.index-interface.result.now c.index-interface.ensures (sym c.is_some-has_name.ensures ∙ c.if-has_name.true) c.args.found.now.keys c.add_own.new.found.keys added) c.add_own.ensures

pub returns : goal.returns
returns c = under_binds_none c.args.types.now c.args.id c.index-interface.result.now c.index-interface.ensures (sym c.is_some-has_name.ensures ∙ c.if-has_name.false) c.args.found.now.keys

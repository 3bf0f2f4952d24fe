use Rattle.std.proofs.Common.{sym, ◌∙◌}
use Rattle.std.proofs.lemmas.Result.{on_ok_weaker}
use Rattle.wac_encode_faults.proofs.TypeItems.{under_free, under_free_none}
use Rattle.wac_encode_faults.proofs.sides.add_free_under_id.Goals as goal

pub returns-then-has_name : goal.returns-then-has_name
returns-then-has_name c =
    on_ok_weaker c.add_free_in_types.result (λ added.
    under_free c.args.types.now c.args.id c.index-interface.result.now c.index-interface.ensures (sym c.is_some-has_name.ensures ∙ c.if-has_name.true) c.args.found.now.keys c.add_free_in_types.new.found.keys added) c.add_free_in_types.ensures

pub returns : goal.returns
returns c = under_free_none c.args.types.now c.args.id c.index-interface.result.now c.index-interface.ensures (sym c.is_some-has_name.ensures ∙ c.if-has_name.false) c.args.found.now.keys

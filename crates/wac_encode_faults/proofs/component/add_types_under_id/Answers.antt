use Rattle.std.proofs.Common.{sym, ◌∙◌}
use Rattle.std.proofs.lemmas.Result.{on_ok_weaker}
use Rattle.wac_encode_faults.proofs.ComponentFaults.{under_types, under_no_types}
use Rattle.wac_encode_faults.proofs.component.add_types_under_id.Goals as goal

pub returns-then-has_name : goal.returns-then-has_name
returns-then-has_name c =
    on_ok_weaker c.add_type_items.result
    (λ added. under_types c.args.types.now c.args.id c.index-interface.result.now c.index-interface.ensures (sym c.is_some-has_name.ensures ∙ c.if-has_name.true) c.args.found.now.keys c.add_type_items.new.found.keys added) c.add_type_items.ensures

pub returns : goal.returns
returns c = under_no_types c.args.types.now c.args.id c.index-interface.result.now c.index-interface.ensures (sym c.is_some-has_name.ensures ∙ c.if-has_name.false) c.args.found.now.keys

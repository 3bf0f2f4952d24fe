use Rattle.std.proofs.Common.{◌≡◌, true, false, sym, ◌∙◌}
use Rattle.std.proofs.lemmas.Result.{on_ok_weaker}
use Rattle.wac_encode_faults.proofs.owners.note_bound_in_group.Goals as goal

pub returns-then-is_of_group-clause-other : goal.returns-then-is_of_group-clause-other
returns-then-is_of_group-clause-other c = on_ok_weaker c.note_bound_by.result (λ noted e. let wrong : true ≡ false = sym c.if-is_of_group.true ∙ c.is_of_group.ensures c.args.name.now ∙ e in cc) c.note_bound_by.ensures

pub returns-then-is_of_group-clause-noted : goal.returns-then-is_of_group-clause-noted
returns-then-is_of_group-clause-noted c = on_ok_weaker c.note_bound_by.result (λ noted e. noted) c.note_bound_by.ensures

pub returns-clause-noted : goal.returns-clause-noted
returns-clause-noted c = λ e. let wrong : true ≡ false = sym e ∙ sym (c.is_of_group.ensures c.args.name.now) ∙ c.if-is_of_group.false in cc

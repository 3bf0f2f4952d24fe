use Rattle.std.proofs.Common.{◌≡◌, inl, inr, true, false, refl, sym, ◌∙◌}
use Rattle.std.proofs.lemmas.Result.{on_ok_weaker}
use Rattle.wac_encode_faults.proofs.free.add_child.Goals as goal

pub returns-then-needed-clause-kept : goal.returns-then-needed-clause-kept
returns-then-needed-clause-kept c = on_ok_weaker c.copy_set.result (λ added j h. refl) c.copy_set.ensures

pub returns-clause-kept : goal.returns-clause-kept
returns-clause-kept c = on_ok_weaker c.move_set.result (λ kept j h. elim h [ inl t ↦ (let wrong : true ≡ false = sym t ∙ c.if-needed.false in cc) | inr other ↦ kept j other ]) c.move_set.ensures.kept

use Rattle.std.proofs.Common.{◌≡◌, ◌<◌, ◌++◌, ◌∷◌, [], ◌⊎◌, inl, inr, length, Some, refl, ap, ◌∙◌, string_bytes, arith}
use Rattle.std.specs.Prelude.{slice_get}
use Rattle.std.proofs.lemmas.Option.{slice_get_read}
use Rattle.wac_merge_agreement.proofs.lemmas.agreement.Joined.{joined_next}
use Rattle.wac_merge_agreement.proofs.agreement.compared.join.Goals.{then-i-gt0+in_ok-push, else-i-gt0}
use Rattle.wac_merge_agreement.proofs.agreement.compared.join.Goals as goal

pub loop-i-preserved : goal.loop-i-preserved
loop-i-preserved c =
    let xs = c.args.names.now in
    let i = c.loop-i.i in
    let x = c.index-names-i.result in
    let old = string_bytes c.loop-i.text in
    let mid = string_bytes c.if-i-gt0.text in
    let at : slice_get xs i ≡ Some x = slice_get_read xs (length xs) i x refl c.loop-i-test.true c.index-names-i.is in
    let way : ((0 < i) × (mid ≡ old ++ 47 ∷ [])) ⊎ ((i ≡ 0) × (mid ≡ old)) = elim c.if-i-gt0.branch [
      | then-i-gt0+in_ok-push w ↦ inl (w.if-i-gt0.true, ap string_bytes w.text-is ∙ (w.in_ok-push.ensures.bytes ∙ ap (λ e. old ++ e) (w.in_ok-push.ensures.ascii (omega arith))))
      | else-i-gt0 w ↦ inr (omega (arith, w.if-i-gt0.false), ap string_bytes w.text-is)
    ] in
    c.in_ok-push_str.ensures.bytes ∙ (ap (λ b. mid ++ b) c.as_str.ensures.value ∙ joined_next xs i x old mid at c.loop-i.invariant way)

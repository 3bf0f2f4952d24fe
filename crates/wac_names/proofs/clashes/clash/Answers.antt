use Rattle.std.proofs.Common.{◌≡◌, Bool, true, false, not}
use Rattle.std.proofs.lemmas.Bool.{not-true, false_from_ne_true, not_from_false, both_ways}
use Rattle.wac_names.proofs.ClashFacts.{clash-both_plain, clash-left_other, clash-right_other}
use Rattle.wac_names.proofs.ReadFacts.{Iff}
use Rattle.wac_names.proofs.clashes.clash.Goals as goal

pub returns-in_default : goal.returns-in_default
returns-in_default c =
    clash-left_other c.same.result _ _ _ _ _ _ c.kind-one.ensures.kind c.kind-other.ensures.kind c.in_default.ensures c.as_str-in_default.ensures.value c.as_str-in_default-2.ensures.value c.same.ensures

pub returns-in_default-plain : goal.returns-in_default-plain
returns-in_default-plain c =
    clash-right_other c.same-in_default-plain.result _ _ _ _ _ _ _ c.kind-one.ensures.kind c.kind-other.ensures.kind c.in-Some.ensures c.in_default-plain.ensures
    c.as_str-in_default-plain.ensures.value c.as_str-in_default-plain-2.ensures.value c.same-in_default-plain.ensures

both : (b : Bool) (P Q : Type 0) → P → Iff (b ≡ true) Q → Iff (not b ≡ true) (P × ¬ Q)
both b P Q p i = ((λ e. (p, λ q. both_ways b (not-true b e) (i.1 q))), λ h. not_from_false b (false_from_ne_true b (λ e. h.1 (i.0 e))))

neither : (b : Bool) (P Q : Type 0) → b ≡ false → Iff (b ≡ true) P → Iff (b ≡ true) (P × ¬ Q)
neither b P Q f i = ((λ e. absurd (both_ways b f e)), λ h. i.1 h.0)

pub returns-then-eq_ignore_ascii_case : goal.returns-then-eq_ignore_ascii_case
returns-then-eq_ignore_ascii_case c =
    clash-both_plain _ _ _ _ _ _ _ c.kind-one.ensures.kind c.kind-other.ensures.kind c.in-Some.ensures c.in-Some-plain.ensures
    (both c.are_label_and_constructor.result _ _ (c.eq_ignore_ascii_case.ensures.test.0 c.if-eq_ignore_ascii_case.true) c.are_label_and_constructor.ensures)

pub returns-else-eq_ignore_ascii_case : goal.returns-else-eq_ignore_ascii_case
returns-else-eq_ignore_ascii_case c =
    clash-both_plain c.eq_ignore_ascii_case.result _ _ _ _ _ _ c.kind-one.ensures.kind c.kind-other.ensures.kind c.in-Some.ensures c.in-Some-plain.ensures
    (neither c.eq_ignore_ascii_case.result _ _ c.if-eq_ignore_ascii_case.false c.eq_ignore_ascii_case.ensures.test)

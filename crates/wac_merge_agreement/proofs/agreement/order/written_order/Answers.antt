use Rattle.std.proofs.Common.{List, ℕ, sym, ◌∙◌, subst, length}
use Rattle.std.proofs.lemmas.Result.{IfOk-weaker}
use Rattle.wac_edges.specs.cycles.Cycles.{IsStep}
use Rattle.wac_merge_classes.specs.entries.Classes.{by_names}
use Rattle.wac_merge_classes.specs.terms.ClassOrder.{RestsOn, grouped}
use Rattle.wac_edges.specs.Arranged.{AreAll, IsOnce}
use Rattle.wac_edges.proofs.lemmas.cycles.CycleSearch.{along}
use Rattle.wac_merge_agreement.proofs.lemmas.agreement.OrderLaws.{grouped_all, grouped_once, order_each, order_once, written_from}
use Rattle.wac_edges.proofs.ArrangedLaws.{once_at}
use Rattle.wac_merge_agreement.proofs.lemmas.agreement.RestCircles.{are_within}
use Rattle.wac_merge_agreement.proofs.agreement.order.written_order.Goals as goal

pub arranged-requires-clause-all : goal.arranged-requires-clause-all
arranged-requires-clause-all c =
    subst (λ (ns : List ℕ). AreAll (length c.args.rests.now) ns) (sym (c.as_slice.ensures.value ∙ c.in_ok-all.ensures))
    (subst (λ (k : ℕ). AreAll k (grouped by_names c.args.entries.now)) (sym c.requires.counted) (grouped_all by_names c.args.entries.now))

pub arranged-requires-clause-once : goal.arranged-requires-clause-once
arranged-requires-clause-once c =
    subst (λ (ns : List ℕ). IsOnce ns) (sym (c.as_slice.ensures.value ∙ c.in_ok-all.ensures)) (once_at (grouped by_names c.args.entries.now) (grouped_once by_names c.args.entries.now))

pub arranged-requires-clause-within : goal.arranged-requires-clause-within
arranged-requires-clause-within c = are_within c.args.types.now c.args.entries.now c.args.rests.now c.requires.counted c.requires.rests

pub arranged-requires-clause-ordered : goal.arranged-requires-clause-ordered
arranged-requires-clause-ordered c n on =
    c.requires.ordered n (along (IsStep c.args.rests.now) (RestsOn by_names c.args.types.now c.args.entries.now) (λ a b h. (c.requires.rests a b).0 h) n n on)

pub returns-clause-written : goal.returns-clause-written
returns-clause-written c =
    IfOk-weaker c.arranged.result _ _ (λ o a. written_from c.args.types.now c.args.entries.now c.args.rests.now c.requires.rests c.as_slice.result.now o.items (c.as_slice.ensures.value ∙ c.in_ok-all.ensures) a) c.arranged.ensures

pub returns-clause-each : goal.returns-clause-each
returns-clause-each c = IfOk-weaker c.arranged.result _ _ (λ o w. order_each by_names c.args.entries.now c.args.types.now o.items w) (returns-clause-written c)

pub returns-clause-once : goal.returns-clause-once
returns-clause-once c = IfOk-weaker c.arranged.result _ _ (λ o w. order_once by_names c.args.entries.now c.args.types.now o.items w c.requires.ordered) (returns-clause-written c)

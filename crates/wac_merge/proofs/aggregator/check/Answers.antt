use Rattle.std.proofs.Common.{ℕ, List, refl, sym, subst, inr}
use Rattle.std.specs.BTreeSet.{BTreeSet}
use Rattle.std.specs.Option.{MatchOption}
use Rattle.std.proofs.lemmas.Option.{slice_get_within}
use Rattle.wac_edges.specs.cycles.Cycles.{AreWithin, HasLowestOnCycle}
use Rattle.wac_edges.specs.cycles.Cycles as cycles
use Rattle.wac_merge_classes.specs.entries.Classes.{by_names, class_names, canonical}
use Rattle.wac_merge_classes.specs.terms.ClassOrder.{IsFirstOnCircle}
use Rattle.wac_merge_classes.specs.terms.Faults.{HasNoCircle, use_each_other}
use Rattle.wac_merge_classes.specs.declared.terms.fault.MergeFault.{MergeFault}
use Rattle.wac_merge.specs.Aggregate.{IsFault}
use Rattle.wac_merge.proofs.FaultLemmas.{circle_class, exit_cause, none_of, pair_of}
use Rattle.wac_merge_agreement.proofs.lemmas.agreement.RestCircles.{are_within, first_of}
use Rattle.wac_merge.proofs.aggregator.check.Goals as goal

pub returns-in_err-rests-clause-fault : goal.returns-in_err-rests-clause-fault
returns-in_err-rests-clause-fault c =
    let f : MergeFault = (c.in_err-rests.field-0).0 in
    exit_cause (λ e. IsFault c.args.types.now c.args.entries.now e) c.from_residual.result f c.from_residual.ensures.1 c.in_err-rests.ensures.fault

pub lowest_on_cycle-requires : goal.lowest_on_cycle-requires
lowest_on_cycle-requires c =
    subst (λ (sets : List (BTreeSet ℕ)). AreWithin sets) (sym c.as_slice-rests.ensures.value)
    (are_within c.args.types.now c.args.entries.now c.in_ok-rests.rests.items c.in_ok-rests.ensures.counted c.in_ok-rests.ensures.rests)

pub circle-requires-clause-number : goal.circle-requires-clause-number
circle-requires-clause-number c =
    let t = c.args.types.now in
    let es = c.args.entries.now in
    let n : ℕ = c.in-Some.number in
    let found = first_of t es c.in_ok-rests.rests.items c.in_ok-rests.ensures.counted c.in_ok-rests.ensures.rests c.in_ok-number.field-0
    (subst (λ (sets : List (BTreeSet ℕ)). MatchOption c.in_ok-number.field-0 (cycles.HasNoCycle sets) (λ n. HasLowestOnCycle sets n)) c.as_slice-rests.ensures.value c.in_ok-number.ensures) in
    let is_first = pair_of (λ (a : ℕ). IsFirstOnCircle by_names t es a) (HasNoCircle by_names t es) c.in_ok-number.field-0 n found c.in-Some.is in
    let w = circle_class t es n is_first.on in
    slice_get_within (class_names by_names es) n w.0 w.1

pub returns-in-Some-clause-fault : goal.returns-in-Some-clause-fault
returns-in-Some-clause-fault c =
    let t = c.args.types.now in
    let es = c.args.entries.now in
    let n : ℕ = c.in-Some.number in
    let found = first_of t es c.in_ok-rests.rests.items c.in_ok-rests.ensures.counted c.in_ok-rests.ensures.rests c.in_ok-number.field-0
    (subst (λ (sets : List (BTreeSet ℕ)). MatchOption c.in_ok-number.field-0 (cycles.HasNoCycle sets) (λ n. HasLowestOnCycle sets n)) c.as_slice-rests.ensures.value c.in_ok-number.ensures) in
    let is_first = pair_of (λ (a : ℕ). IsFirstOnCircle by_names t es a) (HasNoCircle by_names t es) c.in_ok-number.field-0 n found c.in-Some.is in
    let (class, numbered) = circle_class t es n is_first.on in
    inr (use_each_other (canonical by_names es class), c.in_ok-circle.ensures class numbered, (c.in_ok-rests.ensures.agree, record { number = n; class = class; is_first = is_first; numbered = numbered; named = refl }))

pub written_order-requires-clause-ordered : goal.written_order-requires-clause-ordered
written_order-requires-clause-ordered c =
    let t = c.args.types.now in
    let es = c.args.entries.now in
    let found = first_of t es c.in_ok-rests.rests.items c.in_ok-rests.ensures.counted c.in_ok-rests.ensures.rests c.in_ok-number.field-0
    (subst (λ (sets : List (BTreeSet ℕ)). MatchOption c.in_ok-number.field-0 (cycles.HasNoCycle sets) (λ n. HasLowestOnCycle sets n)) c.as_slice-rests.ensures.value c.in_ok-number.ensures) in
    none_of (λ (a : ℕ). IsFirstOnCircle by_names t es a) (HasNoCircle by_names t es) c.in_ok-number.field-0 found c.in_default.is

pub returns-clause-ordered : goal.returns-clause-ordered
returns-clause-ordered c =
    let t = c.args.types.now in
    let es = c.args.entries.now in
    let found = first_of t es c.in_ok-rests.rests.items c.in_ok-rests.ensures.counted c.in_ok-rests.ensures.rests c.in_ok-number.field-0
    (subst (λ (sets : List (BTreeSet ℕ)). MatchOption c.in_ok-number.field-0 (cycles.HasNoCycle sets) (λ n. HasLowestOnCycle sets n)) c.as_slice-rests.ensures.value c.in_ok-number.ensures) in
    none_of (λ (a : ℕ). IsFirstOnCircle by_names t es a) (HasNoCircle by_names t es) c.in_ok-number.field-0 found c.in_default.is

use Rattle.std.proofs.Common.{◌≡◌, ◌<◌, ◌++◌, List, [], ◌∷◌, ℕ, length, arith, refl, rules, sym, ap, ◌∙◌, subst, append_assoc}
use Rattle.std.proofs.lemmas.Option.{slice_get_read}
use Rattle.wac_edges.specs.declared.arranged.Step.{Step}
use Rattle.wac_edges.specs.declared.arranged.Step.TheVariants.{Place}
use Rattle.wac_edges.specs.Arranged.{AreAll}
use Rattle.wac_edges.specs.private.Arranging.{openings}
use Rattle.wac_edges.proofs.lemmas.cycles.CycleSearch.{below_kept, within_set}
use Rattle.wac_edges.proofs.ArrangedSteps.{IsArranging, all_below, first_step, flag_read, low_taken, open_arranges, open_less, placed_next, there_next}
use Rattle.wac_edges.proofs.arranged.arranged.Goals as goal

pub ranks-requires-clause-below : goal.ranks-requires-clause-below
ranks-requires-clause-below c = all_below (length c.args.depends.now) c.args.all.now c.requires.all

pub loop-step-init : goal.loop-step-init
loop-step-init c =
    let depends = c.args.depends.now in
    let all = c.args.all.now in
    let steps : c.open_all.new.steps.items ≡ openings all = c.in_ok-open_all.ensures ∙ ap (λ (ts : List Step). ts ++ openings all) c.new-steps.ensures.items in
    subst (λ (ts : List Step). IsArranging depends all c.in_ok-opened.opened.items ts c.new-order.result.items) (sym steps)
    (subst (λ (o : List ℕ). IsArranging depends all c.in_ok-opened.opened.items (openings all) o) (sym c.new-order.ensures.items)
    (first_step depends all c.in_ok-opened.opened.items c.requires.all (c.in_ok-opened.ensures.items_if_clones_equal (λ y same. same))))

pub index-requires : goal.index-requires
index-requires c =
    let low : c.in-Open.n < length c.args.depends.now = low_taken (length c.args.depends.now) c.pop.new.self.items c.loop-step.steps.items c.in-Some.step c.in-Open.n c.in-Some.ensures.items c.in-Open.is c.loop-step.invariant.low in
    omega (arith, low, c.loop-step.opened.ok.0, c.loop-step.invariant.long)

pub index_mut-requires : goal.index_mut-requires
index_mut-requires c =
    let low : c.in-Open.n < length c.args.depends.now = low_taken (length c.args.depends.now) c.pop.new.self.items c.loop-step.steps.items c.in-Some.step c.in-Open.n c.in-Some.ensures.items c.in-Open.is c.loop-step.invariant.low in
    omega (arith, low, c.loop-step.opened.ok.0, c.loop-step.invariant.long)

pub offset_bounds-depends-n : goal.offset_bounds-depends-n
offset_bounds-depends-n c =
    let low : c.in-Open.n < length c.args.depends.now = low_taken (length c.args.depends.now) c.pop.new.self.items c.loop-step.steps.items c.in-Some.step c.in-Open.n c.in-Some.ensures.items c.in-Open.is c.loop-step.invariant.low in
    search rules

pub bounds-depends-n : goal.bounds-depends-n
bounds-depends-n c = low_taken (length c.args.depends.now) c.pop.new.self.items c.loop-step.steps.items c.in-Some.step c.in-Open.n c.in-Some.ensures.items c.in-Open.is c.loop-step.invariant.low

pub selected-requires-clause-below : goal.selected-requires-clause-below
selected-requires-clause-below c =
    let depends = c.args.depends.now in
    let low = low_taken (length depends) c.pop.new.self.items c.loop-step.steps.items c.in-Some.step c.in-Open.n c.in-Some.ensures.items c.in-Open.is c.loop-step.invariant.low in
    below_kept (length depends) (length c.as_slice.result.now) c.index-depends-n.result.keys (ap length c.as_slice.ensures.value ∙ c.in_ok-ranks.ensures.counted)
    (within_set depends c.in-Open.n c.index-depends-n.result c.requires.within (slice_get_read depends (length depends) c.in-Open.n c.index-depends-n.result refl low c.index-depends-n.is))

pub selected-requires-clause-all : goal.selected-requires-clause-all
selected-requires-clause-all c = subst (λ (k : ℕ). AreAll k c.args.all.now) (sym (ap length c.as_slice.ensures.value ∙ c.in_ok-ranks.ensures.counted)) c.requires.all

pub loop-step-smaller-then-not-index : goal.loop-step-smaller-then-not-index
loop-step-smaller-then-not-index c =
    let depends = c.args.depends.now in
    let n : ℕ = c.in-Open.n in
    let left : List Step = c.pop.new.self.items in
    let under : List ℕ = c.in_ok-under-in-Open.under.items in
    let low : n < length depends = low_taken (length depends) left c.loop-step.steps.items c.in-Some.step n c.in-Some.ensures.items c.in-Open.is c.loop-step.invariant.low in
    open_less depends c.args.all.now c.loop-step.opened.items c.loop-step.steps.items left c.loop-step.order.items n c.index-depends-n.result under c.open_all-then-not-index.new.steps.items
    (c.in-Some.ensures.items ∙ ap (λ (t : Step). left ++ t ∷ []) c.in-Open.is)
    (c.in_ok-open_all-in-Open.ensures ∙ (ap (λ (ns : List ℕ). c.push.new.self.items ++ openings ns) c.as_slice-then-not-index.ensures.value
    ∙ (ap (λ (ts : List Step). ts ++ openings under) c.in_ok-push-in-Open.ensures.items ∙ append_assoc left (Place n ∷ []) (openings under))))
    (slice_get_read depends (length depends) n c.index-depends-n.result refl low c.index-depends-n.is) c.in_ok-under-in-Open.ensures c.loop-step.invariant
    (flag_read c.loop-step.opened.items n c.index.result.now (omega (arith, low, c.loop-step.invariant.long)) c.index.ensures ∙ c.if-not-index.true)

pub loop-step-preserved-then-not-index : goal.loop-step-preserved-then-not-index
loop-step-preserved-then-not-index c =
    let depends = c.args.depends.now in
    let n : ℕ = c.in-Open.n in
    let left : List Step = c.pop.new.self.items in
    let under : List ℕ = c.in_ok-under-in-Open.under.items in
    let low : n < length depends = low_taken (length depends) left c.loop-step.steps.items c.in-Some.step n c.in-Some.ensures.items c.in-Open.is c.loop-step.invariant.low in
    open_arranges depends c.args.all.now c.loop-step.opened.items c.loop-step.steps.items left c.loop-step.order.items n c.index-depends-n.result under c.open_all-then-not-index.new.steps.items
    (c.in-Some.ensures.items ∙ ap (λ (t : Step). left ++ t ∷ []) c.in-Open.is)
    (c.in_ok-open_all-in-Open.ensures ∙ (ap (λ (ns : List ℕ). c.push.new.self.items ++ openings ns) c.as_slice-then-not-index.ensures.value
    ∙ (ap (λ (ts : List Step). ts ++ openings under) c.in_ok-push-in-Open.ensures.items ∙ append_assoc left (Place n ∷ []) (openings under))))
    (slice_get_read depends (length depends) n c.index-depends-n.result refl low c.index-depends-n.is) c.in_ok-under-in-Open.ensures c.loop-step.invariant
    (flag_read c.loop-step.opened.items n c.index.result.now (omega (arith, low, c.loop-step.invariant.long)) c.index.ensures ∙ c.if-not-index.true) c.requires.within

pub loop-step-preserved-else-not-index : goal.loop-step-preserved-else-not-index
loop-step-preserved-else-not-index c =
    let depends = c.args.depends.now in
    let n : ℕ = c.in-Open.n in
    let left : List Step = c.pop.new.self.items in
    let low : n < length depends = low_taken (length depends) left c.loop-step.steps.items c.in-Some.step n c.in-Some.ensures.items c.in-Open.is c.loop-step.invariant.low in
    there_next depends c.args.all.now c.loop-step.opened.items c.loop-step.steps.items left c.loop-step.order.items n c.requires.ordered (c.in-Some.ensures.items ∙ ap (λ (t : Step). left ++ t ∷ []) c.in-Open.is) c.loop-step.invariant
    (flag_read c.loop-step.opened.items n c.index.result.now (omega (arith, low, c.loop-step.invariant.long)) c.index.ensures ∙ c.if-not-index.false)

pub loop-step-preserved : goal.loop-step-preserved
loop-step-preserved c =
    let left : List Step = c.pop.new.self.items in
    placed_next c.args.depends.now c.args.all.now c.loop-step.opened.items c.loop-step.steps.items left c.loop-step.order.items c.in-Place.n c.push-in-Place.new.self.items
    (c.in-Some.ensures.items ∙ ap (λ (t : Step). left ++ t ∷ []) c.in-Place.is) c.in_ok-push-in-Place.ensures.items c.loop-step.invariant

use Rattle.std.proofs.Common.{◌+◌, ◌<◌, Bool, List, ℕ, length, get_or, ap, sym, ◌∙◌, refl, rules, subst, arith}
use Rattle.std.proofs.lemmas.Bool.{OnFalse_from}
use Rattle.std.proofs.lemmas.Option.{slice_get_read}
use Rattle.wac_edges.specs.private.cycles.CycleSearch.{IsWalk}
use Rattle.wac_edges.proofs.lemmas.cycles.CycleSearch.{first_walk, next_walk, next_left, is_off, popped_below, within_set, below_kept, unreached, empty_is}
use Rattle.wac_edges.proofs.cycles.cycles.is_on_cycle.Goals as goal

pub offset_bounds-targets-a : goal.offset_bounds-targets-a
offset_bounds-targets-a c =
    let low : c.in-Some.a < length c.args.targets.now = popped_below (length c.args.targets.now) c.in-Some.a c.pop.new.self.items c.loop-a.pending.items c.in-Some.ensures.items c.loop-a.invariant.low in
    search rules

pub bounds-targets-a : goal.bounds-targets-a
bounds-targets-a c = popped_below (length c.args.targets.now) c.in-Some.a c.pop.new.self.items c.loop-a.pending.items c.in-Some.ensures.items c.loop-a.invariant.low

pub mark-requires : goal.mark-requires
mark-requires c =
    let targets = c.args.targets.now in
    let low = popped_below (length targets) c.in-Some.a c.pop.new.self.items c.loop-a.pending.items c.in-Some.ensures.items c.loop-a.invariant.low in
    below_kept (length targets) (length c.loop-a.reached.items) c.index-targets-a.result.keys c.loop-a.invariant.long
    (within_set targets c.in-Some.a c.index-targets-a.result c.requires.within (slice_get_read targets (length targets) c.in-Some.a c.index-targets-a.result refl low c.index-targets-a.is))

pub loop-a-preserved : goal.loop-a-preserved
loop-a-preserved c =
    let targets = c.args.targets.now in
    let low = popped_below (length targets) c.in-Some.a c.pop.new.self.items c.loop-a.pending.items c.in-Some.ensures.items c.loop-a.invariant.low in
    subst (λ (p : List Bool × List ℕ). IsWalk c.args.targets.now c.args.n p.0 p.1) (sym c.in_ok-mark.ensures)
    (next_walk targets c.requires.within c.args.n c.in-Some.a c.loop-a.reached.items c.loop-a.pending.items c.pop.new.self.items c.in-Some.ensures.items c.index-targets-a.result
    (slice_get_read targets (length targets) c.in-Some.a c.index-targets-a.result refl low c.index-targets-a.is) c.loop-a.invariant)

pub loop-a-smaller : goal.loop-a-smaller
loop-a-smaller c =
    let targets = c.args.targets.now in
    let low = popped_below (length targets) c.in-Some.a c.pop.new.self.items c.loop-a.pending.items c.in-Some.ensures.items c.loop-a.invariant.low in
    subst (λ (p : List Bool × List ℕ). unreached p.0 + length p.1 < unreached c.loop-a.reached.items + length c.loop-a.pending.items) (sym c.in_ok-mark.ensures)
    (next_left targets c.requires.within c.args.n c.in-Some.a c.loop-a.reached.items c.loop-a.pending.items c.pop.new.self.items c.in-Some.ensures.items c.index-targets-a.result
    (slice_get_read targets (length targets) c.in-Some.a c.index-targets-a.result refl low c.index-targets-a.is) c.loop-a.invariant)

pub loop-a-init : goal.loop-a-init
loop-a-init c = rw (c.in_ok-push.ensures.items, c.new-pending.ensures.items) (first_walk c.args.targets.now c.args.n c.in_ok-reached.reached.items c.requires.small (c.in_ok-reached.ensures.items_if_clones_equal (λ y same. same)))

pub returns-clause-off : goal.returns-clause-off
returns-clause-off c =
    let none = empty_is c.loop-a.pending.items (omega (arith, c.loop-a.pending.ok.0, c.in_default.ensures.cases.0)) in
    OnFalse_from c.index.result.now _ (λ is. is_off c.args.targets.now c.args.n c.loop-a.reached.items
    (subst (λ ns. IsWalk c.args.targets.now c.args.n c.loop-a.reached.items ns) none c.loop-a.invariant)
    (sym (ap (λ b. get_or c.loop-a.reached.items c.args.n b) is) ∙ sym c.index.ensures ∙ is))

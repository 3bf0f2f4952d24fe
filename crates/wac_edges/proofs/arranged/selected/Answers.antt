use Rattle.std.proofs.Common.{◌≡◌, ◌<◌, ◌++◌, List, [], ◌∷◌, ℕ, map, length, rules, sym, ap, ◌∙◌, subst, append_assoc, append-nil}
use Rattle.std.specs.List.Sorted.{IsStrictlySortedBy}
use Rattle.std.specs.Ordering.{nat_cmp}
use Rattle.std.specs.Prelude.{slice_index}
use Rattle.wac_edges.specs.private.cycles.Numbers.{AreBelow, Has}
use Rattle.wac_edges.specs.Arranged.{Selects}
use Rattle.wac_edges.proofs.lemmas.cycles.CycleSearch.{below_first, below_rest}
use Rattle.wac_edges.proofs.ArrangedPlaces.{positions, positions_below, positions_select}
use Rattle.wac_edges.proofs.arranged.selected.Goals as goal

pub loop-position-init : goal.loop-position-init
loop-position-init c =
    let all = c.args.all.now in
    let given : c.into_iter-position-iterator.result ≡ positions c.args.ranks.now c.args.numbers.now.keys =
    c.into_iter-position-iterator.ensures.into_iter_gives ∙ (c.iter-position-items.ensures.rest ∙ c.in_ok-positions.ensures) in
    record {
      below = subst (λ (ns : List ℕ). AreBelow (length all) ns) (sym given) (positions_below all c.args.ranks.now c.args.numbers.now.keys c.requires.below c.requires.all c.requires.ranks);
      read = ap (λ (ns : List ℕ). ns ++ map (slice_index all) c.into_iter-position-iterator.result) c.new-selected.ensures.items ∙ ap (map (slice_index all)) given;
    }

pub offset_bounds-all-position : goal.offset_bounds-all-position
offset_bounds-all-position c =
    let low : c.in-Some.position.now < length c.args.all.now = below_first (length c.args.all.now) c.in-Some.position.now c.next.new.self c.loop-position.position-iterator c.in-Some.ensures.steps c.loop-position.invariant.below in
    search rules

pub bounds-all-position : goal.bounds-all-position
bounds-all-position c = below_first (length c.args.all.now) c.in-Some.position.now c.next.new.self c.loop-position.position-iterator c.in-Some.ensures.steps c.loop-position.invariant.below

pub loop-position-preserved : goal.loop-position-preserved
loop-position-preserved c =
    let f : ℕ → ℕ = slice_index c.args.all.now in
    let n : ℕ = c.in-Some.position.now in
    let rest : List ℕ = c.next.new.self in
    record {
      below = below_rest (length c.args.all.now) n rest c.loop-position.position-iterator c.in-Some.ensures.steps c.loop-position.invariant.below;
      read = ap (λ (ns : List ℕ). ns ++ map f rest) c.in_ok-push.ensures.items
          ∙ (append_assoc c.loop-position.selected.items (f n ∷ []) (map f rest)
          ∙ (sym (ap (λ (ns : List ℕ). c.loop-position.selected.items ++ map f ns) c.in-Some.ensures.steps) ∙ c.loop-position.invariant.read));
    }

pub returns : goal.returns
returns c =
    let all = c.args.all.now in
    let found : List ℕ = positions c.args.ranks.now c.args.numbers.now.keys in
    let whole : c.loop-position.selected.items ≡ map (slice_index all) found =
    sym (append-nil c.loop-position.selected.items) ∙ (sym (ap (λ (ns : List ℕ). c.loop-position.selected.items ++ map (slice_index all) ns) c.in-None.ensures.steps.0) ∙ c.loop-position.invariant.read) in
    let sorted : IsStrictlySortedBy nat_cmp found = subst (λ (ns : List ℕ). IsStrictlySortedBy nat_cmp ns) c.in_ok-positions.ensures c.iter-position-items.ensures.ordered in
    subst (λ (ns : List ℕ). Selects (λ b. Has c.args.numbers.now.keys b) all ns) (sym whole) (positions_select all c.args.ranks.now c.args.numbers.now.keys c.requires.below c.requires.all c.requires.ranks sorted)

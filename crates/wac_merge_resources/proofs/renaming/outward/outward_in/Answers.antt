use Rattle.std.proofs.Common.{◌≡◌, ℕ, ◌+◌, ◌∷◌, [], length, Option, List, sym, subst, ap, arith}
use Rattle.std.proofs.lemmas.List.{length-append}
use Rattle.wac_merge_resources.specs.private.renaming.Ways.{HaveWays}
use Rattle.wac_merge_resources.proofs.lemmas.renaming.Ways.{ways-more}
use Rattle.wac_merge_resources.proofs.renaming.outward.outward_in.Goals as goal

pub way_out-way-requires-clause-known : goal.way_out-way-requires-clause-known
way_out-way-requires-clause-known c =
    let same = ap (λ (ws : List (Option ℕ)). length ws) c.as_slice.ensures.value in
    omega (arith, same, c.loop-position.invariant.0)

pub way_out-way-requires-clause-ways : goal.way_out-way-requires-clause-ways
way_out-way-requires-clause-ways c =
    subst (λ (ws : List (Option ℕ)). HaveWays c.args.parts.now c.args.bound.now ws) (sym c.as_slice.ensures.value) c.loop-position.invariant.1

pub loop-position-preserved : goal.loop-position-preserved
loop-position-preserved c =
    let ps = c.args.parts.now in
    let bounds = c.args.bound.now in
    let n = c.loop-position.position in
    let ws = c.loop-position.outward.items in
    let way = c.way_out-way.result in
    let long = length-append ws (way ∷ []) in
    let inv = c.loop-position.invariant in
    subst (λ (vs : List (Option ℕ)). (length vs ≡ n + 1) × HaveWays ps bounds vs) (sym {A = List (Option ℕ)} c.in_ok-push.ensures.items)
    (omega (arith, long, inv.0), ways-more ps bounds ws inv.1 n way inv.0 c.way_out-way.ensures)

use Rattle.std.proofs.Common.{◌≡◌, ◌+◌, ◌∷◌, [], length, Option, List, sym, subst, ap, arith}
use Rattle.std.proofs.lemmas.List.{length-append}
use Rattle.wac_merge_classes.specs.declared.entries.outward.Outward.{Outward}
use Rattle.wac_merge_classes.specs.private.entries.Ways.{HaveWays}
use Rattle.wac_merge_classes.proofs.lemmas.entries.Ways.{ways-more}
use Rattle.wac_merge_classes.proofs.entries.outward.outward_in.Goals as goal

pub way_out-way-requires-clause-known : goal.way_out-way-requires-clause-known
way_out-way-requires-clause-known c =
    let same = ap (λ (ws : List (Option Outward)). length ws) c.as_slice.ensures.value in
    omega (arith, same, c.loop-position.invariant.0)

pub way_out-way-requires-clause-ways : goal.way_out-way-requires-clause-ways
way_out-way-requires-clause-ways c =
    subst (λ (ws : List (Option Outward)). HaveWays c.args.scopes.now c.args.bound.now ws) (sym c.as_slice.ensures.value) c.loop-position.invariant.1

pub loop-position-preserved : goal.loop-position-preserved
loop-position-preserved c =
    let ss = c.args.scopes.now in
    let bs = c.args.bound.now in
    let n = c.loop-position.position in
    let ws = c.loop-position.outward.items in
    let way = c.way_out-way.result in
    let long = length-append ws (way ∷ []) in
    let inv = c.loop-position.invariant in
    subst (λ (vs : List (Option Outward)). (length vs ≡ n + 1) × HaveWays ss bs vs) (sym {A = List (Option Outward)} c.in_ok-push.ensures.items)
    (omega (arith, long, inv.0), ways-more ss bs ws inv.1 n way inv.0 c.way_out-way.ensures)

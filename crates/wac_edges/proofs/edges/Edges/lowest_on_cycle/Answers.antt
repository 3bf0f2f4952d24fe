use Rattle.std.proofs.Common.{ℕ, List, Option, sym, subst}
use Rattle.std.specs.BTreeSet.{BTreeSet}
use Rattle.std.specs.Option.{MatchOption}
use Rattle.wac_edges.specs.cycles.Cycles.{AreWithin, HasNoCycle, HasLowestOnCycle}
use Rattle.wac_edges.proofs.TargetLemmas.{within, acyclic, lowest_of}
use Rattle.wac_edges.proofs.edges.Edges.lowest_on_cycle.Goals as goal

pub lowest_on_cycle-requires : goal.lowest_on_cycle-requires
lowest_on_cycle-requires c =
    subst (λ (sets : List (BTreeSet ℕ)). AreWithin sets) (sym c.as_slice.ensures.value)
    (within c.args.self.now c.args.nodes c.in_ok-targets.targets.items c.requires c.in_ok-targets.ensures.counted c.in_ok-targets.ensures.steps)

pub returns-in-Some : goal.returns-in-Some
returns-in-Some c =
    lowest_of c.args.self.now c.args.nodes c.in_ok-targets.targets.items c.requires c.in_ok-targets.ensures.counted c.in_ok-targets.ensures.steps c.in-Some.n
    (subst (λ (sets : List (BTreeSet ℕ)). HasLowestOnCycle sets c.in-Some.n) c.as_slice.ensures.value
    (subst (λ (o : Option ℕ). MatchOption o (HasNoCycle c.as_slice.result.now) (λ n. HasLowestOnCycle c.as_slice.result.now n)) c.in-Some.is c.in_ok-n.ensures))

pub returns : goal.returns
returns c =
    acyclic c.args.self.now c.args.nodes c.in_ok-targets.targets.items c.requires c.in_ok-targets.ensures.counted c.in_ok-targets.ensures.steps
    (subst (λ (sets : List (BTreeSet ℕ)). HasNoCycle sets) c.as_slice.ensures.value
    (subst (λ (o : Option ℕ). MatchOption o (HasNoCycle c.as_slice.result.now) (λ n. HasLowestOnCycle c.as_slice.result.now n)) c.in-None.is c.in_ok-n.ensures))

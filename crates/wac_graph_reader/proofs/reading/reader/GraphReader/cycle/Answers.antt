use Rattle.std.proofs.Common.{arith, subst, MatchOption}
use Rattle.wac_edges.specs.Order.{IsAcyclic, IsLowestOnCycle}
use Rattle.wac_graph_reader.proofs.lemmas.writing.MeansLemmas.{targets_below, acyclic_now, lowest_now}
use Rattle.wac_graph_reader.proofs.lemmas.writing.CauseLemmas.{at_cycle}
use Rattle.wac_graph_reader.specs.private.reading.Inside.{fields_of}
use Rattle.wac_graph_reader.proofs.reading.reader.GraphReader.cycle.Goals as goal

pub lowest_on_cycle-requires : goal.lowest_on_cycle-requires
lowest_on_cycle-requires c = targets_below (fields_of c.self.inside) c.self.invariant c.capacity.result (omega (arith, c.capacity.ensures.slots))

pub unreachable-requires : goal.unreachable-requires
unreachable-requires c =
    let (n, on) = c.requires in
    acyclic_now (fields_of c.self.inside) c.self.invariant c.args.self.now c.self.view_is (subst (λ o. MatchOption o (IsAcyclic ((fields_of c.self.inside)).edges) (λ m. IsLowestOnCycle ((fields_of c.self.inside)).edges m)) c.in_default.is c.in_ok-n.ensures) n on

pub returns : goal.returns
returns c = at_cycle c.args.self.now c.in-Some.n (lowest_now (fields_of c.self.inside) c.self.invariant c.args.self.now c.self.view_is c.in-Some.n (subst (λ o. MatchOption o (IsAcyclic ((fields_of c.self.inside)).edges) (λ m. IsLowestOnCycle ((fields_of c.self.inside)).edges m)) c.in-Some.is c.in_ok-n.ensures))

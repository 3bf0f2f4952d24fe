use Rattle.std.proofs.Common.{◌≡◌, ◌∷◌, length, sym, ap, ◌∙◌, subst, arith}
use Rattle.slab.specs.Slab.{get}
use Rattle.wac_edges.specs.declared.records.Links.{Links}
use Rattle.wac_edges.specs.private.Records.{IsList, list_at}
use Rattle.wac_edges.proofs.ListLemmas.{list_step}
use Rattle.wac_edges.proofs.walk.RecordsIterator.next.Goals as goal

pub invariant_of-self : goal.invariant_of-self
invariant_of-self c =
    let s = c.self.inside in
    subst (λ (l : Links). IsList (get s.table.now) s.end l.next (list_at s.table.now s.end l.next)) (sym c.links.ensures)
    (list_step s.table.now s.end s.here c.in_ok-here.here c.index-record.result.now c.in_ok-here.was c.index-record.ensures c.self.invariant).1

pub returns-clause-steps : goal.returns-clause-steps
returns-clause-steps c =
    let s = c.self.inside in
    sym c.self.view_is ∙ (list_step s.table.now s.end s.here c.in_ok-here.here c.index-record.result.now c.in_ok-here.was c.index-record.ensures c.self.invariant).0
    ∙ ap (λ (l : Links). (c.in_ok-here.here, c.index-record.result.now.edge) ∷ list_at s.table.now s.end l.next) (sym c.links.ensures)

pub returns-clause-goes : goal.returns-clause-goes
returns-clause-goes c =
    let s = c.self.inside in
    let step : c.args.self.now ≡ (c.in_ok-here.here, c.index-record.result.now.edge) ∷ list_at s.table.now s.end c.links.result.next =
    sym c.self.view_is ∙ (list_step s.table.now s.end s.here c.in_ok-here.here c.index-record.result.now c.in_ok-here.was c.index-record.ensures c.self.invariant).0
    ∙ ap (λ (l : Links). (c.in_ok-here.here, c.index-record.result.now.edge) ∷ list_at s.table.now s.end l.next) (sym c.links.ensures) in
    record { on = λ _. (tt, tt, omega (arith, ap length step)); keeps = tt; rests = λ _. tt }

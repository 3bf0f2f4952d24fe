use Rattle.std.proofs.Common.{ℕ, List, map, ap, sym, subst, ◌∙◌}
use Rattle.slab.specs.Slab.{get}
use Rattle.wac_edges.specs.declared.edges.Edge.{Edge}
use Rattle.wac_edges.specs.declared.records.Firsts.{Firsts}
use Rattle.wac_edges.specs.private.Records.{AreListed, list_at, first_at}
use Rattle.wac_edges.proofs.SetLemmas.{are_at}
use Rattle.wac_edges.proofs.edges.Edges.walk.Goals as goal

pub returns-clause-edges : goal.returns-clause-edges
returns-clause-edges c =
    let s = c.self.inside in
    are_at s.records s.firsts.items c.self.invariant.0 c.args.node c.args.end c.args.self.now c.self.view_is c.new.result.left
    (c.new.ensures.left ∙ ap (map (λ (x : ℕ × Edge). x.1)) (c.records_at.ensures.list ∙ ap (λ (f : List Firsts). list_at s.records c.args.end (first_at c.args.end f c.args.node.0)) c.deref.ensures.value))

pub records_at-requires : goal.records_at-requires
records_at-requires c = subst (λ (f : List Firsts). AreListed (get c.self.inside.records) f) (sym c.deref.ensures.value) c.self.invariant.0

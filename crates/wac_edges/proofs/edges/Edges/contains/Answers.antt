use Rattle.std.proofs.Common.{List, ap, sym, subst, ◌∙◌}
use Rattle.slab.specs.Slab.{get}
use Rattle.wac_edges.specs.declared.records.Firsts.{Firsts}
use Rattle.wac_edges.specs.private.Records.{AreListed}
use Rattle.wac_edges.specs.Order.{Edges}
use Rattle.std.specs.FinSet as set
use Rattle.wac_edges.proofs.SetLemmas.{found_is}
use Rattle.wac_edges.proofs.edges.Edges.contains.Goals as goal

pub returns : goal.returns
returns c = c.is_some.ensures ∙ found_is c.self.inside.records c.args.edge c.find.result c.find.ensures.some c.find.ensures.none ∙ ap (λ (s : Edges). set.contains s c.args.edge) c.self.view_is

pub find-requires : goal.find-requires
find-requires c = subst (λ (f : List Firsts). AreListed (get c.self.inside.records) f) (sym c.deref.ensures.value) c.self.invariant.0

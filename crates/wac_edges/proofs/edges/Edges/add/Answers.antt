use Rattle.std.proofs.Common.{sym, ◌∙◌}
use Rattle.wac_edges.proofs.SetLemmas.{inserted_same}
use Rattle.wac_edges.proofs.edges.Edges.add.Goals as goal

pub returns-then-contains-clause-ok : goal.returns-then-contains-clause-ok
returns-then-contains-clause-ok c = inserted_same c.args.self.now c.args.edge (sym c.contains.ensures ∙ c.if-contains.true)

pub add_new-requires : goal.add_new-requires
add_new-requires c = sym c.contains.ensures ∙ c.if-contains.false

use Rattle.std.proofs.Common.{subst}
use Rattle.wac_merge_tables.specs.private.tables.Nodes.{IsTable}
use Rattle.wac_merge_tables.proofs.lemmas.tables.NodeLaws.{one_tree}
use Rattle.wac_merge_tables.proofs.tables.nodes.Nodes.law.Goals as goal

pub returns : goal.returns
returns c = one_tree c.args.self.now (subst (λ ns. IsTable ns) c.self.view_is c.self.invariant.table)

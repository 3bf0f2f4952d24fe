use Rattle.wac_merge_tables.specs.private.tables.NodeViews.{node_view}
use Rattle.wac_merge_trees.proofs.lemmas.coding.CodingGrowth.{grown_none, grown_added, added_tree}
use Rattle.wac_merge_trees.proofs.coding.coder.add.Goals as goal

pub returns-in-Ok-clause-grown : goal.returns-in-Ok-clause-grown
returns-in-Ok-clause-grown c = grown_added c.args.nodes.now c.add.new.self (node_view c.args.node) c.table_law.ensures (c.in-Ok.ensures.added).1

pub returns-in-Ok-clause-number : goal.returns-in-Ok-clause-number
returns-in-Ok-clause-number c = added_tree c.args.nodes.now c.add.new.self (node_view c.args.node) c.in-Ok.number c.table_law.ensures c.table_law-in-Ok.ensures c.requires.lower c.in-Ok.ensures.added

pub returns-in-Err-clause-grown : goal.returns-in-Err-clause-grown
returns-in-Err-clause-grown c = grown_none c.args.nodes.now c.add.new.self c.in-Err.ensures.refused

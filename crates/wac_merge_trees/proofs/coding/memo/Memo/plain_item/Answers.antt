use Rattle.wac_merge_trees.specs.private.coding.Coding.{source_tree}
use Rattle.wac_merge_trees.proofs.lemmas.coding.CodingGrowth.{right_grown}
use Rattle.wac_merge_trees.proofs.coding.memo.Memo.plain_item.Goals as goal

pub returns-in_ok-number-in-Module-clause-right : goal.returns-in_ok-number-in-Module-clause-right
returns-in_ok-number-in-Module-clause-right c = right_grown (source_tree c.args.source.now) c.args.self.now c.args.nodes.now c.module_type.new.nodes c.module_type.ensures.grown c.requires.right

use Rattle.wac_merge_trees.specs.private.coding.Coding.{source_tree}
use Rattle.wac_merge_trees.proofs.lemmas.coding.CodingGrowth.{right_grown}
use Rattle.wac_merge_trees.proofs.coding.memo.Memo.outcome.Goals as goal

pub optional-requires-2-clause-right : goal.optional-requires-2-clause-right
optional-requires-2-clause-right c = right_grown (source_tree c.args.source.now) c.args.self.now c.args.nodes.now c.optional.new.nodes c.optional.ensures.grown c.requires.right

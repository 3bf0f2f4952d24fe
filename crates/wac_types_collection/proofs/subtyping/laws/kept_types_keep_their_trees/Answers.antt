use Rattle.wac_types_collection.proofs.lemmas.subtyping.Kept.{kept_trees}
use Rattle.wac_types_collection.proofs.subtyping.laws.kept_types_keep_their_trees.Goals as goal

pub returns-clause-trees : goal.returns-clause-trees
returns-clause-trees c = λ kept. (kept_trees c.args.before.now c.args.after.now c.law.ensures kept).0

pub returns-clause-called : goal.returns-clause-called
returns-clause-called c = λ kept. (kept_trees c.args.before.now c.args.after.now c.law.ensures kept).1

use Rattle.wac_types_collection.proofs.lemmas.subtyping.Trees.{aliases_agree}
use Rattle.wac_types_collection.proofs.subtyping.laws.aliases_have_the_same_tree.Goals as goal

pub returns : goal.returns
returns c = aliases_agree c.args.types.now c.law.ensures

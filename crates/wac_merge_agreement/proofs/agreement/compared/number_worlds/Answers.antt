use Rattle.std.proofs.Common.{List, sym, subst}
use Rattle.wac_types_shapes.specs.declared.shapes.component.WorldId.{WorldId}
use Rattle.wac_merge_trees.proofs.lemmas.coding.CodingGrowth.{grown_not}
use Rattle.wac_merge_agreement.specs.private.agreement.Worlds.{AreWorlds}
use Rattle.wac_merge_agreement.proofs.agreement.compared.number_worlds.Goals as goal

pub returns-in_err-worlds-clause-grown : goal.returns-in_err-worlds-clause-grown
returns-in_err-worlds-clause-grown c = grown_not c.args.nodes.now

pub number_all-requires-clause-worlds : goal.number_all-requires-clause-worlds
number_all-requires-clause-worlds c = subst (λ (ws : List WorldId). AreWorlds c.args.asked.now.types.now ws) (sym c.as_slice.ensures.value) c.in_ok-worlds.ensures

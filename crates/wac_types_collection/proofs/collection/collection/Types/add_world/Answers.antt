use Rattle.wac_types_collection.proofs.lemmas.collection.Adding.{no_fault}
use Rattle.wac_types_collection.proofs.lemmas.collection.Ends.{world_kept}
use Rattle.wac_types_collection.proofs.collection.collection.Types.add_world.Goals as goal

pub invariant_of-self-2 : goal.invariant_of-self-2
invariant_of-self-2 c =
    world_kept _ _ c.args.world _ _ _ _ c.self.invariant c.self.view_is c.in_ok-before.ensures.count (no_fault c.world_fault.result _ c.in_default.not-Some c.world_fault.ensures) (c.law.ensures, c.law-2.ensures) c.in_ok-hold.ensures.held

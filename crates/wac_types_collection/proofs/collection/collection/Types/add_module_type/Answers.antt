use Rattle.wac_types_collection.proofs.lemmas.collection.Ends.{module_kept}
use Rattle.wac_types_collection.proofs.collection.collection.Types.add_module_type.Goals as goal

pub invariant_of-self-2 : goal.invariant_of-self-2
invariant_of-self-2 c = module_kept _ _ c.args.module_type _ _ _ _ c.self.invariant c.self.view_is c.in_ok-before.ensures.count c.in_ok-hold.ensures.held

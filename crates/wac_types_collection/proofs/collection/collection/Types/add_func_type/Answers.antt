use Rattle.std.proofs.Common.{◌∙◌, sym}
use Rattle.wac_types_collection.proofs.lemmas.collection.Ends.{func_kept}
use Rattle.wac_types_collection.proofs.collection.collection.Types.add_func_type.Goals as goal

pub invariant_of-self-2 : goal.invariant_of-self-2
invariant_of-self-2 c = func_kept _ _ c.args.func _ _ _ _ c.self.invariant c.self.view_is c.in_ok-before.ensures.count (sym c.contains_func.ensures ∙ c.if-not-contains_func.false) c.in_ok-hold.ensures.held

use Rattle.wac_types_collection.proofs.lemmas.collection.Ends.{definition_there, definition_past, past}
use Rattle.wac_types_collection.proofs.collection.collection.Types.definition_end.Goals as goal

pub returns-in-Some : goal.returns-in-Some
returns-in-Some c = definition_there _ _ _ _ _ c.args.id.0 c.in-Some.end.now c.self.invariant c.self.view_is c.deref.ensures.value c.in-Some.ensures.lookup.0 c.in-Some.ensures.lookup.1

pub returns-in-None : goal.returns-in-None
returns-in-None c = definition_past _ _ _ _ _ c.args.id.0 c.self.invariant c.self.view_is c.deref.ensures.value (past _ _ c.in-None.ensures.lookup.0)

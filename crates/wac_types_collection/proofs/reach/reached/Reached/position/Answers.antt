use Rattle.wac_types_collection.proofs.lemmas.reach.Lists.{look_up_there, look_up_alone, look_up_none}
use Rattle.wac_types_collection.proofs.reach.reached.Reached.position.Goals as goal

pub returns-clause-there : goal.returns-clause-there
returns-clause-there c = look_up_there c.args.ty c.self.inside.types.keys c.args.self.now c.self.view_is c.get_index_of.result c.get_index_of.ensures.index

pub returns-clause-alone : goal.returns-clause-alone
returns-clause-alone c = look_up_alone c.args.ty c.self.inside.types.keys c.args.self.now c.self.view_is c.get_index_of.result c.get_index_of.ensures.index c.as_slice-types.ensures.unique

pub returns-clause-none : goal.returns-clause-none
returns-clause-none c = look_up_none c.args.ty c.self.inside.types.keys c.args.self.now c.self.view_is c.get_index_of.result c.get_index_of.ensures.found

use Rattle.wac_encode_scopes.specs.private.Steps.{and_core_type}
use Rattle.wac_encode_scopes.proofs.Stepped.{both-ok, all-written}
use Rattle.wac_encode_scopes.proofs.Additions.{goes-module, adds-module}
use Rattle.wac_encode_scopes.proofs.Calls.{module-here}
use Rattle.wac_encode_scopes.proofs.state.State.define_module.Goals as goal

pub returns-clause-defines : goal.returns-clause-defines
returns-clause-defines c = both-ok c.define_module.result (goes-module c.module_law.ensures.defines_module c.args.declarations.now c.args.self.now c.define_module.new.self) c.define_module.ensures.index c.define_module.ensures.appended

pub returns-clause-types : goal.returns-clause-types
returns-clause-types c = all-written c.args.self.now c.define_module.new.self (and_core_type c.args.declarations.now c.args.self.now.here.content) c.define_module.result (adds-module c.args.declarations.now c.args.self.now.here.content) c.define_module.ensures.appended c.define_module.ensures.refused

pub returns-clause-paid : goal.returns-clause-paid
returns-clause-paid c d b priced = module-here c.size_law.ensures.fits d b c.args.self.now c.define_module.new.self c.args.declarations.now c.define_module.result c.define_module.ensures.appended c.define_module.ensures.too_large

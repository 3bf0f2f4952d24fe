use Rattle.wac_binary.specs.Items.{value_def, primitive_def}
use Rattle.wac_encode_scopes.specs.Contents.{and_type}
use Rattle.wac_encode_scopes.proofs.Added.{adds-def}
use Rattle.wac_encode_scopes.proofs.Stepped.{on-ok, both-ok, all-written}
use Rattle.wac_encode_scopes.proofs.Opened.{keeps-records}
use Rattle.wac_encode_scopes.proofs.Additions.{goes-primitive}
use Rattle.wac_encode_scopes.proofs.Calls.{primitive-here}
use Rattle.wac_encode_scopes.proofs.state.State.define_primitive.Goals as goal

pub returns-clause-defines : goal.returns-clause-defines
returns-clause-defines c = both-ok c.define_primitive.result (goes-primitive c.step_law.ensures.defines_primitive c.args.primitive c.args.self.now c.define_primitive.new.self) c.define_primitive.ensures.index c.define_primitive.ensures.appended

pub returns-clause-records : goal.returns-clause-records
returns-clause-records c = on-ok c.define_primitive.result (keeps-records c.args.self.now c.define_primitive.new.self (and_type (value_def (primitive_def c.args.primitive)) c.args.self.now.here.content)) c.define_primitive.ensures.appended

pub returns-clause-types : goal.returns-clause-types
returns-clause-types c = all-written c.args.self.now c.define_primitive.new.self (and_type (value_def (primitive_def c.args.primitive)) c.args.self.now.here.content) c.define_primitive.result (adds-def (value_def (primitive_def c.args.primitive)) c.args.self.now.here.content) c.define_primitive.ensures.appended c.define_primitive.ensures.refused

pub returns-clause-paid : goal.returns-clause-paid
returns-clause-paid c d b priced = primitive-here c.size_law.ensures.fits d b c.args.self.now c.define_primitive.new.self c.args.primitive c.define_primitive.result c.define_primitive.ensures.appended c.define_primitive.ensures.too_large

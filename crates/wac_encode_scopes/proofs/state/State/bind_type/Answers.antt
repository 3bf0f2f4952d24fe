use Rattle.std.proofs.Common.{sym, subst}
use Rattle.wac_encode_scopes.specs.Contents.{AddsTypes}
use Rattle.wac_encode_scopes.proofs.Added.{adds-none}
use Rattle.wac_encode_scopes.proofs.Stepped.{on-ok, all-here, records-here}
use Rattle.wac_encode_scopes.proofs.Opened.{binds-type}
use Rattle.wac_encode_stacks.specs.Scopes.{at_type, bind_at}
use Rattle.wac_encode_scopes.proofs.state.State.bind_type.Goals as goal

pub returns-clause-binds : goal.returns-clause-binds
returns-clause-binds c = on-ok c.record_resource.result (binds-type c.closing_law.ensures.binds_more c.args.merged c.args.self.now c.record_resource.new.self c.args.resource c.args.index) c.record_resource.ensures.recorded

pub returns-clause-types : goal.returns-clause-types
returns-clause-types c = all-here c.args.self.now c.record_resource.new.self (subst (AddsTypes c.args.self.now.here.content) (sym c.record_resource.ensures.content) (adds-none c.args.self.now.here.content))

pub returns-clause-recorded : goal.returns-clause-recorded
returns-clause-recorded c = on-ok c.record_resource.result (records-here c.args.merged (bind_at c.args.resource (at_type c.args.index)) c.args.self.now c.record_resource.new.self c.record_resource.ensures.content) c.record_resource.ensures.recorded

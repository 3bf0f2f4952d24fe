use Rattle.std.proofs.Common.{sym, subst}
use Rattle.wac_encode_stacks.specs.Scopes.{at_export, export_at}
use Rattle.wac_encode_scopes.specs.Contents.{AddsTypes}
use Rattle.wac_encode_scopes.proofs.Added.{adds-none}
use Rattle.wac_encode_scopes.proofs.Stepped.{on-ok, all-here, goes-here, records-here}
use Rattle.wac_encode_scopes.proofs.state.State.tell.Goals as goal

pub returns-clause-goes : goal.returns-clause-goes
returns-clause-goes c = on-ok c.record_export.result (λ h d may. goes-here d c.args.merged (export_at c.args.definition (at_export c.args.instance c.args.name)) c.args.self.now c.record_export.new.self h (subst (AddsTypes c.args.self.now.here.content) (sym c.record_export.ensures.content) (adds-none c.args.self.now.here.content)) may) c.record_export.ensures.recorded

pub returns-clause-types : goal.returns-clause-types
returns-clause-types c = all-here c.args.self.now c.record_export.new.self (subst (AddsTypes c.args.self.now.here.content) (sym c.record_export.ensures.content) (adds-none c.args.self.now.here.content))

pub returns-clause-recorded : goal.returns-clause-recorded
returns-clause-recorded c = on-ok c.record_export.result (records-here c.args.merged (export_at c.args.definition (at_export c.args.instance c.args.name)) c.args.self.now c.record_export.new.self c.record_export.ensures.content) c.record_export.ensures.recorded

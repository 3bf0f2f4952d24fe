use Rattle.std.proofs.Common.{sym, subst}
use Rattle.wac_encode_scopes.specs.Contents.{AddsTypes}
use Rattle.wac_encode_scopes.specs.Books.{how_of, opened}
use Rattle.wac_encode_scopes.proofs.Added.{adds-none}
use Rattle.wac_encode_scopes.proofs.Stepped.{on-ok, all-here, goes-recorded, indexed-there, records-here}
use Rattle.wac_encode_stacks.specs.Scopes.{index_at}
use Rattle.wac_encode_scopes.proofs.Calls.{record-here}
use Rattle.wac_encode_scopes.proofs.state.State.record.Goals as goal

pub returns-clause-goes : goal.returns-clause-goes
returns-clause-goes c = on-ok c.record_type.result (λ h d at. goes-recorded c.step_law.ensures.records_type d c.args.merged c.args.self.now c.record_type.new.self c.args.ty (how_of c.args.how) c.args.index at h (subst (AddsTypes c.args.self.now.here.content) (sym c.record_type.ensures.content) (adds-none c.args.self.now.here.content))) c.record_type.ensures.recorded

pub returns-clause-recorded : goal.returns-clause-recorded
returns-clause-recorded c = on-ok c.record_type.result (λ h. indexed-there c.args.merged c.args.ty (how_of c.args.how) c.args.index (opened c.args.merged c.args.self.now.here) (opened c.args.merged c.record_type.new.self) h.0) c.record_type.ensures.recorded

pub returns-clause-types : goal.returns-clause-types
returns-clause-types c = all-here c.args.self.now c.record_type.new.self (subst (AddsTypes c.args.self.now.here.content) (sym c.record_type.ensures.content) (adds-none c.args.self.now.here.content))

pub returns-clause-records : goal.returns-clause-records
returns-clause-records c = on-ok c.record_type.result (records-here c.args.merged (index_at c.args.ty (how_of c.args.how) c.args.index) c.args.self.now c.record_type.new.self c.record_type.ensures.content) c.record_type.ensures.recorded

pub returns-clause-paid : goal.returns-clause-paid
returns-clause-paid c d small priced = record-here d c.args.merged c.args.self.now c.record_type.new.self c.args.ty (how_of c.args.how) c.args.index c.record_type.result small c.record_type.ensures.recorded c.record_type.ensures.memory

use Rattle.wac_encode_scopes.specs.private.Telling.{is_one_of}
use Rattle.wac_encode_imports.proofs.Writing.{instance-closed, instance-held, ready-instance, writes-instance}
use Rattle.std.proofs.Common.{true, []}
use Rattle.std.specs.Prelude.{Ok}
use Rattle.wac_encode_scopes.specs.private.Paid.{telling_cost}
use Rattle.wac_encode_scopes.specs.Contents.{content_of}
use Rattle.wac_encode_scopes.proofs.Paying.{exit-answer}
use Rattle.wac_encode_imports.proofs.ImportPaying.{instance-refused, instance-told, instance-unpaid}
use Rattle.wac_encode_imports.proofs.import.ImportWriter.import_instance.Goals as goal

pub import_item-requires-clause-writer : goal.import_item-requires-clause-writer
import_item-requires-clause-writer c = c.requires.2.writer

pub import_item-requires-clause-root : goal.import_item-requires-clause-root
import_item-requires-clause-root c = c.requires.3.written.root

pub import_item-requires-clause-ready : goal.import_item-requires-clause-ready
import_item-requires-clause-ready c = ready-instance c.args.self.now c.args.position c.args.name.now c.args.interface c.args.state.now c.free_law.ensures c.requires

pub first_resources-requires : goal.first_resources-requires
first_resources-requires c = instance-held c.args.self.now c.args.position c.args.name.now c.args.interface c.args.state.now c.requires

pub tell_instance-requires-clause-closed : goal.tell_instance-requires-clause-closed
tell_instance-requires-clause-closed c = instance-closed c.args.self.now c.args.position c.args.name.now c.args.interface c.args.state.now c.requires

pub tell_instance-requires-clause-held : goal.tell_instance-requires-clause-held
tell_instance-requires-clause-held c = instance-held c.args.self.now c.args.position c.args.name.now c.args.interface c.args.state.now c.requires

pub returns-clause-written : goal.returns-clause-written
returns-clause-written c =
    writes-instance c.args.self.now c.args.position c.args.name.now c.args.interface (is_one_of c.in_ok-own.own.keys)
    c.args.state.now c.import_item.new.state c.tell_instance.new.self c.in_ok-index.index c.free_law.ensures c.instance_law.ensures.shows_whole
    c.in_ok-tell_instance.ensures.tells c.in_ok-tell_instance.ensures.recorded c.in_ok-own.ensures c.in_ok-index.ensures.imports c.in_ok-index.ensures.beside

pub returns-in_err-index-clause-paid : goal.returns-in_err-index-clause-paid
returns-in_err-index-clause-paid c = instance-refused c.args.self.now c.args.position c.args.name.now c.args.interface c.args.state.now c.import_item.new.state (c.in_err-index.field-0).0 c.from_residual.result c.from_residual.ensures.1 c.in_err-index.ensures.paid

pub returns-in_err-own-clause-paid : goal.returns-in_err-own-clause-paid
returns-in_err-own-clause-paid c = instance-unpaid c.args.self.now c.args.position c.args.name.now c.args.interface c.args.state.now c.import_item.new.state c.from_residual-in_err-own.result c.from_residual-in_err-own.ensures.1

pub returns-in_err-tell_instance-clause-paid : goal.returns-in_err-tell_instance-clause-paid
returns-in_err-tell_instance-clause-paid c = instance-told c.args.self.now c.args.position c.args.name.now c.args.interface c.args.state.now c.import_item.new.state c.tell_instance.new.self c.in_ok-index.index c.in_ok-own.own.keys c.from_residual-in_err-tell_instance.result
    c.in_ok-index.ensures.paid c.in_ok-index.ensures.imports c.in_ok-own.ensures
    (λ it at none priced. exit-answer c.args.self.now.types.now true [] (telling_cost true (content_of c.import_item.new.state.here.content) it.exports) c.import_item.new.state c.tell_instance.new.self (c.in_err-tell_instance.field-0).0 c.from_residual-in_err-tell_instance.result c.from_residual-in_err-tell_instance.ensures.1 (c.in_err-tell_instance.ensures.paid it at none priced))

pub returns-clause-paid : goal.returns-clause-paid
returns-clause-paid c = instance-told c.args.self.now c.args.position c.args.name.now c.args.interface c.args.state.now c.import_item.new.state c.tell_instance.new.self c.in_ok-index.index c.in_ok-own.own.keys (Ok c.in_ok-index.index)
    c.in_ok-index.ensures.paid c.in_ok-index.ensures.imports c.in_ok-own.ensures
    (λ it at none priced. c.in_ok-tell_instance.ensures.paid it at none priced)

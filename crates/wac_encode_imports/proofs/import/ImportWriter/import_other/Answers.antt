use Rattle.wac_encode_interfaces.specs.private.Imports.{ImportsBeside, ImportsOf}
use Rattle.wac_encode_imports.specs.private.Written.{WritesImport}
use Rattle.wac_encode_imports.proofs.Writing.{if-two, ready-plain, writes-plain}
use Rattle.wac_encode_imports.proofs.ImportPaying.{other-paid}
use Rattle.wac_encode_imports.proofs.import.ImportWriter.import_other.Goals as goal

pub import_item-requires-clause-writer : goal.import_item-requires-clause-writer
import_item-requires-clause-writer c = c.requires.next.2.writer

pub import_item-requires-clause-root : goal.import_item-requires-clause-root
import_item-requires-clause-root c = c.requires.next.3.written.root

pub import_item-requires-clause-ready : goal.import_item-requires-clause-ready
import_item-requires-clause-ready c = ready-plain c.args.self.now c.args.position c.args.name.now c.args.item c.args.state.now c.free_law.ensures c.requires.next c.requires.plain c.requires.other

pub returns-clause-written : goal.returns-clause-written
returns-clause-written c =
    if-two (ImportsOf c.args.self.now.writer.types.now c.args.self.now.writer.merged c.args.name.now c.args.item c.args.state.now c.import_item.new.state)
    (λ i. ImportsBeside c.args.self.now.writer.merged c.args.name.now c.args.item i c.args.state.now c.import_item.new.state)
    (WritesImport c.args.self.now c.args.position c.args.name.now c.args.item c.args.state.now c.import_item.new.state) c.import_item.result
    (λ i imports beside. writes-plain c.args.self.now c.args.position c.args.name.now c.args.item c.args.state.now c.import_item.new.state i c.free_law.ensures c.requires.plain c.requires.other imports beside)
    c.import_item.ensures.imports c.import_item.ensures.beside

pub returns-clause-paid : goal.returns-clause-paid
returns-clause-paid c = other-paid c.args.self.now c.args.position c.args.name.now c.args.state.now c.import_item.new.state c.import_item.result c.args.item c.requires.plain c.requires.no_module c.import_item.ensures.paid

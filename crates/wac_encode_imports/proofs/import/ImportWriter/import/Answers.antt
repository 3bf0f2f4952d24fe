use Rattle.std.proofs.Common.{IfOk, sym, ◌∙◌, subst}
use Rattle.wac_types_shapes.specs.declared.shapes.component.ItemKind.{ItemKind}
use Rattle.wac_encode_imports.specs.private.Modules.{module_index}
use Rattle.wac_encode_imports.specs.private.Written.{MayWrite, WritesImport}
use Rattle.wac_encode_imports.proofs.ModuleTypes.{module-is, still-known}
use Rattle.wac_encode_imports.specs.private.Small.{IsImportPaidWith}
use Rattle.wac_encode_imports.proofs.ImportPaying.{plain-with}
use Rattle.wac_encode_imports.proofs.Writing.{none-of}
use Rattle.wac_encode_imports.proofs.import.ImportWriter.import.Goals as goal

pub import_module-requires-clause-next : goal.import_module-requires-clause-next
import_module-requires-clause-next c = subst (λ (k : ItemKind). MayWrite c.args.self.now c.args.position c.args.name.now k c.args.state.now) (module-is c.args.item c.in-Some.id (sym c.module_in.ensures ∙ c.in-Some.is)) c.requires.next

pub returns-in-Some-clause-written : goal.returns-in-Some-clause-written
returns-in-Some-clause-written c =
    subst (λ (k : ItemKind). IfOk c.import_module.result (WritesImport c.args.self.now c.args.position c.args.name.now k c.args.state.now c.import_module.new.state)) (sym (module-is c.args.item c.in-Some.id (sym c.module_in.ensures ∙ c.in-Some.is))) c.import_module.ensures.written

pub import_plain-requires-clause-no_module : goal.import_plain-requires-clause-no_module
import_plain-requires-clause-no_module c = sym c.module_in.ensures ∙ none-of c.module_in.result c.in_default.not-Some

pub returns-clause-known : goal.returns-clause-known
returns-clause-known c =
    still-known c.args.self.now c.args.position c.args.name.now c.args.item c.args.state.now c.import_plain.new.state (module_index c.args.modules.now) c.import_plain.result c.requires.next c.import_plain.ensures.written c.requires.known

pub returns-in-Some-clause-paid : goal.returns-in-Some-clause-paid
returns-in-Some-clause-paid c =
    subst (λ (k : ItemKind). IsImportPaidWith c.args.self.now c.args.position c.args.name.now k (module_index c.args.modules.now) (module_index c.import_module.new.modules) c.args.state.now c.import_module.new.state c.import_module.result) (sym (module-is c.args.item c.in-Some.id (sym c.module_in.ensures ∙ c.in-Some.is))) c.import_module.ensures.paid

pub returns-clause-paid : goal.returns-clause-paid
returns-clause-paid c = plain-with c.args.self.now c.args.position c.args.name.now c.args.item (module_index c.args.modules.now) c.args.state.now c.import_plain.new.state c.import_plain.result c.import_plain.ensures.paid

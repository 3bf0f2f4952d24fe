use Rattle.std.proofs.Common.{refl}
use Rattle.wac_types_shapes.specs.declared.shapes.component.ItemKind.TheVariants as kind
use Rattle.wac_encode_imports.specs.private.Modules.{module_index}
use Rattle.wac_encode_imports.proofs.Bound.{no-some}
use Rattle.wac_encode_imports.proofs.ModuleTypes.{known-at, known-more, known-still}
use Rattle.wac_encode_imports.proofs.Writing.{ready-plain, writes-plain}
use Rattle.wac_encode_imports.proofs.ImportPaying.{module-paid, module-refused, module-memory}
use Rattle.wac_encode_imports.proofs.import.ImportWriter.import_module.Goals as goal

pub import_module-requires-clause-root : goal.import_module-requires-clause-root
import_module-requires-clause-root c = c.requires.next.3.written.root

pub import_module-requires-clause-ready : goal.import_module-requires-clause-ready
import_module-requires-clause-ready c = ready-plain c.args.self.now c.args.position c.args.name.now (kind.Module c.args.id) c.args.state.now c.free_law.ensures c.requires.next refl (λ m h q is. no-some q is)

pub import_module-requires-clause-known : goal.import_module-requires-clause-known
import_module-requires-clause-known c = known-at c.args.self.now c.args.state.now (module_index c.args.modules.now) c.args.id c.get-known.result c.get-known.ensures c.requires.known

pub returns-clause-written : goal.returns-clause-written
returns-clause-written c =
    writes-plain c.args.self.now c.args.position c.args.name.now (kind.Module c.args.id) c.args.state.now c.import_module.new.state c.in_ok-index.index c.free_law.ensures refl (λ m h q is. no-some q is)
    c.in_ok-index.ensures.imports c.in_ok-index.ensures.beside

-- The indexes that were known keep their meaning; the one of this module is added.
pub returns-clause-known : goal.returns-clause-known
returns-clause-known c =
    known-more c.args.self.now c.import_module.new.state (module_index c.args.modules.now) (module_index c.insert.new.self) c.args.id c.in_ok-index.core_type c.in_ok-insert.ensures.inserted c.in_ok-index.ensures.known
    (known-still c.args.self.now c.args.position c.args.name.now (kind.Module c.args.id) c.args.state.now c.import_module.new.state (module_index c.args.modules.now) c.in_ok-index.index c.requires.next (returns-clause-written c) c.requires.known)

pub returns-clause-paid : goal.returns-clause-paid
returns-clause-paid c = module-paid c.args.self.now c.args.position c.args.name.now c.args.id (module_index c.args.modules.now) (module_index c.insert.new.self) c.args.state.now c.import_module.new.state c.get-known.result c.in_ok-index.core_type c.get-known.ensures c.in_ok-insert.ensures.inserted c.in_ok-index.ensures.paid

pub returns-in_err-index-clause-paid : goal.returns-in_err-index-clause-paid
returns-in_err-index-clause-paid c = module-refused c.args.self.now c.args.position c.args.name.now c.args.id (module_index c.args.modules.now) (module_index c.args.modules.now) c.args.state.now c.import_module.new.state c.get-known.result (c.in_err-index.field-0).0 c.from_residual.result c.get-known.ensures c.from_residual.ensures.1 c.in_err-index.ensures.paid

pub returns-in_err-insert-clause-paid : goal.returns-in_err-insert-clause-paid
returns-in_err-insert-clause-paid c = module-memory c.args.self.now c.args.position c.args.name.now (kind.Module c.args.id) (module_index c.args.modules.now) (module_index c.insert.new.self) c.args.state.now c.import_module.new.state (c.in_err-insert.field-0).0 c.from_residual-in_err-insert.result c.from_residual-in_err-insert.ensures.1 c.in_err-insert.ensures.memory

use Rattle.std.proofs.Common.{refl}
use Rattle.wac_types_shapes.specs.declared.shapes.component.ItemKind.TheVariants as kind
use Rattle.wac_binary.specs.declared.sorts.Description.TheVariants as e
use Rattle.wac_encode_scopes.proofs.Stepped.{goes-none}
use Rattle.wac_encode_interfaces.proofs.Importing.{root-more, imported-item, imported-beside, module-after}
use Rattle.wac_encode_interfaces.proofs.Refused.{err-of, keeps-types, keeps-unchanged}
use Rattle.wac_encode_interfaces.proofs.Answered.{exit-room, listed-no-room, listed-paid, no-room-of, plain-no-room}
use Rattle.wac_encode_scopes.proofs.Paying.{priced-stays}
use Rattle.std.specs.Prelude.{◌+◌, ◌*◌, [], length}
use Rattle.wac_encode_interfaces.specs.private.Paid.{module_cost}
use Rattle.wac_encode_interfaces.proofs.writer.TypeWriter.import_module.Goals as goal

pub core_module-requires-clause-held : goal.core_module-requires-clause-held
core_module-requires-clause-held c = c.requires.ready.held

pub core_module-requires-clause-ready : goal.core_module-requires-clause-ready
core_module-requires-clause-ready c = c.requires.ready.ready

pub import-requires : goal.import-requires
import-requires c = root-more c.args.state.now.here.content c.core_module.new.state.here.content c.requires.root c.in_ok-core_type.ensures.goes.types.0

pub returns-clause-imports : goal.returns-clause-imports
returns-clause-imports c =
    imported-item c.bringing_law.ensures.good_once c.step_law.ensures.is_its_tree c.step_law.ensures.follows c.root_law.ensures.lists_import c.args.self.now.types.now c.args.self.now.merged c.args.name.now (kind.Module c.args.id) (λ o. o)
    c.args.state.now c.core_module.new.state c.import.new.self c.import.new.self (e.CoreModule c.in_ok-core_type.core_type) c.in_ok-index.index c.requires.root
    c.in_ok-core_type.ensures.goes (c.in_ok-core_type.core_type, refl, c.in_ok-core_type.ensures.is) c.in_ok-index.ensures.imports c.in_ok-index.ensures.content
    (λ h. goes-none c.still_law.ensures c.args.self.now.merged c.import.new.self c.args.self.now.types.now) (record { here = refl; other = refl; content = refl; around = refl })

pub returns-clause-beside : goal.returns-clause-beside
returns-clause-beside c =
    imported-beside c.args.self.now.types.now c.args.self.now.merged c.args.name.now (kind.Module c.args.id) (λ o. o) c.args.state.now c.core_module.new.state c.import.new.self c.import.new.self (e.CoreModule c.in_ok-core_type.core_type) c.in_ok-index.index
    c.in_ok-core_type.ensures.goes (c.in_ok-core_type.core_type, refl, c.in_ok-core_type.ensures.is) c.in_ok-index.ensures.records c.in_ok-index.ensures.content c.in_ok-index.ensures.index (record { here = refl; other = refl; content = refl; around = refl })

pub returns-clause-known : goal.returns-clause-known
returns-clause-known c =
    module-after c.args.self.now.types.now c.args.self.now.merged c.args.state.now c.core_module.new.state c.import.new.self c.args.id c.in_ok-core_type.core_type c.in_ok-index.index
    c.requires.ready.ready c.in_ok-core_type.ensures.goes c.in_ok-core_type.ensures.is c.in_ok-index.ensures.imports

pub returns-in_err-core_type-clause-refused : goal.returns-in_err-core_type-clause-refused
returns-in_err-core_type-clause-refused c = err-of c.from_residual.result (keeps-types c.args.state.now c.core_module.new.state c.core_module.ensures.types)

pub returns-in_err-index-clause-refused : goal.returns-in_err-index-clause-refused
returns-in_err-index-clause-refused c = err-of c.from_residual-in_err-index.result (keeps-unchanged c.args.state.now c.core_module.new.state c.import.new.self c.in_ok-core_type.ensures.goes.types c.in_err-index.ensures.refused)

pub returns-in_err-core_type-clause-paid : goal.returns-in_err-core_type-clause-paid
returns-in_err-core_type-clause-paid c priced =
    exit-room c.args.self.now.types.now c.args.self.now.merged [] ((20 + 2 * length c.args.name.now) + (module_cost c.args.self.now.types.now c.args.id c.args.known)) c.args.state.now c.core_module.new.state _ c.from_residual.result c.from_residual.ensures.1
    (λ is. plain-no-room c.args.self.now.types.now c.args.self.now.merged [] (module_cost c.args.self.now.types.now c.args.id c.args.known) (20 + 2 * length c.args.name.now) c.args.state.now (no-room-of c.args.self.now.types.now c.args.self.now.merged [] (module_cost c.args.self.now.types.now c.args.id c.args.known) c.args.state.now _ is (c.in_err-core_type.ensures.paid priced)))

pub returns-in_err-index-clause-paid : goal.returns-in_err-index-clause-paid
returns-in_err-index-clause-paid c priced =
    let later = priced-stays c.args.self.now.merged c.args.state.now c.core_module.new.state c.in_ok-core_type.ensures.goes.types priced in
    exit-room c.args.self.now.types.now c.args.self.now.merged [] ((20 + 2 * length c.args.name.now) + (module_cost c.args.self.now.types.now c.args.id c.args.known)) c.args.state.now c.import.new.self _ c.from_residual-in_err-index.result c.from_residual-in_err-index.ensures.1
    (λ is. listed-no-room c.args.self.now.types.now c.args.self.now.merged [] (module_cost c.args.self.now.types.now c.args.id c.args.known) (20 + 2 * length c.args.name.now) c.args.state.now c.core_module.new.state (c.in_ok-core_type.ensures.paid priced) (no-room-of c.args.self.now.types.now c.args.self.now.merged [] (20 + 2 * length c.args.name.now) c.core_module.new.state _ is (c.in_err-index.ensures.paid c.args.self.now.types.now c.args.self.now.merged later)))

pub returns-clause-paid : goal.returns-clause-paid
returns-clause-paid c priced =
    let later = priced-stays c.args.self.now.merged c.args.state.now c.core_module.new.state c.in_ok-core_type.ensures.goes.types priced in
    listed-paid c.args.self.now.types.now c.args.self.now.merged [] (module_cost c.args.self.now.types.now c.args.id c.args.known) (20 + 2 * length c.args.name.now) c.args.state.now c.core_module.new.state c.import.new.self (c.in_ok-core_type.ensures.paid priced) (c.in_ok-index.ensures.paid c.args.self.now.types.now c.args.self.now.merged later)

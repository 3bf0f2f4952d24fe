use Rattle.wac_encode_interfaces.proofs.Importing.{root-more, imported-item, imported-beside}
use Rattle.wac_encode_interfaces.proofs.Refused.{err-of, keeps-unchanged, keeps-import, keeps-three}
use Rattle.wac_encode_interfaces.proofs.Answered.{added-no-room, added-paid, exit-room, listed-no-room, no-room-of, plain-no-room}
use Rattle.wac_encode_scopes.proofs.Paying.{priced-stays}
use Rattle.wac_encode_interfaces.proofs.ModuleCosts.{priced-import}
use Rattle.std.specs.Prelude.{◌+◌, ◌*◌, [], length}
use Rattle.wac_types_shapes.specs.shapes.Kinds.{kind_type}
use Rattle.wac_encode_interfaces.specs.private.Paid.{import_type_cost}
use Rattle.wac_encode_interfaces.proofs.writer.TypeWriter.import_item.Goals as goal

pub import-requires : goal.import-requires
import-requires c = root-more c.args.state.now.here.content c.describe_import.new.state.here.content c.requires.root c.in_ok-description.ensures.goes.types.0

pub returns-clause-imports : goal.returns-clause-imports
returns-clause-imports c =
    imported-item c.bringing_law.ensures.good_once c.step_law.ensures.is_its_tree c.step_law.ensures.follows c.root_law.ensures.lists_import c.args.self.now.types.now c.args.self.now.merged c.args.name.now c.args.item c.in_ok-record_item.ensures.records.0
    c.args.state.now c.describe_import.new.state c.import.new.self c.record_item.new.state c.in_ok-description.description c.in_ok-index.index c.requires.root
    c.in_ok-description.ensures.goes c.in_ok-description.ensures.describes c.in_ok-index.ensures.imports c.in_ok-index.ensures.content c.in_ok-record_item.ensures.goes c.in_ok-record_item.ensures.records.1

pub returns-clause-beside : goal.returns-clause-beside
returns-clause-beside c =
    imported-beside c.args.self.now.types.now c.args.self.now.merged c.args.name.now c.args.item c.in_ok-record_item.ensures.records.0 c.args.state.now c.describe_import.new.state c.import.new.self c.record_item.new.state c.in_ok-description.description c.in_ok-index.index
    c.in_ok-description.ensures.goes c.in_ok-description.ensures.describes c.in_ok-index.ensures.records c.in_ok-index.ensures.content c.in_ok-index.ensures.index c.in_ok-record_item.ensures.records.1

pub returns-in_err-index-clause-refused : goal.returns-in_err-index-clause-refused
returns-in_err-index-clause-refused c =
    err-of _
    (keeps-unchanged c.args.state.now c.describe_import.new.state c.import.new.self c.in_ok-description.ensures.goes.types c.in_err-index.ensures.refused)

pub returns-in_err-record_item-clause-refused : goal.returns-in_err-record_item-clause-refused
returns-in_err-record_item-clause-refused c =
    err-of _
    (keeps-three c.args.state.now c.describe_import.new.state c.import.new.self c.record_item.new.state c.in_ok-description.ensures.goes.types
    (keeps-import c.args.name.now c.in_ok-description.description c.describe_import.new.state c.import.new.self (root-more c.args.state.now.here.content c.describe_import.new.state.here.content c.requires.root c.in_ok-description.ensures.goes.types.0) c.in_ok-index.ensures.records.0 c.in_ok-index.ensures.content) c.record_item.ensures.types)

pub returns-in_err-description-clause-refused : goal.returns-in_err-description-clause-refused
returns-in_err-description-clause-refused c = err-of _ c.in_err-description.ensures.refused

pub returns-in_err-description-clause-paid : goal.returns-in_err-description-clause-paid
returns-in_err-description-clause-paid c may ts covers priced =
    exit-room c.args.self.now.types.now c.args.self.now.merged ts ((20 + 2 * length c.args.name.now) + (import_type_cost c.args.self.now.types.now (kind_type c.args.item))) c.args.state.now c.describe_import.new.state _ c.from_residual.result c.from_residual.ensures.1
    (λ is. plain-no-room c.args.self.now.types.now c.args.self.now.merged ts (import_type_cost c.args.self.now.types.now (kind_type c.args.item)) (20 + 2 * length c.args.name.now) c.args.state.now (no-room-of c.args.self.now.types.now c.args.self.now.merged ts (import_type_cost c.args.self.now.types.now (kind_type c.args.item)) c.args.state.now _ is (c.in_err-description.ensures.paid may ts covers priced)))

pub returns-in_err-index-clause-paid : goal.returns-in_err-index-clause-paid
returns-in_err-index-clause-paid c may ts covers priced =
    let later = priced-stays c.args.self.now.merged c.args.state.now c.describe_import.new.state c.in_ok-description.ensures.goes.types priced in
    exit-room c.args.self.now.types.now c.args.self.now.merged ts ((20 + 2 * length c.args.name.now) + (import_type_cost c.args.self.now.types.now (kind_type c.args.item))) c.args.state.now c.import.new.self _ c.from_residual-in_err-index.result c.from_residual-in_err-index.ensures.1
    (λ is. listed-no-room c.args.self.now.types.now c.args.self.now.merged ts (import_type_cost c.args.self.now.types.now (kind_type c.args.item)) (20 + 2 * length c.args.name.now) c.args.state.now c.describe_import.new.state (c.in_ok-description.ensures.paid may ts covers priced) (no-room-of c.args.self.now.types.now c.args.self.now.merged [] (20 + 2 * length c.args.name.now) c.describe_import.new.state _ is (c.in_err-index.ensures.paid c.args.self.now.types.now c.args.self.now.merged later)))

pub returns-in_err-record_item-clause-paid : goal.returns-in_err-record_item-clause-paid
returns-in_err-record_item-clause-paid c may ts covers priced =
    let later = priced-stays c.args.self.now.merged c.args.state.now c.describe_import.new.state c.in_ok-description.ensures.goes.types priced in
    exit-room c.args.self.now.types.now c.args.self.now.merged ts ((20 + 2 * length c.args.name.now) + (import_type_cost c.args.self.now.types.now (kind_type c.args.item))) c.args.state.now c.record_item.new.state _ c.from_residual-in_err-record_item.result c.from_residual-in_err-record_item.ensures.1
    (λ is. added-no-room c.args.self.now.types.now c.args.self.now.merged ts (import_type_cost c.args.self.now.types.now (kind_type c.args.item)) (20 + 2 * length c.args.name.now) c.args.state.now c.describe_import.new.state c.import.new.self (c.in_ok-description.ensures.paid may ts covers priced) (c.in_ok-index.ensures.paid c.args.self.now.types.now c.args.self.now.merged later) (no-room-of c.args.self.now.types.now c.args.self.now.merged [] 0 c.import.new.self _ is (c.in_err-record_item.ensures.paid (priced-import c.args.self.now.merged c.args.name.now c.in_ok-description.description c.describe_import.new.state c.import.new.self (root-more c.args.state.now.here.content c.describe_import.new.state.here.content c.requires.root c.in_ok-description.ensures.goes.types.0) c.in_ok-index.ensures.records.0 c.in_ok-index.ensures.content later))))

pub returns-clause-paid : goal.returns-clause-paid
returns-clause-paid c may ts covers priced =
    let later = priced-stays c.args.self.now.merged c.args.state.now c.describe_import.new.state c.in_ok-description.ensures.goes.types priced in
    added-paid c.args.self.now.types.now c.args.self.now.merged ts (import_type_cost c.args.self.now.types.now (kind_type c.args.item)) (20 + 2 * length c.args.name.now) c.args.state.now c.describe_import.new.state c.import.new.self c.record_item.new.state (c.in_ok-description.ensures.paid may ts covers priced) (c.in_ok-index.ensures.paid c.args.self.now.types.now c.args.self.now.merged later) (c.in_ok-record_item.ensures.paid (priced-import c.args.self.now.merged c.args.name.now c.in_ok-description.description c.describe_import.new.state c.import.new.self (root-more c.args.state.now.here.content c.describe_import.new.state.here.content c.requires.root c.in_ok-description.ensures.goes.types.0) c.in_ok-index.ensures.records.0 c.in_ok-index.ensures.content later))

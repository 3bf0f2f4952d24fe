use Rattle.wac_encode_scopes.specs.Contents.{side_of, content_of}
use Rattle.wac_encode_interfaces.proofs.Written.{side-on}
use Rattle.wac_encode_interfaces.proofs.Adding.{added}
use Rattle.wac_encode_interfaces.proofs.Besides.{added-beside}
use Rattle.wac_encode_interfaces.proofs.Refused.{keeps-types, keeps-unchanged, keeps-item, keeps-three}
use Rattle.wac_encode_interfaces.proofs.Answered.{added-no-room, added-paid, exit-room, listed-no-room, no-room-of, plain-no-room, priced-list}
use Rattle.wac_encode_scopes.proofs.Paying.{priced-stays}
use Rattle.std.specs.Prelude.{◌+◌, ◌*◌, [], length}
use Rattle.wac_types_shapes.specs.shapes.Kinds.{kind_type}
use Rattle.wac_encode_scopes.specs.private.Paid.{type_cost}
use Rattle.wac_encode_interfaces.proofs.writer.TypeWriter.add_item.Goals as goal

pub list-requires : goal.list-requires
list-requires c = side-on (side_of c.args.side) c.args.state.now.here.content c.describe.new.state.here.content c.in_ok-description.ensures.goes.types.0 c.requires.side

pub returns-clause-adds : goal.returns-clause-adds
returns-clause-adds c = added c.bringing_law.ensures.good_once c.args.self.now.types.now c.args.self.now.merged (side_of c.args.side) c.args.name.now c.args.item c.args.state.now c.describe.new.state c.list.new.self c.record_item.new.state c.in_ok-description.description c.in_ok-index.index c.in_ok-description.ensures.goes c.in_ok-description.ensures.describes c.in_ok-index.ensures.lists c.in_ok-index.ensures.records c.in_ok-record_item.ensures.goes

pub returns-clause-beside : goal.returns-clause-beside
returns-clause-beside c = added-beside c.args.self.now.types.now c.args.self.now.merged c.in_ok-record_item.ensures.records.0 (side_of c.args.side) c.args.name.now c.in_ok-description.description c.args.state.now c.describe.new.state c.list.new.self c.record_item.new.state c.in_ok-description.ensures.goes c.in_ok-index.ensures.records c.in_ok-index.ensures.content c.in_ok-record_item.ensures.records.1

pub returns-in_err-description-clause-kept : goal.returns-in_err-description-clause-kept
returns-in_err-description-clause-kept c = keeps-types c.args.state.now c.describe.new.state c.describe.ensures.types

pub returns-in_err-index-clause-kept : goal.returns-in_err-index-clause-kept
returns-in_err-index-clause-kept c = keeps-unchanged c.args.state.now c.describe.new.state c.list.new.self c.describe.ensures.types c.in_err-index.ensures.refused

pub returns-in_err-record_item-clause-kept : goal.returns-in_err-record_item-clause-kept
returns-in_err-record_item-clause-kept c = keeps-three c.args.state.now c.describe.new.state c.list.new.self c.record_item.new.state c.describe.ensures.types (keeps-item (side_of c.args.side) c.args.name.now c.in_ok-description.description c.describe.new.state c.list.new.self c.in_ok-index.ensures.records.0 c.in_ok-index.ensures.content) c.record_item.ensures.types

pub returns-clause-kept : goal.returns-clause-kept
returns-clause-kept c = keeps-three c.args.state.now c.describe.new.state c.list.new.self c.record_item.new.state c.describe.ensures.types (keeps-item (side_of c.args.side) c.args.name.now c.in_ok-description.description c.describe.new.state c.list.new.self c.in_ok-index.ensures.records.0 c.in_ok-index.ensures.content) c.record_item.ensures.types

pub returns-in_err-description-clause-paid : goal.returns-in_err-description-clause-paid
returns-in_err-description-clause-paid c ts covers priced =
    exit-room c.args.self.now.types.now c.args.self.now.merged ts (10 + 2 * length c.args.name.now + type_cost c.args.self.now.types.now (content_of c.args.state.now.here.content) (kind_type c.args.item)) c.args.state.now c.describe.new.state _ c.from_residual.result c.from_residual.ensures.1
    (λ is. plain-no-room c.args.self.now.types.now c.args.self.now.merged ts (type_cost c.args.self.now.types.now (content_of c.args.state.now.here.content) (kind_type c.args.item)) (10 + 2 * length c.args.name.now) c.args.state.now (no-room-of c.args.self.now.types.now c.args.self.now.merged ts (type_cost c.args.self.now.types.now (content_of c.args.state.now.here.content) (kind_type c.args.item)) c.args.state.now _ is (c.in_err-description.ensures.paid ts covers priced)))

pub returns-in_err-index-clause-paid : goal.returns-in_err-index-clause-paid
returns-in_err-index-clause-paid c ts covers priced =
    let later = priced-stays c.args.self.now.merged c.args.state.now c.describe.new.state c.describe.ensures.types priced in
    exit-room c.args.self.now.types.now c.args.self.now.merged ts (10 + 2 * length c.args.name.now + type_cost c.args.self.now.types.now (content_of c.args.state.now.here.content) (kind_type c.args.item)) c.args.state.now c.list.new.self _ c.from_residual-in_err-index.result c.from_residual-in_err-index.ensures.1
    (λ is. listed-no-room c.args.self.now.types.now c.args.self.now.merged ts (type_cost c.args.self.now.types.now (content_of c.args.state.now.here.content) (kind_type c.args.item)) (10 + 2 * length c.args.name.now) c.args.state.now c.describe.new.state (c.in_ok-description.ensures.paid ts covers priced) (no-room-of c.args.self.now.types.now c.args.self.now.merged [] (10 + 2 * length c.args.name.now) c.describe.new.state _ is (c.in_err-index.ensures.paid c.args.self.now.types.now c.args.self.now.merged later)))

pub returns-in_err-record_item-clause-paid : goal.returns-in_err-record_item-clause-paid
returns-in_err-record_item-clause-paid c ts covers priced =
    let later = priced-stays c.args.self.now.merged c.args.state.now c.describe.new.state c.describe.ensures.types priced in
    let listed_priced = priced-list c.args.self.now.merged (side_of c.args.side) c.args.name.now c.in_ok-description.description c.describe.new.state c.list.new.self c.in_ok-index.ensures.records.0 c.in_ok-index.ensures.content later in
    exit-room c.args.self.now.types.now c.args.self.now.merged ts (10 + 2 * length c.args.name.now + type_cost c.args.self.now.types.now (content_of c.args.state.now.here.content) (kind_type c.args.item)) c.args.state.now c.record_item.new.state _ c.from_residual-in_err-record_item.result c.from_residual-in_err-record_item.ensures.1
    (λ is. added-no-room c.args.self.now.types.now c.args.self.now.merged ts (type_cost c.args.self.now.types.now (content_of c.args.state.now.here.content) (kind_type c.args.item)) (10 + 2 * length c.args.name.now) c.args.state.now c.describe.new.state c.list.new.self (c.in_ok-description.ensures.paid ts covers priced) (c.in_ok-index.ensures.paid c.args.self.now.types.now c.args.self.now.merged later) (no-room-of c.args.self.now.types.now c.args.self.now.merged [] 0 c.list.new.self _ is (c.in_err-record_item.ensures.paid listed_priced)))

pub returns-clause-paid : goal.returns-clause-paid
returns-clause-paid c ts covers priced =
    let later = priced-stays c.args.self.now.merged c.args.state.now c.describe.new.state c.describe.ensures.types priced in
    let listed_priced = priced-list c.args.self.now.merged (side_of c.args.side) c.args.name.now c.in_ok-description.description c.describe.new.state c.list.new.self c.in_ok-index.ensures.records.0 c.in_ok-index.ensures.content later in
    added-paid c.args.self.now.types.now c.args.self.now.merged ts (type_cost c.args.self.now.types.now (content_of c.args.state.now.here.content) (kind_type c.args.item)) (10 + 2 * length c.args.name.now) c.args.state.now c.describe.new.state c.list.new.self c.record_item.new.state (c.in_ok-description.ensures.paid ts covers priced) (c.in_ok-index.ensures.paid c.args.self.now.types.now c.args.self.now.merged later) (c.in_ok-record_item.ensures.paid listed_priced)

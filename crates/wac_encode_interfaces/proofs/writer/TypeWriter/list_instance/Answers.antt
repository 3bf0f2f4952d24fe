use Rattle.wac_binary.specs.declared.sorts.Description.TheVariants as e
use Rattle.wac_encode_scopes.specs.Contents.{side_of, and_item}
use Rattle.wac_encode_scopes.specs.private.Listing.{ListsItem}
use Rattle.wac_encode_scopes.specs.States.{KeepsRecords}
use Rattle.std.specs.Prelude.{◌≡◌, ◌+◌, ◌*◌, [], length}
use Rattle.wac_encode_interfaces.specs.private.Parts.{ListsInterface}
use Rattle.wac_encode_interfaces.proofs.Others.{lists-interface}
use Rattle.wac_encode_interfaces.proofs.Writes.{has-side, still-component, ok-of-three}
use Rattle.wac_encode_interfaces.proofs.Answered.{component-open, exit-room, no-room-of, open-encloses, plain-no-room, same-answer, turned-sum}
use Rattle.wac_encode_scopes.proofs.Paying.{priced-stays, then-answer}
use Rattle.wac_encode_scopes.specs.private.Paid.{interface_cost}
use Rattle.wac_encode_interfaces.proofs.writer.TypeWriter.list_instance.Goals as goal

pub list-requires : goal.list-requires
list-requires c =
    has-side (side_of c.args.side) c.interface_index.new.state.here.content
    (still-component c.args.self.now.types.now c.args.self.now.merged c.args.state.now c.interface_index.new.state c.in_ok-index.ensures.goes c.requires.content)

pub returns-clause-lists : goal.returns-clause-lists
returns-clause-lists c =
    let t = c.args.self.now.types.now in
    let b = c.args.self.now.merged in
    let side = side_of c.args.side in
    let mid = c.interface_index.new.state in
    let new = c.list.new.self in
    ok-of-three (new.here.content ≡ and_item side c.args.name.now (e.Instance c.in_ok-index.index) mid.here.content) (KeepsRecords mid new) (ListsItem side c.args.name.now (e.Instance c.in_ok-index.index) mid new)
    (ListsInterface t b side c.args.name.now c.args.types_only c.args.interface c.args.state.now new) c.list.result
    (λ k content records lists. lists-interface t b side c.args.name.now c.args.types_only c.args.interface c.args.state.now mid new c.in_ok-index.index k c.requires.content c.in_ok-index.ensures.goes c.in_ok-index.ensures.is lists records content)
    c.list.ensures.content c.list.ensures.records c.list.ensures.lists

pub returns-in_err-index-clause-paid : goal.returns-in_err-index-clause-paid
returns-in_err-index-clause-paid c priced =
    exit-room c.args.self.now.types.now c.args.self.now.merged [] (10 + 2 * length c.args.name.now + interface_cost c.args.self.now.types.now c.args.interface) c.args.state.now c.interface_index.new.state _ c.from_residual.result c.from_residual.ensures.1
    (λ is. plain-no-room c.args.self.now.types.now c.args.self.now.merged [] (interface_cost c.args.self.now.types.now c.args.interface) (10 + 2 * length c.args.name.now) c.args.state.now (no-room-of c.args.self.now.types.now c.args.self.now.merged [] (interface_cost c.args.self.now.types.now c.args.interface) c.args.state.now _ is (c.in_err-index.ensures.paid (open-encloses c.args.self.now.merged c.args.state.now.here.content (component-open c.args.state.now.here.content c.requires.content)) priced)))

pub returns-clause-paid : goal.returns-clause-paid
returns-clause-paid c priced =
    same-answer c.args.self.now.types.now c.args.self.now.merged [] (interface_cost c.args.self.now.types.now c.args.interface + (10 + 2 * length c.args.name.now)) (10 + 2 * length c.args.name.now + interface_cost c.args.self.now.types.now c.args.interface) c.args.state.now c.list.new.self c.list.result (turned-sum (interface_cost c.args.self.now.types.now c.args.interface) (10 + 2 * length c.args.name.now))
    (then-answer c.args.self.now.types.now c.args.self.now.merged [] (interface_cost c.args.self.now.types.now c.args.interface) (10 + 2 * length c.args.name.now) c.args.state.now c.interface_index.new.state c.list.new.self c.list.result (c.in_ok-index.ensures.paid (open-encloses c.args.self.now.merged c.args.state.now.here.content (component-open c.args.state.now.here.content c.requires.content)) priced) (c.list.ensures.paid c.args.self.now.types.now c.args.self.now.merged (priced-stays c.args.self.now.merged c.args.state.now c.interface_index.new.state c.in_ok-index.ensures.goes.types priced)))

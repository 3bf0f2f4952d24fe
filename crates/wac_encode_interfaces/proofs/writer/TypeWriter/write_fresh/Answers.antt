use Rattle.wac_encode_scopes.specs.Contents.{side_of}
use Rattle.wac_encode_interfaces.specs.private.Worlds.{written_in}
use Rattle.wac_encode_interfaces.proofs.Writes.{has-side, fresh-writes}
use Rattle.wac_encode_interfaces.proofs.SideCosts.{fresh-less}
use Rattle.wac_encode_interfaces.proofs.Answered.{exit-room, no-room-of}
use Rattle.wac_encode_scopes.proofs.Paying.{no-room-up-to, no-room-with-more, pays-up-to, pays-with-more}
use Rattle.std.specs.Prelude.{◌+◌, ◌*◌, [], false, length}
use Rattle.wac_types_shapes.specs.declared.shapes.component.ItemKind.TheVariants as kind
use Rattle.wac_types_shapes.specs.declared.shapes.component.«Type».TheVariants as ty
use Rattle.wac_encode_interfaces.specs.private.Paid.{side_cost}
use Rattle.wac_encode_interfaces.proofs.writer.TypeWriter.write_fresh.Goals as goal

pub list_fresh-requires : goal.list_fresh-requires
list_fresh-requires c = has-side (side_of c.args.side) c.args.state.now.here.content c.requires.next.1.written.content

pub returns-clause-writes : goal.returns-clause-writes
returns-clause-writes c =
    fresh-writes c.args.self.now.types.now c.law.ensures c.args.self.now.merged (written_in c.args.self.now.worlds.now) c.args.parts.now c.requires.planned (side_of c.args.side) c.args.name.now c.args.resource c.args.state.now c.list_fresh.new.self c.in_ok-list_fresh.field-0
    c.requires.item c.requires.made c.in_ok-list_fresh.ensures.lists c.in_ok-list_fresh.ensures.content

pub returns-in_err-list_fresh-clause-paid : goal.returns-in_err-list_fresh-clause-paid
returns-in_err-list_fresh-clause-paid c ts covers priced =
    exit-room c.args.self.now.types.now c.args.self.now.merged ts (side_cost c.args.self.now.types.now c.args.name.now (kind.TypeItem (ty.Resource c.args.resource)) false) c.args.state.now c.list_fresh.new.self _ c.from_residual.result c.from_residual.ensures.1
    (λ is. no-room-up-to c.args.self.now.types.now c.args.self.now.merged ts (10 + 2 * length c.args.name.now) (side_cost c.args.self.now.types.now c.args.name.now (kind.TypeItem (ty.Resource c.args.resource)) false) c.args.state.now (fresh-less c.args.self.now.types.now c.args.name.now c.args.resource) (no-room-with-more c.args.self.now.types.now c.args.self.now.merged ts (10 + 2 * length c.args.name.now) c.args.state.now (no-room-of c.args.self.now.types.now c.args.self.now.merged [] (10 + 2 * length c.args.name.now) c.args.state.now _ is (c.in_err-list_fresh.ensures.paid c.args.self.now.types.now priced))))

pub returns-clause-paid : goal.returns-clause-paid
returns-clause-paid c ts covers priced =
    pays-up-to c.args.self.now.types.now c.args.self.now.merged ts (10 + 2 * length c.args.name.now) (side_cost c.args.self.now.types.now c.args.name.now (kind.TypeItem (ty.Resource c.args.resource)) false) c.args.state.now c.list_fresh.new.self (fresh-less c.args.self.now.types.now c.args.name.now c.args.resource) (pays-with-more c.args.self.now.types.now c.args.self.now.merged ts (10 + 2 * length c.args.name.now) c.args.state.now c.list_fresh.new.self (c.in_ok-list_fresh.ensures.paid c.args.self.now.types.now priced))

use Rattle.std.proofs.Common.{◌≡◌, length, arith}
use Rattle.wac_encode_order.proofs.Edging.{ToType, adds-none, adds-next, types-add}
use Rattle.wac_encode_order.proofs.graph.Graph.add_types.Goals as goal

pub loop-place-init : goal.loop-place-init
loop-place-init c = adds-none c.args.edges.now (ToType c.args.self.now.types.now c.args.self.now.items.now c.args.self.now.found.now)

pub loop-place-preserved : goal.loop-place-preserved
loop-place-preserved c = adds-next c.args.edges.now c.loop-place.edges c.add_parts.new.edges (ToType c.args.self.now.types.now c.args.self.now.items.now c.args.self.now.found.now) c.loop-place.place c.loop-place.invariant c.in_ok-add_parts.ensures

pub returns : goal.returns
returns c =
    let whole : c.loop-place.place ≡ length c.args.self.now.found.now = (let l = c.count-place-end.ensures in let f = c.loop-place-test.false in let m = c.loop-place.auto.place-end in omega (arith, l, f, m)) in
    types-add c.args.self.now.types.now c.args.self.now.items.now c.args.self.now.found.now c.loop-place.place c.args.edges.now c.loop-place.edges whole c.loop-place.invariant

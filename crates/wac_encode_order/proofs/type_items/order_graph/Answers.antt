use Rattle.std.proofs.Common.{sym, length, subst}
use Rattle.wac_edges.specs.Edge.{is_left}
use Rattle.wac_edges.specs.Order.{Writes}
use Rattle.wac_encode_order.specs.private.Graph.{AreNamed}
use Rattle.wac_encode_order.proofs.Edging.{are-exact}
use Rattle.wac_encode_order.proofs.Chosen.{taken-ok, none-of, some-of}
use Rattle.wac_encode_order.proofs.Taking.{no-cycle}
use Rattle.wac_encode_order.proofs.type_items.order_graph.Goals as goal

pub add_types-requires-clause-room : goal.add_types-requires-clause-room
add_types-requires-clause-room c = c.requires.room

pub add_types-requires-clause-named : goal.add_types-requires-clause-named
add_types-requires-clause-named c = subst (AreNamed c.args.graph.now.types.now c.args.graph.now.items.now c.args.graph.now.found.now (length c.args.graph.now.items.now)) (sym c.as_slice.ensures.value) c.in_ok-named.ensures

pub unreachable-requires : goal.unreachable-requires
unreachable-requires c =
    let cycle = none-of c.in_ok-nodes.field-0 c.in_default.is c.in_ok-nodes.ensures.cycle in
    let exact = are-exact c.args.graph.now.types.now c.args.graph.now.items.now c.args.graph.now.found.now c.new-edges.result c.add_types.new.edges c.add_items.new.edges c.new-edges.ensures c.in_ok-add_types.ensures c.in_ok-add_items.ensures in
    no-cycle c.args.graph.now.types.now c.law.ensures c.args.graph.now.items.now c.args.graph.now.found.now c.add_items.new.edges exact c.requires.reached cycle.0 cycle.1

pub returns : goal.returns
returns c =
    let t = c.args.graph.now.types.now in
    let es = c.args.graph.now.items.now in
    let ts = c.args.graph.now.found.now in
    let edges = c.add_items.new.edges in
    let left = c.in_ok-left.left.items in
    let exact = are-exact t es ts c.new-edges.result c.add_types.new.edges edges c.new-edges.ensures c.in_ok-add_types.ensures c.in_ok-add_items.ensures in
    taken-ok t c.law.ensures es ts edges exact c.requires.reached c.args.chosen.now c.items_after.result c.count.result left c.as_slice-2.result.now c.count.ensures c.in_ok-left.ensures
    (subst (λ ns. Writes edges (is_left left) ns) (sym c.as_slice-2.ensures.value) (some-of (λ ns. Writes edges (is_left left) ns.items) c.in_ok-nodes.field-0 c.in-Some.nodes c.in-Some.is c.in_ok-nodes.ensures.whole)) c.items_after.ensures

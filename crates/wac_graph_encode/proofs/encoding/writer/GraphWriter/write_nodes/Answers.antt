use Rattle.std.proofs.Common.{◌≡◌, false, ◌<◌, ◌∙◌, refl, sym, subst, arith, slice_index_or}
use Rattle.wac_edges.specs.Edge.{node_number}
use Rattle.wac_encode_interfaces.specs.private.Worlds.{written_in}
use Rattle.wac_graph_model.specs.meaning.Means.{is_import}
use Rattle.wac_graph_reader.proofs.lemmas.writing.WriteArgumentsLemmas.{element, room_kept, is_there_of}
use Rattle.wac_graph_encode.proofs.lemmas.encoding.LoopLemmas.{within-order, written-starts, written-further, written-ends, node-ready}
use Rattle.std.proofs.Common.{◌+◌, take}
use Rattle.std.specs.List.{sum_by}
use Rattle.std.proofs.lemmas.List.Sums.{sum_by-take-le}
use Rattle.wac_encode_imports.proofs.ToldCosts.{taken-more}
use Rattle.wac_graph_model.specs.private.weight.Written.{item_cost}
use Rattle.wac_graph_encode.proofs.lemmas.encoding.RootCosts.{loop-exit}
use Rattle.wac_graph_encode.proofs.encoding.writer.GraphWriter.write_nodes.Goals as goal

pub loop-n-init : goal.loop-n-init
loop-n-init c = (written-starts c.args.self.now c.args.encoder.now c.args.order.now c.requires.begins, refl, λ o same. omega arith)

pub write_node-requires-clause-node : goal.write_node-requires-clause-node
write_node-requires-clause-node c = c.requires.nodes (slice_index_or c.args.order.now c.loop-n.n-index (node_number 0)) (within-order c.args.order.now c.loop-n.n-index (slice_index_or c.args.order.now c.loop-n.n-index (node_number 0)) (element c.args.order.now c.loop-n.n-index c.loop-n-test.true))

pub write_node-requires-clause-ready : goal.write_node-requires-clause-ready
write_node-requires-clause-ready c =
    node-ready c.args.self.now c.args.encoder.now c.loop-n.encoder c.args.order.now c.loop-n.n-index (slice_index_or c.args.order.now c.loop-n.n-index (node_number 0)) (written_in c.args.self.now.types.now.worlds.now) (element c.args.order.now c.loop-n.n-index c.loop-n-test.true) c.requires.begins c.loop-n.invariant.0
    (c.requires.worlds (slice_index_or c.args.order.now c.loop-n.n-index (node_number 0)) (within-order c.args.order.now c.loop-n.n-index (slice_index_or c.args.order.now c.loop-n.n-index (node_number 0)) (element c.args.order.now c.loop-n.n-index c.loop-n-test.true)))

pub write_node-requires-clause-room : goal.write_node-requires-clause-room
write_node-requires-clause-room c = room_kept c.args.self.now.reader.now c.args.encoder.now.indexes.items c.loop-n.encoder.indexes.items c.loop-n.invariant.1 (c.requires.begins).room

pub write_node-requires-clause-noted : goal.write_node-requires-clause-noted
write_node-requires-clause-noted c = subst (λ k. (slice_index_or c.args.order.now c.loop-n.n-index (node_number 0)).0 < k) (sym c.loop-n.invariant.1)
    ((c.requires.begins).room (slice_index_or c.args.order.now c.loop-n.n-index (node_number 0)) (is_there_of c.args.self.now.reader.now (slice_index_or c.args.order.now c.loop-n.n-index (node_number 0)) (λ node. is_import node.kind ≡ false) (c.requires.nodes (slice_index_or c.args.order.now c.loop-n.n-index (node_number 0)) (within-order c.args.order.now c.loop-n.n-index (slice_index_or c.args.order.now c.loop-n.n-index (node_number 0)) (element c.args.order.now c.loop-n.n-index c.loop-n-test.true)))))

pub loop-n-preserved : goal.loop-n-preserved
loop-n-preserved c = (
  written-further (record { counted = c.law.ensures.counted; earlier = c.law.ensures.earlier; bounds_counted = c.law.ensures.instances_counted; bounds_earlier = c.law.ensures.instances_earlier; types_counted = c.law.ensures.types_counted; types_earlier = c.law.ensures.types_earlier })
      c.args.self.now c.law-2.ensures c.loop-n.encoder c.write_node.new.encoder c.args.order.now c.loop-n.n-index (slice_index_or c.args.order.now c.loop-n.n-index (node_number 0)) (element c.args.order.now c.loop-n.n-index c.loop-n-test.true) c.loop-n.invariant.0 c.in_ok-write_node.ensures.written c.in_ok-write_node.ensures.root,
  c.in_ok-write_node.ensures.kept ∙ c.loop-n.invariant.1,
  λ o same.
      let n = slice_index_or c.args.order.now c.loop-n.n-index (node_number 0) in
      let next = taken-more (item_cost c.args.self.now.reader.now o) c.args.order.now c.loop-n.n-index n (element c.args.order.now c.loop-n.n-index c.loop-n-test.true) in
      omega (arith, c.loop-n.invariant.2 o same, c.in_ok-write_node.ensures.cost o same, next),
)

pub returns-clause-written : goal.returns-clause-written
returns-clause-written c = written-ends c.args.self.now c.loop-n.encoder c.args.order.now c.loop-n.n-index (omega (arith, c.loop-n-test.false)) c.loop-n.invariant.0

pub returns-clause-kept : goal.returns-clause-kept
returns-clause-kept c = c.loop-n.invariant.1

pub returns-in_err-write_node-clause-kept : goal.returns-in_err-write_node-clause-kept
returns-in_err-write_node-clause-kept c = c.in_err-write_node.ensures.kept ∙ c.loop-n.invariant.1

pub returns-clause-cost : goal.returns-clause-cost
returns-clause-cost c = λ o same.
    let less = sum_by-take-le (item_cost c.args.self.now.reader.now o) c.args.order.now c.loop-n.n-index in
    omega (arith, c.loop-n.invariant.2 o same, less)

pub returns-in_err-write_node-clause-cost : goal.returns-in_err-write_node-clause-cost
returns-in_err-write_node-clause-cost c = λ o same.
    let g = c.args.self.now.reader.now in
    let n = slice_index_or c.args.order.now c.loop-n.n-index (node_number 0) in
    let next = taken-more (item_cost g o) c.args.order.now c.loop-n.n-index n (element c.args.order.now c.loop-n.n-index c.loop-n-test.true) in
    let less = sum_by-take-le (item_cost g o) c.args.order.now (c.loop-n.n-index + 1) in
    loop-exit g o (item_cost g o n) (sum_by (item_cost g o) (take c.loop-n.n-index c.args.order.now)) (sum_by (item_cost g o) c.args.order.now) c.args.encoder.now c.loop-n.encoder c.write_node.new.encoder (c.in_err-write_node.field-0).0 c.from_residual.result c.from_residual.ensures.1
    (omega (arith, next, less)) (c.loop-n.invariant.2 o same) (c.in_err-write_node.ensures.cost o same)

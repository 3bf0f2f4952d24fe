use Rattle.std.proofs.Common.{◌∙◌, Contains, None, false, length, ap, refl, sym, subst}
use Rattle.wac_types_collection.specs.collection.Collection.{Collection}
use Rattle.wac_edges.specs.declared.node.NodeId.{NodeId}
use Rattle.wac_encode_scopes.specs.private.Closed.{AreClosedTypes}
use Rattle.wac_encode_interfaces.specs.private.Worlds.{AreWorldTypes, written_in}
use Rattle.wac_encode_interfaces.specs.declared.worlds.WorldTypes.{WorldTypes}
use Rattle.wac_graph_model.specs.nodes.OuterImports.{outer_bindings}
use Rattle.wac_graph_reader.proofs.lemmas.writing.MeansLemmas.{in_order}
use Rattle.wac_graph_reader.proofs.lemmas.writing.WriteArgumentsLemmas.{room_kept}
use Rattle.wac_graph_encode.specs.private.encoding.Root.{HasNodeWorlds}
use Rattle.wac_graph_encode.proofs.lemmas.encoding.LoopLemmas.{order-at, nodes-begin}
use Rattle.std.proofs.Common.{inl, inr, arith}
use Rattle.wac_encode_interfaces.specs.private.Paid.{AreSmallWorlds}
use Rattle.wac_encode_scopes.specs.private.Paid.{total}
use Rattle.wac_graph_reader.proofs.lemmas.writing.CauseLemmas.{exit_cause}
use Rattle.wac_graph_encode.proofs.lemmas.encoding.RootCosts.{memory-exit}
use Rattle.wac_graph_encode.proofs.encoding.writer.write_nodes.Goals as goal

pub node_worlds-requires-clause-closed : goal.node_worlds-requires-clause-closed
node_worlds-requires-clause-closed c = subst (λ (t : Collection). AreClosedTypes t c.in_ok-closed.closed) c.types.ensures c.in_ok-closed.ensures

pub node_worlds-requires-clause-nodes : goal.node_worlds-requires-clause-nodes
node_worlds-requires-clause-nodes c = λ n within. in_order c.args.reader.now c.args.order.now c.requires.whole within.0 n (order-at c.args.order.now n within)

pub node_worlds-requires-clause-faultless : goal.node_worlds-requires-clause-faultless
node_worlds-requires-clause-faultless c = λ n within. (outer_bindings c.args.reader.now (c.requires.begins).outer, c.requires.faultless (c.requires.begins).outer (c.requires.begins).is_order n within)

pub write_nodes-requires-clause-writer : goal.write_nodes-requires-clause-writer
write_nodes-requires-clause-writer c = record {
  writer = c.new-types.ensures.writer (subst (λ (t : Collection). AreClosedTypes t c.in_ok-closed.closed) (c.types.ensures ∙ sym c.types-2.ensures) c.in_ok-closed.ensures) (subst (λ (t : Collection). AreWorldTypes t (written_in c.in_ok-worlds.worlds)) (sym c.types-2.ensures) c.in_ok-worlds.ensures.written) (subst (λ (t : Collection). AreSmallWorlds t (written_in c.in_ok-worlds.worlds)) (sym c.types-2.ensures) c.in_ok-worlds.ensures.sizes);
  types = c.new-types.ensures.types ∙ c.types-2.ensures;
  own = c.new-types.ensures.merged;
  placed = c.requires.placed;
}

pub write_nodes-requires-clause-nodes : goal.write_nodes-requires-clause-nodes
write_nodes-requires-clause-nodes c = λ n within. in_order c.args.reader.now c.args.order.now c.requires.whole within.0 n (order-at c.args.order.now n within)

pub write_nodes-requires-clause-worlds : goal.write_nodes-requires-clause-worlds
write_nodes-requires-clause-worlds c = subst (λ (ws : WorldTypes). (n : NodeId) → Contains c.args.order.now n → HasNodeWorlds c.args.reader.now c.args.define_components (written_in ws) n) (sym c.new-types.ensures.worlds) c.in_ok-worlds.ensures.there

pub write_nodes-requires-clause-begins : goal.write_nodes-requires-clause-begins
write_nodes-requires-clause-begins c = nodes-begin c.class_laws.ensures (λ t es order w. (c.order_law.ensures t es order w).each) _ c.requires.placed c.law.ensures c.new-encoder.result c.args.order.now c.args.state c.in_ok-indexes.indexes.items
    c.requires.whole c.requires.faultless c.requires.begins c.in_ok-indexes.ensures.room c.in_ok-indexes.ensures.found c.new-encoder.ensures.state c.new-encoder.ensures.components (ap (λ v. v.items) c.new-encoder.ensures.indexes)

pub returns-clause-written : goal.returns-clause-written
returns-clause-written c = λ o same outer is_order. (c.in_ok-write_nodes.ensures.written o same outer is_order).1

pub returns-clause-root : goal.returns-clause-root
returns-clause-root c = (c.in_ok-write_nodes.ensures.written (record { define_components = c.args.define_components; validate = false; processor = None }) refl (c.requires.begins).outer (c.requires.begins).is_order).0.root

pub returns-clause-room : goal.returns-clause-room
returns-clause-room c = room_kept c.args.reader.now c.in_ok-indexes.indexes.items c.write_nodes.new.encoder.indexes.items (c.in_ok-write_nodes.ensures.kept ∙ ap (λ v. length v.items) c.new-encoder.ensures.indexes) c.in_ok-indexes.ensures.room

pub returns-clause-cost : goal.returns-clause-cost
returns-clause-cost c = λ o same.
    let costs = c.in_ok-write_nodes.ensures.cost o same in
    let less = c.order_law-2.ensures.components c.args.reader.now o c.write_nodes.new.encoder.components in
    let begins = ap (total c.args.reader.now.types false) c.new-encoder.ensures.state in
    omega (arith, costs, less, begins)

pub returns-in_err-indexes-clause-too_large : goal.returns-in_err-indexes-clause-too_large
returns-in_err-indexes-clause-too_large c = memory-exit _ c.from_residual.result c.from_residual.ensures.1

pub returns-in_err-closed-clause-too_large : goal.returns-in_err-closed-clause-too_large
returns-in_err-closed-clause-too_large c = memory-exit _ c.from_residual-in_err-closed.result c.from_residual-in_err-closed.ensures.1

pub returns-in_err-worlds-clause-too_large : goal.returns-in_err-worlds-clause-too_large
returns-in_err-worlds-clause-too_large c = exit_cause _ c.from_residual-in_err-worlds.result (c.in_err-worlds.field-0).0 c.from_residual-in_err-worlds.ensures.1 (λ large o same. inr (c.in_err-worlds.ensures.heavy large o))

pub returns-in_err-write_nodes-clause-too_large : goal.returns-in_err-write_nodes-clause-too_large
returns-in_err-write_nodes-clause-too_large c = exit_cause _ c.from_residual-in_err-write_nodes.result (c.in_err-write_nodes.field-0).0 c.from_residual-in_err-write_nodes.ensures.1
    (λ large o same.
    let costs = c.in_err-write_nodes.ensures.cost o same large in
    let begins = ap (total c.args.reader.now.types false) c.new-encoder.ensures.state in
    inl (omega (arith, costs, begins)))

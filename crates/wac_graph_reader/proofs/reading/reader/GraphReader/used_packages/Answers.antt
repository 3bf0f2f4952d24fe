-- The packages so far are those of the first nodes.
use Rattle.std.proofs.Common.{◌∙◌, ap, arith, slice_index_or}
use Rattle.std.specs.Prelude.{Contains}
use Rattle.std.proofs.lemmas.List.{take_all}
use Rattle.std.proofs.lemmas.Option.{slice_get_within, get_or_from_slice_get}
use Rattle.wac_edges.specs.declared.node.NodeId.{NodeId}
use Rattle.wac_edges.specs.Edge.{node_number}
use Rattle.wac_graph_model.specs.meaning.Means.{used_packages}
use Rattle.wac_graph_reader.proofs.lemmas.reading.PackageLemmas.{used_next}
use Rattle.wac_graph_reader.proofs.lemmas.writing.WriteArgumentsLemmas.{element}
use Rattle.wac_graph_reader.proofs.reading.reader.GraphReader.used_packages.Goals as goal

pub loop-n-init : goal.loop-n-init
loop-n-init c = c.new-used.ensures.empty

pub add_used-requires : goal.add_used-requires
add_used-requires c =
    let order = c.args.order.now in
    let i = c.loop-n.n-index in
    let n : NodeId = slice_index_or order i (node_number 0) in
    let at = element order i c.loop-n-test.true in
    let within : Contains order n = (i, slice_get_within order i n at, get_or_from_slice_get order i n n at) in
    c.requires n within

pub loop-n-preserved : goal.loop-n-preserved
loop-n-preserved c =
    used_next c.args.self.now c.args.order.now c.loop-n.n-index (slice_index_or c.args.order.now c.loop-n.n-index (node_number 0)) c.loop-n.used.keys c.add_used.new.used.keys (element c.args.order.now c.loop-n.n-index c.loop-n-test.true) c.loop-n.invariant c.in_ok-add_used.ensures

pub returns : goal.returns
returns c = c.loop-n.invariant ∙ ap (used_packages c.args.self.now) (take_all c.loop-n.n-index c.args.order.now (omega (arith, c.loop-n-test.false)))

use Rattle.std.proofs.Common.{◌≡◌, ◌+◌, suc, arith, subst}
use Rattle.wac_graph_fields.proofs.RemovingLemmas.{IsTaking, taking_first, taking_given, taking_left, taking_behind, taken_last, shallow, smaller_given, smaller_left, smaller_behind, follows}
use Rattle.wac_graph_fields.proofs.LostLemmas.{noted_same}
use Rattle.wac_graph_fields.proofs.taking.take_nodes.Goals as goal

pub walk-init : goal.walk-init
walk-init c = record { taking = taking_first c.args.nodes.now c.args.edges.now c.args.id c.take_into.new.nodes c.take_into.new.edges c.requires.there c.take_into.ensures.less c.take_into.ensures.others c.take_into.ensures.only c.take_into.ensures.same c.take_into.ensures.tied; noted = noted_same c.args.nodes.now c.take_into.new.nodes c.args.lost.now c.args.exports.now.entries c.requires.noted c.take_into.ensures.same }

pub returns-then-depth-eq0-clause-taken : goal.returns-then-depth-eq0-clause-taken
returns-then-depth-eq0-clause-taken c = (taken_last c.args.nodes.now c.args.edges.now c.args.id c.walk.nodes c.walk.edges c.walk.here c.walk.depth c.walk.invariant.taking c.if-depth-eq0.true c.take_node.new.nodes c.in_default.ensures.none c.take_node.ensures.updates).0

pub walk-smaller-in_default : goal.walk-smaller-in_default
walk-smaller-in_default c = smaller_left c.args.nodes.now c.args.edges.now c.args.id c.walk.nodes c.walk.edges c.walk.here c.walk.depth c.walk.invariant.taking c.leave-here.new.edges c.leave-here.result c.if-depth-eq0.false c.leave-here.ensures.edge

pub walk-preserved-in_default : goal.walk-preserved-in_default
walk-preserved-in_default c = record {
  taking =
      taking_left c.args.nodes.now c.args.edges.now c.args.id c.walk.nodes c.walk.edges c.walk.here c.walk.depth c.walk.invariant.taking c.leave-here.new.nodes c.leave-here.new.edges c.leave-here.result c.if-depth-eq0.false c.in_default.ensures.none
      c.leave-here.ensures.edge c.leave-here.ensures.gone c.leave-here.ensures.others c.leave-here.ensures.tied;
  noted = c.leave-here.ensures.noted;
}

pub walk-smaller-in-Argument : goal.walk-smaller-in-Argument
walk-smaller-in-Argument c = smaller_given c.args.nodes.now c.args.edges.now c.args.id c.walk.nodes c.walk.edges c.walk.here c.walk.depth c.walk.invariant.taking c.take_edge.new.edges c.in-Some.edge c.in-Some.ensures.there.0 c.take_edge.ensures.edges

pub walk-preserved-in-Argument : goal.walk-preserved-in-Argument
walk-preserved-in-Argument c = record {
  taking =
      taking_given c.args.nodes.now c.args.edges.now c.args.id c.walk.nodes c.walk.edges c.walk.here c.walk.depth c.walk.invariant.taking c.take_edge.new.nodes c.take_edge.new.edges c.in-Some.edge c.in-Argument.field-0 c.in-Some.ensures.there.0 c.in-Some.ensures.there.1 c.in-Argument.is
      c.take_edge.ensures.edges c.take_edge.ensures.same c.take_edge.ensures.tied;
  noted = noted_same c.walk.nodes c.take_edge.new.nodes c.walk.lost c.args.exports.now.entries c.walk.invariant.noted c.take_edge.ensures.same;
}

pub overflow_add-depth : goal.overflow_add-depth
overflow_add-depth c = let small = shallow c.args.nodes.now c.args.edges.now c.args.id c.walk.nodes c.walk.edges c.walk.here c.walk.depth c.walk.invariant.taking in omega (arith, small, c.capacity-room.ensures.slots, c.capacity-room.type_inv)

pub walk-smaller : goal.walk-smaller
walk-smaller c = smaller_behind c.args.nodes.now c.args.edges.now c.args.id c.walk.nodes c.walk.edges c.walk.here c.walk.depth c.walk.invariant.taking c.take_into-in_default-label.new.edges c.take_into-in_default-label.ensures.fewer

pub walk-preserved : goal.walk-preserved
walk-preserved c =
    let count : suc c.walk.depth ≡ c.walk.depth + 1 = omega arith in
    record {
      taking = subst (λ d. IsTaking c.args.nodes.now c.args.edges.now c.args.id c.take_into-in_default-label.new.nodes c.take_into-in_default-label.new.edges c.in-Some.edge.target d) count
          (taking_behind c.args.nodes.now c.args.edges.now c.args.id c.walk.nodes c.walk.edges c.walk.here c.walk.depth c.walk.invariant.taking c.take_into-in_default-label.new.nodes c.take_into-in_default-label.new.edges c.in-Some.edge c.in-Some.ensures.there.0 c.in-Some.ensures.there.1
          (follows c.in-Some.edge.label c.in_default-label.not-Argument)
          c.take_into-in_default-label.ensures.less c.take_into-in_default-label.ensures.others c.take_into-in_default-label.ensures.kept c.take_into-in_default-label.ensures.only c.take_into-in_default-label.ensures.same c.take_into-in_default-label.ensures.tied);
      noted = noted_same c.walk.nodes c.take_into-in_default-label.new.nodes c.walk.lost c.args.exports.now.entries c.walk.invariant.noted c.take_into-in_default-label.ensures.same;
    }

pub take_node-requires-clause-noted : goal.take_node-requires-clause-noted
take_node-requires-clause-noted c = c.walk.invariant.noted

pub leave-here-requires-clause-noted : goal.leave-here-requires-clause-noted
leave-here-requires-clause-noted c = c.walk.invariant.noted

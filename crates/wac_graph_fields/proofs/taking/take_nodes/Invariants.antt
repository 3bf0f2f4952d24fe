use Rattle.std.proofs.Common.{◌+◌, ◌-◌, ◌*◌, length}
use Rattle.std.specs.FinSet as set
use Rattle.wac_graph_fields.proofs.RemovingLemmas.{IsTaking}
use Rattle.wac_graph_fields.specs.private.Lost.{AreNoted}
use Rattle.wac_graph_fields.proofs.taking.take_nodes.Given as goal

abbrev pub invariant-walk : goal.invariant-walk
invariant-walk l = record { taking : IsTaking l.fn.nodes l.fn.edges l.fn.id l.nodes l.edges l.here l.depth; noted : AreNoted l.nodes l.lost l.exports.entries }

abbrev pub decreases-walk : goal.decreases-walk
decreases-walk l = 2 * set.len l.edges + (length l.fn.nodes.slots - l.depth)

use Rattle.wac_encode_scopes.specs.Contents.{side_of}
use Rattle.wac_encode_interfaces.proofs.SideCosts.{SidePaid}
use Rattle.wac_encode_interfaces.proofs.Sided.{SideSoFar}
use Rattle.wac_encode_interfaces.proofs.writer.TypeWriter.write_side.Given as goal

abbrev pub invariant-loop-i : goal.invariant-loop-i
invariant-loop-i l = record {
  written : SideSoFar l.fn.self.types.now l.fn.self.merged l.fn.parts (side_of l.fn.side) l.fn.order l.i l.initial.state l.state;
  paid : SidePaid l.fn.self.types.now l.fn.self.merged l.fn.parts (side_of l.fn.side) l.fn.order l.i l.initial.state l.state;
}

use Rattle.std.specs.Prelude.{◌-◌, length}
use Rattle.wac_encode_interfaces.proofs.Charged.{FillingPaid}
use Rattle.wac_encode_interfaces.proofs.Ended.{Filling}
use Rattle.wac_encode_interfaces.proofs.writer.TypeWriter.fill.Given as goal

abbrev pub invariant-items : goal.invariant-items
invariant-items l = record {
  filling : Filling l.self.types.now l.self.merged l.fn.state l.fn.level l.state l.level;
  paid : FillingPaid l.self.types.now l.self.merged l.fn.state l.fn.level l.state l.level;
}

abbrev pub decreases-items : goal.decreases-items
decreases-items l = length l.level.order.items - l.level.next

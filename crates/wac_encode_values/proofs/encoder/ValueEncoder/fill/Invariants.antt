use Rattle.std.specs.Prelude.{◌-◌, length}
use Rattle.wac_encode_values.proofs.Waiting.{parts_of, Filling}
use Rattle.wac_encode_values.proofs.Covered.{PaidSoFar}
use Rattle.wac_encode_values.proofs.encoder.ValueEncoder.fill.Given as goal

abbrev pub invariant-loop-part : goal.invariant-loop-part
invariant-loop-part l = record {
  filling : Filling l.self.types.now l.self.merged l.fn.state l.state l.id l.fn.parts.items l.parts.items;
  paid : PaidSoFar l.self.types.now l.self.merged l.fn.state l.state l.id;
}

abbrev pub decreases-loop-part : goal.decreases-loop-part
decreases-loop-part l = length (parts_of l.self.types.now l.id) - length l.parts.items

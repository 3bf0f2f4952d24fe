use Rattle.std.specs.Prelude.{◌+◌, length}
use Rattle.wac_encode_values.proofs.Waiting.{load, effort, UnderWay}
use Rattle.wac_encode_values.proofs.Covered.{PaidSoFar}
use Rattle.wac_encode_values.proofs.encoder.ValueEncoder.write.Given as goal

abbrev pub invariant-tasks : goal.invariant-tasks
invariant-tasks l = record {
  under_way : UnderWay l.self.types.now l.self.merged l.fn.state l.state l.fn.id l.waiting.items l.task;
  paid : PaidSoFar l.self.types.now l.self.merged l.fn.state l.state l.fn.id;
}

abbrev pub decreases-tasks : goal.decreases-tasks
decreases-tasks l = load l.waiting.items + effort l.task.id.0 (length l.task.parts.items)

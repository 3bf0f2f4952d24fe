use Rattle.std.specs.List.{AllByRecursion}
use Rattle.wac_encode_values.specs.private.Parts.{IsShortField}
use Rattle.wac_encode_values.proofs.Params.{ParamsSoFar}
use Rattle.wac_encode_values.proofs.Covered.{ParamsPaid}
use Rattle.wac_encode_values.proofs.encoder.ValueEncoder.params.Given as goal

abbrev pub invariant-loop-i : goal.invariant-loop-i
invariant-loop-i l = record {
  so_far : ParamsSoFar l.self.types.now l.self.merged l.fn.state l.state l.params l.i l.written.items;
  short : AllByRecursion IsShortField l.written.items;
  paid : ParamsPaid l.self.types.now l.self.merged l.fn.state l.state l.params;
}

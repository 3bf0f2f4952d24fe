use Rattle.std.specs.Prelude.{◌+◌, reverse}
use Rattle.wac_encode_interfaces.specs.private.Nests.{Nest}
use Rattle.wac_encode_scopes.specs.private.Paid.{IsPriced, MayEnclose}
use Rattle.wac_encode_interfaces.proofs.Charged.{LevelsPaid}
use Rattle.wac_encode_interfaces.proofs.Ended.{load, rank}
use Rattle.wac_encode_values.proofs.Waiting.{effort}
use Rattle.wac_encode_interfaces.proofs.writer.TypeWriter.interface.Given as goal

abbrev pub invariant-levels : goal.invariant-levels
invariant-levels l = record {
  nest : Nest l.self.types.now l.self.merged l.fn.interface l.fn.types_only l.fn.state l.level (reverse l.waiting.items) l.state;
  paid : IsPriced l.self.merged l.fn.state → MayEnclose l.self.merged l.fn.state.here.content → LevelsPaid l.self.types.now l.self.merged l.fn.interface l.fn.state 0 l.level l.waiting.items l.state;
}

abbrev pub decreases-levels : goal.decreases-levels
decreases-levels l = load l.self.types.now l.waiting.items + effort (rank l.self.types.now l.level.interface) l.level.next

use Rattle.std.proofs.Common.{◌≡◌, drop, map}
use Rattle.wac_component.specs.Reader.{each_at}
use Rattle.wac_component.specs.CoreViews.{operand_of}
use Rattle.wac_reader_parts.specs.private.Canons.{reader_of}
use Rattle.wac_reader_parts.proofs.EachLoop.{joined}
use Rattle.wac_reader_parts.proofs.canons.operands.Given as goal

abbrev pub invariant-loop-kind : goal.invariant-loop-kind
invariant-loop-kind l = joined (map operand_of l.operands.items) (each_at (map reader_of (drop l.kind-index l.kinds)) l.rest) ≡ each_at (map reader_of l.kinds) l.bytes

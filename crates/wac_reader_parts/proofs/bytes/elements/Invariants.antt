use Rattle.std.proofs.Common.{◌≡◌, ◌-◌, map}
use Rattle.wac_component.specs.Reader.{all_at}
use Rattle.wac_reader_parts.proofs.Loop.{with_front}
use Rattle.wac_reader_parts.proofs.bytes.elements.Given as goal

abbrev pub invariant-loop : goal.invariant-loop
invariant-loop g l = with_front g.T.Read.reader (map g.T.Read.value l.elements.items) (all_at g.T.Read.reader (l.count - l.counter) l.rest) ≡ all_at g.T.Read.reader l.count l.bytes

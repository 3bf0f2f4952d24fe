use Rattle.wac_encode_interfaces.proofs.writer.TypeWriter.new.Goals as goal

pub returns-clause-writer : goal.returns-clause-writer
returns-clause-writer c = λ closed worlds small. record {
  types = c.new.ensures.types;
  same_closed = c.new.ensures.closed;
  merged = c.new.ensures.merged;
  closed = closed;
  worlds = worlds;
  small = small;
}

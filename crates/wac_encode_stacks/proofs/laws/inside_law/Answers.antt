use Rattle.wac_encode_stacks.proofs.Inside.{by-step, by-item, by-both, keeps-is, settles-there, has-index-here, has-index-around}
use Rattle.wac_encode_stacks.proofs.laws.inside_law.Goals as goal

pub returns : goal.returns
returns c = record {
  by_step = by-step;
  by_item = by-item;
  by_both = by-both;
  keeps_is = keeps-is;
  settles_there = settles-there c.binary_laws.ensures.reads;
  has_index_here = has-index-here;
  has_index_around = has-index-around c.binary_laws.ensures.reads;
}

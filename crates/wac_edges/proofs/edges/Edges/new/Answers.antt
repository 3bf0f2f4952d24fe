use Rattle.std.proofs.Common.{false}
use Rattle.wac_edges.proofs.AliasLemmas.{noted_none}
use Rattle.wac_edges.proofs.FallLemmas.{rise_none}
use Rattle.wac_edges.proofs.TableLemmas.{listed_none}
use Rattle.wac_edges.proofs.edges.Edges.new.Goals as goal

pub invariant_of-result : goal.invariant_of-result
invariant_of-result c = (
  listed_none c.new.result c.new-2.result.items c.new.ensures.empty c.new-2.ensures.items,
  noted_none c.new.result c.new-3.result.items c.new-4.result c.new.ensures.empty c.new-3.ensures.items c.new-4.ensures,
  rise_none false c.new.result c.new.ensures.empty,
)

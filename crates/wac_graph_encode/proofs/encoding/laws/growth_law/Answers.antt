use Rattle.wac_graph_encode.proofs.encoding.laws.growth_law.Goals as goal

pub returns : goal.returns
returns c = record {
  lent = c.lending_law.ensures;
  once = c.bringing_law.ensures.good_once;
  free = c.free_law.ensures;
  clean = c.definition_law.ensures;
  sides = c.world_law.ensures;
  exports = record { counted = c.law.ensures.types_counted; there = c.kept_law.ensures.type_there; added = c.added_law.ensures.export_type };
  before = c.has_meaning_law.ensures.before;
}

use Rattle.wac_binary.proofs.HasMeaningLaws.{one_more, before, declared_one_more, declared_before, import_nothing_more, still_meant, type_meant, tree_kept, from_meaning, outcomes}
use Rattle.wac_binary.proofs.laws.has_meaning_law.Goals as goal

pub returns : goal.returns
returns c = record {
  one_more = one_more;
  before = before;
  declared_one_more = declared_one_more;
  declared_before = declared_before;
  import_nothing = import_nothing_more;
  declared_kept = still_meant;
  type_kept = type_meant;
  tree_kept = tree_kept;
  reach = from_meaning;
  outcomes = outcomes;
}

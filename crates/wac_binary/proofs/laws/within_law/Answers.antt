use Rattle.wac_binary.proofs.KeptLaws.{alone, within, declared_within, stay_one_more}
use Rattle.wac_binary.proofs.laws.within_law.Goals as goal

pub returns : goal.returns
returns c = record {
  alone = alone;
  within = within;
  declared_within = declared_within;
  one_more = stay_one_more;
}

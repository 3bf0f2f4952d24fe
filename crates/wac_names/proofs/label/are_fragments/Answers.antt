use Rattle.std.proofs.Common.{lit<, rules}
use Rattle.std.proofs.lemmas.Iterator.Splits.{YieldsList-from_str_split}
use Rattle.std.proofs.lemmas.Iterator.Search.{all_from_yields_List}
use Rattle.wac_names.specs.Reading.{is_fragment}
use Rattle.wac_names.proofs.label.are_fragments.Goals as goal

pub returns : goal.returns
returns c = all_from_yields_List is_fragment _ _ _ c.all.ensures.ran (YieldsList-from_str_split 45 c.args.text.now (lit< tt) c.split.ensures.text c.split.ensures.has_more c.split.ensures.pattern) (λ x b q k. search rules)

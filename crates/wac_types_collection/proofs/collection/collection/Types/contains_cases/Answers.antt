use Rattle.std.proofs.Common.{◌∙◌, sym, rules, []}
use Rattle.std.proofs.lemmas.Iterator.Consumers.{YieldsList-from_first}
use Rattle.std.proofs.lemmas.Iterator.Search.{all_from_yields_List}
use Rattle.wac_types_collection.specs.collection.Collection.{holds_all, value_types, and_maybe}
use Rattle.wac_types_collection.proofs.lemmas.collection.Mentioned.{cases_held}
use Rattle.wac_types_collection.proofs.collection.collection.Types.contains_cases.Goals as goal

pub returns : goal.returns
returns c = all_from_yields_List (λ e. holds_all c.args.self.now (value_types (and_maybe e.1 []))) _ _ _ c.all.ensures.ran (YieldsList-from_first _ _ c.args.cases.now c.iter.ensures) (λ x b q k. search rules) ∙ sym (cases_held c.args.self.now c.args.cases.now)

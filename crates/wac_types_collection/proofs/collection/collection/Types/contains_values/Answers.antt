use Rattle.std.proofs.Common.{◌∙◌, sym, rules}
use Rattle.std.proofs.lemmas.Iterator.{YieldsList-from_slice}
use Rattle.std.proofs.lemmas.Iterator.Search.{all_from_yields_List}
use Rattle.wac_types_collection.specs.collection.Collection.{holds_value}
use Rattle.wac_types_collection.proofs.lemmas.collection.Mentioned.{values_held}
use Rattle.wac_types_collection.proofs.collection.collection.Types.contains_values.Goals as goal

pub returns : goal.returns
returns c = all_from_yields_List (holds_value c.args.self.now) _ _ _ c.all.ensures.ran (YieldsList-from_slice c.args.values.now c.iter.ensures.rest) (λ x b q k. search rules) ∙ sym (values_held c.args.self.now c.args.values.now)

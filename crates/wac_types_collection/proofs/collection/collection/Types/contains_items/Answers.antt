use Rattle.std.proofs.Common.{◌∙◌, sym, rules}
use Rattle.std.proofs.lemmas.Iterator.Consumers.{YieldsList-from_first}
use Rattle.std.proofs.lemmas.Iterator.Search.{all_from_yields_List}
use Rattle.wac_types_shapes.specs.shapes.Kinds.{kind_type}
use Rattle.wac_types_collection.specs.collection.Collection.{holds_type}
use Rattle.wac_types_collection.proofs.lemmas.collection.Mentioned.{items_held}
use Rattle.wac_types_collection.proofs.collection.collection.Types.contains_items.Goals as goal

pub returns : goal.returns
returns c = all_from_yields_List (λ e. holds_type c.args.self.now (kind_type e.1)) _ _ _ c.all.ensures.ran (YieldsList-from_first _ _ c.args.items.now c.iter.ensures) (λ x b q k. search rules) ∙ sym (items_held c.args.self.now c.args.items.now)

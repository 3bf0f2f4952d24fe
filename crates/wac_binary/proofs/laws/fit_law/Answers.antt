use Rattle.wac_binary.proofs.FitLaws.{items_fit, declarations_fit, module_fits, items_large, declarations_large, module_large}
use Rattle.wac_binary.proofs.laws.fit_law.Goals as goal

pub returns : goal.returns
returns c = record {
  items_fit = items_fit;
  declarations_fit = declarations_fit;
  module_fits = module_fits;
  items_large = items_large;
  declarations_large = declarations_large;
  module_large = module_large;
}

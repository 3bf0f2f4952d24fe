use Rattle.wac_encode_stacks.proofs.Sizes.{bytes_are_less, small_fits}
use Rattle.wac_encode_stacks.proofs.laws.size_law.Goals as goal

pub returns : goal.returns
returns c = record {
  bytes = bytes_are_less;
  fits = small_fits c.fit_law.ensures.declarations_fit;
}

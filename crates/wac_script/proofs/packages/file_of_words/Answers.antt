use Rattle.std.proofs.Common.{arith}
use Rattle.wac_script.proofs.RunLemmas.{package-said}
use Rattle.wac_script.proofs.packages.file_of_words.Goals as goal

pub returns-in-None : goal.returns-in-None
returns-in-None c = package-said c.args.words.now _ (omega (arith, c.in-text.len_at_least, c.in-text.len_below)) c.in-text.is-text c.in-text.is-package c.in-None.ensures

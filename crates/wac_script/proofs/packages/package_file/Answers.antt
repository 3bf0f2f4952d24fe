use Rattle.std.proofs.Common.{sym, subst}
use Rattle.wac_script.specs.lines.Words.{spelled, AreWords}
use Rattle.wac_script.proofs.packages.package_file.Goals as goal

pub returns : goal.returns
returns c = (spelled c.deref.result.now, subst (λ ws. AreWords c.args.line.now (spelled ws)) (sym c.deref.ensures.value) c.in_ok-words.ensures, c.file_of_words.ensures)

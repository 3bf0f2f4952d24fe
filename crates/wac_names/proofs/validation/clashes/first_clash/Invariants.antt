use Rattle.wac_names.specs.private.validation.Earlier.{alike_at}
use Rattle.wac_names.specs.private.validation.Views.{name_texts}
use Rattle.wac_names.proofs.lemmas.validation.EarlierFacts.{Remembers}
use Rattle.wac_names.proofs.validation.clashes.first_clash.Given as goal

abbrev pub invariant-loop-second : goal.invariant-loop-second
invariant-loop-second l = Remembers (name_texts l.names) l.second (alike_at l.earlier)

use Rattle.wac_merge_tables.proofs.lemmas.tables.PutNumbers.{none_next}
use Rattle.wac_merge_tables.proofs.tables.rounds.Numbers.clear.Goals as goal

pub returns-then-self-lt4294967295 : goal.returns-then-self-lt4294967295
returns-then-self-lt4294967295 c = none_next c.self.inside.puts.items c.self.inside.round c.self.invariant

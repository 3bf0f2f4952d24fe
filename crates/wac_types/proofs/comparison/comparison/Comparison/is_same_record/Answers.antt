use Rattle.wac_types.proofs.lemmas.comparison.Opens.{defined_held}
use Rattle.wac_types.proofs.comparison.comparison.Comparison.is_same_record.Goals as goal

pub have_same_fields-requires-clause-first : goal.have_same_fields-requires-clause-first
have_same_fields-requires-clause-first c = let held = defined_held c.args.self.first.now c.law.ensures _ _ c.index.ensures in rw c.in-Record-Record.is-0 at held

pub have_same_fields-requires-clause-second : goal.have_same_fields-requires-clause-second
have_same_fields-requires-clause-second c = let held = defined_held c.args.self.second.now c.law-2.ensures _ _ c.index-2.ensures in rw c.in-Record-Record.is-1 at held

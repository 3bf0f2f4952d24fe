use Rattle.std.proofs.Common.{arith, sym}
use Rattle.wac_types.proofs.lemmas.comparison.Subtyping.{asks_offers, item_lacks}
use Rattle.wac_types.proofs.comparison.comparison.Comparison.ask_items.Goals as goal

pub returns-in-None-clause-mismatch : goal.returns-in-None-clause-mismatch
returns-in-None-clause-mismatch c = λ _. item_lacks c.args.self.first.now c.args.self.second.now c.args.xs.now c.args.ys.now c.law.ensures c.loop-i.i _ _ c.entry_at.ensures (sym c.in-None.ensures)

pub returns-clause-asked : goal.returns-clause-asked
returns-clause-asked c = asks_offers c.args.xs.now c.args.ys.now c.loop-i.i c.law.ensures (omega (arith, c.loop-i-test.false, c.len-i-end.ensures)) c.loop-i.invariant

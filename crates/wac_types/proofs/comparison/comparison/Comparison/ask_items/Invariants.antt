use Rattle.wac_types_collection.specs.collection.Collection.{kind_types}
use Rattle.wac_types.specs.private.comparison.Settling.{Asks}
use Rattle.wac_types.proofs.lemmas.comparison.Subtyping.{ItemsBelow}
use Rattle.wac_types.proofs.comparison.comparison.Comparison.ask_items.Given as goal

-- those so far are settled
abbrev pub invariant-loop-i : goal.invariant-loop-i
invariant-loop-i l = Asks l.self.turned l.self.first.now l.self.second.now (kind_types l.xs) (kind_types l.ys) l.initial.asked l.asked (ItemsBelow l.self.first.now l.self.second.now l.xs l.ys l.i)

use Rattle.std.proofs.lemmas.List.Sorted.{IsPermutation-refl, IsPermutation-trans}
use Rattle.wac_merge_trees.proofs.coding.order.exchange_all.Goals as goal

pub loop-i-init : goal.loop-i-init
loop-i-init c = IsPermutation-refl c.args.entries.now

pub loop-i-preserved : goal.loop-i-preserved
loop-i-preserved c = IsPermutation-trans c.args.entries.now c.loop-i.entries c.exchange.new.entries c.loop-i.invariant c.exchange.ensures

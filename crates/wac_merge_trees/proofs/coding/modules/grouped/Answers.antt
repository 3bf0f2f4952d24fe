use Rattle.wac_merge_trees.specs.private.coding.ModuleCoding.{maps_items}
use Rattle.wac_merge_trees.proofs.lemmas.coding.CodingModules.{grouped_next, each_next}
use Rattle.wac_merge_trees.proofs.coding.modules.grouped.Goals as goal

pub loop-source-preserved : goal.loop-source-preserved
loop-source-preserved c = record {
  items = grouped_next c.loop-source.listed.items c.push.new.self.items c.in-Some.source c.in_ok-in_order.field-0 c.in-Some.items c.loop-source.modules.entries c.pop_first.new.self.entries (maps_items c.args.modules.entries)
      c.in_ok-push.ensures.items c.in_ok-in_order.ensures.items c.in-Some.ensures.removal c.loop-source.invariant.items;
  each = each_next c.loop-source.listed.items c.push.new.self.items c.in-Some.source c.in_ok-in_order.field-0 c.in-Some.items.entries c.in_ok-push.ensures.items c.in_ok-in_order.ensures.items c.in_order.ensures.ordered c.loop-source.invariant.each;
}

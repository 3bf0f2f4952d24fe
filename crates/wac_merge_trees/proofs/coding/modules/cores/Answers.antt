use Rattle.std.proofs.Common.{◌≡◌, ℕ, drop, ◌<◌, subst, arith}
use Rattle.wac_types_shapes.specs.primitives.Name.{Name}
use Rattle.wac_types_shapes.specs.primitives.Core.{no_item}
use Rattle.wac_types_collection.specs.collection.Held as held
use Rattle.wac_merge_tables.specs.private.tables.NodeViews.{core_view}
use Rattle.wac_merge_trees.specs.private.coding.ModuleCoding.{look}
use Rattle.wac_merge_trees.proofs.lemmas.coding.CodingModules.{cores_next, cores_listed}
use Rattle.wac_merge_trees.proofs.coding.modules.cores.Goals as goal

pub loop-i-preserved : goal.loop-i-preserved
loop-i-preserved c =
    let i : ℕ = c.loop-i.i in
    let some : 0 < i = omega arith in
    record {
      within = omega arith;
      under = cores_next c.args.items.now i c.name_at.result.now c.value_at.result.now c.in_ok-name.name c.in_ok-item.item c.loop-i.map.entries c.put.new.map.entries some c.name_at.ensures c.value_at.ensures
          c.in_ok-name.ensures.ok c.in_ok-item.ensures c.in_ok-put.ensures c.loop-i.invariant.under;
    }

pub returns : goal.returns
returns c =
    let i : ℕ = c.loop-i.i in
    let none : i ≡ 0 = omega arith in
    cores_listed c.args.items.now c.loop-i.map.entries c.in_order.result c.in_order.ensures.items c.in_order.ensures.ordered
    (subst (λ (k : ℕ). (n : Name) → look no_item core_view c.loop-i.map.entries n ≡ held.core_under (drop k c.args.items.now) n) none c.loop-i.invariant.under)

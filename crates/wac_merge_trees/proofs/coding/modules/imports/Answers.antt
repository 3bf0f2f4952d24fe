use Rattle.std.proofs.Common.{◌≡◌, ℕ, ◌<◌, drop, subst, arith}
use Rattle.wac_types_shapes.specs.primitives.Name.{Name}
use Rattle.wac_types_collection.specs.collection.Held.{core_imports}
use Rattle.wac_merge_trees.specs.private.coding.ModuleCoding.{in_maps}
use Rattle.wac_merge_trees.proofs.lemmas.coding.CodingModules.{imports_next, imports_listed}
use Rattle.wac_merge_trees.proofs.coding.modules.imports.Goals as goal

pub loop-i-preserved : goal.loop-i-preserved
loop-i-preserved c =
    let i : ℕ = c.loop-i.i in
    let some : 0 < i = omega arith in
    record {
      within = omega arith;
      under = imports_next c.args.imports.now i _ _ c.in_ok-source.source c.in_ok-name.name c.in_ok-item.item c.loop-i.modules.entries c.put_under.new.modules.entries some c.entry_at.ensures
          c.in_ok-source.ensures.ok c.in_ok-name.ensures.ok c.in_ok-item.ensures c.in_ok-put_under.ensures.put c.loop-i.invariant.under;
      full = c.in_ok-put_under.ensures.full c.loop-i.invariant.full;
    }

pub returns : goal.returns
returns c =
    let i : ℕ = c.loop-i.i in
    let none : i ≡ 0 = omega arith in
    imports_listed c.args.imports.now c.loop-i.modules.entries c.grouped.result c.grouped.ensures.items c.grouped.ensures.each c.grouped.ensures.ordered c.loop-i.invariant.full
    (subst (λ (k : ℕ). (m n : Name) → in_maps c.loop-i.modules.entries m n ≡ core_imports (drop k c.args.imports.now) m n) none c.loop-i.invariant.under)

-- The lowest fault of a world.
use Rattle.std.proofs.Common.{◌≤◌, Bool, true, false, if◌then◌else◌, length, Option, Some, None, IsTrue, ◌≡◌, ◌↔◌, refl, ap, sym, ◌∙◌, subst, arith}
use Rattle.wac_types_shapes.specs.declared.shapes.component.World.{World}
use Rattle.wac_types_shapes.specs.declared.shapes.component.WorldId.{WorldId}
use Rattle.wac_types_collection.specs.collection.Collection.{Collection, item_at}
use Rattle.wac_encode_faults.specs.declared.fault.WriteFault.{WriteFault}
use Rattle.wac_encode_faults.specs.declared.fault.WriteFault.TheVariants as fault
use Rattle.wac_encode_faults.specs.Cycle.{HasItemCycle}
use Rattle.wac_encode_faults.specs.Faults.{fault_rank, IsLowest, HasUnlisted, IsWorldFault, unbound, unlisted, cycle}
use Rattle.wac_encode_faults.specs.Free.{HasUnboundItem}
use Rattle.wac_encode_faults.specs.Sides.{world_sides, parted_sides}
use Rattle.wac_encode_faults.proofs.Numbered.{one_value}
use Rattle.wac_encode_faults.proofs.Parted.{parted_whole}

-- what is not true does not hold
pub not_true : (b : Bool) (P : Type 0) → b ≡ false → IsTrue b ↔ P → P → ⊥
not_true b P is both p = never (sym is ∙ both.1 p)
  where
    never : false ≡ true → ⊥
    never e = cc

module _ (c : Collection) (w : WorldId) (x : World) (at : item_at c.worlds w.0 ≡ Some x) where
  same_world : (y : World) → item_at c.worlds w.0 ≡ Some y → y ≡ x
  same_world y there = one_value (item_at c.worlds w.0) y x there at

  pub world_unbound : HasUnboundItem c (world_sides x) → IsLowest (IsWorldFault c w) (Some fault.UnboundResource)
  world_unbound h = (unbound x at h, λ other f. low other f)
    where
      low : (other : WriteFault) → IsWorldFault c w other → fault_rank fault.UnboundResource ≤ fault_rank other
      low _ (unbound y there g) = omega arith
      low _ (unlisted g) = omega arith
      low _ (cycle y there g) = omega arith

  module _ (bound : HasUnboundItem c (world_sides x) → ⊥) where
    not_unbound : (y : World) → item_at c.worlds w.0 ≡ Some y → HasUnboundItem c (world_sides y) → ⊥
    not_unbound y there g = bound (subst (λ (z : World). HasUnboundItem c (world_sides z)) (same_world y there) g)

    pub world_unlisted : HasUnlisted c w → IsLowest (IsWorldFault c w) (Some fault.UnlistedDependency)
    world_unlisted h = (unlisted h, λ other f. low other f)
      where
        low : (other : WriteFault) → IsWorldFault c w other → fault_rank fault.UnlistedDependency ≤ fault_rank other
        low _ (unbound y there g) = absurd (not_unbound y there g)
        low _ (unlisted g) = omega arith
        low _ (cycle y there g) = omega arith

    pub world_cycle : (HasUnlisted c w → ⊥) → (b : Bool) (o : Option WriteFault) → IsTrue b ↔ HasItemCycle c (parted_sides x.uses (length x.imports) x.imports x.exports) → o ≡ (if b then Some fault.TypesUseEachOther else None)
        → IsLowest (IsWorldFault c w) o
    world_cycle listed b o decided is = subst (IsLowest (IsWorldFault c w)) (sym is) (by b decided)
      where
        whole : parted_sides x.uses (length x.imports) x.imports x.exports ≡ world_sides x
        whole = parted_whole x.uses x.imports x.exports

        only : (other : WriteFault) → IsWorldFault c w other → (other ≡ fault.TypesUseEachOther) × HasItemCycle c (world_sides x)
        only _ (unbound y there g) = absurd (not_unbound y there g)
        only _ (unlisted g) = absurd (listed g)
        only _ (cycle y there g) = (refl, subst (λ (z : World). HasItemCycle c (world_sides z)) (same_world y there) g)

        by : (b : Bool) → IsTrue b ↔ HasItemCycle c (parted_sides x.uses (length x.imports) x.imports x.exports) → IsLowest (IsWorldFault c w) (if b then Some fault.TypesUseEachOther else None)
        by true decided = (
          cycle x at (subst (HasItemCycle c) whole (decided.0 refl)),
          λ other f. let ranks = ap fault_rank (only other f).0 in omega (arith, ranks),
        )
        by false decided = λ other f. never (decided.1 (subst (HasItemCycle c) (sym whole) (only other f).1))
          where
            never : false ≡ true → ⊥
            never e = cc

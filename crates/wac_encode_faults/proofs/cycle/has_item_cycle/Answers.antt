use Rattle.std.proofs.Common.{subst, sym}
use Rattle.wac_edges.specs.cycles.Cycles.{AreWithin}
use Rattle.wac_encode_faults.specs.Sides.{parted_sides}
use Rattle.wac_encode_faults.proofs.ItemCycles.{cycle_decided}
use Rattle.wac_encode_faults.proofs.cycle.has_item_cycle.Goals as goal

pub lowest_on_cycle-requires : goal.lowest_on_cycle-requires
lowest_on_cycle-requires c = subst AreWithin (sym c.as_slice.ensures.value) c.in_ok-targets.ensures.within

pub returns : goal.returns
returns c =
    cycle_decided c.args.types.now (parted_sides c.args.uses.now c.args.own c.args.imports.now c.args.exports.now) c.in_ok-targets.targets.items c.in_ok-targets.ensures.steps c.as_slice.result.now c.as_slice.ensures.value
    c.in_ok-found.found c.is_some.result c.is_some.ensures c.in_ok-found.ensures

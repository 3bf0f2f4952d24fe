use Rattle.std.proofs.Common.{◌≡◌, true, false, length, subst, ◌↔◌, IsTrue}
use Rattle.wac_encode_faults.specs.Cycle.{HasItemCycle}
use Rattle.wac_encode_faults.specs.Sides.{parted_sides}
use Rattle.wac_encode_faults.proofs.Dependencies.{imports_held, exports_held}
use Rattle.wac_encode_faults.proofs.WorldFaults.{world_unbound, world_unlisted, world_cycle, not_true}
use Rattle.wac_encode_faults.proofs.worlds.find_world_fault.Goals as goal

pub has_item_cycle-requires-clause-imports : goal.has_item_cycle-requires-clause-imports
has_item_cycle-requires-clause-imports c = imports_held c.args.types.now c.law.ensures c.args.id c.requires c.index-world.result.now c.index-world.ensures

pub has_item_cycle-requires-clause-exports : goal.has_item_cycle-requires-clause-exports
has_item_cycle-requires-clause-exports c = exports_held c.args.types.now c.law.ensures c.args.id c.requires c.index-world.result.now c.index-world.ensures

pub returns-then-branch : goal.returns-then-branch
returns-then-branch c = world_unbound c.args.types.now c.args.id c.index-world.result.now c.index-world.ensures ((c.in_ok-has_unbound_item.ensures c.index-world.result.now c.index-world.ensures).0 c.if-branch.true)

pub returns-then-branch-2 : goal.returns-then-branch-2
returns-then-branch-2 c =
    world_unlisted c.args.types.now c.args.id c.index-world.result.now c.index-world.ensures (not_true _ _ c.if-branch.false (c.in_ok-has_unbound_item.ensures c.index-world.result.now c.index-world.ensures))
    (c.in_ok-has_unlisted.ensures.0 c.if-branch-2.true)

pub returns : goal.returns
returns c =
    let own : c.len-own.result ≡ length (c.index-world.result.now).imports = c.len-own.ensures in
    world_cycle c.args.types.now c.args.id c.index-world.result.now c.index-world.ensures (not_true _ _ c.if-branch.false (c.in_ok-has_unbound_item.ensures c.index-world.result.now c.index-world.ensures))
    (not_true _ _ c.if-branch-2.false c.in_ok-has_unlisted.ensures) c.in_ok-has_cycle.has_cycle c.fault_if.result
    (subst (λ n. IsTrue c.in_ok-has_cycle.has_cycle ↔ HasItemCycle c.args.types.now (parted_sides (c.index-world.result.now).uses n (c.index-world.result.now).imports (c.index-world.result.now).exports)) own c.in_ok-has_cycle.ensures) c.fault_if.ensures

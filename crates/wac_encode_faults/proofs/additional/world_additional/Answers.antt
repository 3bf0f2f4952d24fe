use Rattle.std.proofs.Common.{◌≡◌, ◌∙◌, sym, refl, Some}
use Rattle.wac_types_shapes.specs.declared.shapes.component.World.{World}
use Rattle.wac_encode_faults.proofs.Dependencies.{imports_held, exports_held}
use Rattle.wac_encode_faults.proofs.Reached.{world_uses_there}
use Rattle.wac_encode_faults.proofs.Needed.{listed_one, world_unlisted}
use Rattle.wac_encode_faults.proofs.UsedIds.{ids_there, world_named}
use Rattle.wac_encode_faults.proofs.additional.world_additional.Goals as goal

pub add_listed-requires : goal.add_listed-requires
add_listed-requires c = imports_held c.args.types.now c.law.ensures c.args.id c.requires c.index-world.result.now c.index-world.ensures

pub add_unlisted-requires-clause-imports : goal.add_unlisted-requires-clause-imports
add_unlisted-requires-clause-imports c = imports_held c.args.types.now c.law.ensures c.args.id c.requires c.index-world.result.now c.index-world.ensures

pub add_unlisted-requires-clause-exports : goal.add_unlisted-requires-clause-exports
add_unlisted-requires-clause-exports c = exports_held c.args.types.now c.law.ensures c.args.id c.requires c.index-world.result.now c.index-world.ensures

pub add_unlisted-requires-clause-uses : goal.add_unlisted-requires-clause-uses
add_unlisted-requires-clause-uses c = λ k h. world_uses_there c.args.types.now c.law.ensures c.args.id c.index-world.result.now k c.index-world.ensures h

pub add_unlisted-requires-clause-listed : goal.add_unlisted-requires-clause-listed
add_unlisted-requires-clause-listed c = listed_one c.args.types.now c.index-world.result.now _ c.add_listed.new.listed.keys c.new-listed.ensures.empty c.in_ok-add_listed.ensures

pub returns-clause-interfaces : goal.returns-clause-interfaces
returns-clause-interfaces c x at =
    world_unlisted c.args.types.now c.index-world.result.now x c.new-found.result.keys c.add_unlisted.new.found.keys c.new-found.ensures.empty (one c.index-world.result.now x (sym c.index-world.ensures ∙ at)) c.in_ok-add_unlisted.ensures
  where
    one : (p q : World) → Some p ≡ Some q → p ≡ q
    one p q e = cc

pub returns-clause-there : goal.returns-clause-there
returns-clause-there c =
    let world = c.index-world.result.now in
    let keys = c.add_unlisted.new.found.keys in
    ids_there c.args.types.now keys (world_named c.args.types.now c.law.ensures c.uses_law.ensures c.args.id world keys c.index-world.ensures
    (world_unlisted c.args.types.now world world c.new-found.result.keys keys c.new-found.ensures.empty refl c.in_ok-add_unlisted.ensures))

pub returns-clause-named : goal.returns-clause-named
returns-clause-named c =
    let world = c.index-world.result.now in
    let keys = c.add_unlisted.new.found.keys in
    world_named c.args.types.now c.law.ensures c.uses_law.ensures c.args.id world keys c.index-world.ensures
    (world_unlisted c.args.types.now world world c.new-found.result.keys keys c.new-found.ensures.empty refl c.in_ok-add_unlisted.ensures)

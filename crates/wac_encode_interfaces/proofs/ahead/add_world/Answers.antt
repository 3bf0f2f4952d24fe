use Rattle.std.proofs.Common.{subst, sym}
use Rattle.std.proofs.lemmas.Result.{on_ok_weaker}
use Rattle.wac_encode_interfaces.specs.private.Worlds.{written_in}
use Rattle.wac_encode_interfaces.specs.private.InnerTypes.{IsCleanType, HaveInner}
use Rattle.wac_encode_interfaces.proofs.WorldsAhead.{put-kept, put-types, put-there, other-there, same-kept}
use Rattle.wac_encode_interfaces.proofs.DefinitionCosts.{memory-not-large, put-sizes, sized-large, world-heavy}
use Rattle.wac_encode_interfaces.proofs.Answered.{exit-large}
use Rattle.std.specs.Prelude.{◌≡◌, ◌≤◌, ◌*◌, ◌^◌, true, []}
use Rattle.wac_types_shapes.specs.declared.shapes.component.«Type».{«Type» as AnyType}
use Rattle.wac_types_collection.specs.collection.Collection.{holds_type}
use Rattle.wac_types_collection.proofs.lemmas.wide.Members.{in_first}
use Rattle.wac_types_weight.specs.Text.{scope_weight}
use Rattle.wac_encode_scopes.specs.private.Paid.{world_cost}
use Rattle.wac_encode_interfaces.proofs.ahead.add_world.Goals as goal

pub world_type-requires-clause-clean : goal.world_type-requires-clause-clean
world_type-requires-clause-clean c = subst (IsCleanType c.args.types.now) c.in-World.is c.requires.clean

pub world_type-requires-clause-inner : goal.world_type-requires-clause-inner
world_type-requires-clause-inner c = subst (HaveInner c.args.types.now (written_in c.args.written.now)) c.in-World.is c.requires.inner

pub returns-in_ok-component-in-World-clause-written : goal.returns-in_ok-component-in-World-clause-written
returns-in_ok-component-in-World-clause-written c =
    on_ok_weaker c.insert.result (λ put. put-types c.args.types.now (written_in c.args.written.now) (written_in c.insert.new.self) c.in-World.world c.in_ok-component-in-World.component put c.in_ok-component-in-World.ensures.is c.requires.written) c.insert.ensures.put

pub returns-in_ok-component-in-World-clause-kept : goal.returns-in_ok-component-in-World-clause-kept
returns-in_ok-component-in-World-clause-kept c =
    on_ok_weaker c.insert.result (λ put. put-kept (written_in c.args.written.now) (written_in c.insert.new.self) c.in-World.world c.in_ok-component-in-World.component put) c.insert.ensures.put

pub returns-in_ok-component-in-World-clause-there : goal.returns-in_ok-component-in-World-clause-there
returns-in_ok-component-in-World-clause-there c =
    on_ok_weaker c.insert.result (λ put. put-there c.args.types.now (written_in c.args.written.now) (written_in c.insert.new.self) c.in-World.world c.in_ok-component-in-World.component c.args.ty c.in-World.is put c.requires.inner) c.insert.ensures.put

pub returns-in_default-clause-kept : goal.returns-in_default-clause-kept
returns-in_default-clause-kept c = same-kept (written_in c.args.written.now)

pub returns-in_default-clause-there : goal.returns-in_default-clause-there
returns-in_default-clause-there c = other-there c.args.types.now (written_in c.args.written.now) c.args.ty c.in_default.not-World c.requires.inner

pub returns-in_err-component-in-World-clause-small : goal.returns-in_err-component-in-World-clause-small
returns-in_err-component-in-World-clause-small c =
    λ h.
    (let held = subst (λ (a : AnyType). holds_type c.args.types.now a ≡ true) c.in-World.is c.requires.clean.0 in
    let large = sized-large 17 (world_cost c.args.types.now c.in-World.world) _ (exit-large _ c.from_residual.result c.from_residual.ensures.1 h) c.in_err-component-in-World.ensures.small in
    (c.args.ty, in_first c.args.ty [], subst (λ (a : AnyType). 2 ^ 32 ≤ 27 * scope_weight c.args.types.now a) (sym c.in-World.is) (world-heavy c.weight_law.ensures.scope_weighs_its_parts c.args.types.now c.law.ensures c.in-World.world held large)))

pub returns-in_ok-component-in-World-clause-small : goal.returns-in_ok-component-in-World-clause-small
returns-in_ok-component-in-World-clause-small c =
    λ h. absurd (memory-not-large c.insert.result c.insert.ensures.memory h)

pub returns-in_ok-component-in-World-clause-sizes : goal.returns-in_ok-component-in-World-clause-sizes
returns-in_ok-component-in-World-clause-sizes c =
    on_ok_weaker c.insert.result (λ put. put-sizes c.args.types.now (written_in c.args.written.now) (written_in c.insert.new.self) c.in-World.world c.in_ok-component-in-World.component put c.in_ok-component-in-World.ensures.small c.requires.sizes) c.insert.ensures.put

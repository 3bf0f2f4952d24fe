use Rattle.std.specs.Prelude.{Some, ◌+◌, length}
use Rattle.std.proofs.Common.{sym}
use Rattle.wac_types_shapes.specs.declared.shapes.component.«Type».TheVariants as ty
use Rattle.wac_encode_stacks.specs.Scopes.{defined}
use Rattle.wac_encode_scopes.specs.States.{Goes, IsRecordedAt, IsTypeAt}
use Rattle.wac_encode_scopes.specs.private.Components.{DefinesComponent}
use Rattle.wac_encode_scopes.proofs.Stepped.{goes-none, all-none}
use Rattle.wac_encode_interfaces.specs.private.Worlds.{written_in}
use Rattle.wac_encode_interfaces.proofs.Written.{if-ok, ok-of, indexed-at, type-at, has-world, world-goes}
use Rattle.wac_encode_interfaces.proofs.Answered.{pays-any, up-to-answer, with-more-answer}
use Rattle.std.specs.List.{flat_map}
use Rattle.wac_binary.specs.Bytes.{decl_bytes}
use Rattle.wac_encode_scopes.specs.private.Paid.{world_cost}
use Rattle.wac_encode_interfaces.proofs.writer.TypeWriter.world.Goals as goal

pub returns-in-Some-clause-goes : goal.returns-in-Some-clause-goes
returns-in-Some-clause-goes c = goes-none c.still_law.ensures c.args.self.now.merged c.args.state.now c.args.self.now.types.now

pub returns-in-Some-clause-is : goal.returns-in-Some-clause-is
returns-in-Some-clause-is c = indexed-at c.step_law.ensures.stands_recorded c.args.self.now.types.now c.args.self.now.merged c.args.state.now (ty.World c.args.world) c.index.result c.in-Some.index c.in-Some.is c.index.ensures.some

pub unreachable-requires : goal.unreachable-requires
unreachable-requires c = has-world c.args.self.now.types.now (written_in c.args.self.now.worlds.now) c.args.world (sym c.in_default-get.ensures) c.requires.written

pub returns-clause-goes : goal.returns-clause-goes
returns-clause-goes c =
    let t = c.args.self.now.types.now in
    let b = c.args.self.now.merged in
    ok-of (DefinesComponent b (Some c.args.world) c.in-Some-get.component.now c.args.state.now c.define_component.new.self) (Goes t b c.args.state.now c.define_component.new.self) c.define_component.result
    (λ k h. world-goes t b (written_in c.args.self.now.worlds.now) c.args.world c.in-Some-get.component.now c.args.state.now c.define_component.new.self k c.requires.writer.worlds (sym c.in-Some-get.ensures) h) c.define_component.ensures.defines

pub returns-clause-is : goal.returns-clause-is
returns-clause-is c =
    let t = c.args.self.now.types.now in
    let b = c.args.self.now.merged in
    if-ok (IsRecordedAt b c.define_component.new.self (ty.World c.args.world) defined) (IsTypeAt t b c.define_component.new.self (ty.World c.args.world)) c.define_component.result
    (λ k h. type-at c.step_law.ensures.stands_recorded t b c.define_component.new.self (ty.World c.args.world) defined k h) c.define_component.ensures.recorded

pub returns-in-Some-clause-types : goal.returns-in-Some-clause-types
returns-in-Some-clause-types c = all-none c.args.state.now

pub returns-in-Some-clause-paid : goal.returns-in-Some-clause-paid
returns-in-Some-clause-paid c ts covers priced =
    pays-any c.args.self.now.types.now c.args.self.now.merged ts (world_cost c.args.self.now.types.now c.args.world) c.args.state.now

pub returns-clause-paid : goal.returns-clause-paid
returns-clause-paid c ts covers priced =
    let n = 17 + length (flat_map decl_bytes c.in-Some-get.component.now) in
    up-to-answer c.args.self.now.types.now c.args.self.now.merged ts n (world_cost c.args.self.now.types.now c.args.world) c.args.state.now c.define_component.new.self c.define_component.result (c.requires.writer.small c.args.world c.in-Some-get.component.now (sym c.in-Some-get.ensures))
    (with-more-answer c.args.self.now.types.now c.args.self.now.merged ts n c.args.state.now c.define_component.new.self c.define_component.result (c.define_component.ensures.paid c.args.self.now.types.now c.args.self.now.merged priced))

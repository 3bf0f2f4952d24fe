use Rattle.std.proofs.Common.{Some, sym}
use Rattle.wac_types_shapes.specs.declared.shapes.component.«Type».TheVariants as ty
use Rattle.wac_encode_stacks.specs.Scopes.{defined}
use Rattle.wac_encode_scopes.specs.private.Components.{DefinesComponent}
use Rattle.wac_encode_scopes.specs.States.{IsRecordedAt}
use Rattle.wac_encode_interfaces.proofs.Refused.{keeps-types}
use Rattle.wac_encode_interfaces.proofs.Written.{has-world, type-at, world-goes}
use Rattle.wac_encode_interfaces.specs.private.Worlds.{written_in}
use Rattle.wac_encode.specs.Root.{WritesTypes}
use Rattle.wac_encode.specs.declared.state.State.{State}
use Rattle.wac_encode.proofs.Results.{err-of, if-ok, ok-of}
use Rattle.wac_encode.proofs.Roots.{writes-types}
use Rattle.wac_encode.proofs.WrittenTypes.{type-refers}
use Rattle.wac_encode.proofs.encoder.TypeEncoder.write_world_after.Goals as goal

pub unreachable-requires : goal.unreachable-requires
unreachable-requires c = has-world c.args.self.now.types.now (written_in c.args.worlds.now) c.args.world (sym c.in_default.ensures) c.requires.there

pub returns-clause-writes : goal.returns-clause-writes
returns-clause-writes c =
    let t = c.args.self.now.types.now in
    let b = c.args.self.now.merged in
    let old = c.args.state.now in
    let new : State = record { scopes = c.define_component.new.self } in
    ok-of (DefinesComponent b (Some c.args.world) c.in-Some.component.now old.scopes new.scopes) (WritesTypes t b old new) c.define_component.result
    (λ k defines. writes-types c.beside_law.ensures.goes_on_beside t b c.requires.writable.bindings old new c.requires.writable.state (world-goes t b (written_in c.args.worlds.now) c.args.world c.in-Some.component.now old.scopes new.scopes k c.requires.written (sym c.in-Some.ensures) defines)) c.define_component.ensures.defines

pub returns-clause-index : goal.returns-clause-index
returns-clause-index c =
    let t = c.args.self.now.types.now in
    let b = c.args.self.now.merged in
    let new : State = record { scopes = c.define_component.new.self } in
    if-ok (IsRecordedAt b new.scopes (ty.World c.args.world) defined) _ c.define_component.result (λ k at m h. type-refers t b m new h c.step_law.ensures.is_its_tree (ty.World c.args.world) k (type-at c.step_law.ensures.stands_recorded t b new.scopes (ty.World c.args.world) defined k at)) c.define_component.ensures.recorded

pub returns-clause-refused : goal.returns-clause-refused
returns-clause-refused c = err-of c.define_component.result (keeps-types c.args.state.now.scopes c.define_component.new.self c.define_component.ensures.types)

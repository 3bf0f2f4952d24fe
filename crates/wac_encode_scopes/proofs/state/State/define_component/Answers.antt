use Rattle.std.proofs.Common.{◌+◌, length, flat_map, Option, IfSome, sym, subst}
use Rattle.wac_binary.specs.Bytes.{decl_bytes}
use Rattle.wac_types_shapes.specs.declared.shapes.component.WorldId.{WorldId}
use Rattle.wac_types_shapes.specs.declared.shapes.component.«Type».TheVariants as ty
use Rattle.wac_binary.specs.Items.{component_def, decls}
use Rattle.wac_encode_stacks.specs.Scopes.{defined, with_def}
use Rattle.wac_encode_scopes.specs.Contents.{and_type}
use Rattle.wac_encode_scopes.specs.States.{IsRecordedAt}
use Rattle.wac_encode_scopes.proofs.Added.{adds-def}
use Rattle.wac_encode_scopes.proofs.Stepped.{both-ok, all-here, all-written, recorded-here}
use Rattle.wac_encode_scopes.proofs.Additions.{goes-component, goes-world}
use Rattle.wac_encode_scopes.proofs.Calls.{component-here, world-here, world-beside, world-both}
use Rattle.wac_encode_scopes.proofs.state.State.define_component.Goals as goal

pub returns-in-Some-clause-defines : goal.returns-in-Some-clause-defines
returns-in-Some-clause-defines c = both-ok c.define_world.result (λ k index step. goes-world c.closing_law.ensures.closes_component c.step_law.ensures.records_type c.step_law.ensures.follows c.args.merged c.args.world c.in-Some.world c.args.component.now c.args.self.now c.define_world.new.self k c.in-Some.is c.define_world.ensures.types index step) c.define_world.ensures.index c.define_world.ensures.step

pub returns-in-Some-clause-recorded : goal.returns-in-Some-clause-recorded
returns-in-Some-clause-recorded c = both-ok c.define_world.result (λ k index step. subst (λ (o : Option WorldId). IfSome o (λ w. IsRecordedAt c.args.merged (record c.args.self.now { here = c.define_world.new.self }) (ty.World w) defined k)) (sym c.in-Some.is) (recorded-here c.args.merged (ty.World c.in-Some.world) k c.args.self.now.here c.define_world.new.self (with_def (component_def (decls c.args.component.now))) index step)) c.define_world.ensures.index c.define_world.ensures.step

pub returns-in-Some-clause-types : goal.returns-in-Some-clause-types
returns-in-Some-clause-types c = all-here c.args.self.now c.define_world.new.self c.define_world.ensures.types

pub returns-in-None-clause-defines : goal.returns-in-None-clause-defines
returns-in-None-clause-defines c = both-ok c.define_component.result (goes-component c.closing_law.ensures.closes_component c.args.merged c.args.world c.args.component.now c.args.self.now c.define_component.new.self) c.define_component.ensures.index c.define_component.ensures.appended

pub returns-in-None-clause-types : goal.returns-in-None-clause-types
returns-in-None-clause-types c = all-written c.args.self.now c.define_component.new.self (and_type (component_def (decls c.args.component.now)) c.args.self.now.here.content) c.define_component.result (adds-def (component_def (decls c.args.component.now)) c.args.self.now.here.content) c.define_component.ensures.appended c.define_component.ensures.refused

pub returns-in-Some-clause-paid : goal.returns-in-Some-clause-paid
returns-in-Some-clause-paid c d b priced =
    let fits = c.size_law.ensures.fits in
    let ds = c.args.component.now in
    let here = c.define_world.new.self in
    world-both d c.args.merged b (17 + length (flat_map decl_bytes ds)) c.args.self.now (record c.args.self.now { here = here }) c.define_world.result
    (world-here fits d c.args.merged c.in-Some.world ds c.args.self.now here c.define_world.result c.define_world.ensures.step c.define_world.ensures.too_large)
    (world-beside fits d c.args.merged c.in-Some.world ds c.args.self.now here c.define_world.result c.define_world.ensures.step c.define_world.ensures.too_large)

pub returns-in-None-clause-paid : goal.returns-in-None-clause-paid
returns-in-None-clause-paid c d b priced = component-here c.size_law.ensures.fits d b c.args.component.now c.args.self.now c.define_component.new.self c.define_component.result c.define_component.ensures.appended c.define_component.ensures.too_large

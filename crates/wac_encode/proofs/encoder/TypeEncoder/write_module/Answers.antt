use Rattle.std.proofs.Common.{length}
use Rattle.wac_types_shapes.specs.declared.shapes.component.«Type».TheVariants as ty
use Rattle.wac_types_collection.proofs.lemmas.collection.Steady.{within}
use Rattle.wac_encode_scopes.specs.private.Components.{DefinesModuleType}
use Rattle.wac_encode_interfaces.proofs.Importing.{module-at, module-goes}
use Rattle.wac_encode_interfaces.proofs.Refused.{keeps-none, keeps-types}
use Rattle.wac_encode.specs.Root.{WritesTypes}
use Rattle.wac_encode.specs.declared.state.State.{State}
use Rattle.wac_encode.proofs.Results.{err-of, if-ok, ok-of}
use Rattle.wac_encode.proofs.Roots.{writes-types}
use Rattle.wac_encode.proofs.Faultless.{ready-of}
use Rattle.wac_encode.proofs.WrittenTypes.{module-refers}
use Rattle.wac_encode.proofs.encoder.TypeEncoder.write_module.Goals as goal

pub index-requires : goal.index-requires
index-requires c = within c.args.id.0 (length c.args.self.now.types.now.modules) c.requires.held

pub returns-in_err-written-clause-refused : goal.returns-in_err-written-clause-refused
returns-in_err-written-clause-refused c = err-of c.from_residual.result (keeps-none c.args.state.now.scopes)

pub returns-clause-writes : goal.returns-clause-writes
returns-clause-writes c =
    let t = c.args.self.now.types.now in
    let b = c.args.self.now.merged in
    let old = c.args.state.now in
    let new : State = record { scopes = c.define_module.new.self } in
    ok-of (DefinesModuleType c.in_ok-written.written old.scopes new.scopes) (WritesTypes t b old new) c.define_module.result
    (λ k defines. writes-types c.beside_law.ensures.goes_on_beside t b c.requires.bindings old new c.requires.state (module-goes t b c.index.result.now c.in_ok-written.written old.scopes new.scopes k c.in_ok-written.ensures.means defines)) c.define_module.ensures.defines

pub returns-clause-index : goal.returns-clause-index
returns-clause-index c =
    let t = c.args.self.now.types.now in
    let b = c.args.self.now.merged in
    let old = c.args.state.now in
    let new : State = record { scopes = c.define_module.new.self } in
    if-ok (DefinesModuleType c.in_ok-written.written old.scopes new.scopes) _ c.define_module.result
    (λ k defines m h. module-refers t b m new h c.step_law.ensures.is_its_tree c.args.id k (module-at c.module_law.ensures.holds_module t b c.args.id c.index.result.now c.in_ok-written.written old.scopes new.scopes k c.index.ensures (ready-of c.free_law.ensures t b old (ty.Module c.args.id) c.requires) c.in_ok-written.ensures.means defines)) c.define_module.ensures.defines

pub returns-clause-refused : goal.returns-clause-refused
returns-clause-refused c = err-of c.define_module.result (keeps-types c.args.state.now.scopes c.define_module.new.self c.define_module.ensures.types)

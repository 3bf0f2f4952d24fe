use Rattle.wac_encode_scopes.specs.States.{Goes}
use Rattle.wac_encode_interfaces.specs.private.Definitions.{IsDefinable, IsDefinitionAt}
use Rattle.wac_encode_interfaces.specs.private.Worlds.{written_in}
use Rattle.wac_encode_interfaces.proofs.Refused.{keeps-types}
use Rattle.wac_encode.specs.declared.state.State.{State}
use Rattle.wac_encode.proofs.Results.{err-of, if-ok, on-ok}
use Rattle.wac_encode.proofs.Roots.{writes-types}
use Rattle.wac_encode.proofs.Faultless.{definable-of}
use Rattle.wac_encode.proofs.WrittenTypes.{definition-refers, from-writer, to-writer}
use Rattle.wac_encode.proofs.encoder.TypeEncoder.define_after.Goals as goal

pub definition-requires-clause-writer : goal.definition-requires-clause-writer
definition-requires-clause-writer c = c.new-writer.ensures.writer c.requires.closed c.requires.written c.requires.sizes

pub definition-requires-clause-ready : goal.definition-requires-clause-ready
definition-requires-clause-ready c =
    let t = c.args.self.now.types.now in
    let b = c.args.self.now.merged in
    let old = c.args.state.now in
    let w = c.new-writer.result in
    let is = c.new-writer.ensures in
    to-writer w t b c.args.worlds.now is.types is.merged is.worlds (λ x y z. IsDefinable x y (written_in z) old.scopes c.args.ty) (definable-of t b old c.args.ty (written_in c.args.worlds.now) c.requires.definable c.requires.there)

pub returns-clause-writes : goal.returns-clause-writes
returns-clause-writes c =
    let t = c.args.self.now.types.now in
    let b = c.args.self.now.merged in
    let old = c.args.state.now in
    let w = c.new-writer.result in
    let is = c.new-writer.ensures in
    let new : State = record { scopes = c.definition.new.state } in
    on-ok c.definition.result (λ goes. writes-types c.beside_law.ensures.goes_on_beside t b c.requires.definable.bindings old new c.requires.definable.state (from-writer w t b is.types is.merged (λ x y. Goes x y old.scopes new.scopes) goes)) c.definition.ensures.goes

pub returns-clause-index : goal.returns-clause-index
returns-clause-index c =
    let t = c.args.self.now.types.now in
    let b = c.args.self.now.merged in
    let old = c.args.state.now in
    let w = c.new-writer.result in
    let is = c.new-writer.ensures in
    let new : State = record { scopes = c.definition.new.state } in
    if-ok _ _ c.definition.result (λ k at m h. definition-refers t b m new h c.args.ty k (from-writer w t b is.types is.merged (λ x y. IsDefinitionAt x y new.scopes c.args.ty k) at)) c.definition.ensures.is

pub returns-clause-refused : goal.returns-clause-refused
returns-clause-refused c = err-of c.definition.result (keeps-types c.args.state.now.scopes c.definition.new.state c.definition.ensures.types)

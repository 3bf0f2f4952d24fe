use Rattle.std.proofs.Common.{false, length}
use Rattle.wac_types_collection.specs.collection.Collection.{HasInterface}
use Rattle.wac_types_collection.proofs.lemmas.collection.Steady.{within}
use Rattle.wac_encode_scopes.specs.States.{Goes}
use Rattle.wac_encode_interfaces.specs.private.Ready.{IsInterfaceAt, IsInterfaceReady}
use Rattle.wac_encode_interfaces.specs.private.Worlds.{HaveInterfaceWorlds, written_in}
use Rattle.wac_encode.specs.declared.state.State.{State}
use Rattle.wac_encode.proofs.Results.{if-ok, on-ok}
use Rattle.wac_encode.proofs.Roots.{writes-types}
use Rattle.wac_encode.proofs.Faultless.{interface-ready}
use Rattle.wac_encode.proofs.WrittenTypes.{from-writer, interface-refers, to-writer}
use Rattle.wac_encode.proofs.encoder.TypeEncoder.write_interface_after.Goals as goal

pub interface-requires-clause-writer : goal.interface-requires-clause-writer
interface-requires-clause-writer c = c.new-writer.ensures.writer c.requires.closed c.requires.written c.requires.sizes

pub interface-requires-clause-held : goal.interface-requires-clause-held
interface-requires-clause-held c =
    let t = c.args.self.now.types.now in
    let b = c.args.self.now.merged in
    let old = c.args.state.now in
    let w = c.new-writer.result in
    let is = c.new-writer.ensures in
    to-writer w t b c.args.worlds.now is.types is.merged is.worlds (λ x y z. HasInterface x c.args.interface) (within c.args.interface.0 (length t.interfaces) c.requires.writable.held)

pub interface-requires-clause-ready : goal.interface-requires-clause-ready
interface-requires-clause-ready c =
    let t = c.args.self.now.types.now in
    let b = c.args.self.now.merged in
    let old = c.args.state.now in
    let w = c.new-writer.result in
    let is = c.new-writer.ensures in
    to-writer w t b c.args.worlds.now is.types is.merged is.worlds (λ x y z. IsInterfaceReady x y old.scopes false c.args.interface) (interface-ready c.free_law.ensures t b old c.args.interface c.requires.writable)

pub interface-requires-clause-worlds : goal.interface-requires-clause-worlds
interface-requires-clause-worlds c =
    let t = c.args.self.now.types.now in
    let b = c.args.self.now.merged in
    let old = c.args.state.now in
    let w = c.new-writer.result in
    let is = c.new-writer.ensures in
    to-writer w t b c.args.worlds.now is.types is.merged is.worlds (λ x y z. HaveInterfaceWorlds x (written_in z) false c.args.interface) c.requires.there

pub returns-clause-writes : goal.returns-clause-writes
returns-clause-writes c =
    let t = c.args.self.now.types.now in
    let b = c.args.self.now.merged in
    let old = c.args.state.now in
    let w = c.new-writer.result in
    let is = c.new-writer.ensures in
    let new : State = record { scopes = c.interface.new.state } in
    on-ok c.interface.result (λ goes. writes-types c.beside_law.ensures.goes_on_beside t b c.requires.writable.bindings old new c.requires.writable.state (from-writer w t b is.types is.merged (λ x y. Goes x y old.scopes new.scopes) goes)) c.interface.ensures.goes

pub returns-clause-index : goal.returns-clause-index
returns-clause-index c =
    let t = c.args.self.now.types.now in
    let b = c.args.self.now.merged in
    let old = c.args.state.now in
    let w = c.new-writer.result in
    let is = c.new-writer.ensures in
    let new : State = record { scopes = c.interface.new.state } in
    if-ok _ _ c.interface.result (λ k at m h. interface-refers t b m new h c.step_law.ensures.is_its_tree c.args.interface k (from-writer w t b is.types is.merged (λ x y. IsInterfaceAt x y new.scopes false c.args.interface k) at)) c.interface.ensures.is

use Rattle.std.proofs.Common.{◌≡◌, true, sym, subst}
use Rattle.wac_types_shapes.specs.declared.shapes.component.«Type».TheVariants as ty
use Rattle.wac_types_collection.specs.collection.Collection.{Collection, holds_value}
use Rattle.wac_encode_interfaces.proofs.Refused.{keeps-none, keeps-types}
use Rattle.wac_encode_interfaces.proofs.Written.{closed-as, goes-as, ready-as, written-as}
use Rattle.wac_encode.specs.declared.state.State.{State}
use Rattle.wac_encode.proofs.ItemNames.{used-by-name}
use Rattle.wac_encode.proofs.Results.{err-of, if-ok, on-ok}
use Rattle.wac_encode.proofs.Roots.{writes-types}
use Rattle.wac_encode.proofs.Faultless.{ready-of}
use Rattle.wac_encode.proofs.WrittenTypes.{value-means}
use Rattle.wac_encode.proofs.encoder.TypeEncoder.write_value.Goals as goal

pub returns-in_err-closed-clause-refused : goal.returns-in_err-closed-clause-refused
returns-in_err-closed-clause-refused c = err-of c.from_residual.result (keeps-none c.args.state.now.scopes)

pub value_type-requires-clause-closed : goal.value_type-requires-clause-closed
value_type-requires-clause-closed c =
    let t = c.args.self.now.types.now in
    let b = c.args.self.now.merged in
    let old = c.args.state.now in
    let x = c.new-values.result in
    let is = c.new-values.ensures in
    closed-as t x.types.now c.in_ok-closed.closed x.closed.now is.types is.closed c.in_ok-closed.ensures

pub value_type-requires-clause-held : goal.value_type-requires-clause-held
value_type-requires-clause-held c =
    let t = c.args.self.now.types.now in
    let b = c.args.self.now.merged in
    let old = c.args.state.now in
    let x = c.new-values.result in
    let is = c.new-values.ensures in
    subst (λ (y : Collection). holds_value y c.args.value ≡ true) (sym is.types) c.requires.held

pub value_type-requires-clause-ready : goal.value_type-requires-clause-ready
value_type-requires-clause-ready c =
    let t = c.args.self.now.types.now in
    let b = c.args.self.now.merged in
    let old = c.args.state.now in
    let x = c.new-values.result in
    let is = c.new-values.ensures in
    ready-as t x.types.now b x.merged old.scopes (ty.Value c.args.value) is.types is.merged (ready-of c.free_law.ensures t b old (ty.Value c.args.value) c.requires)

pub returns-clause-writes : goal.returns-clause-writes
returns-clause-writes c =
    let t = c.args.self.now.types.now in
    let b = c.args.self.now.merged in
    let old = c.args.state.now in
    let x = c.new-values.result in
    let is = c.new-values.ensures in
    let new : State = record { scopes = c.value_type.new.state } in
    on-ok c.value_type.result (λ goes. writes-types c.beside_law.ensures.goes_on_beside t b c.requires.bindings old new c.requires.state (goes-as t x.types.now b x.merged old.scopes new.scopes is.types is.merged goes)) c.value_type.ensures.goes

pub returns-clause-means : goal.returns-clause-means
returns-clause-means c =
    let t = c.args.self.now.types.now in
    let b = c.args.self.now.merged in
    let old = c.args.state.now in
    let x = c.new-values.result in
    let is = c.new-values.ensures in
    let new : State = record { scopes = c.value_type.new.state } in
    if-ok _ _ c.value_type.result (λ y at m h. value-means t b m new h c.step_law.ensures.is_its_tree c.args.value y (written-as t x.types.now b x.merged new.scopes c.args.value y is.types is.merged at)) c.value_type.ensures.written

pub returns-clause-named : goal.returns-clause-named
returns-clause-named c =
    let t = c.args.self.now.types.now in
    let b = c.args.self.now.merged in
    let old = c.args.state.now in
    let x = c.new-values.result in
    let is = c.new-values.ensures in
    let new : State = record { scopes = c.value_type.new.state } in
    if-ok _ _ c.value_type.result (λ y at. used-by-name t x.types.now b x.merged x.closed.now old new c.args.value y is.types is.merged at) c.value_type.ensures.named

pub returns-clause-refused : goal.returns-clause-refused
returns-clause-refused c = err-of c.value_type.result (keeps-types c.args.state.now.scopes c.value_type.new.state c.value_type.ensures.types)

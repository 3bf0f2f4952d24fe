use Rattle.std.proofs.Common.{◌≡◌, Some, ◌∙◌, sym, subst}
use Rattle.wac_types_shapes.specs.declared.shapes.component.Interface.{Interface}
use Rattle.wac_encode_scopes.specs.private.Interfaces.{BeginsInterface}
use Rattle.wac_encode_scopes.proofs.Stepped.{on-ok, two-ok}
use Rattle.wac_encode_scopes.proofs.Owned.{sound-named, begins-interface}
use Rattle.wac_encode_scopes.proofs.Begun.{begins-paid, interface-room}
use Rattle.wac_encode_scopes.proofs.Limits.{exit-large, memory-never}
use Rattle.wac_encode_scopes.proofs.state.State.open_interface.Goals as goal

pub returns-clause-begins : goal.returns-clause-begins
returns-clause-begins c =
    let a = c.closing_law.ensures in
    let held = c.index-interface.result.now in
    two-ok c.push.result (λ here around it at.
    let some : Some held ≡ Some it = sym c.index-interface.ensures ∙ at in
    let same : held ≡ it = cc in
    subst (λ (x : Interface). BeginsInterface c.args.types.now c.args.merged x c.args.self.now c.push.new.self) same
    (begins-interface c.listing_law.ensures.lists_own a.calls_one_more a.calls_no_more c.listing_law.ensures.lists_one_more a.fresh_in_interface a.calls_own a.opens_interface a.calls_all c.args.types.now c.args.merged held
    (sound-named c.args.types.now c.uses_law.ensures c.args.id held c.index-interface.ensures) c.law.ensures c.args.self.now c.push.new.self c.in_ok-scope.scope c.binds_none-passes.result
    c.in_ok-scope.ensures.opened c.in_ok-scope.ensures.content c.in_ok-scope.ensures.beside c.binds_none-passes.ensures.none c.binds_none-passes.ensures.one here around)) c.push.ensures.here c.push.ensures.around

pub returns-clause-begins_paid : goal.returns-clause-begins_paid
returns-clause-begins_paid c = on-ok c.push.result (λ h it at. begins-paid c.args.types.now c.args.merged it c.args.self.now c.push.new.self (h it at)) (returns-clause-begins c)

pub returns-in_err-scope-clause-room : goal.returns-in_err-scope-clause-room
returns-in_err-scope-clause-room c l = interface-room c.args.types.now c.args.id c.index-interface.result.now c.index-interface.ensures (c.in_err-scope.ensures.too_large (exit-large _ c.from_residual.result c.from_residual.ensures.1 l))

pub returns-clause-room : goal.returns-clause-room
returns-clause-room c = memory-never c.push.result _ c.push.ensures.memory

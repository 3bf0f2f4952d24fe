use Rattle.std.proofs.Common.{◌≡◌, ◌≤◌, ◌+◌, suc, Some, None, subst, length, arith}
use Rattle.std.proofs.lemmas.List.{take_all}
use Rattle.wac_types_shapes.specs.primitives.Name.{Name}
use Rattle.wac_types_shapes.specs.declared.shapes.component.ItemKind.{ItemKind}
use Rattle.wac_encode_scopes.specs.private.Interfaces.{own_in}
use Rattle.wac_encode_scopes.specs.private.Steps.{OwnIsBound}
use Rattle.wac_encode_scopes.proofs.Owned.{NoneOf, none-step, binds-one}
use Rattle.wac_encode_scopes.proofs.state.State.binds_none.Goals as goal

pub loop-i-init : goal.loop-i-init
loop-i-init c r n h = let no : None ≡ Some n = h in cc

pub loop-i-preserved : goal.loop-i-preserved
loop-i-preserved c =
    let it = c.args.interface.now in
    let x : Name × ItemKind = (c.entry_at.result.0.now, c.entry_at.result.1.now) in
    let one : c.loop-i.i + 1 ≡ suc c.loop-i.i = omega arith in
    none-step c.args.types.now c.args.merged c.args.self.now it.uses it.exports c.loop-i.i (c.loop-i.i + 1) x one c.entry_at.ensures (subst (OwnIsBound c.args.types.now c.args.merged c.args.self.now (own_in c.args.types.now it.uses x)) c.if-binds_own.false c.binds_own.ensures) c.loop-i.invariant

pub returns-then-binds_own-clause-one : goal.returns-then-binds_own-clause-one
returns-then-binds_own-clause-one c is =
    let it = c.args.interface.now in
    let x : Name × ItemKind = (c.entry_at.result.0.now, c.entry_at.result.1.now) in
    binds-one c.args.types.now c.args.merged c.args.self.now it c.loop-i.i x c.entry_at.ensures (subst (OwnIsBound c.args.types.now c.args.merged c.args.self.now (own_in c.args.types.now it.uses x)) c.if-binds_own.true c.binds_own.ensures)

pub returns-clause-none : goal.returns-clause-none
returns-clause-none c is =
    let it = c.args.interface.now in
    let past : length it.exports ≤ c.loop-i.i = (let f = c.loop-i-test.false in let n = c.len-i-end.ensures in omega (arith, f, n)) in
    subst (NoneOf c.args.types.now c.args.merged c.args.self.now it.uses) (take_all c.loop-i.i it.exports past) c.loop-i.invariant

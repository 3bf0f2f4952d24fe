use Rattle.std.proofs.Common.{◌≡◌, ◌≤◌, ◌+◌, suc, List, subst, length, arith}
use Rattle.std.proofs.lemmas.List.{take_all}
use Rattle.wac_types_shapes.specs.primitives.Name.{Name}
use Rattle.wac_types_shapes.specs.declared.shapes.component.ValueType.{ValueType}
use Rattle.wac_encode_tests.specs.private.Stacks.{MayWriteAll}
use Rattle.wac_encode_tests.proofs.OpenScopes.{may-none, may-next}
use Rattle.wac_encode_tests.proofs.stacks.may_write_all.Goals as goal

pub loop-i-init : goal.loop-i-init
loop-i-init c = may-none c.args.types.now c.args.state.now c.args.params.now

pub loop-i-preserved : goal.loop-i-preserved
loop-i-preserved c =
    let one : c.loop-i.i + 1 ≡ suc c.loop-i.i = omega arith in
    may-next c.args.types.now c.args.state.now c.args.params.now c.loop-i.i (c.loop-i.i + 1) (c.entry_at.result.0.now, c.entry_at.result.1.now) one c.entry_at.ensures c.loop-i.invariant (c.may_write.ensures c.if-not-may_write.false)

pub returns : goal.returns
returns c = λ yes.
    let past : length c.args.params.now ≤ c.loop-i.i = (let f = c.loop-i-test.false in let n = c.len-i-end.ensures in omega (arith, f, n)) in
    subst (λ (l : List (Name × ValueType)). MayWriteAll c.args.types.now c.args.state.now l) (take_all c.loop-i.i c.args.params.now past) c.loop-i.invariant

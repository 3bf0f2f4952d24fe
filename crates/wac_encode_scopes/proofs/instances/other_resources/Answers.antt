use Rattle.std.proofs.Common.{◌≡◌, ◌≤◌, ◌+◌, suc, length, arith}
use Rattle.wac_types_shapes.specs.primitives.Name.{Name}
use Rattle.wac_types_shapes.specs.declared.shapes.component.ItemKind.{ItemKind}
use Rattle.wac_encode_scopes.specs.private.Telling.{is_one_of}
use Rattle.wac_encode_scopes.proofs.OtherOwn.{other-first, other-next, other-all}
use Rattle.wac_encode_scopes.proofs.instances.other_resources.Goals as goal

pub loop-i-init : goal.loop-i-init
loop-i-init c = other-first c.args.types.now c.args.interface.now.uses (is_one_of c.args.own.now.keys) c.new-others.result.keys c.new-others.ensures.empty

pub loop-i-preserved : goal.loop-i-preserved
loop-i-preserved c =
    let x : Name × ItemKind = (c.entry_at.result.0.now, c.entry_at.result.1.now) in
    let one : c.loop-i.i + 1 ≡ suc c.loop-i.i = omega arith in
    other-next c.args.types.now c.args.interface.now.uses (is_one_of c.args.own.now.keys) c.args.interface.now.exports c.loop-i.i (c.loop-i.i + 1) x c.other_of-resource.result c.loop-i.others.keys c.add_resource.new.set.keys one c.entry_at.ensures c.other_of-resource.ensures c.loop-i.invariant c.in_ok-add_resource.ensures

pub returns : goal.returns
returns c =
    let past : length c.args.interface.now.exports ≤ c.loop-i.i = (let f = c.loop-i-test.false in let n = c.len-i-end.ensures in omega (arith, f, n)) in
    other-all c.args.types.now c.args.interface.now (is_one_of c.args.own.now.keys) c.loop-i.i c.loop-i.others.keys past c.loop-i.invariant

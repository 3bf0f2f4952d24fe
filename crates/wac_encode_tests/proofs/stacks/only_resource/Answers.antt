use Rattle.std.proofs.Common.{◌≡◌, length, arith}
use Rattle.wac_encode_tests.proofs.OpenScopes.{has-only}
use Rattle.wac_encode_tests.proofs.stacks.only_resource.Goals as goal

pub returns : goal.returns
returns c =
    let one : length c.args.interface.now.exports ≡ 1 = (let f = c.if-len-ne1.false in let n = c.len.ensures in omega (arith, f, n)) in
    has-only c.args.types.now c.args.interface.now c.entry_at.result.0.now c.entry_at.result.1.now c.own_resource.result one c.entry_at.ensures c.own_resource.ensures

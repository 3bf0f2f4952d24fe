use Rattle.wac_encode_tests.proofs.OpenScopes.{may-func}
use Rattle.wac_encode_tests.proofs.stacks.may_write_func.Goals as goal

pub returns : goal.returns
returns c = λ yes. may-func c.args.types.now c.law.ensures c.args.state.now c.args.id c.index-func.result.now c.index-func.ensures (c.may_write_optional.ensures c.if-not-may_write_optional.false) (c.may_write_all.ensures yes)

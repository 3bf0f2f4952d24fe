use Rattle.std.proofs.Common.{refl}
use Rattle.wac_graph.proofs.TwiceLemmas.{passed, refused}
use Rattle.wac_graph.proofs.twice.check_names.Goals as goal

pub returns-in-Err : goal.returns-in-Err
returns-in-Err c = refused (λ n. n.now) c.args.names.now _ c.loop-name.name-index _ c.loop-name.found c.in-Err.error refl c.loop-name-test.true c.loop-name.invariant c.in-Err.ensures

pub returns : goal.returns
returns c = passed (λ n. n.now) c.args.names.now _ c.loop-name.name-index c.loop-name.found refl c.loop-name-test.false c.loop-name.invariant c.law.ensures

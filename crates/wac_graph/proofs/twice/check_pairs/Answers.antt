use Rattle.wac_graph.proofs.TwiceLemmas.{pairs_names, passed, refused}
use Rattle.wac_graph.proofs.twice.check_pairs.Goals as goal

pub returns-in-Err : goal.returns-in-Err
returns-in-Err g c =
    refused (λ e. e.0.now) c.args.pairs.now _ c.loop-pair.pair-index c.pair-item.result c.loop-pair.found c.in-Err.error (pairs_names c.args.pairs.now) c.loop-pair-test.true c.loop-pair.invariant (rw c.pair-item.is at c.in-Err.ensures)

pub returns : goal.returns
returns g c = passed (λ e. e.0.now) c.args.pairs.now _ c.loop-pair.pair-index c.loop-pair.found (pairs_names c.args.pairs.now) c.loop-pair-test.false c.loop-pair.invariant c.law.ensures

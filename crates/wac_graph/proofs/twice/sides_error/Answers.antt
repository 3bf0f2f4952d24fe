use Rattle.wac_graph.proofs.TwiceLemmas.{of_exports, of_imports}
use Rattle.wac_graph.proofs.twice.sides_error.Goals as goal

pub returns-in-Ok : goal.returns-in-Ok
returns-in-Ok g c = of_exports _ _ c.pairs_error.result c.in-Ok.ensures c.pairs_error.ensures

pub returns-in-Err : goal.returns-in-Err
returns-in-Err g c = of_imports _ _ c.in-Err.error c.in-Err.ensures

use Rattle.std.proofs.Common.{is_some, ap}
use Rattle.wac_graph.proofs.BoundLemmas.{one_bound, none_bound}
use Rattle.wac_graph.proofs.bound.add_if_bound.Goals as goal

pub returns-in_ok-insert-in-Some : goal.returns-in_ok-insert-in-Some
returns-in_ok-insert-in-Some c = one_bound c.args.merge.now c.args.bound.now.keys c.insert.new.self.keys c.args.resource c.in_ok-insert-in-Some.ensures.keys (ap is_some (c.in-Some.ensures).first)

pub returns-in-None : goal.returns-in-None
returns-in-None c = none_bound c.args.merge.now c.args.bound.now.keys c.args.resource c.in-None.ensures

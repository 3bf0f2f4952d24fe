use Rattle.std.proofs.Common.{sym}
use Rattle.std.proofs.lemmas.Result.{on_ok_weaker}
use Rattle.wac_graph.specs.private.Bound.{item_resource}
use Rattle.wac_graph.proofs.BoundLemmas.{item_some, item_none}
use Rattle.wac_graph.proofs.bound.add_item.Goals as goal

pub returns-in-Some : goal.returns-in-Some
returns-in-Some c =
    on_ok_weaker c.add_if_bound.result
    (λ added. item_some c.args.merge.now c.args.bound.now.keys c.add_if_bound.new.bound.keys (item_resource c.args.item) c.in-Some.resource (sym c.in-Some.ensures) added) c.add_if_bound.ensures

pub returns-in-None : goal.returns-in-None
returns-in-None c = item_none c.args.merge.now c.args.bound.now.keys (item_resource c.args.item) (sym c.in-None.ensures)

use Rattle.std.proofs.lemmas.Result.{on_ok_weaker}
use Rattle.wac_graph.proofs.BoundLemmas.{instance_adds, other_adds}
use Rattle.wac_graph.proofs.bound.add_import.Goals as goal

pub returns-in-Instance : goal.returns-in-Instance
returns-in-Instance c =
    on_ok_weaker c.add_items.result
    (λ added. instance_adds c.args.types.now c.args.merge.now c.args.bound.now.keys c.add_items.new.bound.keys c.args.item c.in-Instance.id c.index-interface.result.now c.in-Instance.is c.index-interface.ensures added) c.add_items.ensures

pub returns-in_default : goal.returns-in_default
returns-in_default c =
    on_ok_weaker c.add_item.result
    (λ added. other_adds c.args.types.now c.args.merge.now c.args.bound.now.keys c.add_item.new.bound.keys c.args.item (λ i is. c.in_default.not-Instance i is) added) c.add_item.ensures

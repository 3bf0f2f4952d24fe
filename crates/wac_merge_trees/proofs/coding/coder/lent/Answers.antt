use Rattle.std.proofs.Common.{sym}
use Rattle.wac_types_collection.specs.subtyping.CalledViews.{called_view}
use Rattle.wac_merge_trees.specs.private.coding.CallsView.{names_in}
use Rattle.wac_merge_trees.proofs.lemmas.coding.CodingGrowth.{answer_same}
use Rattle.wac_merge_trees.proofs.lemmas.coding.CodingTrees.{borrow_is}
use Rattle.wac_merge_trees.proofs.coding.coder.lent.Goals as goal

pub returns-clause-number : goal.returns-clause-number
returns-clause-number c =
    let s = c.args.source.now in
    let e = borrow_is s.types.now (names_in s.types.now s.calls.now) c.args.id (called_view c.in_ok-called.called) c.in_ok-called.ensures in
    answer_same c.add.result c.add.new.nodes _ _ (sym e) c.add.ensures.number

use Rattle.std.proofs.Common.{ℕ, List, sym, subst}
use Rattle.wac_types_collection.specs.collection.Held.{defined_tree}
use Rattle.wac_merge_trees.specs.declared.coding.coder.Meaning.{Meaning}
use Rattle.wac_merge_tables.specs.private.tables.Nodes.{Node}
use Rattle.wac_merge_trees.specs.private.coding.CallsView.{names_in}
use Rattle.wac_merge_trees.specs.private.coding.Coding.{source_tree, values_of, HasTree, IsGrown, Means}
use Rattle.wac_merge_trees.proofs.lemmas.coding.CodingGrowth.{grown_none, grown_not, grown_twice, right_grown, tree_same, moved_by}
use Rattle.wac_merge_trees.proofs.lemmas.coding.CodingMemo.{defined_put}
use Rattle.wac_merge_tables.proofs.lemmas.tables.TaskLemmas.{defined_values_hold}
use Rattle.wac_merge_trees.proofs.lemmas.coding.CodingTrees.{defined_is}
use Rattle.wac_merge_trees.proofs.coding.memo.Memo.close.Goals as goal
use Rattle.wac_merge_trees.proofs.coding.memo.Memo.close.Goals.{in-New+in_ok-number-in-New, in-Same}

pub meaning-requires-clause-held : goal.meaning-requires-clause-held
meaning-requires-clause-held c = defined_values_hold c.args.source.now.types.now c.law.ensures c.args.id c.index.result.now c.index.ensures

pub returns-clause-right : goal.returns-clause-right
returns-clause-right c =
    let s = c.args.source.now in
    let t = source_tree s in
    let d = c.args.id in
    let x = c.index.result.now in
    let old = c.args.nodes.now in
    let mid = c.meaning.new.nodes in
    let new : List Node = c.match-branch-2.nodes in
    let n : ℕ = c.match-branch-2.number in
    let e = defined_is s.types.now (names_in s.types.now s.calls.now) c.trees_are_whole.ensures.bound d x c.requires.held c.index.ensures in
    let tree = defined_tree (values_of t) x in
    let h : HasTree new tree n × IsGrown mid new = elim c.match-branch-2.branch [
      | in-New+in_ok-number-in-New w ↦
          let m = subst (λ (k : Meaning). Means mid tree k) w.in-New.is c.in_ok-node.ensures.meaning in
          moved_by mid new w.add.new.nodes tree n w.in_ok-number-in-New.number w.nodes-is w.number-is (tree_same w.add.new.nodes _ _ w.in_ok-number-in-New.number m.is w.in_ok-number-in-New.ensures.number) w.add.ensures.grown
      | in-Same w ↦
          let m = subst (λ (k : Meaning). Means mid tree k) w.in-Same.is c.in_ok-node.ensures.meaning in
          moved_by mid new mid tree n w.in-Same.number w.nodes-is w.number-is m (grown_not mid)
    ] in
    let g = grown_twice old mid new c.meaning.ensures.grown h.1 in
    defined_put t new c.args.self.now c.put_defined.new.self d n c.put_defined.result c.put_defined.ensures (right_grown t c.args.self.now old new g c.requires.right) (tree_same new _ _ n (sym e) h.0)

pub returns-clause-grown : goal.returns-clause-grown
returns-clause-grown c =
    let mid = c.meaning.new.nodes in
    let new : List Node = c.match-branch-2.nodes in
    grown_twice c.args.nodes.now mid new c.meaning.ensures.grown (elim c.match-branch-2.branch [
      | in-New+in_ok-number-in-New w ↦ subst (λ (ns : List Node). IsGrown mid ns) (sym w.nodes-is) w.add.ensures.grown
      | in-Same w ↦ grown_none mid new w.nodes-is
    ])

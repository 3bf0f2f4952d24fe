use Rattle.std.proofs.Common.{◌≡◌, ◌<◌, ◌∙◌, Some, Bool, true, false, length, get_or, slice_get, Vec, Global, ap, sym, arith}
use Rattle.std.proofs.lemmas.List.{get_or_read}
use Rattle.std.proofs.lemmas.Option.{slice_get-get_or}
use Rattle.wac_graph.specs.declared.plugs.matching.Pair.{Pair}
use Rattle.wac_graph.proofs.lemmas.plugs.Dividing.{lost-next, won-next, all-divided}
use Rattle.wac_graph.proofs.plugs.precedence.divide.Goals as goal
use Rattle.wac_graph.proofs.plugs.precedence.divide.Goals.{then-index+in_ok-push, else-index+in_ok-push-2}

pub loop-i-preserved : goal.loop-i-preserved
loop-i-preserved c =
    let ps = c.args.pairs.now in
    let start = c.args.taken.now.items in
    let taken = c.loop-i.taken.items in
    let none : Pair = record { export = 0; import = 0 } in
    let p : Pair = get_or ps c.loop-i.i none in
    let at : slice_get ps c.loop-i.i ≡ Some p = slice_get-get_or ps c.loop-i.i none c.loop-i-test.true in
    let below : p.import < length taken = omega (arith, c.requires c.loop-i.i p at, c.loop-i.invariant.3) in
    let read : c.index.result.now ≡ get_or taken p.import false = get_or_read taken p.import c.index.result.now below c.index.ensures false in
    elim c.if-index.branch [
      | then-index+in_ok-push w ↦
          rw (w.won-is, w.taken-is) (lost-next ps start c.loop-i.i p at c.loop-i.won.items c.loop-i.lost.items taken c.loop-i.invariant (sym read ∙ w.if-index.true) c.if-index.lost.items (ap (λ (v : Vec Pair Global). v.items) w.lost-is ∙ w.in_ok-push.ensures.items))
      | else-index+in_ok-push-2 w ↦
          rw w.lost-is (won-next ps start c.loop-i.i p at c.loop-i.won.items c.loop-i.lost.items taken c.loop-i.invariant (sym read ∙ w.if-index.false) c.if-index.won.items (ap (λ (v : Vec Pair Global). v.items) w.won-is ∙ w.in_ok-push-2.ensures.items)
          c.if-index.taken.items (ap (λ (v : Vec Bool Global). v.items) w.taken-is))
    ]

pub returns-clause-won : goal.returns-clause-won
returns-clause-won c = (all-divided c.args.pairs.now c.args.taken.now.items c.loop-i.i c.loop-i.won.items c.loop-i.lost.items c.loop-i.taken.items c.loop-i-test.false c.loop-i.invariant).0

pub returns-clause-lost : goal.returns-clause-lost
returns-clause-lost c = (all-divided c.args.pairs.now c.args.taken.now.items c.loop-i.i c.loop-i.won.items c.loop-i.lost.items c.loop-i.taken.items c.loop-i-test.false c.loop-i.invariant).1

pub returns-clause-marked : goal.returns-clause-marked
returns-clause-marked c = (all-divided c.args.pairs.now c.args.taken.now.items c.loop-i.i c.loop-i.won.items c.loop-i.lost.items c.loop-i.taken.items c.loop-i-test.false c.loop-i.invariant).2

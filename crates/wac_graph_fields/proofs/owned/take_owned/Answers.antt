use Rattle.std.proofs.Common.{◌≡◌, ◌+◌, suc, arith, subst}
use Rattle.wac_graph_fields.proofs.OwnedLemmas.{IsTakingOwned, owned_more}
use Rattle.wac_graph_fields.proofs.owned.take_owned.Goals as goal

pub loop-number-preserved : goal.loop-number-preserved
loop-number-preserved c =
    let count : suc c.loop-number.number ≡ c.loop-number.number + 1 = omega arith in
    subst (λ k. IsTakingOwned c.args.id c.args.nodes.now c.args.edges.now c.args.lost.now k c.take_owned_at.new.nodes c.take_owned_at.new.edges c.take_owned_at.new.lost) count
    (owned_more c.args.id c.args.nodes.now c.args.edges.now c.args.lost.now c.loop-number.number c.loop-number.nodes c.loop-number.edges c.loop-number.lost c.loop-number.invariant
    c.take_owned_at.new.nodes c.take_owned_at.new.edges c.take_owned_at.new.lost c.take_owned_at.ensures.taken c.take_owned_at.ensures.tied c.take_owned_at.ensures.marks c.take_owned_at.ensures.next)

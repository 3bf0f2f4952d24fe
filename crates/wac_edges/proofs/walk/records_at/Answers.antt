use Rattle.std.proofs.Common.{Option, sym, subst, ◌<◌, ◌^◌, arith, ℕ, length}
use Rattle.slab.specs.Slab.{get}
use Rattle.wac_edges.specs.private.Records.{IsList, list_at}
use Rattle.wac_edges.proofs.ListLemmas.{the_list, the_length}
use Rattle.wac_edges.proofs.walk.records_at.Goals as goal

pub invariant_of-result : goal.invariant_of-result
invariant_of-result c =
    subst (λ (o : Option ℕ). IsList (get c.args.table.now) c.args.end o (list_at c.args.table.now c.args.end o)) (sym c.first.ensures)
    (the_list c.args.table.now c.args.firsts.now c.requires c.args.node c.args.end)

pub returns-clause-short : goal.returns-clause-short
returns-clause-short c =
    subst (λ (o : Option ℕ). length (list_at c.args.table.now c.args.end o) < 2 ^ 64) (sym c.first.ensures)
    (omega (arith, the_length c.args.table.now c.args.firsts.now c.requires c.args.node c.args.end, c.capacity-room.ensures.slots, c.capacity-room.type_inv))

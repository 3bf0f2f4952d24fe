use Rattle.std.proofs.Common.{ap, sym, ◌∙◌, drop, ◌+◌}
use Rattle.wac_types_collection.specs.collection.Collection.{used_types}
use Rattle.wac_types_collection.specs.private.reach.Found.{with_all}
use Rattle.wac_types_collection.proofs.lemmas.reach.Lists.{drop_second}
use Rattle.wac_types_collection.proofs.reach.reached.Reached.put_uses.Goals as goal

pub loop-i-preserved : goal.loop-i-preserved
loop-i-preserved c =
    let (_, is) = drop_second c.args.uses.now c.loop-i.i c.value_at.result.now c.value_at.ensures in
    ap (λ ts. with_all ts (used_types (drop (c.loop-i.i + 1) c.args.uses.now))) c.in_ok-put.ensures ∙ sym (ap (λ xs. with_all c.loop-i.self (used_types xs)) is) ∙ c.loop-i.invariant

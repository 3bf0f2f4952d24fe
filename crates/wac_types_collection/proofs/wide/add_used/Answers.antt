use Rattle.std.proofs.Common.{ap, sym, ◌∙◌, drop, ◌+◌}
use Rattle.wac_types_collection.proofs.lemmas.reach.Lists.{drop_second}
use Rattle.wac_types_collection.specs.wide.Wide.{used_interfaces, with_each}
use Rattle.wac_types_collection.proofs.lemmas.wide.Once.{inserted}
use Rattle.wac_types_collection.proofs.wide.add_used.Goals as goal

pub loop-i-preserved : goal.loop-i-preserved
loop-i-preserved c =
    let (_, is) = drop_second c.args.uses.now c.loop-i.i c.value_at.result.now c.value_at.ensures in
    let found = c.loop-i.used.keys in
    let left = used_interfaces (drop (c.loop-i.i + 1) c.args.uses.now) in
    ap (λ l. with_each l left) (inserted found c.insert.new.self.keys c.value_at.result.now.interface c.in_ok-insert.ensures.keys)
    ∙ sym (ap (λ xs. with_each found (used_interfaces xs)) is) ∙ c.loop-i.invariant

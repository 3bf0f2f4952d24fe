use Rattle.std.proofs.Common.{ap, sym, ◌∙◌, drop, ◌+◌}
use Rattle.wac_types_collection.specs.collection.Collection.{value_types, case_values}
use Rattle.wac_types_collection.specs.private.reach.Found.{with_all}
use Rattle.wac_types_collection.proofs.lemmas.reach.Lists.{drop_second, maybe_first}
use Rattle.wac_encode_faults.proofs.parts.add_cases.Goals as goal

pub loop-i-preserved : goal.loop-i-preserved
loop-i-preserved c =
    let (_, is) = drop_second c.args.cases.now c.loop-i.i c.value_at.result.now c.value_at.ensures in
    ap (λ ts. with_all ts (value_types (case_values (drop (c.loop-i.i + 1) c.args.cases.now)))) c.in_ok-add_maybe.ensures ∙ maybe_first c.loop-i.found.keys c.value_at.result.now (case_values (drop (c.loop-i.i + 1) c.args.cases.now)) ∙ sym (ap (λ xs. with_all c.loop-i.found.keys (value_types (case_values xs))) is) ∙ c.loop-i.invariant

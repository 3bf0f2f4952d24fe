use Rattle.std.proofs.Common.{ap, sym, ◌∙◌, drop, ◌+◌, ◌++◌, [], append_assoc}
use Rattle.wac_types_collection.specs.collection.Collection.{value_types, case_values, and_maybe}
use Rattle.wac_types_collection.proofs.lemmas.reach.Lists.{drop_second}
use Rattle.wac_encode_order.proofs.Lists.{maybe-first}
use Rattle.wac_encode_order.proofs.parts.push_cases.Goals as goal

pub loop-i-preserved : goal.loop-i-preserved
loop-i-preserved c =
    let (_, is) = drop_second c.args.cases.now c.loop-i.i c.value_at.result.now c.value_at.ensures in
    let rest = case_values (drop (c.loop-i.i + 1) c.args.cases.now) in
    ap (λ ts. ts ++ value_types rest) c.in_ok-push_maybe.ensures ∙ append_assoc c.loop-i.parts.items (value_types (and_maybe c.value_at.result.now [])) (value_types rest)
    ∙ ap (λ ts. c.loop-i.parts.items ++ ts) (maybe-first c.value_at.result.now rest) ∙ sym (ap (λ xs. c.loop-i.parts.items ++ value_types (case_values xs)) is) ∙ c.loop-i.invariant

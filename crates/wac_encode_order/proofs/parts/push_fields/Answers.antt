use Rattle.std.proofs.Common.{ap, sym, ◌∙◌, drop, ◌+◌, ◌++◌, [], ◌∷◌, append_assoc}
use Rattle.wac_types_shapes.specs.declared.shapes.component.«Type».TheVariants as ty
use Rattle.wac_types_collection.specs.collection.Collection.{value_types, seconds}
use Rattle.wac_types_collection.proofs.lemmas.reach.Lists.{drop_second}
use Rattle.wac_encode_order.proofs.parts.push_fields.Goals as goal

pub loop-i-preserved : goal.loop-i-preserved
loop-i-preserved c =
    let (_, is) = drop_second c.args.fields.now c.loop-i.i c.value_at.result.now c.value_at.ensures in
    let rest = value_types (seconds (drop (c.loop-i.i + 1) c.args.fields.now)) in
    ap (λ ts. ts ++ rest) c.in_ok-push.ensures.items ∙ append_assoc c.loop-i.parts.items (ty.Value c.value_at.result.now ∷ []) rest ∙ sym (ap (λ xs. c.loop-i.parts.items ++ value_types (seconds xs)) is) ∙ c.loop-i.invariant

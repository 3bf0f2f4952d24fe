use Rattle.std.proofs.Common.{ap, sym, ◌∙◌, drop, ◌+◌, ◌++◌, [], ◌∷◌, append_assoc}
use Rattle.wac_types_shapes.specs.shapes.Kinds.{kind_type}
use Rattle.wac_types_collection.specs.collection.Collection.{kind_types}
use Rattle.wac_types_collection.proofs.lemmas.reach.Lists.{drop_second}
use Rattle.wac_encode_order.proofs.parts.push_items.Goals as goal

pub loop-i-preserved : goal.loop-i-preserved
loop-i-preserved c =
    let (_, is) = drop_second c.args.items.now c.loop-i.i c.value_at.result.now c.value_at.ensures in
    let rest = kind_types (drop (c.loop-i.i + 1) c.args.items.now) in
    ap (λ ts. ts ++ rest) (c.in_ok-push.ensures.items ∙ ap (λ t. c.loop-i.parts.items ++ t ∷ []) c.ty.ensures) ∙ append_assoc c.loop-i.parts.items (kind_type c.value_at.result.now ∷ []) rest ∙ sym (ap (λ xs. c.loop-i.parts.items ++ kind_types xs) is) ∙ c.loop-i.invariant

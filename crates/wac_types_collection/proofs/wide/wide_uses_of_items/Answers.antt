use Rattle.std.proofs.Common.{◌++◌, reverse, ap, ◌∙◌, subst, flat_map, Contains}
use Rattle.std.proofs.lemmas.List.{reverse-reverse}
use Rattle.std.proofs.lemmas.Result.{IfOk-weaker}
use Rattle.wac_types_collection.specs.wide.Wide.{wide_uses, instances_of, each_once}
use Rattle.wac_types_collection.proofs.lemmas.wide.Members.{in_reversed}
use Rattle.wac_types_collection.proofs.wide.wide_uses_of_items.Goals as goal

pub found_from-requires : goal.found_from-requires
found_from-requires c =
    let all = c.in_ok-push_instances.ensures ∙ ap (λ l. l ++ reverse (instances_of c.args.items.now)) c.new-pending.ensures.items in
    λ v h. c.requires v (in_reversed (instances_of c.args.items.now) v (subst (λ l. Contains l v) all h))

pub returns : goal.returns
returns c =
    let all = c.in_ok-push_instances.ensures ∙ ap (λ l. l ++ reverse (instances_of c.args.items.now)) c.new-pending.ensures.items in
    IfOk-weaker c.found_from.result _ _
    (λ s is. is ∙ ap (λ l. each_once (flat_map (wide_uses c.args.types.now) (reverse l))) all ∙ ap (λ l. each_once (flat_map (wide_uses c.args.types.now) l)) (reverse-reverse (instances_of c.args.items.now))) c.found_from.ensures

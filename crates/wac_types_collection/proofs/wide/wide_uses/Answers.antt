use Rattle.std.proofs.Common.{[], ◌∷◌, ◌++◌, reverse, ap, ◌∙◌, subst, sym, flat_map, Contains}
use Rattle.std.proofs.lemmas.List.{append-nil}
use Rattle.std.proofs.lemmas.Result.{IfOk-weaker}
use Rattle.wac_types_collection.specs.collection.Collection.{HasInterface}
use Rattle.wac_types_collection.specs.wide.Wide.{wide_uses, each_once}
use Rattle.wac_types_collection.proofs.lemmas.wide.Members.{in_one}
use Rattle.wac_types_collection.proofs.wide.wide_uses.Goals as goal

pub found_from-requires : goal.found_from-requires
found_from-requires c =
    let one = c.in_ok-push.ensures.items ∙ ap (λ l. l ++ c.args.id ∷ []) c.new-pending.ensures.items in
    λ v h. subst (HasInterface c.args.types.now) (sym (in_one c.args.id v (subst (λ l. Contains l v) one h))) c.requires

pub returns : goal.returns
returns c =
    let one = c.in_ok-push.ensures.items ∙ ap (λ l. l ++ c.args.id ∷ []) c.new-pending.ensures.items in
    IfOk-weaker c.found_from.result _ _
    (λ s is. is ∙ ap (λ l. each_once (flat_map (wide_uses c.args.types.now) (reverse l))) one ∙ ap each_once (append-nil (wide_uses c.args.types.now c.args.id))) c.found_from.ensures

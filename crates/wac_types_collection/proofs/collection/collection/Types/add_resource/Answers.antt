use Rattle.std.proofs.Common.{◌∙◌, sym, ap, ◌++◌, ◌∷◌, [], rules}
use Rattle.wac_types_collection.proofs.lemmas.collection.Ends.{resource_kept}
use Rattle.wac_types_collection.proofs.collection.collection.Types.add_resource.Goals as goal

pub invariant_of-self-2 : goal.invariant_of-self-2
invariant_of-self-2 c =
    resource_kept _ _ c.args.resource _ _ _ _ _ c.map_or-end.result c.self.invariant c.self.view_is c.in_ok-before.ensures.count (sym c.contains_alias.ensures ∙ c.if-not-contains_alias.false)
    c.in_ok-hold.ensures.held
    (rw c.unwrap.ensures at c.push.ensures.items ∙ ap (λ xs. xs ++ c.map_or-end.result ∷ []) c.reserve.ensures.items)
    (search rules)

use Rattle.std.proofs.Common.{sym, subst}
use Rattle.wac_types_collection.specs.collection.Collection.{Collection}
use Rattle.wac_merge_resources.specs.renaming.MadeOf.{AreMade}
use Rattle.wac_merge_resources.specs.declared.renaming.became.Became.{Became}
use Rattle.wac_merge_imports.proofs.unions.writing.begin.Goals as goal

pub returns-then-ne-clause-right : goal.returns-then-ne-clause-right
returns-then-ne-clause-right c =
    λ types m became made before s is_types is_became is_part.
    let memo = c.args.renamed.now.made in
    c.forget.ensures.right m s (subst (λ (t : Collection). AreMade t s.became.now.named.now m memo) (sym is_types) (subst (λ (b : Became). AreMade types b.named.now m memo) (sym is_became) made))

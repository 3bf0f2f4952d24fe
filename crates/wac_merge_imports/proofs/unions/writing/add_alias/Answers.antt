use Rattle.std.proofs.Common.{sym, subst}
use Rattle.wac_types_collection.specs.collection.Collection.{Collection}
use Rattle.wac_types_collection.specs.private.subtyping.Extended.{IsExtended}
use Rattle.wac_merge_tables.proofs.lemmas.made.Extending.{extended_resource}
use Rattle.wac_merge_imports.proofs.lemmas.unions.WritingItems.{alias-added}
use Rattle.wac_merge_imports.proofs.unions.writing.add_alias.Goals as goal

pub returns-in-Ok-clause-extended : goal.returns-in-Ok-clause-extended
returns-in-Ok-clause-extended c =
    subst (λ (m : Collection). IsExtended c.args.merged.now m) (sym c.in-Ok.ensures.added.1) (extended_resource c.args.merged.now c.growth_keeps_trees.ensures c.in_ok-resource.resource)

pub returns-in-Ok-clause-alias : goal.returns-in-Ok-clause-alias
returns-in-Ok-clause-alias c =
    alias-added c.args.merged.now c.add_resource.new.self c.in_ok-resource.resource c.in-Ok.id c.args.name.now c.args.source c.in_ok-resource.ensures c.in-Ok.ensures.added.0 c.in-Ok.ensures.added.1

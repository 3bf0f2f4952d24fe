use Rattle.std.proofs.Common.{sym, subst, arith}
use Rattle.wac_types_collection.specs.collection.Collection.{Collection}
use Rattle.wac_types_collection.specs.private.subtyping.Extended.{IsExtended}
use Rattle.wac_merge_tables.proofs.lemmas.made.Extending.{extended_interface}
use Rattle.wac_merge_unions.proofs.lemmas.uses.Growing.{interface-added}
use Rattle.wac_merge_imports.proofs.unions.shared.add_interface.Goals as goal

pub returns-in-Ok-clause-extended : goal.returns-in-Ok-clause-extended
returns-in-Ok-clause-extended c = subst (λ (m : Collection). IsExtended c.args.merged.now m) (sym c.in-Ok.ensures.added.1) (extended_interface c.args.merged.now c.growth_keeps_trees.ensures c.args.interface)

pub returns-in-Ok-clause-added : goal.returns-in-Ok-clause-added
returns-in-Ok-clause-added c = interface-added c.args.merged.now c.add_interface.new.self c.args.interface c.in-Ok.id c.in-Ok.ensures.added.0 c.in-Ok.ensures.added.1

pub returns-in-Ok-clause-fresh : goal.returns-in-Ok-clause-fresh
returns-in-Ok-clause-fresh c held = let place = c.in-Ok.ensures.added.0 in absurd (omega (arith, held, place))

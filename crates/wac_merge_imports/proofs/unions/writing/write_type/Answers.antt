use Rattle.std.proofs.Common.{sym, ap, ◌∙◌}
use Rattle.wac_types_collection.specs.collection.Collection.{holds_type}
use Rattle.wac_types_shapes.specs.declared.shapes.component.«Type».TheVariants as ty
use Rattle.wac_merge_resources.proofs.lemmas.renaming.StillRenamed.{still_all_renamed}
use Rattle.wac_merge_tables.proofs.lemmas.made.Extending.{still_holds}
use Rattle.wac_merge_imports.proofs.unions.writing.write_type.Goals as goal

pub returns-in_ok-alias-in-Resource-clause-right : goal.returns-in_ok-alias-in-Resource-clause-right
returns-in_ok-alias-in-Resource-clause-right c = still_all_renamed c.args.merged.now c.add_alias.new.merged c.add_alias.ensures.extended c.args.renaming.now c.args.renamed.now c.requires.right

pub returns-in-World-clause-held : goal.returns-in-World-clause-held
returns-in-World-clause-held c =
    let t = c.args.renaming.now.types.now in
    still_holds t c.args.merged.now c.requires.known.extended (ty.World c.in-World.id) (ap (holds_type t) (sym c.in-World.is) ∙ c.requires.held)

pub returns-in-Module-clause-held : goal.returns-in-Module-clause-held
returns-in-Module-clause-held c =
    let t = c.args.renaming.now.types.now in
    still_holds t c.args.merged.now c.requires.known.extended (ty.Module c.in-Module.id) (ap (holds_type t) (sym c.in-Module.is) ∙ c.requires.held)

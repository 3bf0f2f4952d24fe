use Rattle.std.proofs.Common.{sym, ap, ◌∙◌}
use Rattle.wac_types_collection.specs.collection.Collection.{holds_type}
use Rattle.wac_types_shapes.specs.shapes.Kinds.{kind_type}
use Rattle.wac_types_shapes.specs.declared.shapes.component.«Type».TheVariants as ty
use Rattle.wac_merge_tables.proofs.lemmas.made.Extending.{still_holds}
use Rattle.wac_merge_imports.proofs.unions.writing.write_kind.Goals as goal

pub returns-in-Component-clause-held : goal.returns-in-Component-clause-held
returns-in-Component-clause-held c =
    let t = c.args.renaming.now.types.now in
    still_holds t c.args.merged.now c.requires.known.extended (ty.World c.in-Component.id) (ap (λ k. holds_type t (kind_type k)) (sym c.in-Component.is) ∙ c.requires.held)

pub returns-in-Module-clause-held : goal.returns-in-Module-clause-held
returns-in-Module-clause-held c =
    let t = c.args.renaming.now.types.now in
    still_holds t c.args.merged.now c.requires.known.extended (ty.Module c.in-Module.id) (ap (λ k. holds_type t (kind_type k)) (sym c.in-Module.is) ∙ c.requires.held)

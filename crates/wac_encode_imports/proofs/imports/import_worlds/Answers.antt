use Rattle.std.proofs.Common.{Contains, ◌∙◌, subst}
use Rattle.wac_types_shapes.specs.declared.shapes.component.«Type».{«Type» as AnyType}
use Rattle.wac_merge_classes.specs.terms.Merge.{import_entries}
use Rattle.wac_encode_interfaces.specs.private.Worlds.{HaveWorlds, written_in}
use Rattle.wac_encode_imports.specs.private.Written.{HaveImportWorlds}
use Rattle.wac_encode_imports.proofs.Given.{clean-types, held-types, worlds-of}
use Rattle.wac_encode_imports.proofs.Writing.{if-ok}
use Rattle.wac_encode_interfaces.specs.private.Paid.{IsHeavy}
use Rattle.wac_encode_imports.proofs.ImportPaying.{no-large}
use Rattle.wac_encode_imports.proofs.imports.import_worlds.Goals as goal

pub world_types-requires-clause-held : goal.world_types-requires-clause-held
world_types-requires-clause-held c = held-types c.args.types.now c.args.imports.now c.as_slice.result.now (c.as_slice.ensures.value ∙ c.in_ok-roots.ensures) c.requires.held

pub world_types-requires-clause-clean : goal.world_types-requires-clause-clean
world_types-requires-clause-clean c = clean-types c.args.types.now c.args.imports.now c.as_slice.result.now (c.as_slice.ensures.value ∙ c.in_ok-roots.ensures) c.requires.clean

pub returns-clause-there : goal.returns-clause-there
returns-clause-there c =
    if-ok (λ ws. (t : AnyType) → Contains c.as_slice.result.now t → HaveWorlds c.args.types.now (written_in ws) t) (λ ws. HaveImportWorlds c.args.types.now (written_in ws) (import_entries c.args.imports.now)) c.world_types.result
    (λ ws have. worlds-of c.args.types.now c.args.imports.now c.as_slice.result.now (c.as_slice.ensures.value ∙ c.in_ok-roots.ensures) (written_in ws) have) c.world_types.ensures.there

pub returns-in_err-roots-clause-small : goal.returns-in_err-roots-clause-small
returns-in_err-roots-clause-small c = λ large. absurd (no-large c.from_residual.result c.from_residual.ensures.1 large)

pub returns-clause-small : goal.returns-clause-small
returns-clause-small c = λ large. subst (IsHeavy c.args.types.now) (c.as_slice.ensures.value ∙ c.in_ok-roots.ensures) (c.world_types.ensures.small large)

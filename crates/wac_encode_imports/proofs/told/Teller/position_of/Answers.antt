use Rattle.std.proofs.Common.{ap, ◌∙◌}
use Rattle.wac_merge_classes.specs.entries.Classes.{by_names, imported_as}
use Rattle.wac_encode_imports.proofs.Telling.{import-of, never-missed}
use Rattle.wac_encode_imports.proofs.told.Teller.position_of.Goals as goal

pub unreachable-requires : goal.unreachable-requires
unreachable-requires c =
    let t = c.args.self.now in
    let named = c.canonical_import_name-canonical.ensures ∙ ap (imported_as by_names t.merge.now.entries) c.name.ensures in
    never-missed t c.args.entry.now c.requires.entry c.canonical_import_name-canonical.result.now named c.imports.result.now c.imports.ensures c.get_full.result c.get_full.ensures c.requires.teller c.in_default.is

pub returns : goal.returns
returns c =
    let t = c.args.self.now in
    let named = c.canonical_import_name-canonical.ensures ∙ ap (imported_as by_names t.merge.now.entries) c.name.ensures in
    import-of t c.args.entry.now c.requires.entry c.canonical_import_name-canonical.result.now named c.imports.result.now c.imports.ensures c.get_full.result c.get_full.ensures c.in-Some.position c.in-Some.field-0-1 c.in-Some.is

use Rattle.std.proofs.Common.{sym, ◌∙◌}
use Rattle.wac_merge_classes.proofs.lemmas.entries.Canonical.{imported-there, imported-other}
use Rattle.wac_merge_unions.proofs.uses.uses.imported_name.Goals as goal

pub returns-in-Some : goal.returns-in-Some
returns-in-Some c =
    let k = c.args.classes.now in
    c.name.ensures ∙ imported-there c.args.entries.now k.numbers.items k.positions.items k.names c.requires c.args.name.now c.in-Some.position c.index-entries-position.result (sym c.position.ensures ∙ c.in-Some.is) c.index-entries-position.is

pub returns-in-None : goal.returns-in-None
returns-in-None c =
    let k = c.args.classes.now in
    imported-other c.args.entries.now k.numbers.items k.positions.items k.names c.requires c.args.name.now (sym c.position.ensures ∙ c.in-None.is)

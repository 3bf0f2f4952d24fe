use Rattle.std.proofs.Common.{◌∙◌, ap}
use Rattle.wac_types_shapes.specs.shapes.Imports.{find_import}
use Rattle.wac_types_shapes.proofs.lemmas.shapes.Pairs.{found_by_pairs}
use Rattle.wac_types_shapes.proofs.shapes.imports.CoreImports.get.Goals as goal

pub returns : goal.returns
returns g c =
    c.get.ensures.value ∙ found_by_pairs (c.args.source.now, c.args.name.now) c.self.inside.entries.entries ∙ ap (λ es. find_import es c.args.source.now c.args.name.now) c.self.view_is

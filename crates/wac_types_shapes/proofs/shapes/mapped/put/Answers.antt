use Rattle.std.proofs.Common.{◌∙◌, ap, string_bytes}
use Rattle.std.specs.String.{string_eq}
use Rattle.wac_types_shapes.specs.shapes.Named.{by_bytes}
use Rattle.wac_types_shapes.proofs.lemmas.shapes.Keyed.{found_by_bytes, insert_seen}
use Rattle.wac_types_shapes.proofs.shapes.mapped.put.Goals as goal

pub returns-in-Ok-clause-put : goal.returns-in-Ok-clause-put
returns-in-Ok-clause-put g c =
    ap by_bytes c.in-Ok.ensures.entries
    ∙ insert_seen string_bytes string_eq c.args.map.now c.args.name c.args.value (found_by_bytes (string_bytes c.args.name) c.args.map.now.entries ∙ c.requires)

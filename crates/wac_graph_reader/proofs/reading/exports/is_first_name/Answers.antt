use Rattle.std.proofs.Common.{◌∙◌, ap, false}
use Rattle.wac_types_shapes.specs.primitives.Name.{same_name, option_case}
use Rattle.wac_types_shapes.proofs.lemmas.shapes.Names.{same_name-bytes_eq}
use Rattle.wac_graph_reader.proofs.reading.exports.is_first_name.Goals as goal

pub returns-in-Some : goal.returns-in-Some
returns-in-Some c =
    c.eq.ensures ∙ same_name-bytes_eq c.args.name.now c.in-Some.first.now
    ∙ ap (λ o. option_case o false (same_name c.args.name.now)) c.in-Some.ensures

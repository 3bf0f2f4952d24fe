use Rattle.std.proofs.Common.{◌∙◌, ap, ◌++◌, ◌∷◌, [], ◌≡◌, Global}
use Rattle.std.specs.declared.string.String.{String}
use Rattle.wac_types_shapes.specs.shapes.Imports.{find_import, by_pairs, pair_of, same_key}
use Rattle.wac_types_shapes.proofs.lemmas.shapes.Keyed.{insert_seen}
use Rattle.wac_types_shapes.proofs.lemmas.shapes.Names.{nothing_there}
use Rattle.wac_types_shapes.proofs.lemmas.shapes.Pairs.{found_by_pairs}
use Rattle.wac_types_shapes.proofs.shapes.imports.CoreImports.insert.Goals as goal

pub returns-in-Ok-insert-clause-inserted : goal.returns-in-Ok-insert-clause-inserted
returns-in-Ok-insert-clause-inserted g c =
    let m = c.self.inside.entries in
    let key : String Global × String Global = (c.in-Ok.source, c.in-Ok-from_str.name) in
    let same : pair_of key ≡ (c.args.source.now, c.args.name.now) = (λ i. (c.in-Ok.ensures.ok i, c.in-Ok-from_str.ensures.ok i)) in
    let none = nothing_there c.get.result _ c.in_default.not-Some c.get.ensures in
    let new = found_by_pairs (pair_of key) m.entries ∙ (λ i. find_import (c.self.view_is i) (same i).0 (same i).1) ∙ none in
    ap by_pairs c.in-Ok-insert.ensures.entries ∙ insert_seen pair_of (λ x y. same_key (pair_of x) (pair_of y)) m key c.args.value new ∙ (λ i. c.self.view_is i ++ (same i, c.args.value) ∷ [])

use Rattle.std.proofs.Common.{◌∙◌}
use Rattle.std.specs.Cmp.Lexicographic.{pointwise}
use Rattle.wac_types_shapes.specs.shapes.Imports.{same_import}
use Rattle.wac_types_shapes.proofs.lemmas.shapes.Pairs.{compared_by_pairs}
use Rattle.wac_types_shapes.proofs.shapes.imports.CoreImportsPartialEq.eq.Goals as goal

pub returns : goal.returns
returns g c =
    (rw (c.as_slice.ensures.entries, c.as_slice-2.ensures.entries) at c.eq.ensures)
    ∙ compared_by_pairs g.V.PartialEq.eq c.self.inside.entries.entries c.other.inside.entries.entries
    ∙ (λ i. pointwise (same_import g.V.PartialEq.eq) (c.self.view_is i) (c.other.view_is i))

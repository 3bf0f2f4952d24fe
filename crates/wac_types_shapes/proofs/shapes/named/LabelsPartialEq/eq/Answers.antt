use Rattle.std.proofs.Common.{refl, ap, ◌∙◌}
use Rattle.wac_types_shapes.specs.shapes.Named.{names_of}
use Rattle.wac_types_shapes.specs.private.shapes.Equal.{same_labels}
use Rattle.wac_types_shapes.proofs.lemmas.shapes.EqualLemmas.{seen_by_names}
use Rattle.wac_types_shapes.proofs.shapes.named.LabelsPartialEq.eq.Goals as goal

pub returns : goal.returns
returns c =
    c.eq.ensures ∙ seen_by_names _ (λ a b. refl) c.self.inside.names c.other.inside.names
    ∙ ap (λ xs. same_labels xs (names_of c.other.inside.names)) c.self.view_is
    ∙ ap (λ ys. same_labels c.args.self.now ys) c.other.view_is

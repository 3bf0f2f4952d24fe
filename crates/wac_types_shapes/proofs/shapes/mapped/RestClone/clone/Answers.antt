use Rattle.std.proofs.Common.{◌∙◌, sym, ap, subst, List}
use Rattle.wac_types_shapes.specs.primitives.Name.{Name}
use Rattle.wac_types_shapes.specs.shapes.Named.{AreNamedClones, by_bytes, mapped}
use Rattle.wac_types_shapes.proofs.lemmas.shapes.Keyed.{clones_seen}
use Rattle.wac_types_shapes.proofs.shapes.mapped.RestClone.clone.Goals as goal

pub returns-in_ok-clone-in-Some : goal.returns-in_ok-clone-in-Some
returns-in_ok-clone-in-Some g c =
    let P : List (Name × _) → Type 0 = λ es. AreNamedClones g.V.Clone.is_clone es (by_bytes c.in_ok-clone-in-Some.field-0.value.entries) in
    record { cases = subst P (ap mapped (sym c.in-Some.is) ∙ c.self.view_is) (clones_seen _ _ g.V.Clone.is_clone (λ k l same. same) _ _ c.in_ok-clone-in-Some.ensures.cases) }

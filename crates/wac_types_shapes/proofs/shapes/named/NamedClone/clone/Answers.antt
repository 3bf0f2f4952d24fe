use Rattle.std.proofs.Common.{subst, List, ◌++◌, string_bytes}
use Rattle.wac_types_shapes.specs.primitives.Name.{Name}
use Rattle.wac_types_shapes.specs.shapes.Named.{by_bytes, AreNamedClones}
use Rattle.wac_types_shapes.proofs.lemmas.shapes.Clones.{once_cloned}
use Rattle.wac_types_shapes.proofs.lemmas.shapes.Keyed.{clones_seen}
use Rattle.wac_types_shapes.proofs.lemmas.shapes.Parts.{both_cloned}
use Rattle.wac_types_shapes.proofs.shapes.named.NamedClone.clone.Goals as goal

pub invariant_of-result : goal.invariant_of-result
invariant_of-result g c =
    let few = clones_seen string_bytes _ g.V.Clone.is_clone (λ k l same. same) c.self.inside.few.items c.in_ok-few.few.items c.in_ok-few.ensures.cases.0 in
    once_cloned g.V.Clone.is_clone (by_bytes c.self.inside.few.items ++ c.self.inside.rest) _ (both_cloned _ _ _ _ _ few c.in_ok-rest.ensures.cases) c.self.invariant

pub returns : goal.returns
returns g c =
    let few = clones_seen string_bytes _ g.V.Clone.is_clone (λ k l same. same) c.self.inside.few.items c.in_ok-few.few.items c.in_ok-few.ensures.cases.0 in
    let P : List (Name × _) → Type 0 = λ es. AreNamedClones g.V.Clone.is_clone es (by_bytes c.in_ok-few.few.items ++ c.in_ok-rest.rest) in
    record { cases = subst P c.self.view_is (both_cloned _ _ _ _ _ few c.in_ok-rest.ensures.cases) }

use Rattle.std.proofs.Common.{subst, List}
use Rattle.std.specs.List.{AllZip}
use Rattle.wac_types_shapes.specs.shapes.Imports.{Pair, IsImportClone, by_pairs, pair_of}
use Rattle.wac_types_shapes.proofs.lemmas.shapes.Keyed.{clones_seen}
use Rattle.wac_types_shapes.proofs.shapes.imports.CoreImportsClone.clone.Goals as goal

pub returns : goal.returns
returns g c =
    let P : List (Pair × _) → Type 0 = λ es. AllZip (IsImportClone g.V.Clone.is_clone) es (by_pairs c.in_ok-entries.entries.entries) in
    record { cases = subst P c.self.view_is (clones_seen pair_of _ g.V.Clone.is_clone (λ k l same i. (same.0 i, same.1 i)) _ _ c.in_ok-entries.ensures.cases) }

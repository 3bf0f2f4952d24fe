-- Clones of values under names.
use Rattle.std.proofs.Common.{◌≡◌, refl, ap, ◌∙◌, List, [], ◌∷◌, None}
use Rattle.std.proofs.lemmas.Bool.{cond-false}
use Rattle.wac_types_shapes.specs.primitives.Name.{Name, same_name, find_name}
use Rattle.wac_types_shapes.specs.shapes.Named.{NoNameTwice, AreNamedClones}
use Rattle.wac_types_shapes.proofs.lemmas.shapes.Names.{none_behind}

module _ {V : Type 0} (C : V → V → Type 0) where
  -- a name that isn't there isn't in the clone
  missing : (es fs : List (Name × V)) (n : Name) → AreNamedClones C es fs → find_name es n ≡ None → find_name fs n ≡ None
  missing [] [] n same none = refl
  missing (e ∷ es) (f ∷ fs) n same none =
      let b = none_behind e es n none in
      cond-false _ _ _ (ap (same_name n) same.0.0 ∙ b.0) ∙ missing es fs n same.1 b.1
  missing _ _ n same none = absurd same

  -- no name stands twice in a clone
  pub once_cloned : (es fs : List (Name × V)) → AreNamedClones C es fs → NoNameTwice es → NoNameTwice fs
  once_cloned [] [] same once = tt
  once_cloned (e ∷ es) (f ∷ fs) same once =
      (ap (find_name fs) same.0.0 ∙ missing es fs e.0 same.1 once.0, once_cloned es fs same.1 once.1)
  once_cloned _ _ same once = absurd same

-- Values under names, as far as a loop has come.
use Rattle.std.proofs.Common.{◌≡◌, ℕ, zero, suc, ◌+◌, List, [], ◌∷◌, ◌++◌, take, Some, ap, add-one}
use Rattle.std.specs.Prelude.{slice_get}
use Rattle.std.specs.Option.{option_map}
use Rattle.wac_types_shapes.specs.primitives.Name.{Name}
use Rattle.wac_types_collection.specs.collection.Collection.{seconds}
use Rattle.wac_types_shapes.specs.declared.shapes.component.ValueType.{ValueType}

pub seconds_take : (es : List (Name × ValueType)) (i : ℕ) (v : ValueType) → option_map (λ e. e.1) (slice_get es i) ≡ Some v → seconds (take (i + 1) es) ≡ seconds (take i es) ++ v ∷ []
seconds_take es i v is = rw add-one (by es i is) where
  by : (es : List (Name × ValueType)) (i : ℕ) → option_map (λ e. e.1) (slice_get es i) ≡ Some v → seconds (take (suc i) es) ≡ seconds (take i es) ++ v ∷ []
  by [] i is = cc
  by (e ∷ es) zero is = let same : e.1 ≡ v = cc in ap (λ x. x ∷ []) same
  by (e ∷ es) (suc i) is = ap (λ r. e.1 ∷ r) (by es i is)

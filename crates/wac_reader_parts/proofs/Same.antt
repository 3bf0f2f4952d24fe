-- A view that changes nothing.
use Rattle.std.proofs.Common.{◌≡◌, List, Option, Some, None, map, option_map, refl}
use Rattle.std.proofs.lemmas.List.{map-id}

pub map_same : {A : Type 0} (xs : List A) → map (λ (x : A). x) xs ≡ xs
map_same xs = map-id xs

pub option_map_same : {A : Type 0} (o : Option A) → option_map (λ (x : A). x) o ≡ o
option_map_same None = refl
option_map_same (Some x) = refl

-- The interfaces that are left of a collection's.
use Rattle.std.proofs.Common.{ℕ, zero, suc, List, [], ◌∷◌, ◌≡◌, ◌+◌, Some, add-one}
use Rattle.std.specs.Prelude.{drop}
use Rattle.wac_types_shapes.specs.declared.shapes.component.Interface.{Interface}
use Rattle.wac_types_collection.specs.declared.collection.collection.Held.{Held}
use Rattle.wac_types_collection.specs.collection.Collection.{item_at}
use Rattle.wac_types_collection.specs.collection.Interfaces.{numbered}

-- the next is the one at the position
at_position : (k : ℕ) (held : List (Held Interface)) (i : ℕ) (x : Interface) → item_at held i ≡ Some x → numbered k (drop i held) ≡ (record { 0 = k }, x) ∷ numbered (suc k) (drop (suc i) held)
at_position k [] i x h = cc
at_position k (y ∷ held) zero x h = cc
at_position k (y ∷ held) (suc i) x h = at_position k held i x h

pub numbered_at : (held : List (Held Interface)) (i : ℕ) (x : Interface) → item_at held i ≡ Some x → numbered i (drop i held) ≡ (record { 0 = i }, x) ∷ numbered (i + 1) (drop (i + 1) held)
numbered_at held i x h = rw add-one (at_position i held i x h)

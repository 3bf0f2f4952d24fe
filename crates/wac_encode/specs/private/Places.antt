-- The place of a resource that the scopes find; private functions alone cite this.
use Rattle.std.specs.Prelude.{ℕ, Bool, Option, Some, None}
use Rattle.wac_encode.specs.declared.state.ResourcePlace.{ResourcePlace}

-- The place with these three, if there is one.
abbrev pub place_in : Option (ℕ × ℕ × Bool) → Option ResourcePlace
place_in None = None
place_in (Some f) = Some (record { out = f.0; index = f.1; is_type = f.2 })

-- The positions of earlier names, by key.
use Rattle.std.specs.Prelude.{◌≡◌, ℕ, ◌<◌, Option, Some, None, IfSome, ◌⊎◌}
use Rattle.std.specs.HashMap.{get_by_text}
use Rattle.wac_names.specs.validation.Valid.{Text}
use Rattle.wac_names.specs.declared.validation.earlier.Alike.{Alike}
use Rattle.wac_names.specs.declared.validation.earlier.Earlier.{Earlier}

-- The positions of the names with this key.
abbrev pub alike_at : Earlier → Text → Option Alike
alike_at e key = get_by_text e.alike key

-- The position is one of these.
abbrev pub HasPosition : Option Alike → ℕ → Type 0
HasPosition None i = ⊥
HasPosition (Some a) i = (a.first ≡ i) ⊎ (a.second ≡ Some i)

-- The first position is less than the second.
abbrev pub AreOrdered : Option Alike → Type 0
AreOrdered None = Unit {0}
AreOrdered (Some a) = IfSome a.second (λ second. a.first < second)

-- The positions with one more.
abbrev pub with_position : Option Alike → ℕ → Alike
with_position None i = record { first = i; second = None }
with_position (Some a) i = record { first = a.first; second = Some i }

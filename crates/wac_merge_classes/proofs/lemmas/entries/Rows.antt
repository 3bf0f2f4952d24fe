-- Worked examples: classes of entries.
use Rattle.std.proofs.Common.{◌≡◌, ℕ, nat_lt, Bool, false, [], ◌∷◌, refl}
use Rattle.wac_names.specs.Track.{Track, whole, major}
use Rattle.wac_types_shapes.specs.primitives.Name.{Name}
use Rattle.wac_types_shapes.specs.declared.shapes.component.ItemKind.TheVariants as kind
use Rattle.wac_merge_classes.specs.entries.Classes.{Entry, NameRules, class_names, canonical}

abbrev function : Name → Entry
function n = record { name = n; kind = kind.Func (record { 0 = 0 }) }

abbrev instance : Name → Entry
instance n = record { name = n; kind = kind.Instance (record { 0 = 0 }) }

-- rules by which each name has a track of its own
abbrev plain : NameRules
plain = record { track = λ n. whole n; is_newer = λ a b. false }

-- rules by which a name of two numbers is a track and a version
abbrev toy_track : Name → Track
toy_track (t ∷ v ∷ []) = major [] t
toy_track n = whole n

abbrev toy_newer : Name → Name → Bool
toy_newer (t ∷ v ∷ []) (u ∷ w ∷ []) = nat_lt w v
toy_newer _ _ = false

abbrev toy : NameRules
toy = record { track = toy_track; is_newer = toy_newer }

abbrev name : ℕ → ℕ → Name
name t v = t ∷ v ∷ []

-- two entries of one name are one class
one-name : class_names plain (function (name 1 1) ∷ instance (name 1 1) ∷ []) ≡ name 1 1 ∷ []
one-name = refl

-- two instances on one track, and a third on another, are two
three-instances : class_names toy (instance (name 1 1) ∷ instance (name 2 1) ∷ instance (name 1 3) ∷ []) ≡ name 1 1 ∷ name 2 1 ∷ []
three-instances = refl

-- tracks join instances alone
function-apart : class_names toy (function (name 1 1) ∷ instance (name 1 2) ∷ []) ≡ name 1 1 ∷ name 1 2 ∷ []
function-apart = refl

-- a function whose name an instance has too is in the class of what is on its track, wherever that instance stands
chained : class_names toy (function (name 1 1) ∷ instance (name 1 2) ∷ instance (name 1 1) ∷ []) ≡ name 1 1 ∷ []
chained = refl

-- the canonical name is the greatest, from whichever name of the class
greatest : canonical toy (instance (name 1 1) ∷ instance (name 1 3) ∷ instance (name 1 2) ∷ instance (name 2 9) ∷ []) (name 1 1) ≡ name 1 3
greatest = refl

greatest-alike : canonical toy (instance (name 1 1) ∷ instance (name 1 3) ∷ instance (name 1 2) ∷ instance (name 2 9) ∷ []) (name 1 2) ≡ name 1 3
greatest-alike = refl

-- a function's name in the class counts too
greatest-function : canonical toy (instance (name 1 1) ∷ instance (name 1 2) ∷ function (name 1 2) ∷ function (name 1 5) ∷ []) (name 1 1) ≡ name 1 2
greatest-function = refl

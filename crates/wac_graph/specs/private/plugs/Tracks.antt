-- The first import on each track. Only private functions and the search for matches use these definitions.
use Rattle.std.specs.Prelude.{◌≡◌, ℕ, suc, List, [], ◌∷◌, ◌++◌, Option, Some, None, if◌then◌else◌, MatchOption}
use Rattle.wac_names.specs.Track.{key_text}
use Rattle.wac_names.specs.Reading.{read_track}
use Rattle.wac_types_shapes.specs.primitives.Name.{Name, find_name, same_name}

-- The key of a name's track.
abbrev pub track_key : Name → Name
track_key name = key_text (read_track name)

-- The entries with the position under the key, unless the key has one.
abbrev pub PutsFirst : List (Name × ℕ) → Name → ℕ → List (Name × ℕ) → Type 0
PutsFirst old key position new = MatchOption (find_name old key) (new ≡ old ++ (key, position) ∷ []) (λ _. new ≡ old)

-- The position of the first import on the track with this key, counted from i.
abbrev pub first_at : {V : Type 0} → ℕ → Name → List (Name × V) → Option ℕ
first_at i key [] = None
first_at i key (e ∷ imports) = if same_name key (track_key e.0) then Some i else first_at (suc i) key imports

-- Each key has the position of the first import on its track.
abbrev pub AreFirsts : {V : Type 0} → List (Name × V) → List (Name × ℕ) → Type 0
AreFirsts imports firsts = (key : Name) → find_name firsts key ≡ first_at 0 key imports

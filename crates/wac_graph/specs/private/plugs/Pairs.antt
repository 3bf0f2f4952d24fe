-- Matches by positions. Only private functions and the search for matches use these definitions.
use Rattle.std.specs.Prelude.{◌≡◌, ◌<◌, ℕ, List, [], Some, length, map, slice_get}
use Rattle.wac_types_shapes.specs.primitives.Name.{Name, option_case}
use Rattle.wac_types_shapes.specs.declared.shapes.component.ItemKind.{ItemKind}
use Rattle.wac_graph.specs.declared.plugs.matching.Pair.{Pair}
use Rattle.wac_graph.specs.plugs.Matching.{Match}

-- The name at a position.
abbrev pub name_at : List (Name × ItemKind) → ℕ → Name
name_at es i = option_case (slice_get es i) [] (λ e. e.0)

-- The match at a pair of positions.
abbrev pub match_at : List (Name × ItemKind) → List (Name × ItemKind) → Pair → Match
match_at exports imports p = record { export = name_at exports p.export; import = name_at imports p.import }

-- The matches at pairs of positions, in order.
abbrev pub matches_at : List (Name × ItemKind) → List (Name × ItemKind) → List Pair → List Match
matches_at exports imports ps = map (match_at exports imports) ps

-- Both positions are within the lists.
abbrev pub IsWithin : List (Name × ItemKind) → List (Name × ItemKind) → Pair → Type 0
IsWithin exports imports p = (p.export < length exports) × (p.import < length imports)

-- All positions are within the lists.
abbrev pub AreWithin : List (Name × ItemKind) → List (Name × ItemKind) → List Pair → Type 0
AreWithin exports imports ps = (i : ℕ) (p : Pair) → slice_get ps i ≡ Some p → IsWithin exports imports p

-- Which matches win, by positions. Only private functions use these definitions.
use Rattle.std.specs.Prelude.{◌≡◌, ◌<◌, ℕ, Bool, true, false, List, [], ◌∷◌, length, if◌then◌else◌, slice_index_or, slice_set}
use Rattle.wac_types_shapes.specs.primitives.Name.{Name}
use Rattle.wac_types_shapes.specs.declared.shapes.component.ItemKind.{ItemKind}
use Rattle.wac_graph.specs.declared.plugs.matching.Pair.{Pair}
use Rattle.wac_graph.specs.plugs.Precedence.{is_taken}
use Rattle.wac_graph.specs.private.plugs.Pairs.{name_at}

-- The pairs that win, where the imports at these positions are taken.
abbrev pub won : List Bool → List Pair → List Pair
won taken [] = []
won taken (p ∷ ps) = if slice_index_or taken p.import false then won taken ps else p ∷ won (slice_set taken p.import true) ps

-- The pairs that do not win.
abbrev pub lost : List Bool → List Pair → List Pair
lost taken [] = []
lost taken (p ∷ ps) = if slice_index_or taken p.import false then p ∷ lost taken ps else lost (slice_set taken p.import true) ps

-- The positions that are taken after these pairs.
abbrev pub marked : List Bool → List Pair → List Bool
marked taken [] = taken
marked taken (p ∷ ps) = if slice_index_or taken p.import false then marked taken ps else marked (slice_set taken p.import true) ps

-- The positions are those of the imports with these names.
pub record AreTaken (imports : List (Name × ItemKind)) (names : List Name) (taken : List Bool) : Type 0 where
  pub long : length taken ≡ length imports
  pub same : (i : ℕ) → i < length imports → slice_index_or taken i false ≡ is_taken names (name_at imports i)

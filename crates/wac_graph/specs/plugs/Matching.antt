-- The matches between a plug's exports and a socket's imports.
use Rattle.std.specs.Prelude.{◌≡◌, ◌⊎◌, List, [], ◌∷◌, MatchOption}
use Rattle.wac_names.specs.Track.{OneTrack}
use Rattle.wac_types_shapes.specs.primitives.Name.{Name, find_name, option_case}
use Rattle.wac_types_shapes.specs.declared.shapes.component.ItemKind.{ItemKind}
use Rattle.wac_types_collection.specs.collection.Collection.{Collection, world_imports, world_exports}
use Rattle.wac_types_collection.specs.subtyping.Subtype.{IsSubtype}
use Rattle.wac_graph_model.specs.declared.nodes.packages.PackageId.{PackageId}
use Rattle.wac_graph_model.specs.nodes.Graph.{Graph, package_at}

-- A match: the name of the plug's export and the name of the socket's import.
pub record Match : Type 0 where
  pub export : Name
  pub import : Name

-- The first import on the name's track.
abbrev pub IsFirstOnTrack : List (Name × ItemKind) → Name → Name × ItemKind → Type 0
IsFirstOnTrack [] name target = ⊥
IsFirstOnTrack (i ∷ imports) name target = (OneTrack name i.0 × (target ≡ i)) ⊎ ((OneTrack name i.0 → ⊥) × IsFirstOnTrack imports name target)

-- The import that an export goes to: that of the same name, or else the first on the name's track.
abbrev pub IsTarget : List (Name × ItemKind) → Name → Name × ItemKind → Type 0
IsTarget imports name target = MatchOption (find_name imports name) (IsFirstOnTrack imports name target) (λ kind. target ≡ (name, kind))

-- An export matches the import that it goes to if it is a subtype of the import.
abbrev pub IsMatch : Collection → List (Name × ItemKind) → Name × ItemKind → Match → Type 0
IsMatch types imports e m = (m.export ≡ e.0) × ((kind : ItemKind) × IsTarget imports e.0 (m.import, kind) × IsSubtype types e.1 types kind)

-- The export has no match.
abbrev pub HasNoMatch : Collection → List (Name × ItemKind) → Name × ItemKind → Type 0
HasNoMatch types imports e = (m : Match) → IsMatch types imports e m → ⊥

-- The matches of the exports in order; exports without a match are skipped.
abbrev pub AreMatches : Collection → List (Name × ItemKind) → List (Name × ItemKind) → List Match → Type 0
AreMatches types imports [] ms = ms ≡ []
AreMatches types imports (e ∷ exports) ms =
    (HasNoMatch types imports e × AreMatches types imports exports ms)
    ⊎ ((m : Match) × (rest : List Match) × (ms ≡ m ∷ rest) × IsMatch types imports e m × AreMatches types imports exports rest)

-- The imports of a package's world.
abbrev pub imports_of_package : Graph → PackageId → List (Name × ItemKind)
imports_of_package g id = option_case (package_at g id) [] (λ p. world_imports g.types p.world)

-- The exports of a package's world.
abbrev pub exports_of_package : Graph → PackageId → List (Name × ItemKind)
exports_of_package g id = option_case (package_at g id) [] (λ p. world_exports g.types p.world)

-- The matches of a plug with a socket.
abbrev pub AreMatchesOf : Graph → PackageId → PackageId → List Match → Type 0
AreMatchesOf g socket plug ms = AreMatches g.types (imports_of_package g socket) (exports_of_package g plug) ms

-- A plug of the list with matches of its exports, in order.
pub record PlugMatches : Type 0 where
  pub plug : PackageId
  pub matches : List Match

-- Each plug of the list with all its matches. A package that is in the list twice has two entries.
abbrev pub AreAllMatches : Graph → PackageId → List PackageId → List PlugMatches → Type 0
AreAllMatches g socket [] all = all ≡ []
AreAllMatches g socket (plug ∷ plugs) all =
    (own : List Match) × (rest : List PlugMatches) × (all ≡ record { plug = plug; matches = own } ∷ rest) × AreMatchesOf g socket plug own
    × AreAllMatches g socket plugs rest

-- No export of a plug matches.
abbrev pub NothingMatches : Graph → PackageId → List PackageId → Type 0
NothingMatches g socket [] = Unit {0}
NothingMatches g socket (plug ∷ plugs) = AreMatchesOf g socket plug [] × NothingMatches g socket plugs

-- Which matches win: for each import of the socket the first in the order of plugs and then of exports.
use Rattle.std.specs.Prelude.{Bool, true, false, List, [], ◌∷◌, ◌++◌, map, if◌then◌else◌, string_bytes}
use Rattle.wac_types_shapes.specs.primitives.Name.{Name, same_name}
use Rattle.wac_graph_model.specs.declared.nodes.packages.PackageId.{PackageId}
use Rattle.wac_graph.specs.declared.plugs.precedence.PassedOver.{PassedOver}
use Rattle.wac_graph.specs.plugs.Matching.{Match, PlugMatches}

-- The import is among those that already have their argument.
abbrev pub is_taken : List Name → Name → Bool
is_taken [] name = false
is_taken (other ∷ taken) name = if same_name other name then true else is_taken taken name

-- The imports that have their argument after these matches.
abbrev pub taken_after : List Name → List Match → List Name
taken_after taken [] = taken
taken_after taken (m ∷ ms) = taken_after (if is_taken taken m.import then taken else m.import ∷ taken) ms

-- The matches that win: each whose import has no argument yet.
abbrev pub winning : List Name → List Match → List Match
winning taken [] = []
winning taken (m ∷ ms) = if is_taken taken m.import then winning taken ms else m ∷ winning (m.import ∷ taken) ms

-- The matches that do not win: each whose import already has its argument.
abbrev pub losing : List Name → List Match → List Match
losing taken [] = []
losing taken (m ∷ ms) = if is_taken taken m.import then m ∷ losing taken ms else losing (m.import ∷ taken) ms

-- The plug with these matches before the others; without a match it is left out.
abbrev pub with_any : PackageId → List Match → List PlugMatches → List PlugMatches
with_any plug [] others = others
with_any plug (m ∷ ms) others = record { plug = plug; matches = m ∷ ms } ∷ others

-- Each plug that has a match which wins, with these matches.
abbrev pub wired : List Name → List PlugMatches → List PlugMatches
wired taken [] = []
wired taken (p ∷ ps) = with_any p.plug (winning taken p.matches) (wired (taken_after taken p.matches) ps)

-- The plug and the match.
pub record PlugMatch : Type 0 where
  pub plug : PackageId
  pub match : Match

-- A plug with each of these matches.
abbrev pub each_of : PackageId → List Match → List PlugMatch
each_of plug ms = map (λ m. record { plug = plug; match = m }) ms

-- The matches that do not win, in order of plugs and then of exports.
abbrev pub passed_over : List Name → List PlugMatches → List PlugMatch
passed_over taken [] = []
passed_over taken (p ∷ ps) = each_of p.plug (losing taken p.matches) ++ passed_over (taken_after taken p.matches) ps

-- The plug and the match that an entry of the result names.
abbrev pub named_by : PassedOver → PlugMatch
named_by p = record { plug = p.plug; match = record { export = string_bytes p.export; import = string_bytes p.import } }

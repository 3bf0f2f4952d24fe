-- Aliases by source, position and target. No public contract cites this.
use Rattle.std.specs.Prelude.{ℕ, ◌≡◌, ◌==◌, ◌||◌, Bool, true, false, nat_eq, List, Option, Some, None, slice_get, Vec}
use Rattle.std.specs.Global.{Global}
use Rattle.std.specs.BTreeSet.{BTreeSet, contains}
use Rattle.std.specs.HashMap.{HashMap, get}
use Rattle.std.specs.declared.cmp.Ordering.{Ordering}
use Rattle.std.specs.Ordering.{nat_cmp, ordering_then}
use Rattle.wac_edges.specs.declared.aliases.Aliases.{Aliases}
use Rattle.wac_edges.specs.declared.node.NodeId.{NodeId}
use Rattle.wac_edges.specs.Edge.{alias_edge}
use Rattle.wac_edges.specs.private.Records.{Table, HasEdge}

-- Triples are ordered by the first numbers that differ.
abbrev pub triple_cmp : ℕ × ℕ × ℕ → ℕ × ℕ × ℕ → Ordering
triple_cmp x y = ordering_then (ordering_then (nat_cmp x.0 y.0) (nat_cmp x.1 y.1)) (nat_cmp x.2 y.2)

-- The alias at a position of a list, if there is one.
abbrev pub place : List (Option ℕ) → ℕ → Option ℕ
place places i = elim (slice_get places i) as (λ _. Option ℕ) [ None ↦ None | Some held ↦ held ]

-- The first alias of a source at a position, if there is one.
abbrev pub first : {S : Type 0} → HashMap ℕ (Vec (Option ℕ) Global) S → ℕ → ℕ → Option ℕ
first firsts source i = elim (get nat_eq firsts source) as (λ _. Option ℕ) [ None ↦ None | Some places ↦ place places.items i ]

-- There is a number, and it is this one.
abbrev pub is_number : ℕ → Option ℕ → Bool
is_number k None = false
is_number k (Some x) = x == k

-- The target is the first alias of the source at this position.
abbrev pub is_first : Aliases → NodeId → ℕ → NodeId → Bool
is_first a source i target = is_number target.0 (first a.firsts source.0 i)

-- The target is another alias of the source at this position.
abbrev pub is_among : BTreeSet (ℕ × ℕ × ℕ) → NodeId → ℕ → NodeId → Bool
is_among s source i target = contains triple_cmp s (source.0, i, target.0)

-- The target is noted as an alias of the source at this position.
abbrev pub is_noted : Aliases → NodeId → ℕ → NodeId → Bool
is_noted a source i target = is_first a source i target || is_among a.others source i target

-- Both have the same aliases.
abbrev pub AreAlike : Aliases → Aliases → Type 0
AreAlike a b = (source target : NodeId) (i : ℕ) → is_noted b source i target ≡ is_noted a source i target

-- The node is marked as crowded.
abbrev pub is_crowded : List Bool → NodeId → Bool
is_crowded crowded n = elim (slice_get crowded n.0) as (λ _. Bool) [ None ↦ false | Some marked ↦ marked ]

-- Each noted alias has an edge, and each alias of a crowded node is noted.
pub record AreNoted (crowded : List Bool) (s : Aliases) (t : Table) : Type 0 where
  pub sound : (source target : NodeId) (i : ℕ) → is_noted s source i target ≡ true → HasEdge t (alias_edge source target i)
  pub all : (source target : NodeId) (i : ℕ) → is_crowded crowded source ≡ true → HasEdge t (alias_edge source target i) → is_noted s source i target ≡ true

-- The nodes that give names to indexes. Only lower layers of the graph use these definitions.
use Rattle.std.specs.Prelude.{ℕ, ◌≡◌, ◌≤◌, ◌↔◌, List, map, IsSome, IsSomeAnd, MatchOption, Some, slice_get}
use Rattle.std.specs.BTreeMap as tree
use Rattle.std.specs.BTreeMap.{BTreeMap}
use Rattle.std.specs.Ordering.{nat_cmp}
use Rattle.wac_types_shapes.specs.primitives.Name.{Name}
use Rattle.wac_binary.specs.declared.sorts.Sort.{Sort}
use Rattle.wac_binary.specs.Customs.{Rising}
use Rattle.wac_edges.specs.declared.node.NodeId.{NodeId}
use Rattle.wac_graph_model.specs.nodes.Graph.{Graph, node_at}
use Rattle.wac_graph_model.specs.meaning.Means.{sort_of_kind, IsNameOf}

-- The node has a name and an item of this sort.
abbrev pub IsNamed : Graph → Sort → NodeId → Type 0
IsNamed g t n = IsSomeAnd (node_at g n) (λ node. IsSome node.name × (sort_of_kind node.item_kind ≡ t))

-- The node has a name and this index of this sort.
abbrev pub IsNamedAt : Graph → (NodeId → ℕ) → Sort → ℕ → NodeId → Type 0
IsNamedAt g index t i n = IsNamed g t n × (index n ≡ i)

-- The map has, for each key, the lowest node from number k on that belongs to the key.
abbrev pub AreLowest : (ℕ → NodeId → Type 0) → ℕ → BTreeMap ℕ NodeId → Type 0
AreLowest Belongs k lowest =
    (i : ℕ) → MatchOption (tree.get nat_cmp lowest i)
    ((n : NodeId) → k ≤ n.0 → Belongs i n → ⊥)
    (λ n. Belongs i n × ((m : NodeId) → k ≤ m.0 → Belongs i m → n.0 ≤ m.0))

-- The names are those of all indexes of this sort, in order of index.
pub record AreNamesOf (g : Graph) (index : NodeId → ℕ) (t : Sort) (names : List (Sort × ℕ × Name)) : Type 0 where
  pub pairs : List (ℕ × Name)
  pub tagged : names ≡ map (λ e. (t, e.0, e.1)) pairs
  pub each : (i : ℕ) (name : Name) → ((k : ℕ) × (slice_get pairs k ≡ Some (i, name))) ↔ IsNameOf g index t i name
  pub rising : Rising pairs

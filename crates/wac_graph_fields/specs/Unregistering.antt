-- The removal of a package with its nodes.
use Rattle.std.specs.Prelude.{◌≡◌, ◌⊎◌, ◌+◌, ◌<◌, ◌≤◌, ◌^◌, ℕ, Bool, true, false, not, ◌&&◌, ◌==◌, List, ◌∷◌, Option, Some, None, filter, slice_get, slice_set, IsSomeAnd}
use Rattle.wac_edges.specs.declared.node.NodeId.{NodeId}
use Rattle.wac_edges.specs.Edge.{node_number}
use Rattle.wac_graph_model.specs.declared.nodes.packages.PackageId.{PackageId}
use Rattle.wac_graph_model.specs.declared.nodes.packages.Slot.{Slot}
use Rattle.wac_graph_model.specs.nodes.Graph.{Graph, GraphNode, Kind, definition, import, instantiation, alias, node_at}
use Rattle.wac_graph_fields.specs.Removal.{IsWithout}

-- The ids are equal.
abbrev pub is_id : PackageId → PackageId → Bool
is_id a b = (a.slot == b.slot) && (a.generation == b.generation)

-- The owner is this package.
abbrev pub is_owner : PackageId → Option PackageId → Bool
is_owner id None = false
is_owner id (Some other) = is_id other id

-- Instantiations and aliases belong to a package.
abbrev pub has_owner : Kind → Bool
has_owner definition = false
has_owner (import _) = false
has_owner instantiation = true
has_owner alias = true

-- The node belongs to the package: an instance of it, or an alias with this package.
abbrev pub is_of : PackageId → Option GraphNode → Bool
is_of id None = false
is_of id (Some node) = has_owner node.kind && is_owner id node.owner

-- The slot is emptied and used next, with the next generation. A slot at the greatest generation is never used again.
pub data FreesSlot (slots : List Slot) (vacant : List ℕ) (id : PackageId) (now : List Slot) (free : List ℕ) : Type 0 where
  freed : id.generation + 1 < 2 ^ 64 → now ≡ slice_set slots id.slot (record { generation = id.generation + 1; «package» = None }) → free ≡ id.slot ∷ vacant → FreesSlot slots vacant id now free
  spent : (id.generation + 1 < 2 ^ 64 → ⊥) → now ≡ slice_set slots id.slot (record { generation = id.generation; «package» = None }) → free ≡ vacant → FreesSlot slots vacant id now free

-- `unregister_package`: removes the package and its nodes, with their names, edges and exports.
--
-- The other exports keep their order. The next node gets the highest number of the removed nodes.
pub record Unregisters (old : Graph) (id : PackageId) (new : Graph) : Type 0 where
  pub rest : IsWithout (λ n. is_of id (node_at old n)) old new
  pub exports : new.exports ≡ filter (λ e. not (is_of id (node_at old e.1))) old.exports
  pub slot : FreesSlot old.slots old.vacant id new.slots new.vacant
  pub highest : (n : NodeId) → is_of id (node_at old n) ≡ true → (is_of id (node_at old (node_number new.next)) ≡ true) × (n.0 ≤ new.next)
  pub same : ((n : NodeId) → is_of id (node_at old n) ≡ true → ⊥) → new.next ≡ old.next

-- The slot has a later generation than the id, or has no package and is never used again.
abbrev pub IsOver : PackageId → List ℕ → Slot → Type 0
IsOver id vacant slot = (id.generation < slot.generation) ⊎ ((slot.generation ≡ id.generation) × (slot.«package» ≡ None) × ((i : ℕ) → slice_get vacant i ≡ Some id.slot → ⊥))

-- The id was valid and is never valid again.
abbrev pub IsSpent : Graph → PackageId → Type 0
IsSpent g id = IsSomeAnd (slice_get g.slots id.slot) (IsOver id g.vacant)

-- Edges as keys of a set, and nodes that are left.
use Rattle.std.specs.Prelude.{◌≡◌, ℕ, Bool, true, false, List, [], ◌∷◌, Some, refl, zero, suc, slice_get, slice_index_or}
use Rattle.std.proofs.Common.{ap}
use Rattle.std.specs.FinSet as set
use Rattle.std.specs.Ordering.{nat_cmp}
use Rattle.std.specs.Cmp.Lexicographic.{slice_cmp}
use Rattle.std.specs.declared.cmp.Ordering.{Ordering}
use Rattle.std.specs.Coded.{Coded, code_by, coded_list, coded_ℕ}
use Rattle.wac_edges.specs.declared.edges.Label.{Label}
use Rattle.wac_edges.specs.declared.edges.Label.TheVariants.{Alias, Argument, Dependency}
use Rattle.wac_edges.specs.declared.edges.Edge.{Edge}
use Rattle.wac_edges.specs.declared.node.NodeId.{NodeId}

-- The node with a number.
abbrev pub node_number : ℕ → NodeId
node_number n = record { 0 = n }

-- A label as numbers.
abbrev pub label_key : Label → List ℕ
label_key (Alias i) = 0 ∷ i ∷ []
label_key (Argument i) = 1 ∷ i ∷ []
label_key Dependency = []

-- The label that numbers encode.
abbrev pub label_of : List ℕ → Label
label_of (zero ∷ i ∷ _) = Alias i
label_of (suc _ ∷ i ∷ _) = Argument i
label_of _ = Dependency

-- An edge as numbers.
abbrev pub edge_key : Edge → List ℕ
edge_key e = e.source.0 ∷ e.target.0 ∷ label_key e.label

-- The edge that numbers encode.
abbrev pub edge_of : List ℕ → Edge
edge_of (s ∷ t ∷ l) = record { source = node_number s; target = node_number t; label = label_of l }
edge_of _ = record { source = node_number 0; target = node_number 0; label = Dependency }

-- Decoding gives the label back.
pub label_of-label_key : (l : Label) → label_of (label_key l) ≡ l
label_of-label_key (Alias i) = refl
label_of-label_key (Argument i) = refl
label_of-label_key Dependency = refl

-- Decoding gives the edge back.
pub edge_of-edge_key : (e : Edge) → edge_of (edge_key e) ≡ e
edge_of-edge_key e = ap (λ (l : Label). let x : Edge = record { source = e.source; target = e.target; label = l } in x) (label_of-label_key e.label)

-- The encoding of edges.
abbrev pub edge_code : Coded Edge
edge_code = code_by (List ℕ) (coded_list coded_ℕ) edge_key edge_of edge_of-edge_key

-- Edges are ordered by source, target and label.
abbrev pub edge_cmp : Edge → Edge → Ordering
edge_cmp a b = slice_cmp nat_cmp (edge_key a) (edge_key b)

-- The edge from an instance to the alias of its export at this index.
abbrev pub alias_edge : NodeId → NodeId → ℕ → Edge
alias_edge source target position = record { source = source; target = target; label = Alias position }

-- The edge from an argument to the instantiation whose import at this index it satisfies.
abbrev pub argument_edge : NodeId → NodeId → ℕ → Edge
argument_edge source target position = record { source = source; target = target; label = Argument position }

-- The edge leads to an alias.
abbrev pub IsAlias : Edge → Type 0
IsAlias e = (position : ℕ) × (e.label ≡ Alias position)

-- No edge is in the list twice.
abbrev pub AreOnce : List Edge → Type 0
AreOnce es = (i j : ℕ) (e : Edge) → slice_get es i ≡ Some e → slice_get es j ≡ Some e → i ≡ j

-- The node is left, by its flag.
abbrev pub is_left : List Bool → NodeId → Bool
is_left flags n = slice_index_or flags n.0 false

-- An edge leads to n from a node that is left.
abbrev pub IsBlocked : set.FinSet edge_cmp → (NodeId → Bool) → NodeId → Type 0
IsBlocked edges left n = (e : Edge) × (set.contains edges e ≡ true) × (e.target ≡ n) × (left e.source ≡ true)

-- No edge leads to n from a node that is left.
abbrev pub IsFree : set.FinSet edge_cmp → (NodeId → Bool) → NodeId → Type 0
IsFree edges left n = (e : Edge) → set.contains edges e ≡ true → e.target ≡ n → left e.source ≡ false

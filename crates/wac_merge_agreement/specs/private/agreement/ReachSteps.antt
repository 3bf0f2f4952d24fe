-- How the classes whose resources a type mentions are found. Only contracts inside the merge cite this file.
use Rattle.std.specs.Prelude.{ℕ, ◌≡◌, ◌<◌, ◌⊎◌, ◌↔◌, Bool, true, false, List, [], Option, Some, None, length, slice_get}
use Rattle.wac_types_shapes.specs.primitives.Name.{option_case}
use Rattle.wac_edges.specs.private.cycles.Numbers.{Has}
use Rattle.wac_types_collection.specs.subtyping.Called.{Called, of_class}
use Rattle.wac_merge_tables.specs.private.tables.Nodes.{Node, of_resource, of_own, of_borrow, of_component, mentions, tree_at}
use Rattle.wac_merge_agreement.specs.private.agreement.Reach.{Reaches, IsOfClass}

-- The nodes that a node mentions outside of components.
abbrev pub parts : Node → List ℕ
parts (of_component imports exports) = []
parts n = mentions n

-- The class that binds a resource.
abbrev pub class_of : Called → Option ℕ
class_of (of_class k path name) = Some k
class_of _ = None

-- The class whose resource a node is, or is a handle to.
abbrev pub node_class : Node → Option ℕ
node_class (of_resource r) = class_of r
node_class (of_own r) = class_of r
node_class (of_borrow r) = class_of r
node_class _ = None

-- The flag of a node; false if the node was not examined.
abbrev pub flag_of : List Bool → ℕ → Bool
flag_of fs i = option_case (slice_get fs i) false (λ b. b)

-- A node that was examined has its flag if and only if it mentions a resource bound by a class.
pub record AreFlags (ns : List Node) (fs : List Bool) : Type 0 where
  pub flagged : (i : ℕ) → i < length fs → (flag_of fs i ≡ true) ↔ ((b : ℕ) × Reaches (IsOfClass b) (tree_at ns i))

-- The classes that a node reaches are those found so far and those that the pending nodes reach.
pub record AreReached (ns : List Node) (number : ℕ) (classes pending : List ℕ) : Type 0 where
  pub within : (i : ℕ) → Has pending i → i < length ns
  pub found : (b : ℕ) → Has classes b → Reaches (IsOfClass b) (tree_at ns number)
  pub onward : (b i : ℕ) → Has pending i → Reaches (IsOfClass b) (tree_at ns i) → Reaches (IsOfClass b) (tree_at ns number)
  pub whole : (b : ℕ) → Reaches (IsOfClass b) (tree_at ns number) → Has classes b ⊎ ((i : ℕ) × Has pending i × Reaches (IsOfClass b) (tree_at ns i))

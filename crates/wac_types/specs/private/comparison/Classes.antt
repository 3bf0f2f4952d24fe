-- Classes of types that are equal if all answers are yes.
use Rattle.std.specs.Prelude.{ℕ, ◌<◌, ◌≡◌, Bool, true, false, List, [], ◌∷◌, ◌++◌, Some, slice_get, map, length, ◌⊎◌}
use Rattle.std.specs.List.{AllByRecursion}
use Rattle.std.specs.Option.{option_map}
use Rattle.wac_types_shapes.specs.primitives.Name.{Name}
use Rattle.wac_types_shapes.specs.primitives.Tree.{TypeTree}
use Rattle.wac_types_collection.specs.collection.Collection.{Collection}
use Rattle.wac_types_collection.specs.subtyping.Subtype.{type_tree}
use Rattle.wac_types.specs.private.comparison.Weights.{weight}
use Rattle.wac_types.specs.private.comparison.Questions.{first_of_pair, IsYesBelow}
use Rattle.wac_types.specs.declared.comparison.classes.Node.{Node}
use Rattle.wac_types.specs.declared.comparison.classes.Link.{Link}
use Rattle.wac_types.specs.declared.comparison.questions.Question.{Question}

-- The nodes, in order.
abbrev pub nodes : List (Node × Link) → List Node
nodes es = map (λ e. e.0) es

-- The tree of a node.
abbrev pub node_tree : Collection × Collection → Node → TypeTree Name
node_tree p u = type_tree (first_of_pair u.turned p) u.ty

-- If one tree is lighter than n, and all questions about types lighter than n have the answer yes, they are equal.
abbrev pub AreSame : Collection × Collection → List Question → Node → Node → Type 0
AreSame p qs u v = (n : ℕ) → AllByRecursion (IsYesBelow p n) qs → (weight (node_tree p u) < n) ⊎ (weight (node_tree p v) < n) → node_tree p u ≡ node_tree p v

-- Each node has a node above it, with an equal tree.
abbrev pub AreLinked : Collection × Collection → List Question → List (Node × Link) → Type 0
AreLinked p qs es = (i : ℕ) (u : Node) (l : Link) → slice_get es i ≡ Some (u, l) → (v : Node) × (slice_get (nodes es) l.above ≡ Some v) × AreSame p qs u v

-- The node at index i and the node at index j have equal trees.
abbrev pub LeadsTo : List (Node × Link) → ℕ → ℕ → Type 0
LeadsTo es i j = (p : Collection × Collection) (qs : List Question) → AreLinked p qs es → (u : Node) → slice_get (nodes es) i ≡ Some u → (v : Node) × (slice_get (nodes es) j ≡ Some v) × AreSame p qs u v

-- The link at an index.
abbrev pub HasLink : List (Node × Link) → ℕ → Link → Type 0
HasLink es i l = option_map (λ e. e.1) (slice_get es i) ≡ Some l

-- The node is at this index. If it was not there, it is appended, in a class of its own.
pub record AddsNode (old new : List (Node × Link)) (u : Node) (i : ℕ) : Type 0 where
  pub grown : (new ≡ old) ⊎ (new ≡ old ++ (u, record { above = length old; size = 1 }) ∷ [])
  pub there : slice_get (nodes new) i ≡ Some u

-- If two nodes have equal trees, each node still has a node above it with an equal tree.
abbrev pub PutsBelow : List (Node × Link) → List (Node × Link) → ℕ → ℕ → Type 0
PutsBelow old new low high = (p : Collection × Collection) (qs : List Question) (u v : Node) → slice_get (nodes old) low ≡ Some u → slice_get (nodes old) high ≡ Some v → AreSame p qs u v → AreLinked p qs old → AreLinked p qs new

-- Two nodes are joined. If their classes were not different, their trees are equal. If they were and the trees are
-- equal, each node still has a node above it with an equal tree.
pub record Joins (old new : List (Node × Link)) (u v : Node) (apart : Bool) : Type 0 where
  pub found : (p : Collection × Collection) (qs : List Question) → AreLinked p qs old → apart ≡ false → AreSame p qs u v
  pub kept : (p : Collection × Collection) (qs : List Question) → AreLinked p qs old → (apart ≡ true → AreSame p qs u v) → AreLinked p qs new

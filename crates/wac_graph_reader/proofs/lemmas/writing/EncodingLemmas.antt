-- What the fields say of the nodes that are written.
use Rattle.std.proofs.Common.{◌≡◌, ℕ, zero, suc, ◌<◌, ◌≤◌, Bool, true, false, not, List, [], ◌∷◌, ◌++◌, ◌+◌, length, refl, ap, ◌∙◌, sym, subst, arith, Option, Some, None, IfSome, IsSome, IsSomeAnd, is_some, get_or}
use Rattle.std.proofs.lemmas.Bool.Decides.{nat_tests}
use Rattle.std.specs.Prelude.{slice_get, nat_lt}
use Rattle.std.proofs.lemmas.List.{get_or_append_left}
use Rattle.std.proofs.Math.Seq.{get_or-append_seam}
use Rattle.std.specs.Option.{option_map, option_and_then}
use Rattle.slab.specs.Slab.{get, ContainsKey}
use Rattle.wac_types_shapes.specs.primitives.Name.{option_case}
use Rattle.wac_types_collection.specs.collection.Collection.{item_at}
use Rattle.wac_types_collection.specs.collection.Package.{PackageParts}
use Rattle.wac_types_shapes.specs.declared.shapes.component.World.{World}
use Rattle.wac_graph_model.specs.declared.nodes.node.Node.{Node}
use Rattle.wac_edges.specs.declared.node.NodeId.{NodeId}
use Rattle.wac_graph_model.specs.declared.nodes.node.NodeKind.{NodeKind}
use Rattle.wac_graph_model.specs.declared.nodes.node.NodeKind.TheVariants as code
use Rattle.wac_graph_model.specs.declared.nodes.packages.PackageId.{PackageId}
use Rattle.wac_edges.specs.Edge.{is_left}
use Rattle.wac_graph_model.specs.nodes.Graph as graph
use Rattle.wac_edges.specs.Edge.{node_number}
use Rattle.wac_graph_model.specs.nodes.Graph.{Graph, GraphNode, node_at, package_at, package_in, package_of, imports_of}
use Rattle.wac_graph_model.specs.nodes.Nodes.{node_of, kind_of, satisfied_at, Positions}
use Rattle.wac_graph_fields.specs.private.Fields.{Fields, graph_of, Invariant}
use Rattle.wac_graph_model.specs.meaning.Means.{is_import, is_written}
use Rattle.wac_graph_model.specs.nodes.Gives.{GivesNode}
use Rattle.wac_graph_model.proofs.lemmas.nodes.NodeLemmas.{get-nodes_of}
use Rattle.wac_graph_fields.proofs.ArgumentLemmas.{owned, registered}
use Rattle.wac_graph_model.proofs.lemmas.nodes.JoinLemmas.{imports_of_package}

-- the node of a number, as the fields have it
pub node_is : (a : Fields) (n : ℕ) (o : Option Node) → get a.nodes n ≡ o → node_at (graph_of a) (node_number n) ≡ option_map node_of o
node_is a n o had = get-nodes_of a.nodes.slots n ∙ ap (option_map node_of) had

-- a node that a fact speaks of is in the fields
the_node : (o : Option Node) (P : GraphNode → Type 0) → IsSomeAnd (option_map node_of o) P → (n : Node) × (o ≡ Some n) × P (node_of n)
the_node None P h = absurd h
the_node (Some n) P h = (n, refl, h)

pub some_node : (a : Fields) (n : ℕ) (P : GraphNode → Type 0) → IsSomeAnd (node_at (graph_of a) (node_number n)) P → (node : Node) × (get a.nodes n ≡ Some node) × P (node_of node)
some_node a n P h = the_node (get a.nodes n) P (subst (λ o. IsSomeAnd o P) (get-nodes_of a.nodes.slots n) h)

pub contains_node : (a : Fields) (n : ℕ) (P : GraphNode → Type 0) → IsSomeAnd (node_at (graph_of a) (node_number n)) P → ContainsKey a.nodes n
contains_node a n P h = let (node, had, _) = some_node a n P h in ap is_some had

pub of_node : (a : Fields) (n : ℕ) (node : Node) (P : GraphNode → Type 0) → IsSomeAnd (node_at (graph_of a) (node_number n)) P → get a.nodes n ≡ Some node → P (node_of node)
of_node a n node P h had = let (other, is, p) = some_node a n P h in let e : other ≡ node = let f : Some other ≡ Some node = sym is ∙ had in cc in subst (λ x. P (node_of x)) e p

pub if_node : (a : Fields) (n : ℕ) (node : Node) (P : GraphNode → Type 0) → get a.nodes n ≡ Some node → P (node_of node) → IfSome (node_at (graph_of a) (node_number n)) P
if_node a n node P had p = subst (λ o. IfSome o P) (sym (node_is a n (Some node) had)) p

-- the kind of an instantiation is one
pub the_set : (k : NodeKind) → kind_of k ≡ graph.instantiation → (s : Positions) × (k ≡ code.Instantiation s)
the_set code.Definition h = cc
the_set (code.Import name) h = cc
the_set (code.Instantiation s) h = (s, refl)
the_set code.Alias h = cc

-- an instantiation's package and imports
module _ (a : Fields) (v : Invariant a) (n : ℕ) (node : Node) (had : get a.nodes n ≡ Some node) (h : IsSomeAnd (node_at (graph_of a) (node_number n)) (λ x. x.kind ≡ graph.instantiation)) where
  set_of : (s : Positions) × (node.kind ≡ code.Instantiation s)
  set_of = the_set node.kind (of_node a n node (λ x. x.kind ≡ graph.instantiation) h had)

  pub owned_at : node.«package» ≡ None → ⊥
  owned_at = let (s, is) = set_of in owned a v (node_number n) node s [] had is

  pub registered_at : (o : PackageId) → node.«package» ≡ Some o → None ≡ package_in (slice_get a.slots.items o.slot) o → ⊥
  registered_at = let (s, is) = set_of in registered a v (node_number n) node s [] had is

-- the world of a registered package is held
pub world_registered : (a : Fields) → Invariant a → (id : PackageId) (p : PackageParts) → package_at (graph_of a) id ≡ Some p → (p.world).0 < length (a.types).worlds
world_registered a v id p there = lt_of (p.world).0 (length (a.types).worlds) ((v.sound).packages id p there).0 where
  lt_of : (k m : ℕ) → nat_lt k m ≡ true → k < m
  lt_of k m h = grind (arith, nat_tests)

-- the package of a node, by its owner
pub package_now : (g : Graph) (n : ℕ) (id : PackageId) (p : PackageParts) → IfSome (node_at g (node_number n)) (λ x. x.owner ≡ Some id) → package_at g id ≡ Some p → IfSome (node_at g (node_number n)) (λ x. package_of g x ≡ Some p)
package_now g n id p owner there = by_node (node_at g (node_number n)) owner where
  by_node : (o : Option GraphNode) → IfSome o (λ x. x.owner ≡ Some id) → IfSome o (λ x. package_of g x ≡ Some p)
  by_node None h = tt
  by_node (Some x) h = ap (option_and_then (package_at g)) h ∙ there

-- and what it imports
pub imports_now : (g : Graph) (n : ℕ) (id : PackageId) (p : PackageParts) (w : World) → IfSome (node_at g (node_number n)) (λ x. x.owner ≡ Some id) → package_at g id ≡ Some p → item_at (g.types).worlds (p.world).0 ≡ Some w
    → IfSome (node_at g (node_number n)) (λ x. w.imports ≡ imports_of g x)
imports_now g n id p w owner there at = by_node (node_at g (node_number n)) (package_now g n id p owner there) where
  by_node : (o : Option GraphNode) → IfSome o (λ x. package_of g x ≡ Some p) → IfSome o (λ x. w.imports ≡ imports_of g x)
  by_node None h = tt
  by_node (Some x) h = sym (imports_of_package g x p h ∙ ap (λ y. option_case y [] (λ z. z.imports)) at)

-- no node is past the slots
pub none_past : (a : Fields) (n : ℕ) → length a.nodes.slots ≤ n → get a.nodes n ≡ None
none_past a n far = past a.nodes.slots n far where
  past : (xs : List (Option Node)) (k : ℕ) → length xs ≤ k → get_or xs k None ≡ None
  past [] k h = refl
  past (x ∷ xs) zero h = absurd (omega arith)
  past (x ∷ xs) (suc k) h = past xs k (omega arith)

pub by_lt : {P : Type 0} (m n : ℕ) → (m < n → P) → (n ≤ m → P) → P
by_lt {P} m n below above = elim (nat_lt m n) as (λ b. nat_lt m n ≡ b → P) [ true ↦ λ e. below (grind (arith, nat_tests)) | false ↦ λ e. above (grind (arith, nat_tests)) ] refl

flag_past : (flags : List Bool) (m : ℕ) → length flags ≤ m → is_left flags (node_number m) ≡ false
flag_past [] m h = refl
flag_past (b ∷ flags) zero h = absurd (omega arith)
flag_past (b ∷ flags) (suc m) h = flag_past flags m (omega arith)

-- flags for all nodes
pub all_flags : (a : Fields) (flags : List Bool) (k : ℕ) → length flags ≡ k → length a.nodes.slots ≤ k → ((m : NodeId) → m.0 < k → is_left flags m ≡ is_written (graph_of a) m) → (m : NodeId) → is_left flags m ≡ is_written (graph_of a) m
all_flags a flags k many slots below m =
    by_lt m.0 k (below m) (λ above. flag_past flags m.0 (omega (arith, many, above)) ∙ sym (ap (λ o. option_case o false (λ x. not (is_import x.kind))) (node_is a m.0 None (none_past a m.0 (omega (arith, slots, above))))))

-- one flag more
pub next_flag : (g : Graph) (flags : List Bool) (k : ℕ) (b : Bool) → length flags ≡ k → ((m : NodeId) → m.0 < k → is_left flags m ≡ is_written g m) → b ≡ is_written g (node_number k) → (m : NodeId) → m.0 < k + 1 → is_left (flags ++ b ∷ []) m ≡ is_written g m
next_flag g flags k b many below now m small = by_lt m.0 k
    (λ under. get_or_append_left flags (b ∷ []) false m.0 (omega (arith, many, under)) ∙ below m under)
    (λ over. let same : m.0 ≡ length flags = omega (arith, many, over, small) in let last : k ≡ m.0 = omega (arith, over, small) in ap (λ q. is_left (flags ++ b ∷ []) (node_number q)) same ∙ get_or-append_seam flags b [] false ∙ now ∙ ap (λ q. is_written g (node_number q)) last)

-- what is so of the nodes below the capacity is so of all
pub all_nodes : (a : Fields) (P : GraphNode → Type 0) (k : ℕ) → length a.nodes.slots ≤ k → ((m : NodeId) → m.0 < k → IfSome (node_at (graph_of a) m) P) → (m : NodeId) (node : GraphNode) → node_at (graph_of a) m ≡ Some node → P node
all_nodes a P k slots below m node there = by_lt m.0 k
    (λ small. subst (λ o. IfSome o P) there (below m small))
    (λ above. absurd (nothing (node_at (graph_of a) m) (node_is a m.0 None (none_past a m.0 (omega (arith, slots, above)))) there)) where
      nothing : (o : Option GraphNode) → o ≡ None → o ≡ Some node → ⊥
      nothing o p q = cc

pub some_and : (a : Fields) (n : ℕ) (node : Node) (P : GraphNode → Type 0) → get a.nodes n ≡ Some node → P (node_of node) → IsSomeAnd (node_at (graph_of a) (node_number n)) P
some_and a n node P had p = subst (λ o. IsSomeAnd o P) (sym (node_is a n (Some node) had)) p

pub if_none : (a : Fields) (n : ℕ) (P : GraphNode → Type 0) → get a.nodes n ≡ None → IfSome (node_at (graph_of a) (node_number n)) P
if_none a n P had = subst (λ o. IfSome o P) (sym (node_is a n None had)) tt

pub of_if : (a : Fields) (n : ℕ) (node : Node) (P : GraphNode → Type 0) → IfSome (node_at (graph_of a) (node_number n)) P → get a.nodes n ≡ Some node → P (node_of node)
of_if a n node P h had = subst (λ o. IfSome o P) (node_is a n (Some node) had) h

pub has_number : (a : Fields) (n : ℕ) → IsSome (node_at (graph_of a) (node_number n)) → ContainsKey a.nodes n
has_number a n h = some_of (get a.nodes n) (subst (λ o. IsSome o) (get-nodes_of a.nodes.slots n) h) where
  some_of : (o : Option Node) → IsSome (option_map node_of o) → is_some o ≡ true
  some_of None h = h
  some_of (Some x) h = refl

-- the fields of a node say of it what the graph does
pub gives_node : (a : Fields) → Invariant a → (id : NodeId) (node : Node) → get a.nodes id.0 ≡ Some node → GivesNode (graph_of a) id node
gives_node a v id node had = record {
  there = node_is a id.0 (Some node) had;
  set = λ i h. v.edged id i (ap (λ o. satisfied_at o i) had ∙ h);
  only = λ i (source, stands). sym (ap (λ o. satisfied_at o i) had) ∙ v.marked source id i stands;
}

pub clash_of : (b : Bool) → b ≡ true → b ≡ false → ⊥
clash_of true _ h = cc
clash_of false h _ = cc

-- Worked examples: graphs and the items that mean them.
use Rattle.std.proofs.Common.{◌≡◌, ℕ, zero, suc, ◌<◌, Bool, true, false, not, ◌&&◌, ◌||◌, eqb, List, [], ◌∷◌, ◌++◌, length, map, Option, Some, None, refl, ap, sym, ◌∙◌, subst, arith, ◌⊎◌, inl, inr}
use Rattle.std.specs.FinMap as finite
use Rattle.std.specs.FinMap.{find}
use Rattle.std.specs.FinSet as set
use Rattle.std.specs.List.{flat_map}
use Rattle.std.specs.Ordering.{nat_cmp, eq_by_cmp}
use Rattle.std.specs.Cmp.{nat_cmp_total}
use Rattle.std.specs.Prelude.{slice_get}
use Rattle.std.proofs.lemmas.Bool.Decides.{nat_tests}
use Rattle.std.proofs.lemmas.List.{append-nil}
use Rattle.wac_types_shapes.specs.primitives.Name.{option_case}
use Rattle.wac_types_collection.specs.collection.Collection.{Collection}
use Rattle.wac_types_shapes.specs.declared.shapes.component.ItemKind.{ItemKind}
use Rattle.wac_types_shapes.specs.declared.shapes.component.ItemKind.TheVariants as item
use Rattle.wac_types_collection.specs.collection.Bound.{Bindings}
use Rattle.wac_binary.specs.declared.sorts.Sort.TheVariants as s
use Rattle.wac_binary.specs.Bytes.{preamble}
use Rattle.wac_binary.specs.Items.{Item, nested, instantiate, alias_item, export_alias, export_item}
use Rattle.wac_binary.specs.Meaning.{meaning, projection, instance_at, stands_for, Thing}
use Rattle.wac_edges.specs.declared.edges.Edge.{Edge}
use Rattle.wac_edges.specs.declared.node.NodeId.{NodeId}
use Rattle.wac_graph_model.specs.declared.nodes.packages.PackageId.{PackageId}
use Rattle.wac_edges.specs.Edge.{edge_cmp, alias_edge, argument_edge, node_number}
use Rattle.wac_graph_model.specs.nodes.Graph as graph
use Rattle.wac_graph_model.specs.nodes.Graph.{Graph, GraphNode, node_at, imports_of, IsSatisfied}
use Rattle.wac_edges.specs.Order.{Edges, Writes, IsLowestReady, without}
use Rattle.wac_graph_model.specs.nodes.OuterImports.{AreOuterImports, outer_bindings}
use Rattle.wac_graph_model.specs.meaning.Means.{Means, is_import, is_written, instantiations, used_after, used_packages, package_bytes, sort_of_kind, AreInstantiations, IsThing, as_instantiation, as_alias, given, HasItem, shown, export_of, export_item_of, first_export, further_exports, custom_item}
use Rattle.wac_graph_model.proofs.lemmas.meaning.ThingLemmas.{IsPlain}
use Rattle.wac_graph_model.proofs.lemmas.meaning.AskedLemmas.{AllSet, no_imports, asked_none}
use Rattle.wac_graph_tests.proofs.lemmas.examples.Ordered.{edge_cmp_total, exact_edges}
use Rattle.wac_graph_model.proofs.lemmas.meaning.DefinedLemmas.{no_names}
use Rattle.wac_graph_model.specs.declared.nodes.options.EncodeOptions.{EncodeOptions}

-- two packages of the same bytes: the first exports the function `a`, the second imports the function `b`
abbrev pub of_function : ItemKind
of_function = item.Func (record { 0 = 0 })

abbrev types : Collection
types = record {
  resources = [];
  defined = [];
  modules = [];
  funcs = record { item = record { params = []; result = None; is_async = false }; before = 0 } ∷ [];
  interfaces = record { item = record { id = None; uses = []; exports = (97 ∷ [], of_function) ∷ [] }; before = 2 } ∷ record { item = record { id = None; uses = []; exports = [] }; before = 4 } ∷ [];
  worlds = record { item = record { id = None; uses = []; imports = []; exports = (97 ∷ [], of_function) ∷ [] }; before = 1 } ∷ record { item = record { id = None; uses = []; imports = (98 ∷ [], of_function) ∷ []; exports = [] }; before = 3 } ∷ [];
}

abbrev pub first : PackageId
first = record { slot = 0; generation = 0 }

abbrev pub second : PackageId
second = record { slot = 1; generation = 0 }

-- the three nodes
abbrev pub instance_of_first : GraphNode
instance_of_first = record { kind = graph.instantiation; item_kind = item.Instance (record { 0 = 0 }); owner = Some first; name = None; export_name = None; first_name = None }

abbrev pub alias_of_first : GraphNode
alias_of_first = record { kind = graph.alias; item_kind = of_function; owner = Some first; name = None; export_name = None; first_name = None }

abbrev pub instance_of_second : GraphNode
instance_of_second = record { kind = graph.instantiation; item_kind = item.Instance (record { 0 = 1 }); owner = Some second; name = None; export_name = None; first_name = None }

abbrev entries : List (ℕ × GraphNode)
entries = (0, instance_of_first) ∷ (1, alias_of_first) ∷ (2, instance_of_second) ∷ []

abbrev edge_list : List Edge
edge_list = alias_edge (node_number 0) (node_number 1) 0 ∷ argument_edge (node_number 1) (node_number 2) 0 ∷ []

-- an instance of the first, its alias `a`, an instance of the second, to which the alias is given as `b`
abbrev pub readme_graph : Graph
readme_graph = record {
  types = types;
  nodes = finite.from_entries entries;
  next = 3;
  edges = set.from_list edge_list;
  exports = [];
  slots =
      record { generation = 0; «package» = Some (record { name = 112 ∷ []; version = None; bytes = preamble; world = record { 0 = 0 }; instance_type = record { 0 = 0 } }) }
      ∷ record { generation = 0; «package» = Some (record { name = 113 ∷ []; version = None; bytes = preamble; world = record { 0 = 1 }; instance_type = record { 0 = 1 } }) } ∷ [];
  vacant = [];
}

-- components are defined, and no processor is named
abbrev pub defining : EncodeOptions
defining = record { define_components = true; validate = true; processor = None }

abbrev readme : List Item
readme = nested preamble ∷ instantiate 0 [] ∷ alias_item (export_alias s.Func 0 (97 ∷ [])) ∷ nested preamble ∷ instantiate 1 ((98 ∷ [], s.Func, 0) ∷ []) ∷ []

-- a node of the graph is an entry of the list
nodes_are : (n : ℕ) → node_at readme_graph (node_number n) ≡ find nat_cmp n entries
nodes_are n = finite.get-from_entries nat_cmp_total entries n

-- the nodes by number
node_0 : node_at readme_graph (node_number 0) ≡ Some instance_of_first
node_0 = nodes_are 0

pub node_1 : node_at readme_graph (node_number 1) ≡ Some alias_of_first
node_1 = nodes_are 1

pub node_2 : node_at readme_graph (node_number 2) ≡ Some instance_of_second
node_2 = nodes_are 2

-- there are no others
no_more : (n : ℕ) → node_at readme_graph (node_number (suc (suc (suc n)))) ≡ None
no_more n =
    let a : eq_by_cmp nat_cmp (suc (suc (suc n))) 0 ≡ false = grind (arith, nat_tests) in
    let b : eq_by_cmp nat_cmp (suc (suc (suc n))) 1 ≡ false = grind (arith, nat_tests) in
    let c : eq_by_cmp nat_cmp (suc (suc (suc n))) 2 ≡ false = grind (arith, nat_tests) in
    nodes_are (suc (suc (suc n))) ∙ rw (a, b, c) refl

some_same : {x y : GraphNode} → Some x ≡ Some y → x ≡ y
some_same e = cc

none_some : {x : GraphNode} → None ≡ Some x → ⊥
none_some e = cc

-- what holds of the three nodes holds of each
by_node : (P : NodeId → GraphNode → Type 0) → P (node_number 0) instance_of_first → P (node_number 1) alias_of_first → P (node_number 2) instance_of_second → (n : NodeId) (node : GraphNode) → node_at readme_graph n ≡ Some node → P n node
by_node P a b c n node is = of_number n.0 node is where
  of_number : (k : ℕ) (x : GraphNode) → node_at readme_graph (node_number k) ≡ Some x → P (node_number k) x
  of_number zero x is = subst (λ y. P (node_number 0) y) (some_same (sym node_0 ∙ is)) a
  of_number (suc zero) x is = subst (λ y. P (node_number 1) y) (some_same (sym node_1 ∙ is)) b
  of_number (suc (suc zero)) x is = subst (λ y. P (node_number 2) y) (some_same (sym node_2 ∙ is)) c
  of_number (suc (suc (suc k))) x is = absurd (none_some (sym (no_more k) ∙ is))

either : (a b : Bool) → (a || (b || false)) ≡ true → (a ≡ true) ⊎ (b ≡ true)
either true b h = inl refl
either false true h = inr refl
either false false h = inl h

-- an edge of the graph is one of the two
pub edges_are : (e : Edge) → set.contains readme_graph.edges e ≡ true → (e ≡ alias_edge (node_number 0) (node_number 1) 0) ⊎ (e ≡ argument_edge (node_number 1) (node_number 2) 0)
edges_are e stands = split (either (eq_by_cmp edge_cmp e (alias_edge (node_number 0) (node_number 1) 0)) (eq_by_cmp edge_cmp e (argument_edge (node_number 1) (node_number 2) 0)) (sym (set.contains-from_list edge_cmp_total edge_list e) ∙ stands)) where
  split : (eq_by_cmp edge_cmp e (alias_edge (node_number 0) (node_number 1) 0) ≡ true) ⊎ (eq_by_cmp edge_cmp e (argument_edge (node_number 1) (node_number 2) 0) ≡ true) → (e ≡ alias_edge (node_number 0) (node_number 1) 0) ⊎ (e ≡ argument_edge (node_number 1) (node_number 2) 0)
  split (inl h) = inl (exact_edges e (alias_edge (node_number 0) (node_number 1) 0) h)
  split (inr h) = inr (exact_edges e (argument_edge (node_number 1) (node_number 2) 0) h)

-- both stand in it
stands_alias : set.contains readme_graph.edges (alias_edge (node_number 0) (node_number 1) 0) ≡ true
stands_alias = set.contains-from_list edge_cmp_total edge_list (alias_edge (node_number 0) (node_number 1) 0)

stands_argument : set.contains readme_graph.edges (argument_edge (node_number 1) (node_number 2) 0) ≡ true
stands_argument = set.contains-from_list edge_cmp_total edge_list (argument_edge (node_number 1) (node_number 2) 0)

-- the three nodes in the order of their numbers
abbrev pub three_nodes : List NodeId
three_nodes = node_number 0 ∷ node_number 1 ∷ node_number 2 ∷ []

-- the instances are the first node and the third
pub readme_instantiations : instantiations readme_graph three_nodes ≡ node_number 0 ∷ node_number 2 ∷ []
readme_instantiations = rw (node_0, node_1, node_2) refl

-- both packages are used, in this order
readme_packages : used_packages readme_graph three_nodes ≡ first ∷ second ∷ []
readme_packages = ap (used_after readme_graph []) readme_instantiations ∙ rw (node_0, node_2) refl

-- the nested components are the bytes of the packages
readme_components : (meaning readme).nested_bytes ≡ map (package_bytes readme_graph) (used_packages readme_graph three_nodes)
readme_components = ap (map (package_bytes readme_graph)) (sym readme_packages)

-- which of the numbers are those of nodes that are written
abbrev below_three : ℕ → Bool
below_three zero = true
below_three (suc zero) = true
below_three (suc (suc zero)) = true
below_three (suc (suc (suc n))) = false

abbrev three : NodeId → Bool
three n = below_three n.0

-- the three nodes are written, and no others
are_three : (n : NodeId) → is_written readme_graph n ≡ three n
are_three n = of_number n.0 where
  of_number : (k : ℕ) → is_written readme_graph (node_number k) ≡ below_three k
  of_number zero = ap (λ o. option_case o false (λ node. not (is_import node.kind))) node_0
  of_number (suc zero) = ap (λ o. option_case o false (λ node. not (is_import node.kind))) node_1
  of_number (suc (suc zero)) = ap (λ o. option_case o false (λ node. not (is_import node.kind))) node_2
  of_number (suc (suc (suc k))) = ap (λ o. option_case o false (λ node. not (is_import node.kind))) (no_more k)

-- the order speaks only of which nodes are left
Writes-same : (edges : Edges) (p q : NodeId → Bool) → ((m : NodeId) → q m ≡ p m) → (order : List NodeId) → Writes edges p order → Writes edges q order
Writes-same edges p q h [] done = λ m. h m ∙ done m
Writes-same edges p q h (n ∷ ns) (ready, later) = (
  record {
    here = h n ∙ ready.here;
    free = λ e stands leads. h e.source ∙ ready.free e stands leads;
    lower = λ m small left. let (e, stands, to, from) = ready.lower m small (sym (h m) ∙ left) in (e, stands, to, h e.source ∙ from);
  },
  Writes-same edges (without p n) (without q n) (λ m. ap (λ b. b && not (eqb m.0 n.0)) (h m)) ns later,
)

not_below_0 : (m : ℕ) → m < 0 → ⊥
not_below_0 m h = omega arith

not_below_1 : (m : ℕ) → suc m < 1 → ⊥
not_below_1 m h = omega arith

not_below_2 : (m : ℕ) → suc (suc m) < 2 → ⊥
not_below_2 m h = omega arith

not_below_3 : (m : ℕ) → suc (suc (suc m)) < 3 → ⊥
not_below_3 m h = omega arith

clash : {b : Bool} → b ≡ true → b ≡ false → ⊥
clash h k = cc

differ : (m n : ℕ) → m ≡ n → eqb m n ≡ false → ⊥
differ m n h k = clash (ap (λ x. eqb m x) (sym h) ∙ same m) k where
  same : (k : ℕ) → eqb k k ≡ true
  same k = grind (arith, nat_tests)

-- an edge to a node is none to a node of another number
elsewhere : (e f : Edge) (n : NodeId) → e ≡ f → e.target ≡ n → eqb f.target.0 n.0 ≡ false → ⊥
elsewhere e f n is leads other = differ f.target.0 n.0 (ap (λ (x : Edge). x.target.0) (sym is) ∙ ap (λ (x : NodeId). x.0) leads) other

-- the first node is ready at once, the alias after it, the second instance last
ready_0 : IsLowestReady readme_graph.edges three (node_number 0)
ready_0 = record { here = refl; free = λ e stands leads. split e leads (edges_are e stands); lower = λ m small _. absurd (not_below_0 m.0 small) } where
  split : (e : Edge) → e.target ≡ node_number 0 → (e ≡ alias_edge (node_number 0) (node_number 1) 0) ⊎ (e ≡ argument_edge (node_number 1) (node_number 2) 0) → three e.source ≡ false
  split e leads (inl is) = absurd (elsewhere e (alias_edge (node_number 0) (node_number 1) 0) (node_number 0) is leads refl)
  split e leads (inr is) = absurd (elsewhere e (argument_edge (node_number 1) (node_number 2) 0) (node_number 0) is leads refl)

ready_1 : IsLowestReady readme_graph.edges (without three (node_number 0)) (node_number 1)
ready_1 = record { here = refl; free = λ e stands leads. split e leads (edges_are e stands); lower = λ m small left. absurd (lower m.0 small left) } where
  split : (e : Edge) → e.target ≡ node_number 1 → (e ≡ alias_edge (node_number 0) (node_number 1) 0) ⊎ (e ≡ argument_edge (node_number 1) (node_number 2) 0) → without three (node_number 0) e.source ≡ false
  split e leads (inl is) = ap (λ (x : Edge). without three (node_number 0) x.source) is
  split e leads (inr is) = absurd (elsewhere e (argument_edge (node_number 1) (node_number 2) 0) (node_number 1) is leads refl)

  lower : (m : ℕ) → m < 1 → without three (node_number 0) (node_number m) ≡ true → ⊥
  lower zero _ left = clash left refl
  lower (suc m) small _ = not_below_1 m small

ready_2 : IsLowestReady readme_graph.edges (without (without three (node_number 0)) (node_number 1)) (node_number 2)
ready_2 = record { here = refl; free = λ e stands leads. split e leads (edges_are e stands); lower = λ m small left. absurd (lower m.0 small left) } where
  split : (e : Edge) → e.target ≡ node_number 2 → (e ≡ alias_edge (node_number 0) (node_number 1) 0) ⊎ (e ≡ argument_edge (node_number 1) (node_number 2) 0) → without (without three (node_number 0)) (node_number 1) e.source ≡ false
  split e leads (inl is) = absurd (elsewhere e (alias_edge (node_number 0) (node_number 1) 0) (node_number 2) is leads refl)
  split e leads (inr is) = ap (λ (x : Edge). without (without three (node_number 0)) (node_number 1) x.source) is

  lower : (m : ℕ) → m < 2 → without (without three (node_number 0)) (node_number 1) (node_number m) ≡ true → ⊥
  lower zero _ left = clash left refl
  lower (suc zero) _ left = clash left refl
  lower (suc (suc m)) small _ = not_below_2 m small

-- none is left after the three
none_left : (m : NodeId) → without (without (without three (node_number 0)) (node_number 1)) (node_number 2) m ≡ false
none_left m = of_number m.0 where
  of_number : (k : ℕ) → without (without (without three (node_number 0)) (node_number 1)) (node_number 2) (node_number k) ≡ false
  of_number zero = refl
  of_number (suc zero) = refl
  of_number (suc (suc zero)) = refl
  of_number (suc (suc (suc k))) = refl

-- the nodes can be written in this order
pub readme_in_order : Writes readme_graph.edges (is_written readme_graph) three_nodes
readme_in_order = Writes-same readme_graph.edges three (is_written readme_graph) are_three three_nodes (ready_0, (ready_1, (ready_2, none_left)))

-- what each node stands for, its index and the place of its item
abbrev thing_of : ℕ → Thing
thing_of zero = instance_at 0
thing_of (suc zero) = projection (instance_at 0) (97 ∷ [])
thing_of (suc (suc k)) = instance_at 1

abbrev readme_at : NodeId → Thing
readme_at n = thing_of n.0

abbrev index_of : ℕ → ℕ
index_of zero = 0
index_of (suc zero) = 0
index_of (suc (suc k)) = 1

abbrev readme_index : NodeId → ℕ
readme_index n = index_of n.0

abbrev place_of : ℕ → ℕ
place_of zero = 1
place_of (suc zero) = 2
place_of (suc (suc k)) = 4

abbrev readme_place : NodeId → ℕ
readme_place n = place_of n.0

readme_plain : IsPlain readme_graph
readme_plain = by_node (λ n node. (node.kind ≡ graph.instantiation) ⊎ (node.kind ≡ graph.alias)) (inl refl) (inr refl) (inl refl)

alias_differs : graph.alias ≡ graph.instantiation → ⊥
alias_differs h = cc

-- the second instance has its argument, the first needs none
all_given : AllSet readme_graph
all_given = by_node (λ n node. node.kind ≡ graph.instantiation → (i : ℕ) → i < length (imports_of readme_graph node) → IsSatisfied readme_graph n i)
    (λ _ i small. absurd (not_below_0 i small))
    (λ wrong. absurd (alias_differs wrong))
    (λ _ i small. of_second i small) where
      of_second : (i : ℕ) → i < 1 → IsSatisfied readme_graph (node_number 2) i
      of_second zero _ = (node_number 1, stands_argument)
      of_second (suc i) small = absurd (not_below_1 i small)

-- nothing is asked
readme_imports : AreOuterImports readme_graph (meaning readme).imports
readme_imports = no_imports readme_graph (asked_none readme_graph readme_plain all_given)

-- the two instantiations, the second with the alias as `b`
readme_instances : AreInstantiations readme_graph defining 0 readme_at three_nodes (instantiations readme_graph three_nodes) (meaning readme).instantiations
readme_instances = subst (λ ns. AreInstantiations readme_graph defining 0 readme_at three_nodes ns (meaning readme).instantiations) (sym readme_instantiations) (
  record { node = instance_of_first; there = node_0; owner = first; owned = refl; place = 0; used = ap (λ ps. slice_get ps 0) readme_packages; component = refl; arguments = tt },
  (record { node = instance_of_second; there = node_2; owner = second; owned = refl; place = 1; used = ap (λ ps. slice_get ps 1) readme_packages; component = refl; arguments = (refl, given (node_number 1) alias_of_first stands_argument node_1, tt) }, tt),
)

-- what each node is
readme_things : (m : Bindings) (n : NodeId) (node : GraphNode) → node_at readme_graph n ≡ Some node → IsThing readme_graph [] m readme_at three_nodes n node
readme_things m = by_node (λ n node. IsThing readme_graph [] m readme_at three_nodes n node)
    (as_instantiation 0 refl (ap (λ ns. slice_get ns 0) readme_instantiations) refl)
    (as_alias (node_number 0) instance_of_first 0 (97 ∷ []) refl stands_alias node_0 refl refl)
    (as_instantiation 1 refl (ap (λ ns. slice_get ns 1) readme_instantiations) refl)

-- each node stands at its index
readme_stand : (n : NodeId) (node : GraphNode) → node_at readme_graph n ≡ Some node → stands_for (meaning readme) (sort_of_kind node.item_kind) (readme_index n) ≡ readme_at n
readme_stand = by_node (λ n node. stands_for (meaning readme) (sort_of_kind node.item_kind) (readme_index n) ≡ readme_at n) refl refl refl

-- each node has its item
readme_items : (n : NodeId) (node : GraphNode) → node_at readme_graph n ≡ Some node → HasItem readme node (readme_index n) (readme_place n)
readme_items = by_node (λ n node. HasItem readme node (readme_index n) (readme_place n))
    (record { it = instantiate 0 []; before = nested preamble ∷ []; after = alias_item (export_alias s.Func 0 (97 ∷ [])) ∷ nested preamble ∷ instantiate 1 ((98 ∷ [], s.Func, 0) ∷ []) ∷ []; split = refl; here = refl; own = refl; adds = refl; counted = refl })
    (record { it = alias_item (export_alias s.Func 0 (97 ∷ [])); before = nested preamble ∷ instantiate 0 [] ∷ []; after = nested preamble ∷ instantiate 1 ((98 ∷ [], s.Func, 0) ∷ []) ∷ []; split = refl; here = refl; own = refl; adds = refl; counted = refl })
    (record { it = instantiate 1 ((98 ∷ [], s.Func, 0) ∷ []); before = nested preamble ∷ instantiate 0 [] ∷ alias_item (export_alias s.Func 0 (97 ∷ [])) ∷ nested preamble ∷ []; after = []; split = refl; here = refl; own = refl; adds = refl; counted = refl })

one_number : (x y : NodeId) → Some x ≡ Some y → x.0 ≡ y.0
one_number x y e = let same : x ≡ y = cc in ap (λ (n : NodeId). n.0) same

no_node : {x : NodeId} → None ≡ Some x → ⊥
no_node e = cc

-- the nodes stand at their own numbers
in_three : (i : ℕ) (n : NodeId) → slice_get three_nodes i ≡ Some n → (i ≡ n.0) × (i < 3)
in_three zero n h = (one_number (node_number 0) n h, omega arith)
in_three (suc zero) n h = (one_number (node_number 1) n h, omega arith)
in_three (suc (suc zero)) n h = (one_number (node_number 2) n h, omega arith)
in_three (suc (suc (suc i))) n h = absurd (no_node h)

rises : (i j : ℕ) → i < j → j < 3 → place_of i < place_of j
rises zero zero h _ = absurd (not_below_0 zero h)
rises zero (suc zero) _ _ = omega arith
rises zero (suc (suc zero)) _ _ = omega arith
rises (suc zero) zero h _ = absurd (not_below_0 (suc zero) h)
rises (suc zero) (suc zero) h _ = absurd (not_below_1 zero h)
rises (suc zero) (suc (suc zero)) _ _ = omega arith
rises (suc (suc i)) zero h _ = absurd (not_below_0 (suc (suc i)) h)
rises (suc (suc i)) (suc zero) h _ = absurd (not_below_1 (suc i) h)
rises (suc (suc i)) (suc (suc zero)) h _ = absurd (not_below_2 i h)
rises i (suc (suc (suc j))) _ h = absurd (not_below_3 j h)

-- the items stand in the order of the nodes
readme_in_place : (i j : ℕ) (n m : NodeId) → i < j → slice_get three_nodes i ≡ Some n → slice_get three_nodes j ≡ Some m → readme_place n < readme_place m
readme_in_place i j n m less first_is second_is =
    let (a, _) = in_three i n first_is in
    let (b, small) = in_three j m second_is in
    subst (λ k. place_of k < readme_place m) a (subst (λ k. place_of i < place_of k) b (rises i j less small))

-- the items mean the graph
pub readme_means : Means readme readme_graph defining
readme_means = record {
  order = three_nodes;
  in_order = readme_in_order;
  at = readme_at;
  index = readme_index;
  meant = (tt, ((tt, tt), ((tt, tt), (tt, ((tt, (tt, tt)), tt)))));
  classes = [];
  outer = readme_imports;
  imports = refl;
  components = readme_components;
  instances = readme_instances;
  things = readme_things (outer_bindings readme_graph readme_imports.order);
  stand = readme_stand;
  exports = rw (node_0, node_1, node_2) refl;
  place = readme_place;
  own_items = λ n node there. readme_items n node there;
  in_place = readme_in_place;
  names = [];
  named = no_names readme_graph readme_index (by_node (λ _ node. node.name ≡ None) refl refl refl);
  customs = refl;
  body = readme;
  last = refl;
}

-- of graphs with two nodes
abbrev two_nodes : List NodeId
two_nodes = node_number 0 ∷ node_number 1 ∷ []

abbrev below_two : ℕ → Bool
below_two zero = true
below_two (suc zero) = true
below_two (suc (suc n)) = false

abbrev both : NodeId → Bool
both n = below_two n.0

module _ (g : Graph) (x y : GraphNode) (is_0 : node_at g (node_number 0) ≡ Some x) (is_1 : node_at g (node_number 1) ≡ Some y) (more : (n : ℕ) → node_at g (node_number (suc (suc n))) ≡ None) where
  -- what holds of the two nodes holds of each
  pub by_two : (P : NodeId → GraphNode → Type 0) → P (node_number 0) x → P (node_number 1) y → (n : NodeId) (node : GraphNode) → node_at g n ≡ Some node → P n node
  by_two P a b n node is = of_number n.0 node is where
    of_number : (k : ℕ) (z : GraphNode) → node_at g (node_number k) ≡ Some z → P (node_number k) z
    of_number zero z is = subst (λ w. P (node_number 0) w) (some_same (sym is_0 ∙ is)) a
    of_number (suc zero) z is = subst (λ w. P (node_number 1) w) (some_same (sym is_1 ∙ is)) b
    of_number (suc (suc k)) z is = absurd (none_some (sym (more k) ∙ is))

  are_both : not (is_import x.kind) ≡ true → not (is_import y.kind) ≡ true → (n : NodeId) → is_written g n ≡ both n
  are_both a b n = of_number n.0 where
    of_number : (k : ℕ) → is_written g (node_number k) ≡ below_two k
    of_number zero = ap (λ o. option_case o false (λ node. not (is_import node.kind))) is_0 ∙ a
    of_number (suc zero) = ap (λ o. option_case o false (λ node. not (is_import node.kind))) is_1 ∙ b
    of_number (suc (suc k)) = ap (λ o. option_case o false (λ node. not (is_import node.kind))) (more k)

lower_1 : (m : ℕ) → m < 1 → without both (node_number 0) (node_number m) ≡ true → ⊥
lower_1 zero _ left = clash left refl
lower_1 (suc m) small _ = not_below_1 m small

none_of_both : (m : NodeId) → without (without both (node_number 0)) (node_number 1) m ≡ false
none_of_both m = of_number m.0 where
  of_number : (k : ℕ) → without (without both (node_number 0)) (node_number 1) (node_number k) ≡ false
  of_number zero = refl
  of_number (suc zero) = refl
  of_number (suc (suc k)) = refl

-- the nodes stand at their own numbers
in_two : (i : ℕ) (n : NodeId) → slice_get two_nodes i ≡ Some n → (i ≡ n.0) × (i < 2)
in_two zero n h = (one_number (node_number 0) n h, omega arith)
in_two (suc zero) n h = (one_number (node_number 1) n h, omega arith)
in_two (suc (suc i)) n h = absurd (no_node h)

-- two instances of the first package: its component is there once
abbrev twice_entries : List (ℕ × GraphNode)
twice_entries = (0, instance_of_first) ∷ (1, instance_of_first) ∷ []

abbrev twice_graph : Graph
twice_graph = record readme_graph { nodes = finite.from_entries twice_entries; next = 2; edges = set.from_list [] }

abbrev twice : List Item
twice = nested preamble ∷ instantiate 0 [] ∷ instantiate 0 [] ∷ []

twice_are : (n : ℕ) → node_at twice_graph (node_number n) ≡ find nat_cmp n twice_entries
twice_are n = finite.get-from_entries nat_cmp_total twice_entries n

-- the nodes by number
twice_0 : node_at twice_graph (node_number 0) ≡ Some instance_of_first
twice_0 = twice_are 0

twice_1 : node_at twice_graph (node_number 1) ≡ Some instance_of_first
twice_1 = twice_are 1

twice_more : (n : ℕ) → node_at twice_graph (node_number (suc (suc n))) ≡ None
twice_more n =
    let a : eq_by_cmp nat_cmp (suc (suc n)) 0 ≡ false = grind (arith, nat_tests) in
    let b : eq_by_cmp nat_cmp (suc (suc n)) 1 ≡ false = grind (arith, nat_tests) in
    twice_are (suc (suc n)) ∙ rw (a, b) refl

by_twice : (P : NodeId → GraphNode → Type 0) → P (node_number 0) instance_of_first → P (node_number 1) instance_of_first → (n : NodeId) (node : GraphNode) → node_at twice_graph n ≡ Some node → P n node
by_twice = by_two twice_graph instance_of_first instance_of_first twice_0 twice_1 twice_more

-- there are no edges
twice_no_edge : (e : Edge) → set.contains twice_graph.edges e ≡ true → ⊥
twice_no_edge e stands = clash stands (set.contains-from_list edge_cmp_total [] e)

-- both nodes are instances
twice_instantiations : instantiations twice_graph two_nodes ≡ two_nodes
twice_instantiations = rw (twice_0, twice_1) refl

-- one package is used
twice_packages : used_packages twice_graph two_nodes ≡ first ∷ []
twice_packages = ap (used_after twice_graph []) twice_instantiations ∙ rw (twice_0, twice_1) refl

-- by number, as no edge leads to either
pub twice_in_order : Writes twice_graph.edges (is_written twice_graph) two_nodes
twice_in_order = Writes-same twice_graph.edges both (is_written twice_graph) (are_both twice_graph instance_of_first instance_of_first twice_0 twice_1 twice_more refl refl) two_nodes (
  record { here = refl; free = λ e stands _. absurd (twice_no_edge e stands); lower = λ m small _. absurd (not_below_0 m.0 small) },
  (record { here = refl; free = λ e stands _. absurd (twice_no_edge e stands); lower = λ m small left. absurd (lower_1 m.0 small left) }, none_of_both),
)

abbrev twice_at : NodeId → Thing
twice_at n = instance_at n.0

abbrev twice_index : NodeId → ℕ
twice_index n = n.0

abbrev twice_place : NodeId → ℕ
twice_place n = suc n.0

twice_imports : AreOuterImports twice_graph (meaning twice).imports
twice_imports = no_imports twice_graph (asked_none twice_graph plain all) where
  plain : IsPlain twice_graph
  plain = by_twice (λ n node. (node.kind ≡ graph.instantiation) ⊎ (node.kind ≡ graph.alias)) (inl refl) (inl refl)

  all : AllSet twice_graph
  all = by_twice (λ n node. node.kind ≡ graph.instantiation → (i : ℕ) → i < length (imports_of twice_graph node) → IsSatisfied twice_graph n i) (λ _ i small. absurd (not_below_0 i small)) (λ _ i small. absurd (not_below_0 i small))

twice_instances : AreInstantiations twice_graph defining 0 twice_at two_nodes (instantiations twice_graph two_nodes) (meaning twice).instantiations
twice_instances = subst (λ ns. AreInstantiations twice_graph defining 0 twice_at two_nodes ns (meaning twice).instantiations) (sym twice_instantiations) (
  record { node = instance_of_first; there = twice_0; owner = first; owned = refl; place = 0; used = ap (λ ps. slice_get ps 0) twice_packages; component = refl; arguments = tt },
  (record { node = instance_of_first; there = twice_1; owner = first; owned = refl; place = 0; used = ap (λ ps. slice_get ps 0) twice_packages; component = refl; arguments = tt }, tt),
)

twice_in_place : (i j : ℕ) (n m : NodeId) → i < j → slice_get two_nodes i ≡ Some n → slice_get two_nodes j ≡ Some m → suc n.0 < suc m.0
twice_in_place i j n m less first_is second_is =
    let (a, _) = in_two i n first_is in
    let (b, _) = in_two j m second_is in
    omega (arith, less, a, b)

-- the items mean the graph: each instance is one of its own
pub twice_means : Means twice twice_graph defining
twice_means = record {
  order = two_nodes;
  in_order = twice_in_order;
  at = twice_at;
  index = twice_index;
  meant = (tt, ((tt, tt), ((tt, tt), tt)));
  classes = [];
  outer = twice_imports;
  imports = refl;
  components = ap (map (package_bytes twice_graph)) (sym twice_packages);
  instances = twice_instances;
  things = by_twice (λ n node. IsThing twice_graph [] (outer_bindings twice_graph twice_imports.order) twice_at two_nodes n node)
      (as_instantiation 0 refl (ap (λ ns. slice_get ns 0) twice_instantiations) refl)
      (as_instantiation 1 refl (ap (λ ns. slice_get ns 1) twice_instantiations) refl);
  stand = by_twice (λ n node. stands_for (meaning twice) (sort_of_kind node.item_kind) (twice_index n) ≡ twice_at n) refl refl;
  exports = rw (twice_0, twice_1) refl;
  place = twice_place;
  own_items = λ n node there. by_twice (λ k x. HasItem twice x (twice_index k) (twice_place k))
      (record { it = instantiate 0 []; before = nested preamble ∷ []; after = instantiate 0 [] ∷ []; split = refl; here = refl; own = refl; adds = refl; counted = refl })
      (record { it = instantiate 0 []; before = nested preamble ∷ instantiate 0 [] ∷ []; after = []; split = refl; here = refl; own = refl; adds = refl; counted = refl })
      n node there;
  in_place = twice_in_place;
  names = [];
  named = no_names twice_graph twice_index (by_twice (λ _ node. node.name ≡ None) refl refl);
  customs = refl;
  body = twice;
  last = refl;
}

-- an instance of the first package, and its alias `a`, exported as `x`
abbrev exported_alias : GraphNode
exported_alias = record alias_of_first { export_name = Some (120 ∷ []) }

abbrev exporting_entries : List (ℕ × GraphNode)
exporting_entries = (0, instance_of_first) ∷ (1, exported_alias) ∷ []

abbrev exporting_graph : Graph
exporting_graph = record readme_graph { nodes = finite.from_entries exporting_entries; next = 2; edges = set.from_list (alias_edge (node_number 0) (node_number 1) 0 ∷ []); exports = (120 ∷ [], node_number 1) ∷ [] }

abbrev exporting_body : List Item
exporting_body = nested preamble ∷ instantiate 0 [] ∷ alias_item (export_alias s.Func 0 (97 ∷ [])) ∷ []

abbrev exporting : List Item
exporting = nested preamble ∷ instantiate 0 [] ∷ alias_item (export_alias s.Func 0 (97 ∷ [])) ∷ export_item (120 ∷ []) s.Func 0 ∷ []

exporting_are : (n : ℕ) → node_at exporting_graph (node_number n) ≡ find nat_cmp n exporting_entries
exporting_are n = finite.get-from_entries nat_cmp_total exporting_entries n

-- the nodes by number
exporting_0 : node_at exporting_graph (node_number 0) ≡ Some instance_of_first
exporting_0 = exporting_are 0

exporting_1 : node_at exporting_graph (node_number 1) ≡ Some exported_alias
exporting_1 = exporting_are 1

exporting_more : (n : ℕ) → node_at exporting_graph (node_number (suc (suc n))) ≡ None
exporting_more n =
    let a : eq_by_cmp nat_cmp (suc (suc n)) 0 ≡ false = grind (arith, nat_tests) in
    let b : eq_by_cmp nat_cmp (suc (suc n)) 1 ≡ false = grind (arith, nat_tests) in
    exporting_are (suc (suc n)) ∙ rw (a, b) refl

by_exporting : (P : NodeId → GraphNode → Type 0) → P (node_number 0) instance_of_first → P (node_number 1) exported_alias → (n : NodeId) (node : GraphNode) → node_at exporting_graph n ≡ Some node → P n node
by_exporting = by_two exporting_graph instance_of_first exported_alias exporting_0 exporting_1 exporting_more

or_false : (b : Bool) → (b || false) ≡ true → b ≡ true
or_false true h = refl
or_false false h = h

-- there is one edge
exporting_edge : (e : Edge) → set.contains exporting_graph.edges e ≡ true → e ≡ alias_edge (node_number 0) (node_number 1) 0
exporting_edge e stands = exact_edges e (alias_edge (node_number 0) (node_number 1) 0) (or_false (eq_by_cmp edge_cmp e (alias_edge (node_number 0) (node_number 1) 0)) (sym (set.contains-from_list edge_cmp_total (alias_edge (node_number 0) (node_number 1) 0 ∷ []) e) ∙ stands))

exporting_stands : set.contains exporting_graph.edges (alias_edge (node_number 0) (node_number 1) 0) ≡ true
exporting_stands = set.contains-from_list edge_cmp_total (alias_edge (node_number 0) (node_number 1) 0 ∷ []) (alias_edge (node_number 0) (node_number 1) 0)

-- one node is an instance
exporting_instantiations : instantiations exporting_graph two_nodes ≡ node_number 0 ∷ []
exporting_instantiations = rw (exporting_0, exporting_1) refl

-- its package is used
exporting_packages : used_packages exporting_graph two_nodes ≡ first ∷ []
exporting_packages = ap (used_after exporting_graph []) exporting_instantiations ∙ rw exporting_0 refl

-- the instance before its alias
pub exporting_in_order : Writes exporting_graph.edges (is_written exporting_graph) two_nodes
exporting_in_order = Writes-same exporting_graph.edges both (is_written exporting_graph) (are_both exporting_graph instance_of_first exported_alias exporting_0 exporting_1 exporting_more refl refl) two_nodes (
  record { here = refl; free = λ e stands leads. absurd (elsewhere e (alias_edge (node_number 0) (node_number 1) 0) (node_number 0) (exporting_edge e stands) leads refl); lower = λ m small _. absurd (not_below_0 m.0 small) },
  (record { here = refl; free = λ e stands _. ap (λ (x : Edge). without both (node_number 0) x.source) (exporting_edge e stands); lower = λ m small left. absurd (lower_1 m.0 small left) }, none_of_both),
)

exporting_imports : AreOuterImports exporting_graph (meaning exporting).imports
exporting_imports = no_imports exporting_graph (asked_none exporting_graph plain all) where
  plain : IsPlain exporting_graph
  plain = by_exporting (λ n node. (node.kind ≡ graph.instantiation) ⊎ (node.kind ≡ graph.alias)) (inl refl) (inr refl)

  all : AllSet exporting_graph
  all = by_exporting (λ n node. node.kind ≡ graph.instantiation → (i : ℕ) → i < length (imports_of exporting_graph node) → IsSatisfied exporting_graph n i) (λ _ i small. absurd (not_below_0 i small)) (λ wrong. absurd (alias_differs wrong))

exporting_instances : AreInstantiations exporting_graph defining 0 readme_at two_nodes (instantiations exporting_graph two_nodes) (meaning exporting).instantiations
exporting_instances = subst (λ ns. AreInstantiations exporting_graph defining 0 readme_at two_nodes ns (meaning exporting).instantiations) (sym exporting_instantiations) (
  record { node = instance_of_first; there = exporting_0; owner = first; owned = refl; place = 0; used = ap (λ ps. slice_get ps 0) exporting_packages; component = refl; arguments = tt },
  tt,
)

exporting_in_place : (i j : ℕ) (n m : NodeId) → i < j → slice_get two_nodes i ≡ Some n → slice_get two_nodes j ≡ Some m → readme_place n < readme_place m
exporting_in_place i j n m less first_is second_is =
    let (a, _) = in_two i n first_is in
    let (b, small) = in_two j m second_is in
    subst (λ k. place_of k < readme_place m) a (subst (λ k. place_of i < place_of k) b (rises i j less (omega (arith, small))))

-- what is exported is the alias
-- no export is a definition's
exporting_further : further_exports exporting_graph ≡ exporting_graph.exports
exporting_further = rw exporting_1 refl

exporting_first : flat_map (first_export exporting_graph readme_at) two_nodes ≡ []
exporting_first = rw (exporting_0, exporting_1) refl

exporting_exports : map shown (meaning exporting).exports ≡ flat_map (first_export exporting_graph readme_at) two_nodes ++ flat_map (export_of exporting_graph readme_at) (further_exports exporting_graph)
exporting_exports =
    sym (ap (λ (o : Option GraphNode). option_case o [] (λ node. (120 ∷ [], sort_of_kind node.item_kind, projection (instance_at 0) (97 ∷ [])) ∷ []) ++ []) exporting_1)
    ∙ ap (flat_map (export_of exporting_graph readme_at)) (sym exporting_further)
    ∙ ap (λ xs. xs ++ flat_map (export_of exporting_graph readme_at) (further_exports exporting_graph)) (sym exporting_first)

-- the export comes last
exporting_last : exporting ≡ exporting_body ++ flat_map (export_item_of exporting_graph readme_index) (further_exports exporting_graph) ++ map custom_item (meaning exporting).customs
exporting_last =
    sym (ap (λ (o : Option GraphNode). exporting_body ++ (option_case o [] (λ node. export_item (120 ∷ []) (sort_of_kind node.item_kind) 0 ∷ []) ++ [])) exporting_1)
    ∙ ap (λ es. exporting_body ++ flat_map (export_item_of exporting_graph readme_index) es) (sym exporting_further)
    ∙ sym (append-nil (exporting_body ++ flat_map (export_item_of exporting_graph readme_index) (further_exports exporting_graph)))

-- the items mean the graph
pub exporting_means : Means exporting exporting_graph defining
exporting_means = record {
  order = two_nodes;
  in_order = exporting_in_order;
  at = readme_at;
  index = readme_index;
  meant = (tt, ((tt, tt), ((tt, tt), ((refl, tt), tt))));
  classes = [];
  outer = exporting_imports;
  imports = refl;
  components = ap (map (package_bytes exporting_graph)) (sym exporting_packages);
  instances = exporting_instances;
  things = by_exporting (λ n node. IsThing exporting_graph [] (outer_bindings exporting_graph exporting_imports.order) readme_at two_nodes n node)
      (as_instantiation 0 refl (ap (λ ns. slice_get ns 0) exporting_instantiations) refl)
      (as_alias (node_number 0) instance_of_first 0 (97 ∷ []) refl exporting_stands exporting_0 refl refl);
  stand = by_exporting (λ n node. stands_for (meaning exporting) (sort_of_kind node.item_kind) (readme_index n) ≡ readme_at n) refl refl;
  exports = exporting_exports;
  place = readme_place;
  own_items = λ n node there. by_exporting (λ k x. HasItem exporting x (readme_index k) (readme_place k))
      (record { it = instantiate 0 []; before = nested preamble ∷ []; after = alias_item (export_alias s.Func 0 (97 ∷ [])) ∷ export_item (120 ∷ []) s.Func 0 ∷ []; split = refl; here = refl; own = refl; adds = refl; counted = refl })
      (record { it = alias_item (export_alias s.Func 0 (97 ∷ [])); before = nested preamble ∷ instantiate 0 [] ∷ []; after = export_item (120 ∷ []) s.Func 0 ∷ []; split = refl; here = refl; own = refl; adds = refl; counted = refl })
      n node there;
  in_place = exporting_in_place;
  names = [];
  named = no_names exporting_graph readme_index (by_exporting (λ _ node. node.name ≡ None) refl refl);
  customs = refl;
  body = exporting_body;
  last = exporting_last;
}

-- A worked example: two instances of one package, of each of which an alias is given to an instance of another and exported.
use Rattle.std.proofs.Common.{◌≡◌, ℕ, zero, suc, ◌+◌, ◌<◌, ◌≤◌, true, false, not, List, [], ◌∷◌, ◌++◌, length, take, drop, map, Some, None, codes, refl, ap, sym, ◌∙◌, subst, arith, ◌⊎◌, inl, inr}
use Rattle.std.specs.FinMap as finite
use Rattle.std.specs.FinMap.{find}
use Rattle.std.specs.FinSet as set
use Rattle.std.specs.List.{flat_map, list_any}
use Rattle.std.specs.Ordering.{nat_cmp, eq_by_cmp}
use Rattle.std.specs.Cmp.{nat_cmp_total}
use Rattle.std.specs.Prelude.{slice_get}
use Rattle.std.proofs.lemmas.Bool.Decides.{nat_tests}
use Rattle.std.proofs.lemmas.List.{append-nil}
use Rattle.wac_types_shapes.specs.primitives.Name.{Name, option_case}
use Rattle.wac_types_collection.specs.collection.Collection.{Collection}
use Rattle.wac_types_shapes.specs.declared.shapes.component.ItemKind.{ItemKind}
use Rattle.wac_types_collection.specs.collection.Bound.{Bindings}
use Rattle.wac_binary.specs.declared.sorts.Sort.TheVariants as s
use Rattle.wac_binary.specs.Bytes.{preamble}
use Rattle.wac_binary.specs.Items.{Item, nested, instantiate, alias_item, export_alias, export_item}
use Rattle.wac_binary.specs.Meaning.{meaning, projection, instance_at, stands_for, Thing}
use Rattle.wac_edges.specs.declared.edges.Edge.{Edge}
use Rattle.wac_edges.specs.declared.node.NodeId.{NodeId}
use Rattle.wac_edges.specs.Edge.{edge_cmp, alias_edge, argument_edge, node_number}
use Rattle.wac_graph_model.specs.nodes.Graph as graph
use Rattle.wac_graph_model.specs.nodes.Graph.{Graph, GraphNode, node_at, imports_of, IsSatisfied}
use Rattle.wac_edges.specs.Order.{Writes}
use Rattle.wac_graph_model.specs.nodes.OuterImports.{AreOuterImports, outer_bindings}
use Rattle.wac_graph_model.specs.meaning.Means.{Means, is_import, is_written, instantiations, used_after, used_packages, package_bytes, sort_of_kind, AreInstantiations, IsThing, as_instantiation, as_alias, given, HasItem, shown, export_of, export_item_of, first_export, further_exports, custom_item}
use Rattle.wac_graph_model.proofs.lemmas.meaning.ThingLemmas.{IsPlain}
use Rattle.wac_graph_model.proofs.lemmas.meaning.AskedLemmas.{AllSet, no_imports, asked_none}
use Rattle.wac_graph_tests.proofs.lemmas.examples.Ordered.{edge_cmp_total, by_edge, by_number, Range}
use Rattle.wac_graph_tests.proofs.lemmas.examples.Rows.{defining, of_function, first, second, instance_of_first, alias_of_first, instance_of_second}
use Rattle.wac_graph_model.proofs.lemmas.meaning.DefinedLemmas.{no_names}

-- ---- the graph
-- the first package exports the functions `a` and `b`, the second imports the functions `x` and `y`
abbrev both_functions : List (Name × ItemKind)
both_functions = (codes "a", of_function) ∷ (codes "b", of_function) ∷ []

abbrev types : Collection
types = record {
  resources = [];
  defined = [];
  modules = [];
  funcs = record { item = record { params = []; result = None; is_async = false }; before = 0 } ∷ [];
  interfaces = record { item = record { id = None; uses = []; exports = both_functions }; before = 2 } ∷ record { item = record { id = None; uses = []; exports = [] }; before = 4 } ∷ [];
  worlds = record { item = record { id = None; uses = []; imports = []; exports = both_functions }; before = 1 } ∷ record { item = record { id = None; uses = []; imports = (codes "x", of_function) ∷ (codes "y", of_function) ∷ []; exports = [] }; before = 3 } ∷ [];
}

-- the bytes of the two packages: that without items, and that with an empty custom section without a name
abbrev pub first_bytes : List ℕ
first_bytes = preamble

abbrev pub second_bytes : List ℕ
second_bytes = preamble ++ 0 ∷ 1 ∷ 0 ∷ []

abbrev entries : List (ℕ × GraphNode)
entries = (0, instance_of_first) ∷ (1, instance_of_first) ∷ (2, alias_of_first) ∷ (3, alias_of_first) ∷ (4, instance_of_second) ∷ []

abbrev pub edge_list : List Edge
edge_list = alias_edge (node_number 0) (node_number 2) 0 ∷ alias_edge (node_number 1) (node_number 3) 0 ∷ argument_edge (node_number 2) (node_number 4) 0 ∷ argument_edge (node_number 3) (node_number 4) 1 ∷ []

-- two instances of the first package, an alias of the `a` of each, an instance of the second, to which these are given as
-- `x` and `y`; they are exported as `p` and `q`
abbrev pub twins : Graph
twins = record {
  types = types;
  nodes = finite.from_entries entries;
  next = 5;
  edges = set.from_list edge_list;
  exports = (codes "p", node_number 2) ∷ (codes "q", node_number 3) ∷ [];
  slots =
      record { generation = 0; «package» = Some (record { name = codes "one"; version = None; bytes = first_bytes; world = record { 0 = 0 }; instance_type = record { 0 = 0 } }) }
      ∷ record { generation = 0; «package» = Some (record { name = codes "two"; version = None; bytes = second_bytes; world = record { 0 = 1 }; instance_type = record { 0 = 1 } }) } ∷ [];
  vacant = [];
}

-- ---- the items that mean it
-- the alias of an instance's export
abbrev pub alias_of : ℕ → Name → Item
alias_of instance name = alias_item (export_alias s.Func instance name)

-- an instance of a component with two functions for `x` and `y`
abbrev pub given_both : ℕ → ℕ → ℕ → Item
given_both component x y = instantiate component ((codes "x", s.Func, x) ∷ (codes "y", s.Func, y) ∷ [])

abbrev pub exported : Name → ℕ → Item
exported name i = export_item name s.Func i

abbrev body : List Item
body = nested first_bytes ∷ instantiate 0 [] ∷ instantiate 0 [] ∷ alias_of 0 (codes "a") ∷ alias_of 1 (codes "a") ∷ nested second_bytes ∷ given_both 1 0 1 ∷ []

abbrev pub right : List Item
right = nested first_bytes ∷ instantiate 0 [] ∷ instantiate 0 [] ∷ alias_of 0 (codes "a") ∷ alias_of 1 (codes "a") ∷ nested second_bytes ∷ given_both 1 0 1 ∷ exported (codes "p") 0 ∷ exported (codes "q") 1 ∷ []

-- ---- the nodes by number
nodes_are : (n : ℕ) → node_at twins (node_number n) ≡ find nat_cmp n entries
nodes_are n = finite.get-from_entries nat_cmp_total entries n

pub node_0 : node_at twins (node_number 0) ≡ Some instance_of_first
node_0 = nodes_are 0

pub node_1 : node_at twins (node_number 1) ≡ Some instance_of_first
node_1 = nodes_are 1

pub node_2 : node_at twins (node_number 2) ≡ Some alias_of_first
node_2 = nodes_are 2

pub node_3 : node_at twins (node_number 3) ≡ Some alias_of_first
node_3 = nodes_are 3

pub node_4 : node_at twins (node_number 4) ≡ Some instance_of_second
node_4 = nodes_are 4

no_more : (n : ℕ) → node_at twins (node_number (suc (suc (suc (suc (suc n)))))) ≡ None
no_more n =
    let m : ℕ = suc (suc (suc (suc (suc n)))) in
    let a : eq_by_cmp nat_cmp m 0 ≡ false = grind (arith, nat_tests) in
    let b : eq_by_cmp nat_cmp m 1 ≡ false = grind (arith, nat_tests) in
    let c : eq_by_cmp nat_cmp m 2 ≡ false = grind (arith, nat_tests) in
    let d : eq_by_cmp nat_cmp m 3 ≡ false = grind (arith, nat_tests) in
    let e : eq_by_cmp nat_cmp m 4 ≡ false = grind (arith, nat_tests) in
    nodes_are m ∙ rw (a, b, c, d, e) refl

some_same : {x y : GraphNode} → Some x ≡ Some y → x ≡ y
some_same e = cc

none_some : {x : GraphNode} → None ≡ Some x → ⊥
none_some e = cc

-- what holds of the five nodes holds of each
by_node : (P : NodeId → GraphNode → Type 0) → P (node_number 0) instance_of_first → P (node_number 1) instance_of_first → P (node_number 2) alias_of_first → P (node_number 3) alias_of_first → P (node_number 4) instance_of_second
    → (n : NodeId) (node : GraphNode) → node_at twins n ≡ Some node → P n node
by_node P a b c d e n node is = of_number n.0 node is where
  of_number : (k : ℕ) (x : GraphNode) → node_at twins (node_number k) ≡ Some x → P (node_number k) x
  of_number zero x is = subst (P (node_number 0)) (some_same (sym node_0 ∙ is)) a
  of_number (suc zero) x is = subst (P (node_number 1)) (some_same (sym node_1 ∙ is)) b
  of_number (suc (suc zero)) x is = subst (P (node_number 2)) (some_same (sym node_2 ∙ is)) c
  of_number (suc (suc (suc zero))) x is = subst (P (node_number 3)) (some_same (sym node_3 ∙ is)) d
  of_number (suc (suc (suc (suc zero)))) x is = subst (P (node_number 4)) (some_same (sym node_4 ∙ is)) e
  of_number (suc (suc (suc (suc (suc k))))) x is = absurd (none_some (sym (no_more k) ∙ is))

-- ---- the order
abbrev pub by_their_numbers : List NodeId
by_their_numbers = node_number 0 ∷ node_number 1 ∷ node_number 2 ∷ node_number 3 ∷ node_number 4 ∷ []

is_there : (n : NodeId) (node : GraphNode) → node_at twins n ≡ Some node → not (is_import node.kind) ≡ true → is_written twins n ≡ true
is_there n node is kept = ap (λ o. option_case o false (λ x. not (is_import x.kind))) is ∙ kept

are_five : Range (is_written twins) 0 5
are_five = record { below = λ m small. absurd (omega arith); within = λ m _ small. within m.0 small; above = λ m from. above m.0 from } where
  within : (m : ℕ) → m < 0 + 5 → is_written twins (node_number m) ≡ true
  within zero _ = is_there (node_number 0) instance_of_first node_0 refl
  within (suc zero) _ = is_there (node_number 1) instance_of_first node_1 refl
  within (suc (suc zero)) _ = is_there (node_number 2) alias_of_first node_2 refl
  within (suc (suc (suc zero))) _ = is_there (node_number 3) alias_of_first node_3 refl
  within (suc (suc (suc (suc zero)))) _ = is_there (node_number 4) instance_of_second node_4 refl
  within (suc (suc (suc (suc (suc m))))) small = absurd (omega arith)

  above : (m : ℕ) → 0 + 5 ≤ m → is_written twins (node_number m) ≡ false
  above zero from = absurd (omega arith)
  above (suc zero) from = absurd (omega arith)
  above (suc (suc zero)) from = absurd (omega arith)
  above (suc (suc (suc zero))) from = absurd (omega arith)
  above (suc (suc (suc (suc zero)))) from = absurd (omega arith)
  above (suc (suc (suc (suc (suc m))))) _ = ap (λ o. option_case o false (λ node. not (is_import node.kind))) (no_more m)

-- edges lead to higher numbers, so the order is that of the numbers
pub twins_in_order : Writes twins.edges (is_written twins) by_their_numbers
twins_in_order = by_number twins.edges (by_edge (λ e. e.source.0 < e.target.0) edge_list (omega arith, (omega arith, (omega arith, (omega arith, tt))))) 0 5 (is_written twins) are_five

-- an edge of the list stands in the graph
pub stands : (e : Edge) → list_any (eq_by_cmp edge_cmp e) edge_list ≡ true → set.contains twins.edges e ≡ true
stands e is = set.contains-from_list edge_cmp_total edge_list e ∙ is

-- three nodes are instances
pub twins_instantiations : instantiations twins by_their_numbers ≡ node_number 0 ∷ node_number 1 ∷ node_number 4 ∷ []
twins_instantiations = rw (node_0, node_1, node_2, node_3, node_4) refl

-- both packages are used, in this order
pub twins_packages : used_packages twins by_their_numbers ≡ first ∷ second ∷ []
twins_packages = ap (used_after twins []) twins_instantiations ∙ rw (node_0, node_1, node_4) refl

-- ---- what each node stands for, its index and the place of its item
abbrev thing_of : ℕ → Thing
thing_of zero = instance_at 0
thing_of (suc zero) = instance_at 1
thing_of (suc (suc zero)) = projection (instance_at 0) (codes "a")
thing_of (suc (suc (suc zero))) = projection (instance_at 1) (codes "a")
thing_of (suc (suc (suc (suc k)))) = instance_at 2

abbrev pub twins_at : NodeId → Thing
twins_at n = thing_of n.0

abbrev index_of : ℕ → ℕ
index_of zero = 0
index_of (suc zero) = 1
index_of (suc (suc zero)) = 0
index_of (suc (suc (suc zero))) = 1
index_of (suc (suc (suc (suc k)))) = 2

abbrev twins_index : NodeId → ℕ
twins_index n = index_of n.0

abbrev place_of : ℕ → ℕ
place_of zero = 1
place_of (suc zero) = 2
place_of (suc (suc zero)) = 3
place_of (suc (suc (suc zero))) = 4
place_of (suc (suc (suc (suc k)))) = suc (suc (suc (suc (suc (suc k)))))

abbrev twins_place : NodeId → ℕ
twins_place n = place_of n.0

differ : graph.alias ≡ graph.instantiation → ⊥
differ h = cc

no_import : (i : ℕ) → i < 0 → ⊥
no_import i h = omega arith

-- nothing is asked for
twins_imports : AreOuterImports twins []
twins_imports = no_imports twins (asked_none twins plain all) where
  plain : IsPlain twins
  plain = by_node (λ n node. (node.kind ≡ graph.instantiation) ⊎ (node.kind ≡ graph.alias)) (inl refl) (inl refl) (inr refl) (inr refl) (inl refl)

  of_second : (i : ℕ) → i < 2 → IsSatisfied twins (node_number 4) i
  of_second zero _ = (node_number 2, stands (argument_edge (node_number 2) (node_number 4) 0) refl)
  of_second (suc zero) _ = (node_number 3, stands (argument_edge (node_number 3) (node_number 4) 1) refl)
  of_second (suc (suc i)) small = absurd (omega arith)

  all : AllSet twins
  all = by_node (λ n node. node.kind ≡ graph.instantiation → (i : ℕ) → i < length (imports_of twins node) → IsSatisfied twins n i)
      (λ _ i small. absurd (no_import i small))
      (λ _ i small. absurd (no_import i small))
      (λ wrong. absurd (differ wrong))
      (λ wrong. absurd (differ wrong))
      (λ _ i small. of_second i small)

-- the three instantiations, the last with the aliases as `x` and `y`
twins_instances : AreInstantiations twins defining 0 twins_at by_their_numbers (instantiations twins by_their_numbers) (meaning right).instantiations
twins_instances = subst (λ ns. AreInstantiations twins defining 0 twins_at by_their_numbers ns (meaning right).instantiations) (sym twins_instantiations) (
  record { node = instance_of_first; there = node_0; owner = first; owned = refl; place = 0; used = ap (λ ps. slice_get ps 0) twins_packages; component = refl; arguments = tt },
  (
    record { node = instance_of_first; there = node_1; owner = first; owned = refl; place = 0; used = ap (λ ps. slice_get ps 0) twins_packages; component = refl; arguments = tt },
    (record { node = instance_of_second; there = node_4; owner = second; owned = refl; place = 1; used = ap (λ ps. slice_get ps 1) twins_packages; component = refl; arguments = (refl, given (node_number 2) alias_of_first (stands (argument_edge (node_number 2) (node_number 4) 0) refl) node_2, (refl, given (node_number 3) alias_of_first (stands (argument_edge (node_number 3) (node_number 4) 1) refl) node_3, tt)) }, tt),
  ),
)

twins_things : (m : Bindings) (n : NodeId) (node : GraphNode) → node_at twins n ≡ Some node → IsThing twins [] m twins_at by_their_numbers n node
twins_things m = by_node (λ n node. IsThing twins [] m twins_at by_their_numbers n node)
    (as_instantiation 0 refl (ap (λ ns. slice_get ns 0) twins_instantiations) refl)
    (as_instantiation 1 refl (ap (λ ns. slice_get ns 1) twins_instantiations) refl)
    (as_alias (node_number 0) instance_of_first 0 (codes "a") refl (stands (alias_edge (node_number 0) (node_number 2) 0) refl) node_0 refl refl)
    (as_alias (node_number 1) instance_of_first 0 (codes "a") refl (stands (alias_edge (node_number 1) (node_number 3) 0) refl) node_1 refl refl)
    (as_instantiation 2 refl (ap (λ ns. slice_get ns 2) twins_instantiations) refl)

-- the items of the nodes
twins_items : (n : NodeId) (node : GraphNode) → node_at twins n ≡ Some node → HasItem right node (twins_index n) (twins_place n)
twins_items = by_node (λ n node. HasItem right node (twins_index n) (twins_place n))
    (record { it = instantiate 0 []; before = take 1 right; after = drop 2 right; split = refl; here = refl; own = refl; adds = refl; counted = refl })
    (record { it = instantiate 0 []; before = take 2 right; after = drop 3 right; split = refl; here = refl; own = refl; adds = refl; counted = refl })
    (record { it = alias_of 0 (codes "a"); before = take 3 right; after = drop 4 right; split = refl; here = refl; own = refl; adds = refl; counted = refl })
    (record { it = alias_of 1 (codes "a"); before = take 4 right; after = drop 5 right; split = refl; here = refl; own = refl; adds = refl; counted = refl })
    (record { it = given_both 1 0 1; before = take 6 right; after = drop 7 right; split = refl; here = refl; own = refl; adds = refl; counted = refl })

one_number : (x y : NodeId) → Some x ≡ Some y → x.0 ≡ y.0
one_number x y e = let same : x ≡ y = cc in ap (λ (n : NodeId). n.0) same

-- a node stands at its own number
in_numbers : (i : ℕ) (n : NodeId) → slice_get by_their_numbers i ≡ Some n → (i ≡ n.0) × (n.0 < 5)
in_numbers zero n h = let e : 0 ≡ n.0 = one_number (node_number 0) n h in (e, omega (arith, e))
in_numbers (suc zero) n h = let e : 1 ≡ n.0 = one_number (node_number 1) n h in (e, omega (arith, e))
in_numbers (suc (suc zero)) n h = let e : 2 ≡ n.0 = one_number (node_number 2) n h in (e, omega (arith, e))
in_numbers (suc (suc (suc zero))) n h = let e : 3 ≡ n.0 = one_number (node_number 3) n h in (e, omega (arith, e))
in_numbers (suc (suc (suc (suc zero)))) n h = let e : 4 ≡ n.0 = one_number (node_number 4) n h in (e, omega (arith, e))
in_numbers (suc (suc (suc (suc (suc i))))) n h = let none : None ≡ Some n = h in absurd (cc)

-- only the component of the second package stands between the items of nodes
place_before : (n : ℕ) → n < 4 → place_of n ≡ suc n
place_before zero _ = refl
place_before (suc zero) _ = refl
place_before (suc (suc zero)) _ = refl
place_before (suc (suc (suc zero))) _ = refl
place_before (suc (suc (suc (suc n)))) small = absurd (omega arith)

place_behind : (n : ℕ) → suc n ≤ place_of n
place_behind zero = omega arith
place_behind (suc zero) = omega arith
place_behind (suc (suc zero)) = omega arith
place_behind (suc (suc (suc zero))) = omega arith
place_behind (suc (suc (suc (suc n)))) = omega arith

-- the items stand in the order of the nodes
twins_in_place : (i j : ℕ) (n m : NodeId) → i < j → slice_get by_their_numbers i ≡ Some n → slice_get by_their_numbers j ≡ Some m → twins_place n < twins_place m
twins_in_place i j n m less first_is second_is =
    let (a, _) = in_numbers i n first_is in
    let (b, small) = in_numbers j m second_is in
    let early : n.0 < 4 = omega (arith, less, a, b, small) in
    omega (arith, less, a, b, place_before n.0 early, place_behind m.0)

-- what is exported is the two aliases
-- no export is a definition's
pub twins_further : further_exports twins ≡ twins.exports
twins_further = rw (node_2, node_3) refl

pub twins_first : (at : NodeId → Thing) → flat_map (first_export twins at) by_their_numbers ≡ []
twins_first at = rw (node_0, node_1, node_2, node_3, node_4) refl

twins_shown : map shown (meaning right).exports ≡ flat_map (export_of twins twins_at) twins.exports
twins_shown = rw (node_2, node_3) refl

twins_exports : map shown (meaning right).exports ≡ flat_map (first_export twins twins_at) by_their_numbers ++ flat_map (export_of twins twins_at) (further_exports twins)
twins_exports =
    twins_shown ∙ ap (flat_map (export_of twins twins_at)) (sym twins_further)
    ∙ ap (λ xs. xs ++ flat_map (export_of twins twins_at) (further_exports twins)) (sym (twins_first twins_at))

-- the exports come last
twins_written : right ≡ body ++ flat_map (export_item_of twins twins_index) twins.exports
twins_written = rw (node_2, node_3) refl

twins_last : right ≡ body ++ flat_map (export_item_of twins twins_index) (further_exports twins) ++ map custom_item (meaning right).customs
twins_last =
    twins_written ∙ ap (λ es. body ++ flat_map (export_item_of twins twins_index) es) (sym twins_further)
    ∙ sym (append-nil (body ++ flat_map (export_item_of twins twins_index) (further_exports twins)))

-- the items mean the graph
pub twins_mean : Means right twins defining
twins_mean = record {
  order = by_their_numbers;
  in_order = twins_in_order;
  at = twins_at;
  index = twins_index;
  meant = (tt, ((tt, tt), ((tt, tt), ((tt, tt), ((tt, tt), (tt, ((tt, (tt, (tt, tt))), ((refl, tt), ((refl, tt), tt)))))))));
  classes = [];
  outer = twins_imports;
  imports = refl;
  components = ap (map (package_bytes twins)) (sym twins_packages);
  instances = twins_instances;
  things = twins_things (outer_bindings twins twins_imports.order);
  stand = by_node (λ n node. stands_for (meaning right) (sort_of_kind node.item_kind) (twins_index n) ≡ twins_at n) refl refl refl refl refl;
  exports = twins_exports;
  place = twins_place;
  own_items = λ n node there. twins_items n node there;
  in_place = twins_in_place;
  names = [];
  named = no_names twins twins_index (by_node (λ _ node. node.name ≡ None) refl refl refl refl refl);
  customs = refl;
  body = body;
  last = twins_last;
}

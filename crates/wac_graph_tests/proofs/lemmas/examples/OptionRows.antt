-- Worked examples: a processor that is named, nodes that are named, packages that are imported, and definitions; beside each, items that
-- leave one thing out and mean nothing.
use Rattle.std.proofs.Common.{◌≡◌, ℕ, zero, suc, ◌<◌, Bool, true, false, not, List, [], ◌∷◌, ◌++◌, length, map, Some, None, codes, refl, ap, sym, ◌∙◌, subst, arith, ◌⊎◌, inl, ◌↔◌}
use Rattle.std.specs.FinMap as finite
use Rattle.std.specs.FinSet as set
use Rattle.std.specs.Ordering.{nat_cmp, eq_by_cmp}
use Rattle.std.proofs.lemmas.Bool.Decides.{nat_tests}
use Rattle.std.specs.Cmp.{nat_cmp_total}
use Rattle.std.specs.Prelude.{slice_get}
use Rattle.wac_types_shapes.specs.primitives.Name.{Name, option_case}
use Rattle.wac_types_collection.specs.collection.Collection.{empty}
use Rattle.wac_binary.specs.declared.sorts.Sort.{Sort}
use Rattle.wac_binary.specs.declared.sorts.Sort.TheVariants as s
use Rattle.wac_binary.specs.Bytes.{preamble}
use Rattle.wac_binary.specs.Customs as custom_section
use Rattle.wac_binary.specs.Customs.{of_sort, names_bytes, producers_bytes}
use Rattle.wac_binary.specs.Items.{Item, custom, nested, instantiate}
use Rattle.wac_binary.specs.Meaning.{meaning, instance_at, stands_for}
use Rattle.wac_edges.specs.declared.edges.Edge.{Edge}
use Rattle.wac_edges.specs.Order.{Writes, without}
use Rattle.wac_edges.specs.declared.node.NodeId.{NodeId}
use Rattle.wac_graph_model.specs.declared.nodes.options.EncodeOptions.{EncodeOptions}
use Rattle.wac_graph_model.specs.declared.nodes.options.Processor.{Processor}
use Rattle.wac_graph_model.specs.nodes.Graph as graph
use Rattle.wac_edges.specs.Edge.{node_number}
use Rattle.wac_graph_model.specs.nodes.Graph.{Graph, GraphNode, node_at, imports_of}
use Rattle.wac_graph_model.specs.nodes.OuterImports.{AreOuterImports, outer_bindings}
use Rattle.wac_graph_model.specs.meaning.Means.{Means, is_import, is_written, instantiations, used_after, used_packages, package_bytes, sort_of_kind, AreInstantiations, IsThing, as_instantiation, HasItem, name_customs, AreNames, IsNameOf}
use Rattle.wac_graph_model.proofs.lemmas.meaning.DefinedLemmas.{no_names}
use Rattle.wac_graph_model.proofs.lemmas.meaning.AskedLemmas.{AllSet, no_imports, asked_none}
use Rattle.std.proofs.Math.Path.{fun_ext}
use Rattle.wac_graph_tests.proofs.lemmas.examples.Ordered.{edge_cmp_total}
use Rattle.wac_graph_tests.proofs.lemmas.examples.Rows.{defining, first, instance_of_first, readme_graph}

some_same : {x y : GraphNode} → Some x ≡ Some y → x ≡ y
some_same e = cc

none_some : {A : Type 0} {x : A} → None ≡ Some x → ⊥
none_some e = cc

-- ---- a processor: it is named last, and nothing else is written of a graph without nodes
abbrev pub nothing : Graph
nothing = record { types = empty; nodes = finite.from_entries []; next = 0; edges = set.from_list []; exports = []; slots = []; vacant = [] }

nothing_there : (n : NodeId) → node_at nothing n ≡ None
nothing_there n = finite.get-from_entries nat_cmp_total [] n.0

-- what holds of nodes holds of those of a graph without any
by_none : {P : Type 0} (n : NodeId) (node : GraphNode) → node_at nothing n ≡ Some node → P
by_none n node there = absurd (none_some (sym (nothing_there n) ∙ there))

abbrev pub naming : Processor → EncodeOptions
naming p = record { define_components = true; validate = true; processor = Some p }

abbrev pub named_processor : Processor → List Item
named_processor p = custom custom_section.producers (producers_bytes p.name.now p.version.now) ∷ []

pub processor_means : (p : Processor) → Means (named_processor p) nothing (naming p)
processor_means p = record {
  order = [];
  in_order = λ m. ap (λ o. option_case o false (λ node. not (is_import node.kind))) (nothing_there m);
  at = λ n. instance_at n.0;
  index = λ n. n.0;
  meant = (tt, tt);
  classes = [];
  outer = no_imports nothing (asked_none nothing (λ n node there. by_none n node there) (λ n node there. by_none n node there));
  imports = refl;
  components = refl;
  instances = tt;
  things = λ n node there. by_none n node there;
  stand = λ n node there. by_none n node there;
  exports = refl;
  place = λ n. n.0;
  own_items = λ n node there. by_none n node there;
  in_place = λ i j n m _ here. absurd (none_some here);
  names = [];
  named = no_names nothing (λ n. n.0) (λ n node there. by_none n node there);
  customs = refl;
  body = [];
  last = refl;
}

-- items without it mean nothing where it is asked for
pub no_lost_processor : (p : Processor) → Means [] nothing (naming p) → ⊥
no_lost_processor p m = more (name_customs m.names) m.customs where
  more : (xs : List (Name × List ℕ)) → [] ≡ xs ++ (custom_section.producers, producers_bytes p.name.now p.version.now) ∷ [] → ⊥
  more [] h = cc
  more (x ∷ xs) h = cc

-- ---- graphs with one node
abbrev pub with_one : Graph → GraphNode → Graph
with_one g x = record g { nodes = finite.from_entries ((0, x) ∷ []); next = 1; edges = set.from_list [] }

abbrev below_one : ℕ → Bool
below_one zero = true
below_one (suc n) = false

abbrev one : NodeId → Bool
one n = below_one n.0

module _ (g : Graph) (x : GraphNode) where
  pub node_0 : node_at (with_one g x) (node_number 0) ≡ Some x
  node_0 = finite.get-from_entries nat_cmp_total ((0, x) ∷ []) 0

  node_more : (n : ℕ) → node_at (with_one g x) (node_number (suc n)) ≡ None
  node_more n =
      let a : eq_by_cmp nat_cmp (suc n) 0 ≡ false = grind (arith, nat_tests) in
      finite.get-from_entries nat_cmp_total ((0, x) ∷ []) (suc n) ∙ rw a refl

  pub by_one : (P : NodeId → GraphNode → Type 0) → P (node_number 0) x → (n : NodeId) (node : GraphNode) → node_at (with_one g x) n ≡ Some node → P n node
  by_one P a n node is = of_number n.0 node is where
    of_number : (k : ℕ) (z : GraphNode) → node_at (with_one g x) (node_number k) ≡ Some z → P (node_number k) z
    of_number zero z is = subst (λ w. P (node_number 0) w) (some_same (sym node_0 ∙ is)) a
    of_number (suc k) z is = absurd (none_some (sym (node_more k) ∙ is))

  no_edge : (e : Edge) → set.contains (with_one g x).edges e ≡ true → ⊥
  no_edge e stands = clash stands (set.contains-from_list edge_cmp_total [] e) where
    clash : {b : Bool} → b ≡ true → b ≡ false → ⊥
    clash p q = cc

  is_one : not (is_import x.kind) ≡ true → (n : NodeId) → is_written (with_one g x) n ≡ one n
  is_one a n = of_number n.0 where
    of_number : (k : ℕ) → is_written (with_one g x) (node_number k) ≡ below_one k
    of_number zero = ap (λ o. option_case o false (λ node. not (is_import node.kind))) node_0 ∙ a
    of_number (suc k) = ap (λ o. option_case o false (λ node. not (is_import node.kind))) (node_more k)

  pub one_in_order : not (is_import x.kind) ≡ true → Writes (with_one g x).edges (is_written (with_one g x)) (node_number 0 ∷ [])
  one_in_order a = subst (λ l. Writes (with_one g x).edges l (node_number 0 ∷ [])) (sym (fun_ext (is_one a))) (
    record { here = refl; free = λ e stands _. absurd (no_edge e stands); lower = λ m small _. absurd (omega arith) },
    none_left,
  ) where
    none_left : (m : NodeId) → without one (node_number 0) m ≡ false
    none_left m = of_number m.0 where
      of_number : (k : ℕ) → without one (node_number 0) (node_number k) ≡ false
      of_number zero = refl
      of_number (suc k) = refl

-- one node stands at one place
pub in_one : (i j : ℕ) (n m : NodeId) (place : NodeId → ℕ) → i < j → slice_get (node_number 0 ∷ []) i ≡ Some n → slice_get (node_number 0 ∷ []) j ≡ Some m → place n < place m
in_one i zero n m place small _ _ = absurd (omega (arith, small))
in_one i (suc j) n m place small _ at = absurd (none_some at)

-- ---- a name: the instance of the first package is called `n`
abbrev called : GraphNode
called = record instance_of_first { name = Some (codes "n") }

abbrev pub calling : Graph
calling = with_one readme_graph called

abbrev pub names_of_one : List (Sort × ℕ × Name)
names_of_one = (s.Instance, 0, codes "n") ∷ []

abbrev pub called_items : List Item
called_items = nested preamble ∷ instantiate 0 [] ∷ custom custom_section.component_name (names_bytes names_of_one) ∷ []

calling_instantiations : instantiations calling (node_number 0 ∷ []) ≡ node_number 0 ∷ []
calling_instantiations = rw (node_0 readme_graph called) refl

calling_packages : used_packages calling (node_number 0 ∷ []) ≡ first ∷ []
calling_packages = ap (used_after calling []) calling_instantiations ∙ rw (node_0 readme_graph called) refl

abbrev pair : ℕ → Name → ℕ × Name
pair i name = (i, name)

calling_names : AreNames calling (λ n. n.0) names_of_one
calling_names = record { each = both_ways; rising = (tt, (tt, (tt, (tt, (tt, (tt, tt)))))) } where
  is_called : IsNameOf calling (λ n. n.0) s.Instance 0 (codes "n")
  is_called = record { n = node_number 0; node = called; there = node_0 readme_graph called; named = refl; sorted = refl; placed = refl; lowest = λ m other _ _ _ _. omega arith }

  from : (t : Sort) (i : ℕ) (name : Name) → (k : ℕ) × (slice_get (of_sort t names_of_one) k ≡ Some (i, name)) → IsNameOf calling (λ n. n.0) t i name
  from s.Instance i name (zero, at) = subst (λ (e : ℕ × Name). IsNameOf calling (λ n. n.0) s.Instance e.0 e.1) (same at) is_called where
    same : Some (pair 0 (codes "n")) ≡ Some (pair i name) → pair 0 (codes "n") ≡ pair i name
    same e = cc
  from s.Instance i name (suc k, at) = absurd (none_some at)
  from s.CoreModule i name (k, at) = absurd (none_some at)
  from s.Func i name (k, at) = absurd (none_some at)
  from s.Value i name (k, at) = absurd (none_some at)
  from s.«Type» i name (k, at) = absurd (none_some at)
  from s.Component i name (k, at) = absurd (none_some at)

  named_at : (t : Sort) (i : ℕ) (name : Name) → s.Instance ≡ t → 0 ≡ i → Some (codes "n") ≡ Some name → (k : ℕ) × (slice_get (of_sort t names_of_one) k ≡ Some (i, name))
  named_at t i name sorted placed named = subst (λ u. (k : ℕ) × (slice_get (of_sort u names_of_one) k ≡ Some (i, name))) sorted here
    where
      here : (k : ℕ) × (slice_get (of_sort s.Instance names_of_one) k ≡ Some (i, name))
      here = let e : codes "n" ≡ name = cc in (0, λ j. Some (placed j, e j))

  into : (t : Sort) (i : ℕ) (name : Name) → IsNameOf calling (λ n. n.0) t i name → (k : ℕ) × (slice_get (of_sort t names_of_one) k ≡ Some (i, name))
  into t i name is = by_one readme_graph called (λ n node. node.name ≡ Some name → sort_of_kind node.item_kind ≡ t → n.0 ≡ i → (k : ℕ) × (slice_get (of_sort t names_of_one) k ≡ Some (i, name)))
      (λ named sorted placed. named_at t i name sorted placed named) is.n is.node is.there is.named is.sorted is.placed

  both_ways : (t : Sort) (i : ℕ) (name : Name) → ((k : ℕ) × (slice_get (of_sort t names_of_one) k ≡ Some (i, name))) ↔ IsNameOf calling (λ n. n.0) t i name
  both_ways t i name = (from t i name, into t i name)

calling_imports : AreOuterImports calling []
calling_imports = no_imports calling (asked_none calling (by_one readme_graph called (λ n node. (node.kind ≡ graph.instantiation) ⊎ (node.kind ≡ graph.alias)) (inl refl)) no_arguments) where
  none : (n : NodeId) (node : GraphNode) → node_at calling n ≡ Some node → (i : ℕ) → i < length (imports_of calling node) → ⊥
  none = by_one readme_graph called (λ n node. (i : ℕ) → i < length (imports_of calling node) → ⊥) (λ i small. omega (arith, small))

  no_arguments : AllSet calling
  no_arguments n node there is i small = absurd (none n node there i small)

pub called_mean : Means called_items calling defining
called_mean = record {
  order = node_number 0 ∷ [];
  in_order = one_in_order readme_graph called refl;
  at = λ n. instance_at n.0;
  index = λ n. n.0;
  meant = (tt, ((tt, tt), (tt, tt)));
  classes = [];
  outer = calling_imports;
  imports = refl;
  components = ap (map (package_bytes calling)) (sym calling_packages);
  instances = subst (λ ns. AreInstantiations calling defining 0 (λ n. instance_at n.0) (node_number 0 ∷ []) ns (meaning called_items).instantiations) (sym calling_instantiations)
      (record { node = called; there = node_0 readme_graph called; owner = first; owned = refl; place = 0; used = ap (λ ps. slice_get ps 0) calling_packages; component = refl; arguments = tt }, tt);
  things = by_one readme_graph called (λ n node. IsThing calling [] (outer_bindings calling calling_imports.order) (λ k. instance_at k.0) (node_number 0 ∷ []) n node) (as_instantiation 0 refl (ap (λ ns. slice_get ns 0) calling_instantiations) refl);
  stand = by_one readme_graph called (λ n node. stands_for (meaning called_items) (sort_of_kind node.item_kind) n.0 ≡ instance_at n.0) refl;
  exports = rw (node_0 readme_graph called) refl;
  place = λ n. suc n.0;
  own_items = λ n node there. by_one readme_graph called (λ k x. HasItem called_items x k.0 (suc k.0))
      (record { it = instantiate 0 []; before = nested preamble ∷ []; after = custom custom_section.component_name (names_bytes names_of_one) ∷ []; split = refl; here = refl; own = refl; adds = refl; counted = refl }) n node there;
  in_place = λ i j n m less a b. in_one i j n m (λ k. suc k.0) less a b;
  names = names_of_one;
  named = calling_names;
  customs = refl;
  body = nested preamble ∷ instantiate 0 [] ∷ [];
  last = refl;
}

-- items that leave the name out do not mean the graph
pub no_lost_name : Means (nested preamble ∷ instantiate 0 [] ∷ []) calling defining → ⊥
no_lost_name m = nameless m.names m.customs m.named where
  nameless : (names : List (Sort × ℕ × Name)) → [] ≡ name_customs names ++ [] → AreNames calling m.index names → ⊥
  nameless [] _ are =
      let (k, at) = (are.each s.Instance (m.index (node_number 0)) (codes "n")).1 (record { n = node_number 0; node = called; there = node_0 readme_graph called; named = refl; sorted = refl; placed = refl; lowest = λ k other _ _ _ _. omega arith }) in
      none_some at
  nameless (e ∷ names) h are = cc

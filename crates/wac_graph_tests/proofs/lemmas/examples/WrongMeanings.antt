-- Wrong meanings: items that differ from those that mean a graph in one thing do not mean it.
use Rattle.std.proofs.Common.{◌≡◌, ◌⊎◌, inl, inr, ℕ, Bool, true, false, eqb, List, [], ◌∷◌, ◌++◌, length, map, Some, codes, refl, ap, sym, ◌∙◌, subst, arith, rules}
use Rattle.std.specs.List.{flat_map}
use Rattle.std.proofs.lemmas.Bool.Decides.{nat_tests}
use Rattle.wac_types_shapes.specs.primitives.Name.{Name}
use Rattle.wac_binary.specs.declared.sorts.Sort.{Sort}
use Rattle.wac_binary.specs.declared.sorts.Sort.TheVariants as s
use Rattle.wac_binary.specs.Leb.{groups, leb}
use Rattle.wac_binary.specs.Bytes.{preamble, bytes_of}
use Rattle.wac_binary.specs.Items.{Item, nested, instantiate, alias_item, export_alias}
use Rattle.wac_binary.specs.Meaning.{Instantiation, Thing, instance_at, component_at, projection, meaning}
use Rattle.wac_binary.specs.HasMeaning.{HasMeaning}
use Rattle.wac_edges.specs.declared.node.NodeId.{NodeId}
use Rattle.wac_edges.specs.declared.edges.Edge.{Edge}
use Rattle.wac_edges.specs.declared.edges.Label.TheVariants.{Alias, Argument}
use Rattle.wac_edges.specs.Edge.{alias_edge, argument_edge, node_number}
use Rattle.wac_graph_model.specs.nodes.Graph.{GraphNode, node_at, imports_of, IsArgumentOf}
use Rattle.wac_graph_model.specs.meaning.Means.{Means, sort_of_kind, is_written, instantiations, IsArgument, given, asked, AreArguments, AreInstantiations}
use Rattle.wac_graph_model.proofs.lemmas.meaning.OrderLemmas.{one_order}
use Rattle.wac_graph_tests.proofs.lemmas.examples.TwinRows.{twins, first_bytes, second_bytes, alias_of, given_both, exported}
use Rattle.wac_graph_tests.proofs.lemmas.examples.TwinMeaning.{one_meaning}
use Rattle.wac_graph_tests.proofs.lemmas.examples.Rows.{defining, of_function, readme_graph, three_nodes, instance_of_second, readme_in_order, readme_instantiations, edges_are, node_1, node_2}

-- ---- what tells two meanings apart
-- the instance whose export a thing is
abbrev instance_of : Thing → ℕ
instance_of (projection (instance_at i) name) = i
instance_of _ = 0

-- the name of the export
abbrev export_of : Thing → Name
export_of (projection x name) = name
export_of _ = []

-- the instances whose exports an instantiation gets
abbrev givers : Instantiation → List ℕ
givers it = map (λ a. instance_of a.2) it.arguments

two_numbers : (a b : ℕ) → eqb a b ≡ false → a ≡ b → ⊥
two_numbers a b two one = clash (ap (λ x. eqb a x) (sym one) ∙ same a) two where
  same : (k : ℕ) → eqb k k ≡ true
  same k = grind (arith, nat_tests)

  clash : {t : Bool} → t ≡ true → t ≡ false → ⊥
  clash h k = cc

two_lists : (x y : ℕ) (xs ys : List ℕ) → eqb x y ≡ false → x ∷ xs ≡ y ∷ ys → ⊥
two_lists x y xs ys two one = let same : x ≡ y = cc in two_numbers x y two same

-- ---- the wrong meanings
abbrev shared : List Item
shared = nested first_bytes ∷ instantiate 0 [] ∷ alias_of 0 (codes "a") ∷ alias_of 0 (codes "a") ∷ nested second_bytes ∷ given_both 1 0 1 ∷ exported (codes "p") 0 ∷ exported (codes "q") 1 ∷ []

-- two instances that share one instantiation
pub no_shared_instantiation : Means shared twins defining → ⊥
no_shared_instantiation means = two_numbers 2 3 refl (ap length (one_meaning shared means).instances)

abbrev swapped : List Item
swapped = nested first_bytes ∷ instantiate 0 [] ∷ instantiate 0 [] ∷ alias_of 0 (codes "a") ∷ alias_of 1 (codes "a") ∷ nested second_bytes ∷ given_both 1 1 0 ∷ exported (codes "p") 0 ∷ exported (codes "q") 1 ∷ []

-- two arguments swapped
pub no_swapped_arguments : Means swapped twins defining → ⊥
no_swapped_arguments means = two_lists 1 0 (0 ∷ []) (1 ∷ []) refl (ap (flat_map givers) (one_meaning swapped means).instances)

abbrev doubled : List Item
doubled = nested first_bytes ∷ instantiate 0 [] ∷ nested first_bytes ∷ instantiate 1 [] ∷ alias_of 0 (codes "a") ∷ alias_of 1 (codes "a") ∷ nested second_bytes ∷ given_both 2 0 1 ∷ exported (codes "p") 0 ∷ exported (codes "q") 1 ∷ []

-- a component written twice, once for each of its instances
pub no_component_twice : Means doubled twins defining → ⊥
no_component_twice means = two_numbers 3 2 refl (ap length (one_meaning doubled means).components)

abbrev permuted : List Item
permuted = nested first_bytes ∷ instantiate 0 [] ∷ instantiate 0 [] ∷ alias_of 0 (codes "a") ∷ alias_of 1 (codes "a") ∷ nested second_bytes ∷ given_both 1 0 1 ∷ exported (codes "q") 1 ∷ exported (codes "p") 0 ∷ []

-- exports in another order
pub no_permuted_exports : Means permuted twins defining → ⊥
no_permuted_exports means = two_lists 113 112 (112 ∷ []) (113 ∷ []) refl (ap (flat_map (λ e. e.0)) (one_meaning permuted means).exports)

abbrev renamed : List Item
renamed = nested first_bytes ∷ instantiate 0 [] ∷ instantiate 0 [] ∷ alias_of 0 (codes "a") ∷ alias_of 1 (codes "a") ∷ nested second_bytes ∷ given_both 1 0 1 ∷ exported (codes "p") 1 ∷ exported (codes "q") 0 ∷ []

-- exports under each other's names
pub no_exports_under_other_names : Means renamed twins defining → ⊥
no_exports_under_other_names means = two_lists 1 0 (0 ∷ []) (1 ∷ []) refl (ap (map (λ e. instance_of e.2)) (one_meaning renamed means).exports)

abbrev crossed : List Item
crossed = nested first_bytes ∷ instantiate 0 [] ∷ instantiate 0 [] ∷ alias_of 1 (codes "a") ∷ alias_of 1 (codes "a") ∷ nested second_bytes ∷ given_both 1 0 1 ∷ exported (codes "p") 0 ∷ exported (codes "q") 1 ∷ []

-- an alias of the other instance of the same package
pub no_alias_of_the_other_instance : Means crossed twins defining → ⊥
no_alias_of_the_other_instance means = two_lists 1 0 (1 ∷ []) (1 ∷ []) refl (ap (map (λ e. instance_of e.2)) (one_meaning crossed means).exports)

abbrev mistaken : List Item
mistaken = nested first_bytes ∷ instantiate 0 [] ∷ instantiate 0 [] ∷ alias_of 0 (codes "b") ∷ alias_of 1 (codes "a") ∷ nested second_bytes ∷ given_both 1 0 1 ∷ exported (codes "p") 0 ∷ exported (codes "q") 1 ∷ []

-- an alias of another export of its instance
pub no_alias_of_another_export : Means mistaken twins defining → ⊥
no_alias_of_another_export means = two_lists 98 97 (97 ∷ []) (97 ∷ []) refl (ap (flat_map (λ e. export_of e.2)) (one_meaning mistaken means).exports)

abbrev foreign : List Item
foreign = nested second_bytes ∷ instantiate 0 [] ∷ instantiate 0 [] ∷ alias_of 0 (codes "a") ∷ alias_of 1 (codes "a") ∷ nested second_bytes ∷ given_both 1 0 1 ∷ exported (codes "p") 0 ∷ exported (codes "q") 1 ∷ []

-- another package's bytes
pub no_bytes_of_another_package : Means foreign twins defining → ⊥
no_bytes_of_another_package means = two_lists 11 8 (11 ∷ []) (11 ∷ []) refl (ap (map length) (one_meaning foreign means).components)

abbrev dangling : List Item
dangling = nested first_bytes ∷ instantiate 0 [] ∷ instantiate 0 [] ∷ alias_of 0 (codes "a") ∷ alias_of 1 (codes "a") ∷ nested second_bytes ∷ given_both 1 0 1 ∷ alias_of 9 (codes "a") ∷ exported (codes "p") 0 ∷ exported (codes "q") 1 ∷ []

-- an alias, which nothing uses, of an instance that is not there
pub no_alias_of_nothing : Means dangling twins defining → ⊥
no_alias_of_nothing means = means.meant.1.1.1.1.1.1.1.0.0

-- ---- an argument under another sort
some_same : {x y : GraphNode} → Some x ≡ Some y → x ≡ y
some_same e = cc

-- the argument `b` of the second instance is the alias
the_source : (k : NodeId) → IsArgumentOf readme_graph (node_number 2) 0 k → k ≡ node_number 1
the_source k stands = split (edges_are (argument_edge k (node_number 2) 0) stands) where
  split : (argument_edge k (node_number 2) 0 ≡ alias_edge (node_number 0) (node_number 1) 0) ⊎ (argument_edge k (node_number 2) 0 ≡ argument_edge (node_number 1) (node_number 2) 0) → k ≡ node_number 1
  split (inl e) = let differ : Argument 0 ≡ Alias 0 = ap (λ (x : Edge). x.label) e in cc
  split (inr e) = ap (λ (x : Edge). x.source) e

-- so it is a function
of_sort : (at : NodeId → Thing) (t : Sort) (x : Thing) → IsArgument readme_graph at (node_number 2) 0 (98 ∷ [], of_function) t x → t ≡ s.Func
of_sort at _ _ (given source node is there) =
    ap (λ (y : GraphNode). sort_of_kind y.item_kind) (some_same (sym there ∙ ap (λ k. node_at readme_graph k) (the_source source is) ∙ node_1))
of_sort at _ _ (asked place unsatisfied fell) = refl

abbrev two_instances : Sort → Thing → List Instantiation
two_instances t x = record { component = component_at 0; arguments = [] } ∷ record { component = component_at 1; arguments = (98 ∷ [], t, x) ∷ [] } ∷ []

-- items with these instantiations mean the graph only if the argument is a function
argument_is_function : (items : List Item) (t : Sort) (x : Thing) → (meaning items).instantiations ≡ two_instances t x → Means items readme_graph defining → t ≡ s.Func
argument_is_function items t x made means = second (subst (λ its. AreInstantiations readme_graph defining (length means.classes) means.at means.order (node_number 0 ∷ node_number 2 ∷ []) its) made in_number_order) where
  order_is : means.order ≡ three_nodes
  order_is = one_order readme_graph.edges (is_written readme_graph) means.order three_nodes means.in_order readme_in_order

  in_number_order : AreInstantiations readme_graph defining (length means.classes) means.at means.order (node_number 0 ∷ node_number 2 ∷ []) (meaning items).instantiations
  in_number_order = subst (λ ns. AreInstantiations readme_graph defining (length means.classes) means.at means.order ns (meaning items).instantiations) (ap (instantiations readme_graph) order_is ∙ readme_instantiations) means.instances

  argument : (node : GraphNode) → node ≡ instance_of_second → AreArguments readme_graph means.at (node_number 2) 0 (imports_of readme_graph node) ((98 ∷ [], t, x) ∷ []) → t ≡ s.Func
  argument node same h = let (_, is, _) = subst (λ y. AreArguments readme_graph means.at (node_number 2) 0 (imports_of readme_graph y) ((98 ∷ [], t, x) ∷ [])) same h in of_sort means.at t x is

  second : AreInstantiations readme_graph defining (length means.classes) means.at means.order (node_number 0 ∷ node_number 2 ∷ []) (two_instances t x) → t ≡ s.Func
  second (_, (is, _)) = argument is.node (some_same (sym is.there ∙ node_2)) is.arguments

abbrev typed : List Item
typed = nested preamble ∷ instantiate 0 [] ∷ alias_item (export_alias s.Func 0 (97 ∷ [])) ∷ alias_item (export_alias s.«Type» 0 (97 ∷ [])) ∷ nested preamble ∷ instantiate 1 ((98 ∷ [], s.«Type», 0) ∷ []) ∷ []

typed_bytes : bytes_of typed
    ≡ preamble ++ (0x04 ∷ 0x08 ∷ preamble) ++ (0x05 ∷ 0x04 ∷ 0x01 ∷ 0x00 ∷ 0x00 ∷ 0x00 ∷ []) ++ (0x06 ∷ 0x0b ∷ 0x02 ∷ 0x01 ∷ 0x00 ∷ 0x00 ∷ 0x01 ∷ 0x61 ∷ 0x03 ∷ 0x00 ∷ 0x00 ∷ 0x01 ∷ 0x61 ∷ [])
    ++ (0x04 ∷ 0x08 ∷ preamble) ++ (0x05 ∷ 0x08 ∷ 0x01 ∷ 0x00 ∷ 0x01 ∷ 0x01 ∷ 0x01 ∷ 0x62 ∷ 0x03 ∷ 0x00 ∷ [])
unfolding groups leb bytes_of
typed_bytes = refl

typed_meant : HasMeaning typed
typed_meant = search rules

-- a type of the same name in place of the function
pub no_argument_that_is_a_type : Means typed readme_graph defining → ⊥
no_argument_that_is_a_type means = let same : s.«Type» ≡ s.Func = argument_is_function typed s.«Type» (projection (instance_at 0) (97 ∷ [])) refl means in cc

abbrev of_modules : List Item
of_modules = nested preamble ∷ instantiate 0 [] ∷ alias_item (export_alias s.Func 0 (97 ∷ [])) ∷ alias_item (export_alias s.CoreModule 0 (97 ∷ [])) ∷ nested preamble ∷ instantiate 1 ((98 ∷ [], s.CoreModule, 0) ∷ []) ∷ []

-- a core module of the same name in place of the function
pub no_argument_that_is_a_module : Means of_modules readme_graph defining → ⊥
no_argument_that_is_a_module means = let same : s.CoreModule ≡ s.Func = argument_is_function of_modules s.CoreModule (projection (instance_at 0) (97 ∷ [])) refl means in cc

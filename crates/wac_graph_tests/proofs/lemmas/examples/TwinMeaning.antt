-- What all items say that mean the graph of two instances of one package: its components, instantiations and exports.
use Rattle.std.proofs.Common.{◌≡◌, ℕ, zero, suc, true, List, [], ◌∷◌, ◌++◌, length, map, Some, None, codes, refl, ap, sym, ◌∙◌, subst, arith}
use Rattle.std.specs.FinSet as set
use Rattle.std.specs.List.{flat_map}
use Rattle.std.specs.Prelude.{slice_get}
use Rattle.wac_types_shapes.specs.primitives.Name.{Name}
use Rattle.wac_types_shapes.specs.declared.shapes.component.ItemKind.{ItemKind}
use Rattle.wac_binary.specs.declared.sorts.Sort.{Sort}
use Rattle.wac_binary.specs.declared.sorts.Sort.TheVariants as s
use Rattle.wac_binary.specs.Items.{Item}
use Rattle.wac_binary.specs.Meaning.{meaning, projection, instance_at, component_at, Instantiation, Thing}
use Rattle.wac_edges.specs.declared.edges.Edge.{Edge}
use Rattle.wac_edges.specs.declared.edges.Label.TheVariants.{Alias, Argument}
use Rattle.wac_graph_model.specs.declared.nodes.packages.PackageId.{PackageId}
use Rattle.wac_edges.specs.declared.node.NodeId.{NodeId}
use Rattle.wac_edges.specs.Edge.{alias_edge, argument_edge, node_number}
use Rattle.wac_graph_model.specs.nodes.Graph as graph
use Rattle.wac_graph_model.specs.nodes.Graph.{GraphNode, node_at, imports_of, exports_of}
use Rattle.wac_graph_model.specs.nodes.OuterImports.{outer_bindings}
use Rattle.wac_graph_model.specs.meaning.Means.{Means, sort_of_kind, is_written, instantiations, used_packages, package_bytes, IsArgument, given, asked, AreArguments, IsInstantiationOf, AreInstantiations, IsThing, as_import, as_instantiation, as_alias, shown, as_definition, export_of, first_export, further_exports}
use Rattle.wac_graph_tests.proofs.lemmas.examples.Ordered.{by_edge}
use Rattle.wac_graph_model.proofs.lemmas.meaning.OrderLemmas.{one_order}
use Rattle.wac_graph_tests.proofs.lemmas.examples.Rows.{defining, of_function, first, second, instance_of_first, alias_of_first, instance_of_second}
use Rattle.wac_graph_tests.proofs.lemmas.examples.TwinRows.{twins, edge_list, by_their_numbers, first_bytes, second_bytes, node_0, node_1, node_2, node_3, node_4, stands, twins_at, twins_in_order, twins_instantiations, twins_packages, twins_further, twins_first}

-- the `a` of an instance
abbrev pub function_of : ℕ → Thing
function_of instance = projection (instance_at instance) (codes "a")

-- Both instances are of the first component; the third takes the function of each, and each is exported under its name.
pub record Says (items : List Item) : Type 0 where
  pub components : (meaning items).nested_bytes ≡ first_bytes ∷ second_bytes ∷ []
  pub instances : (meaning items).instantiations ≡ record { component = component_at 0; arguments = [] } ∷ record { component = component_at 0; arguments = [] } ∷ record { component = component_at 1; arguments = (codes "x", s.Func, function_of 0) ∷ (codes "y", s.Func, function_of 1) ∷ [] } ∷ []
  pub exports : map shown (meaning items).exports ≡ (codes "p", s.Func, function_of 0) ∷ (codes "q", s.Func, function_of 1) ∷ []

-- ---- which edges stand
two_targets : (e f : Edge) → e ≡ f → (e.target.0 ≡ f.target.0 → ⊥) → ⊥
two_targets e f same differ = differ (ap (λ (x : Edge). x.target.0) same)

same_source : (e f : Edge) → e ≡ f → f.source ≡ e.source
same_source e f same = ap (λ (x : Edge). x.source) (sym same)

same_position : (i j : ℕ) (e f : Edge) → e ≡ f → e.label ≡ Alias i → f.label ≡ Alias j → j ≡ i
same_position i j e f same a b = let c : Alias i ≡ Alias j = sym a ∙ ap (λ (x : Edge). x.label) same ∙ b in cc

two_labels : (i j : ℕ) (e f : Edge) → e ≡ f → e.label ≡ Argument i → f.label ≡ Argument j → (i ≡ j → ⊥) → ⊥
two_labels i j e f same a b differ = let c : Argument i ≡ Argument j = sym a ∙ ap (λ (x : Edge). x.label) same ∙ b in let d : i ≡ j = cc in differ d

-- the one alias edge that leads to node 2 is of the first instance's first export
alias_2 : (k : NodeId) (p : ℕ) → set.contains twins.edges (alias_edge k (node_number 2) p) ≡ true → (k ≡ node_number 0) × (p ≡ 0)
alias_2 k p stands = by_edge (λ e. e ≡ alias_edge k (node_number 2) p → (k ≡ node_number 0) × (p ≡ 0)) edge_list (
  λ same. (same_source _ _ same, same_position 0 p _ _ same refl refl),
  (
    λ same. absurd (two_targets _ _ same (λ h. omega (arith, h))),
    (
      λ same. absurd (two_targets _ _ same (λ h. omega (arith, h))),
      (λ same. absurd (two_targets _ _ same (λ h. omega (arith, h))), tt),
    ),
  ),
)
    (alias_edge k (node_number 2) p) stands refl

-- and to node 3 of the second's
alias_3 : (k : NodeId) (p : ℕ) → set.contains twins.edges (alias_edge k (node_number 3) p) ≡ true → (k ≡ node_number 1) × (p ≡ 0)
alias_3 k p stands = by_edge (λ e. e ≡ alias_edge k (node_number 3) p → (k ≡ node_number 1) × (p ≡ 0)) edge_list (
  λ same. absurd (two_targets _ _ same (λ h. omega (arith, h))),
  (
    λ same. (same_source _ _ same, same_position 0 p _ _ same refl refl),
    (
      λ same. absurd (two_targets _ _ same (λ h. omega (arith, h))),
      (λ same. absurd (two_targets _ _ same (λ h. omega (arith, h))), tt),
    ),
  ),
)
    (alias_edge k (node_number 3) p) stands refl

-- the one argument for `x` is node 2
argument_x : (k : NodeId) → set.contains twins.edges (argument_edge k (node_number 4) 0) ≡ true → k ≡ node_number 2
argument_x k stands = by_edge (λ e. e ≡ argument_edge k (node_number 4) 0 → k ≡ node_number 2) edge_list (
  λ same. absurd (two_targets _ _ same (λ h. omega (arith, h))),
  (
    λ same. absurd (two_targets _ _ same (λ h. omega (arith, h))),
    (
      λ same. same_source _ _ same,
      (λ same. absurd (two_labels 1 0 _ _ same refl refl (λ h. omega (arith, h))), tt),
    ),
  ),
)
    (argument_edge k (node_number 4) 0) stands refl

-- and for `y` node 3
argument_y : (k : NodeId) → set.contains twins.edges (argument_edge k (node_number 4) 1) ≡ true → k ≡ node_number 3
argument_y k stands = by_edge (λ e. e ≡ argument_edge k (node_number 4) 1 → k ≡ node_number 3) edge_list (
  λ same. absurd (two_targets _ _ same (λ h. omega (arith, h))),
  (
    λ same. absurd (two_targets _ _ same (λ h. omega (arith, h))),
    (
      λ same. absurd (two_labels 0 1 _ _ same refl refl (λ h. omega (arith, h))),
      (λ same. same_source _ _ same, tt),
    ),
  ),
)
    (argument_edge k (node_number 4) 1) stands refl

some_same : {x y : GraphNode} → Some x ≡ Some y → x ≡ y
some_same e = cc

same_name : (x y : Name × ItemKind) → Some x ≡ Some y → x.0 ≡ y.0
same_name x y e = let same : x ≡ y = cc in ap (λ (z : Name × ItemKind). z.0) same

-- where instances and packages stand
instance_placed : (k : ℕ) (n : NodeId) → slice_get (node_number 0 ∷ node_number 1 ∷ node_number 4 ∷ []) k ≡ Some n → instance_at k ≡ twins_at n
instance_placed zero n h = let e : node_number 0 ≡ n = cc in ap twins_at e
instance_placed (suc zero) n h = let e : node_number 1 ≡ n = cc in ap twins_at e
instance_placed (suc (suc zero)) n h = let e : node_number 4 ≡ n = cc in ap twins_at e
instance_placed (suc (suc (suc k))) n h = let none : None ≡ Some n = h in absurd (cc)

two_packages : (p q : PackageId) → Some p ≡ Some q → (p.slot ≡ q.slot → ⊥) → ⊥
two_packages p q e differ = let same : p ≡ q = cc in differ (ap (λ (x : PackageId). x.slot) same)

first_placed : (k : ℕ) → slice_get (first ∷ second ∷ []) k ≡ Some first → k ≡ 0
first_placed zero h = refl
first_placed (suc zero) h = absurd (two_packages second first h (λ e. omega (arith, e)))
first_placed (suc (suc k)) h = let none : None ≡ Some first = h in absurd (cc)

second_placed : (k : ℕ) → slice_get (first ∷ second ∷ []) k ≡ Some second → k ≡ 1
second_placed zero h = absurd (two_packages first second h (λ e. omega (arith, e)))
second_placed (suc zero) h = refl
second_placed (suc (suc k)) h = let none : None ≡ Some second = h in absurd (cc)

-- two kinds of nodes are two
not_alias : (k : graph.Kind) → k ≡ graph.instantiation → k ≡ graph.alias → ⊥
not_alias k a b = cc

not_import : (k : graph.Kind) (name : Name) → k ≡ graph.import name → (k ≡ graph.instantiation → ⊥) × (k ≡ graph.alias → ⊥)
not_import k name a = (λ b. cc, λ b. cc)

not_definition : (k : graph.Kind) → k ≡ graph.definition → (k ≡ graph.instantiation → ⊥) × (k ≡ graph.alias → ⊥)
not_definition k a = (λ b. cc, λ b. cc)

module _ (items : List Item) (means : Means items twins defining) where
  order_is : means.order ≡ by_their_numbers
  order_is = one_order twins.edges (is_written twins) means.order by_their_numbers means.in_order twins_in_order

  instances_are : instantiations twins means.order ≡ node_number 0 ∷ node_number 1 ∷ node_number 4 ∷ []
  instances_are = ap (instantiations twins) order_is ∙ twins_instantiations

  packages_are : used_packages twins means.order ≡ first ∷ second ∷ []
  packages_are = ap (used_packages twins) order_is ∙ twins_packages

  -- ---- what the nodes are
  of_instance : (n : NodeId) (node : GraphNode) → node.kind ≡ graph.instantiation → IsThing twins means.classes (outer_bindings twins means.outer.order) means.at means.order n node → means.at n ≡ twins_at n
  of_instance n node kind (as_import name p is _ _) = absurd ((not_import node.kind name is).0 kind)
  of_instance n node kind (as_instantiation k _ placed is) = is ∙ instance_placed k n (ap (λ ns. slice_get ns k) (sym instances_are) ∙ placed)
  of_instance n node kind (as_definition t is _ _) = absurd ((not_definition node.kind is).0 kind)
  of_instance n node kind (as_alias instance source p name is _ _ _ _) = absurd (not_alias node.kind kind is)

  of_alias : (n j : NodeId) (node : GraphNode) → node.kind ≡ graph.alias → ((k : NodeId) (p : ℕ) → set.contains twins.edges (alias_edge k n p) ≡ true → (k ≡ j) × (p ≡ 0)) → node_at twins j ≡ Some instance_of_first
      → IsThing twins means.classes (outer_bindings twins means.outer.order) means.at means.order n node → means.at n ≡ projection (means.at j) (codes "a")
  of_alias n j node kind only there (as_import name p is _ _) = absurd ((not_import node.kind name is).1 kind)
  of_alias n j node kind only there (as_instantiation k is _ _) = absurd (not_alias node.kind is kind)
  of_alias n j node kind only there (as_definition t is _ _) = absurd ((not_definition node.kind is).1 kind)
  of_alias n j node kind only there (as_alias instance source p name _ edge source_there listed is) =
      let (k_is, p_is) = only instance p edge in
      let source_is : source ≡ instance_of_first = some_same (sym source_there ∙ ap (λ k. node_at twins k) k_is ∙ there) in
      let here : slice_get (exports_of twins instance_of_first) 0 ≡ Some (name, node.item_kind) = subst (λ x. slice_get (exports_of twins x) 0 ≡ Some (name, node.item_kind)) source_is (subst (λ q. slice_get (exports_of twins source) q ≡ Some (name, node.item_kind)) p_is listed) in
      let name_is : name ≡ codes "a" = sym (same_name (codes "a", of_function) (name, node.item_kind) here) in
      is ∙ ap (λ k. projection (means.at k) name) k_is ∙ ap (projection (means.at j)) name_is

  at_0 : means.at (node_number 0) ≡ instance_at 0
  at_0 = of_instance (node_number 0) instance_of_first refl (means.things (node_number 0) instance_of_first node_0)

  at_1 : means.at (node_number 1) ≡ instance_at 1
  at_1 = of_instance (node_number 1) instance_of_first refl (means.things (node_number 1) instance_of_first node_1)

  at_2 : means.at (node_number 2) ≡ function_of 0
  at_2 = of_alias (node_number 2) (node_number 0) alias_of_first refl alias_2 node_0 (means.things (node_number 2) alias_of_first node_2) ∙ ap (λ x. projection x (codes "a")) at_0

  at_3 : means.at (node_number 3) ≡ function_of 1
  at_3 = of_alias (node_number 3) (node_number 1) alias_of_first refl alias_3 node_1 (means.things (node_number 3) alias_of_first node_3) ∙ ap (λ x. projection x (codes "a")) at_1

  -- ---- the instantiations
  of_package : (n : NodeId) (component : ℕ) (node : GraphNode) (owner : PackageId) → node_at twins n ≡ Some node → node.owner ≡ Some owner → ((k : ℕ) → slice_get (first ∷ second ∷ []) k ≡ Some owner → k ≡ component)
      → (it : Instantiation) → IsInstantiationOf twins defining (length means.classes) means.at means.order n it → (it.component ≡ component_at component) × AreArguments twins means.at n 0 (imports_of twins node) it.arguments
  of_package n component node owner there owned only it is =
      let same : is.node ≡ node = some_same (sym is.there ∙ there) in
      let owner_is : Some is.owner ≡ Some owner = sym is.owned ∙ ap (λ (x : GraphNode). x.owner) same ∙ owned in
      let placed : slice_get (first ∷ second ∷ []) is.place ≡ Some owner = ap (λ ps. slice_get ps is.place) (sym packages_are) ∙ is.used ∙ owner_is in
      (is.component ∙ ap component_at (only is.place placed), subst (λ x. AreArguments twins means.at n 0 (imports_of twins x) it.arguments) same is.arguments)

  none : (n : NodeId) (arguments : List (Name × Sort × Thing)) → AreArguments twins means.at n 0 [] arguments → arguments ≡ []
  none n [] _ = refl
  none n (a ∷ more) wrong = absurd wrong

  of_first : (n : NodeId) → node_at twins n ≡ Some instance_of_first → (it : Instantiation) → IsInstantiationOf twins defining (length means.classes) means.at means.order n it → it ≡ record { component = component_at 0; arguments = [] }
  of_first n there it is =
      let (component, arguments) = of_package n 0 instance_of_first first there refl first_placed it is in
      let nothing : it.arguments ≡ [] = none n it.arguments arguments in
      λ i. record { component = component i; arguments = nothing i }

  argument : (p : ℕ) (j : NodeId) (node : GraphNode) (e : Name × ItemKind) (t : Sort) (x : Thing) → node_at twins j ≡ Some node → ((k : NodeId) → set.contains twins.edges (argument_edge k (node_number 4) p) ≡ true → k ≡ j) → set.contains twins.edges (argument_edge j (node_number 4) p) ≡ true
      → IsArgument twins means.at (node_number 4) p e t x → (t ≡ sort_of_kind node.item_kind) × (x ≡ means.at j)
  argument p j node e _ _ there only stands (given source other is source_there) =
      let same : source ≡ j = only source is in
      (ap (λ (y : GraphNode). sort_of_kind y.item_kind) (some_same (sym source_there ∙ ap (λ k. node_at twins k) same ∙ there)), ap means.at same)
  argument p j node e _ _ there only stands (asked place unsatisfied _) = absurd (unsatisfied j stands)

  two : (arguments : List (Name × Sort × Thing)) → AreArguments twins means.at (node_number 4) 0 ((codes "x", of_function) ∷ (codes "y", of_function) ∷ []) arguments → arguments ≡ (codes "x", s.Func, function_of 0) ∷ (codes "y", s.Func, function_of 1) ∷ []
  two [] wrong = absurd wrong
  two (x ∷ []) (_, _, wrong) = absurd wrong
  two (x ∷ y ∷ z ∷ more) (_, _, (_, _, wrong)) = absurd wrong
  two (x ∷ y ∷ []) (x_name, x_is, (y_name, y_is, _)) =
      let (x_sort, x_at) = argument 0 (node_number 2) alias_of_first (codes "x", of_function) x.1 x.2 node_2 argument_x (stands (argument_edge (node_number 2) (node_number 4) 0) refl) x_is in
      let (y_sort, y_at) = argument 1 (node_number 3) alias_of_first (codes "y", of_function) y.1 y.2 node_3 argument_y (stands (argument_edge (node_number 3) (node_number 4) 1) refl) y_is in
      let x_thing : x.2 ≡ function_of 0 = x_at ∙ at_2 in
      let y_thing : y.2 ≡ function_of 1 = y_at ∙ at_3 in
      λ i. (x_name i, x_sort i, x_thing i) ∷ (y_name i, y_sort i, y_thing i) ∷ []

  of_second : (it : Instantiation) → IsInstantiationOf twins defining (length means.classes) means.at means.order (node_number 4) it → it ≡ record { component = component_at 1; arguments = (codes "x", s.Func, function_of 0) ∷ (codes "y", s.Func, function_of 1) ∷ [] }
  of_second it is =
      let (component, arguments) = of_package (node_number 4) 1 instance_of_second second node_4 refl second_placed it is in
      let both : it.arguments ≡ (codes "x", s.Func, function_of 0) ∷ (codes "y", s.Func, function_of 1) ∷ [] = two it.arguments arguments in
      λ i. record { component = component i; arguments = both i }

  three : (its : List Instantiation) → AreInstantiations twins defining (length means.classes) means.at means.order (node_number 0 ∷ node_number 1 ∷ node_number 4 ∷ []) its
      → its ≡ record { component = component_at 0; arguments = [] } ∷ record { component = component_at 0; arguments = [] } ∷ record { component = component_at 1; arguments = (codes "x", s.Func, function_of 0) ∷ (codes "y", s.Func, function_of 1) ∷ [] } ∷ []
  three [] wrong = absurd wrong
  three (a ∷ []) (_, wrong) = absurd wrong
  three (a ∷ b ∷ []) (_, (_, wrong)) = absurd wrong
  three (a ∷ b ∷ c ∷ d ∷ more) (_, (_, (_, wrong))) = absurd wrong
  three (a ∷ b ∷ c ∷ []) (a_is, (b_is, (c_is, _))) = λ i. of_first (node_number 0) node_0 a a_is i ∷ of_first (node_number 1) node_1 b b_is i ∷ of_second c c_is i ∷ []

  -- ---- the exports
  exports_are : map shown (meaning items).exports ≡ (codes "p", s.Func, function_of 0) ∷ (codes "q", s.Func, function_of 1) ∷ []
  exports_are =
      means.exports ∙ ap (λ ns. flat_map (first_export twins means.at) ns ++ flat_map (export_of twins means.at) (further_exports twins)) order_is
      ∙ ap (λ xs. xs ++ flat_map (export_of twins means.at) (further_exports twins)) (twins_first means.at)
      ∙ ap (flat_map (export_of twins means.at)) twins_further
      ∙ rw (node_2, node_3) (λ i. (codes "p", s.Func, at_2 i) ∷ (codes "q", s.Func, at_3 i) ∷ [])

  -- all items that mean the graph say the same
  pub one_meaning : Says items
  one_meaning = record {
    components = means.components ∙ ap (map (package_bytes twins)) packages_are;
    instances = three (meaning items).instantiations (subst (λ ns. AreInstantiations twins defining (length means.classes) means.at means.order ns (meaning items).instantiations) instances_are means.instances);
    exports = exports_are;
  }

-- The package of each instantiation is used once.
use Rattle.std.proofs.Common.{◌≡◌, ℕ, zero, suc, Bool, true, false, cond, List, [], ◌∷◌, ◌++◌, length, ap, ◌∙◌, sym, subst, refl, Option, Some, None, ◌⊎◌, inl, inr}
use Rattle.std.specs.List.{list_any}
use Rattle.std.specs.Prelude.{slice_get, IsSomeAnd}
use Rattle.wac_types_shapes.specs.primitives.Name.{Name, option_case}
use Rattle.wac_types_shapes.specs.primitives.Tree.{Tree}
use Rattle.wac_types_collection.specs.collection.Bound.{Bindings}
use Rattle.wac_binary.specs.Items.{Item}
use Rattle.wac_binary.specs.Meaning.{Thing, Instantiation, meaning}
use Rattle.wac_edges.specs.declared.node.NodeId.{NodeId}
use Rattle.wac_graph_model.specs.declared.nodes.options.EncodeOptions.{EncodeOptions}
use Rattle.wac_graph_model.specs.declared.nodes.packages.PackageId.{PackageId}
use Rattle.wac_graph_model.specs.nodes.Graph as graph
use Rattle.wac_graph_model.specs.nodes.Graph.{Graph, GraphNode, Kind, node_at}
use Rattle.wac_graph_model.specs.nodes.OuterImports.{outer_bindings}
use Rattle.wac_graph_model.specs.meaning.Means.{instantiations, same_package, with_package, used_after, IsInstantiationOf, AreInstantiations, IsThing, as_import, as_instantiation, as_definition, as_alias, Means}
use Rattle.wac_graph_model.specs.meaning.Once.{IsUsedOnce}
use Rattle.wac_graph_model.proofs.lemmas.meaning.ListLemmas.{slice_get-push}
use Rattle.wac_graph_model.proofs.lemmas.meaning.WrittenLemmas.{any_package}

-- no package is at two places
abbrev AreOnce : List PackageId → Type 0
AreOnce us = (j k : ℕ) (id : PackageId) → slice_get us j ≡ Some id → slice_get us k ≡ Some id → j ≡ k

clash : (b : Bool) → b ≡ true → b ≡ false → ⊥
clash true _ h = cc
clash false h _ = cc

with_once : (us : List PackageId) (o : Option PackageId) → AreOnce us → AreOnce (with_package us o)
with_once us None once = once
with_once us (Some q) once = split (list_any (same_package q) us) refl where
  pushed : list_any (same_package q) us ≡ false → (j k : ℕ) (id : PackageId) → (slice_get us j ≡ Some id) ⊎ ((j ≡ length us) × (id ≡ q)) → (slice_get us k ≡ Some id) ⊎ ((k ≡ length us) × (id ≡ q)) → j ≡ k
  pushed none j k id (inl a) (inl b) = once j k id a b
  pushed none j k id (inl a) (inr (_, is)) = absurd (clash (list_any (same_package q) us) (any_package q us j (a ∙ ap Some is)) none)
  pushed none j k id (inr (_, is)) (inl b) = absurd (clash (list_any (same_package q) us) (any_package q us k (b ∙ ap Some is)) none)
  pushed none j k id (inr (a, _)) (inr (b, _)) = a ∙ sym b

  split : (b : Bool) → list_any (same_package q) us ≡ b → AreOnce (cond b us (us ++ q ∷ []))
  split true _ = once
  split false none = λ j k id a b. pushed none j k id (slice_get-push us q j id a) (slice_get-push us q k id b)

used_once : (g : Graph) (us : List PackageId) (ns : List NodeId) → AreOnce us → AreOnce (used_after g us ns)
used_once g us [] once = once
used_once g us (n ∷ ns) once = let o : Option PackageId = option_case (node_at g n) None (λ node. node.owner) in used_once g (with_package us o) ns (with_once us o once)

nothing_once : AreOnce []
nothing_once j k id a b = cc

-- the instantiation at a place
instantiation_at : (g : Graph) (o : EncodeOptions) (imports : ℕ) (at : NodeId → Thing) (order ns : List NodeId) (its : List Instantiation) (k : ℕ) (n : NodeId)
    → AreInstantiations g o imports at order ns its → slice_get ns k ≡ Some n → (it : Instantiation) × IsInstantiationOf g o imports at order n it
instantiation_at g o imports at order [] its k n all here = cc
instantiation_at g o imports at order (m ∷ ns) [] k n all here = absurd all
instantiation_at g o imports at order (m ∷ ns) (it ∷ its) zero n all here = let same : m ≡ n = cc in (it, subst (λ x. IsInstantiationOf g o imports at order x it) same all.0)
instantiation_at g o imports at order (m ∷ ns) (it ∷ its) (suc k) n all here = instantiation_at g o imports at order ns its k n all.1 here

place_of : (g : Graph) (imports : List (Name × Tree)) (m : Bindings) (at : NodeId → Thing) (order : List NodeId) (n : NodeId) (node : GraphNode) → node.kind ≡ graph.instantiation → IsThing g imports m at order n node → (k : ℕ) × (slice_get (instantiations g order) k ≡ Some n)
place_of g imports m at order n node kind (as_instantiation k _ here _) = (k, here)
place_of g imports m at order n node kind (as_import name p other _ _) = absurd (two_kinds kind other) where
  two_kinds : {k : Kind} → k ≡ graph.instantiation → k ≡ graph.import name → ⊥
  two_kinds a b = cc
place_of g imports m at order n node kind (as_definition t other _ _) = absurd (two_kinds kind other) where
  two_kinds : {k : Kind} → k ≡ graph.instantiation → k ≡ graph.definition → ⊥
  two_kinds a b = cc
place_of g imports m at order n node kind (as_alias instance source i name other _ _ _ _) = absurd (two_kinds kind other) where
  two_kinds : {k : Kind} → k ≡ graph.instantiation → k ≡ graph.alias → ⊥
  two_kinds a b = cc

pub packages_once : (items : List Item) (g : Graph) (o : EncodeOptions) → (means : Means items g o) → (n : NodeId) (id : PackageId) → IsSomeAnd (node_at g n) (λ node. (node.kind ≡ graph.instantiation) × (node.owner ≡ Some id)) → IsUsedOnce g means.order id
packages_once items g o means n id is = of (node_at g n) refl is where
  one_node : (x y : GraphNode) → Some x ≡ Some y → x ≡ y
  one_node x y e = cc

  one_package : (x y : PackageId) → Some x ≡ Some y → x ≡ y
  one_package x y e = cc

  of : (x : Option GraphNode) → node_at g n ≡ x → IsSomeAnd x (λ node. (node.kind ≡ graph.instantiation) × (node.owner ≡ Some id)) → IsUsedOnce g means.order id
  of None there h = absurd h
  of (Some node) there (kind, owned) =
      let (k, here) = place_of g means.classes (outer_bindings g means.outer.order) means.at means.order n node kind (means.things n node there) in
      let (it, i) = instantiation_at g o (length means.classes) means.at means.order (instantiations g means.order) (meaning items).instantiations k n means.instances here in
      let same : id ≡ i.owner = one_package id i.owner (sym owned ∙ ap (λ (y : GraphNode). y.owner) (one_node node i.node (sym there ∙ i.there)) ∙ i.owned) in
      let used : slice_get (used_after g [] (instantiations g means.order)) i.place ≡ Some id = i.used ∙ ap Some (sym same) in
      (i.place, used, λ j at_j. used_once g [] (instantiations g means.order) nothing_once j i.place id at_j used)

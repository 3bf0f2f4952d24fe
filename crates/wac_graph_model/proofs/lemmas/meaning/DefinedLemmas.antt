-- The packages that are nested or imported so far, and the names of indexes where no node has a name.
use Rattle.std.proofs.Common.{◌≡◌, ℕ, ◌+◌, Bool, true, false, cond, if◌then◌else◌, List, [], ◌∷◌, ◌++◌, map, refl, ap, ◌∙◌, sym, Option, Some, None}
use Rattle.std.specs.List.{flat_map}
use Rattle.std.proofs.lemmas.List.{append-nil, map-append}
use Rattle.std.proofs.lemmas.Grind.{flat_map-append}
use Rattle.wac_types_shapes.specs.primitives.Name.{Name, option_case}
use Rattle.wac_types_shapes.specs.primitives.Tree.{Tree, component_item}
use Rattle.wac_types_collection.specs.collection.Bound.{held_tree}
use Rattle.wac_types_collection.specs.collection.Package.{PackageParts}
use Rattle.wac_types_shapes.specs.declared.shapes.component.«Type».TheVariants.{World}
use Rattle.wac_binary.specs.Meaning.{import_at, component_at}
use Rattle.wac_binary.specs.HasMeaning.{IsSomething}
use Rattle.wac_edges.specs.declared.node.NodeId.{NodeId}
use Rattle.wac_graph_model.specs.declared.nodes.options.EncodeOptions.{EncodeOptions}
use Rattle.wac_graph_model.specs.declared.nodes.packages.PackageId.{PackageId}
use Rattle.wac_graph_model.specs.nodes.Graph.{Graph, GraphNode, node_at, package_at}
use Rattle.wac_graph_model.specs.meaning.Means.{package_bytes, dependency_name, package_import, package_imports, package_thing, AreNames}
use Rattle.wac_graph_model.proofs.lemmas.meaning.ListLemmas.{all_append}
use Rattle.wac_graph_model.proofs.lemmas.meaning.TypeThings.{AreComponents}

-- the bytes of these packages, if packages are defined
abbrev pub nested_packages : Graph → EncodeOptions → List PackageId → List (List ℕ)
nested_packages g o used = if o.define_components then map (package_bytes g) used else []

-- the imports of these packages, if packages are not defined
abbrev pub imported_packages : Graph → EncodeOptions → List PackageId → List (Name × Tree)
imported_packages g o used = if o.define_components then [] else flat_map (package_import g) used

module _ (g : Graph) (o : EncodeOptions) where
  pub nested_none : nested_packages g o [] ≡ []
  nested_none = of o.define_components where
    of : (b : Bool) → cond b (map (package_bytes g) []) [] ≡ []
    of true = refl
    of false = refl

  pub imported_none : imported_packages g o [] ≡ []
  imported_none = of o.define_components where
    of : (b : Bool) → cond b [] (flat_map (package_import g) []) ≡ []
    of true = refl
    of false = refl

  -- where packages are defined
  pub nested_are : o.define_components ≡ true → (used : List PackageId) → nested_packages g o used ≡ map (package_bytes g) used
  nested_are define used = ap (λ b. cond b (map (package_bytes g) used) []) define

  pub imported_nothing : o.define_components ≡ true → (used : List PackageId) → imported_packages g o used ≡ []
  imported_nothing define used = ap (λ b. cond b [] (flat_map (package_import g) used)) define

  pub nested_push : o.define_components ≡ true → (used : List PackageId) (id : PackageId) → nested_packages g o used ++ package_bytes g id ∷ [] ≡ nested_packages g o (used ++ id ∷ [])
  nested_push define used id = ap (λ bs. bs ++ package_bytes g id ∷ []) (nested_are define used) ∙ sym (nested_are define (used ++ id ∷ []) ∙ map-append (package_bytes g) used (id ∷ []))

  pub nested_thing : o.define_components ≡ true → (imports place : ℕ) → component_at place ≡ package_thing o imports place
  nested_thing define imports place = sym (ap (λ b. cond b (component_at place) (import_at (imports + place))) define)

  pub no_package_imports : o.define_components ≡ true → (order : List NodeId) → package_imports g o order ≡ []
  no_package_imports define order = rw define refl

  -- where they are not
  pub nested_nothing : o.define_components ≡ false → (used : List PackageId) → nested_packages g o used ≡ []
  nested_nothing not_defined used = ap (λ b. cond b (map (package_bytes g) used) []) not_defined

  pub imported_are : o.define_components ≡ false → (used : List PackageId) → imported_packages g o used ≡ flat_map (package_import g) used
  imported_are not_defined used = ap (λ b. cond b [] (flat_map (package_import g) used)) not_defined

  pub imported_push : o.define_components ≡ false → (used : List PackageId) (id : PackageId) → imported_packages g o used ++ package_import g id ≡ imported_packages g o (used ++ id ∷ [])
  imported_push not_defined used id =
      ap (λ is. is ++ package_import g id) (imported_are not_defined used)
      ∙ sym (imported_are not_defined (used ++ id ∷ []) ∙ flat_map-append (package_import g) used (id ∷ []) ∙ ap (λ is. flat_map (package_import g) used ++ is) (append-nil (package_import g id)))

  pub imported_thing : o.define_components ≡ false → (imports place : ℕ) → import_at (imports + place) ≡ package_thing o imports place
  imported_thing not_defined imports place = sym (ap (λ b. cond b (component_at place) (import_at (imports + place))) not_defined)

  pub package_something : (imports place : ℕ) → IsSomething (package_thing o imports place)
  package_something imports place = of o.define_components where
    of : (b : Bool) → IsSomething (cond b (component_at place) (import_at (imports + place)))
    of true = tt
    of false = tt

  -- the imports of packages are components
  pub imported_components : (used : List PackageId) → AreComponents (imported_packages g o used)
  imported_components used = of o.define_components where
    one : (p : Option PackageParts) → (name : PackageParts → Name) → AreComponents (option_case p [] (λ x. (name x, component_item (held_tree g.types (λ _. None) (World x.world))) ∷ []))
    one None name = tt
    one (Some x) name = ((held_tree g.types (λ _. None) (World x.world), refl), tt)

    all : (us : List PackageId) → AreComponents (flat_map (package_import g) us)
    all [] = tt
    all (id ∷ us) = all_append (λ (e : Name × Tree). (t : Tree) × (e.1 ≡ component_item t)) (package_import g id) (flat_map (package_import g) us) (one (package_at g id) (λ p. dependency_name (p.name, p.version))) (all us)

    of : (b : Bool) → AreComponents (cond b [] (flat_map (package_import g) used))
    of true = tt
    of false = all used

-- where no node has a name no index has one
pub no_names : (g : Graph) (index : NodeId → ℕ) → ((n : NodeId) (node : GraphNode) → node_at g n ≡ Some node → node.name ≡ None) → AreNames g index []
no_names g index none = record {
  each = λ t i name. (λ (k, at). absurd (nothing at), λ is. absurd (unnamed is.node (none is.n is.node is.there) name is.named));
  rising = (tt, (tt, (tt, (tt, (tt, (tt, tt))))));
} where
  nothing : {A : Type 0} {x : A} → None ≡ Some x → ⊥
  nothing h = cc

  unnamed : (node : GraphNode) → node.name ≡ None → (name : Name) → node.name ≡ Some name → ⊥
  unnamed node a name b = nothing (sym a ∙ b)

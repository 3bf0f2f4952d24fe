-- The state while a graph is written: the items, the component of each package, and the index of each node.
use Rattle.std.specs.Prelude.{ℕ, ◌≡◌, ◌<◌, true, false, length, IsSome, List, [], ◌∷◌, ◌++◌, Some, slice_get, slice_index_or, ◌⊎◌}
use Rattle.std.specs.List.{AllByRecursion, list_any}
use Rattle.wac_types_shapes.specs.primitives.Name.{Name}
use Rattle.wac_binary.specs.declared.sorts.Sort.TheVariants as sort
use Rattle.wac_binary.specs.declared.sorts.Description.{Description}
use Rattle.wac_binary.specs.Items.{Item, core_type, nested, alias_item, type_item, import_item}
use Rattle.wac_binary.specs.Indexes.{space, alias_sort, described_sort, indexes}
use Rattle.wac_binary.specs.Meaning.{meaning}
use Rattle.wac_binary.specs.HasMeaning.{HasMeaning}
use Rattle.wac_edges.specs.declared.node.NodeId.{NodeId}
use Rattle.wac_graph_model.specs.declared.nodes.options.EncodeOptions.{EncodeOptions}
use Rattle.wac_graph_model.specs.declared.nodes.packages.PackageId.{PackageId}
use Rattle.wac_graph_model.specs.nodes.Graph.{Graph, node_at}
use Rattle.wac_graph_model.specs.meaning.Means.{same_package, package_bytes, package_import}

-- The item is a type, a core type or an alias of a type.
abbrev pub IsTypeAlone : Item → Type 0
IsTypeAlone (core_type m) = Unit {0}
IsTypeAlone (type_item t) = Unit {0}
IsTypeAlone (alias_item a) = alias_sort a ≡ sort.«Type»
IsTypeAlone _ = ⊥

-- A component of the type of the package's world is imported, after types alone, and has index c.
pub record ImportsPackage (g : Graph) (id : PackageId) (c : ℕ) (items items' : List Item) : Type 0 where
  pub types : List Item
  pub alone : AllByRecursion IsTypeAlone types
  pub name : Name
  pub description : Description
  pub added : items' ≡ (items ++ types) ++ import_item name description ∷ []
  pub sorted : described_sort description ≡ sort.Component
  pub counted : c ≡ indexes (space sort.Component) (items ++ types)
  -- If the items have a meaning, so do the new ones, which import the package too.
  pub meant : HasMeaning items → HasMeaning items' × ((meaning items').imports ≡ (meaning items).imports ++ package_import g id)

-- The package's component is appended and has index c: the package is nested, or imported if packages are not defined.
pub data AddsPackage (g : Graph) (o : EncodeOptions) (id : PackageId) (c : ℕ) (items items' : List Item) : Type 0 where
  adds_nested : o.define_components ≡ true → c ≡ indexes (space sort.Component) items → items' ≡ items ++ nested (package_bytes g id) ∷ [] → AddsPackage g o id c items items'
  adds_import : o.define_components ≡ false → ImportsPackage g id c items items' → AddsPackage g o id c items items'

-- The package's component has index c; it is appended if the package has none yet.
abbrev pub HasComponent : Graph → EncodeOptions → PackageId → ℕ → List (PackageId × ℕ) → List (PackageId × ℕ) → List Item → List Item → Type 0
HasComponent g o id c components components' items items' =
    ((k : ℕ) × (slice_get components k ≡ Some (id, c)) × (components' ≡ components) × (items' ≡ items))
    ⊎ ((list_any (λ e. same_package id e.0) components ≡ false) × (components' ≡ components ++ (id, c) ∷ []) × AddsPackage g o id c items items')

-- The state: the items, the component index of each package, and the index of each node.
pub record Progress : Type 0 where
  pub items : List Item
  pub components : List (PackageId × ℕ)
  pub indexes : List ℕ

-- The index of a node.
abbrev pub index_in : List ℕ → NodeId → ℕ
index_in indexes n = slice_index_or indexes n.0 0

-- There is an entry for each node's index.
abbrev pub HasRoom : Graph → List ℕ → Type 0
HasRoom g indexes = (n : NodeId) → IsSome (node_at g n) → n.0 < length indexes

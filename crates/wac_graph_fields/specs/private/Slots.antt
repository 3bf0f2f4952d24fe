-- The slots of packages: the free ones, the next one, and the packages by key.
use Rattle.std.specs.Prelude.{◌≡◌, ℕ, true, List, [], ◌∷◌, length, Some, None, IsSomeAnd, slice_get, Vec, reverse}
use Rattle.std.specs.Global.{Global}
use Rattle.std.specs.Map.{lookup}
use Rattle.wac_types_collection.specs.collection.Package.{PackageParts}
use Rattle.wac_types_shapes.specs.keys.Key.{Key, same_key}
use Rattle.wac_graph_model.specs.declared.nodes.packages.PackageId.{PackageId}
use Rattle.wac_graph_model.specs.declared.nodes.packages.Slot.{Slot}
use Rattle.wac_graph_model.specs.nodes.Graph.{package_in}

-- The key of a package.
abbrev pub key_of : PackageParts → Key
key_of p = (p.name, p.version)

-- Exactly the registered packages are found under their keys.
pub record AreKeyed (slots : List Slot) (names : List (Key × PackageId)) : Type 0 where
  pub keyed : (id : PackageId) (p : PackageParts) → package_in (slice_get slots id.slot) id ≡ Some p → lookup (same_key (key_of p)) names ≡ Some id
  pub found : (k : Key) (id : PackageId) → lookup (same_key k) names ≡ Some id → (p : PackageParts) × (package_in (slice_get slots id.slot) id ≡ Some p) × (same_key k (key_of p) ≡ true)

-- The free slots, the one freed last first.
abbrev pub vacant_of : Vec ℕ Global → List ℕ
vacant_of vacant = reverse vacant.items

-- The free slots exist and have no package.
abbrev pub AreVacant : List Slot → List ℕ → Type 0
AreVacant slots vacant = (i s : ℕ) → slice_get vacant i ≡ Some s → IsSomeAnd (slice_get slots s) (λ slot. slot.«package» ≡ None)

-- The id of the next package: the slot freed last with its generation, or a new slot if none is free.
pub data IsNext (slots : List Slot) (vacant : List ℕ) (id : PackageId) : Type 0 where
  freed : (rest : List ℕ) → vacant ≡ id.slot ∷ rest → slice_get slots id.slot ≡ Some (record { generation = id.generation; «package» = None }) → IsNext slots vacant id
  added : vacant ≡ [] → id ≡ record { slot = length slots; generation = 0 } → IsNext slots vacant id

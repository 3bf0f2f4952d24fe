-- New resources, as they are added one by one. Only contracts inside the merge cite this file.
use Rattle.std.specs.Prelude.{ℕ, ◌≡◌, ◌<◌, ◌↔◌, true, List, [], length, Option, Some, None, IsSome, slice_get}
use Rattle.wac_types_shapes.specs.primitives.Name.{Name, find_name, option_case}
use Rattle.wac_types_shapes.specs.primitives.Tree.{Place}
use Rattle.wac_types_collection.specs.collection.Collection.{Collection}
use Rattle.wac_types_collection.specs.subtyping.Called.{resource_name}
use Rattle.wac_types_shapes.specs.declared.shapes.component.ResourceId.{ResourceId}
use Rattle.wac_merge_classes.specs.entries.Bindings.{ClassBindings, first_in}
use Rattle.wac_merge_classes.specs.terms.Became.{IsNew}
use Rattle.wac_merge_classes.specs.declared.terms.parts.Export.{Export}
use Rattle.wac_merge_classes.specs.declared.terms.parts.Union.{Union}

-- An own resource is exported under the name.
abbrev pub IsOwn : List (Name × Export) → Name → Type 0
IsOwn es n = (e : Export) × (find_name es n ≡ Some e) × (e.is_own ≡ true)

-- Each own resource among these exports has a new resource, and no two have the same.
pub record AreOwn (a : Collection) (es : List (Name × Export)) (own : List (Name × ResourceId)) (m : Collection) : Type 0 where
  pub listed : (n : Name) → IsSome (find_name own n) ↔ IsOwn es n
  pub new : (n : Name) (q : ResourceId) → find_name own n ≡ Some q → IsNew a m q n
  pub once : (n o : Name) (q : ResourceId) → find_name own n ≡ Some q → find_name own o ≡ Some q → n ≡ o

-- The new resource that the union at a position binds under a name.
abbrev pub own_under : List (List (Name × ResourceId)) → ℕ → Name → Option ResourceId
own_under os u n = option_case (slice_get os u) None (λ m. find_name m n)

-- Each own resource of each union has a new resource, and no two have the same.
pub record AreAllOwn (a : Collection) (us : List Union) (os : List (List (Name × ResourceId))) (m : Collection) : Type 0 where
  pub counted : length os ≡ length us
  pub listed : (u : ℕ) (x : Union) (n : Name) → slice_get us u ≡ Some x → IsSome (own_under os u n) ↔ IsOwn x.exports n
  pub new : (u : ℕ) (n : Name) (q : ResourceId) → own_under os u n ≡ Some q → IsNew a m q n
  pub once : (u v : ℕ) (n o : Name) (q : ResourceId) → own_under os u n ≡ Some q → own_under os v o ≡ Some q → (u ≡ v) × (n ≡ o)

-- The new resource that the class of this number is.
abbrev pub whole_under : List (Option ResourceId) → ℕ → Option ResourceId
whole_under ws k = option_case (slice_get ws k) None (λ o. o)

-- The class of this number is a new resource.
abbrev pub IsWhole : List (Option ResourceId) → ℕ → Type 0
IsWhole ws k = (q : ResourceId) × (whole_under ws k ≡ Some q)

-- Each new resource of a class is for a resource that the class is the first to bind, and no two are the same.
pub record AreWhole (a c : Collection) (bs : ClassBindings) (ws : List (Option ResourceId)) (m : Collection) : Type 0 where
  pub new : (k : ℕ) (q : ResourceId) → whole_under ws k ≡ Some q → (r : ResourceId) × (first_in bs r ≡ Some (k, [])) × IsNew a m q (resource_name c r)
  pub once : (k l : ℕ) (q : ResourceId) → whole_under ws k ≡ Some q → whole_under ws l ≡ Some q → k ≡ l

-- The list has an item for each class that is the first to bind a resource.
abbrev pub AreCounted : ClassBindings → List (Option ResourceId) → Type 0
AreCounted bs ws = (r : ResourceId) (b : ℕ × List Place) → first_in bs r ≡ Some b → b.0 < length ws

-- Classes that are new resources stay new resources.
abbrev pub StayWhole : List (Option ResourceId) → List (Option ResourceId) → Type 0
StayWhole old new = (k : ℕ) → IsWhole old k → IsWhole new k

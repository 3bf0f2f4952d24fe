-- Which unions share an interface of the merged collection. Only contracts inside the merge cite this file.
use Rattle.std.specs.Prelude.{ℕ, ◌+◌, ◌≡◌, ◌⊎◌, nat_eq, List, [], ◌∷◌, Option, Some, slice_get}
use Rattle.std.specs.HashMap.{get}
use Rattle.wac_types_shapes.specs.primitives.Name.{Name}
use Rattle.wac_types_collection.specs.collection.Collection.{Collection, HasInterface, item_at}
use Rattle.wac_types_shapes.specs.declared.shapes.component.Interface.{Interface}
use Rattle.wac_types_shapes.specs.declared.shapes.component.InterfaceId.{InterfaceId}
use Rattle.wac_types_shapes.specs.declared.shapes.component.ItemKind.TheVariants as kind
use Rattle.wac_merge_classes.specs.terms.Merge.{instance_id}
use Rattle.wac_merge_classes.specs.declared.terms.parts.Part.{Part}
use Rattle.wac_merge_classes.specs.declared.terms.parts.Union.{Union}
use Rattle.wac_merge_imports.specs.declared.unions.shared.Shared.{Shared}

-- The interface of the first union of a single interface.
abbrev pub first_in : Shared → InterfaceId → Option InterfaceId
first_in shared i = get (λ a b. nat_eq a.0 b.0) shared.first i

-- Two interfaces have one id if they are equal.
pub record IsOneWhereAlike (m : Collection) (v w : InterfaceId) : Type 0 where
  pub first : Interface
  pub second : Interface
  pub first_at : item_at m.interfaces v.0 ≡ Some first
  pub second_at : item_at m.interfaces w.0 ≡ Some second
  pub one : first ≡ second → w ≡ v

-- A union got the interface w. P holds for its single interface, if it has one.
-- If the first union of that single interface has an equal interface, w is shared with it; otherwise w is new.
pub record Shares (P : InterfaceId → Type 0) (before after : Collection) (old new : InterfaceId → Option InterfaceId) (w : InterfaceId) : Type 0 where
  pub stay : (i v : InterfaceId) → old i ≡ Some v → new i ≡ Some v
  pub known : (i v : InterfaceId) → new i ≡ Some v → (old i ≡ Some v) ⊎ (P i × (v ≡ w))
  pub first : (i : InterfaceId) → P i → (v : InterfaceId) × (new i ≡ Some v) × IsOneWhereAlike after v w
  pub apart : (HasInterface before w → ⊥) ⊎ ((i : InterfaceId) × P i × (old i ≡ Some w))

-- The union of these parts has a single interface and keeps its id.
pub record IsAloneIn (c : Collection) (ps : List Part) (id : Option Name) (parts : List ℕ) (i : InterfaceId) : Type 0 where
  pub number : ℕ
  pub part : Part
  pub only : parts ≡ number ∷ []
  pub at : slice_get ps number ≡ Some part
  pub of : part.interface ≡ i
  pub own : instance_id c (kind.Instance i) ≡ id

-- The union at a position has a single interface and keeps its id.
pub record IsAloneAt (c : Collection) (us : List Union) (ps : List Part) (ids : List (Option Name)) (u : ℕ) (i : InterfaceId) : Type 0 where
  pub union : Union
  pub id : Option Name
  pub at : slice_get us u ≡ Some union
  pub named : slice_get ids u ≡ Some id
  pub alone : IsAloneIn c ps id union.parts.items i

-- Unions of one single interface share the interface of the first of them if theirs are equal.
-- Unions that share an interface have one single interface.
pub record AreShared (c m : Collection) (us : List Union) (ps : List Part) (ids : List (Option Name)) (first : InterfaceId → Option InterfaceId) (Became : ℕ → InterfaceId → Type 0) : Type 0 where
  pub known : (i v : InterfaceId) → first i ≡ Some v → (u : ℕ) × IsAloneAt c us ps ids u i × Became u v
  pub each : (u : ℕ) (i w : InterfaceId) → IsAloneAt c us ps ids u i → Became u w → (v : InterfaceId) × (first i ≡ Some v) × IsOneWhereAlike m v w
  pub apart : (u v : ℕ) (w : InterfaceId) → Became u w → Became v w → (u ≡ v) ⊎ ((i : InterfaceId) × IsAloneAt c us ps ids u i × IsAloneAt c us ps ids v i)

-- The union at a position got this interface, where unions are written from the last to the first.
abbrev pub IsWrittenLast : ℕ → List InterfaceId → ℕ → InterfaceId → Type 0
IsWrittenLast count written u w = (j : ℕ) × (slice_get written j ≡ Some w) × (j + u + 1 ≡ count)

-- The interfaces of all unions are shared in this way.
abbrev pub AreSharedUnions : Collection → Collection → List Union → List Part → List (Option Name) → List InterfaceId → Type 0
AreSharedUnions c m us ps ids ws = (first : InterfaceId → Option InterfaceId) × AreShared c m us ps ids first (λ u w. slice_get ws u ≡ Some w)

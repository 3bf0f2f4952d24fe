-- The order of the items on a side of a component type.
use Rattle.std.specs.Prelude.{ℕ, zero, suc, ◌≡◌, Bool, true, false, if◌then◌else◌, List, [], ◌∷◌, ◌++◌, length, slice_get}
use Rattle.wac_types_shapes.specs.primitives.Name.{Name, option_case}
use Rattle.wac_types_shapes.specs.declared.shapes.component.ItemKind.{ItemKind}
use Rattle.wac_types_shapes.specs.declared.shapes.component.ItemKind.TheVariants as kind
use Rattle.wac_types_shapes.specs.declared.shapes.component.«Type».TheVariants as ty
use Rattle.wac_types_collection.specs.collection.Collection.{Collection}
use Rattle.wac_types_collection.specs.collection.Bound.{lists_type}
use Rattle.wac_encode_order.specs.private.TypeItems.{Reaches, Takes}
use Rattle.wac_edges.specs.Arranged.{Arranges}

-- The item is an instance.
abbrev pub lists_instance : Name × ItemKind → Bool
lists_instance (n, kind.Instance i) = true
lists_instance _ = false

-- The item is neither an instance nor a type item.
abbrev pub lists_rest : Name × ItemKind → Bool
lists_rest (n, kind.Instance i) = false
lists_rest (n, kind.TypeItem t) = false
lists_rest _ = true

-- The item at this position is a type item.
abbrev pub is_type_at : List (Name × ItemKind) → ℕ → Bool
is_type_at es p = option_case (slice_get es p) false lists_type

-- The item is a type item of a resource.
abbrev pub lists_resource : Name × ItemKind → Bool
lists_resource (n, kind.TypeItem (ty.Resource r)) = true
lists_resource _ = false

-- The item at this position is a type item of a resource.
abbrev pub is_resource_at : List (Name × ItemKind) → ℕ → Bool
is_resource_at es p = option_case (slice_get es p) false lists_resource

-- The type item at p reaches the one at q, which is of no resource. That an item comes after the resources which it
-- mentions is left to the items that it depends on.
pub record ReachesType (c : Collection) (es : List (Name × ItemKind)) (p q : ℕ) : Type 0 where
  pub reaches : Reaches c es p q
  pub other : is_resource_at es q ≡ false

-- The positions of the items for which f holds. The first of these items is at position i.
abbrev pub positions_of : (Name × ItemKind → Bool) → ℕ → List (Name × ItemKind) → List ℕ
positions_of f i [] = []
positions_of f i (e ∷ es) = if f e then i ∷ positions_of f (suc i) es else positions_of f (suc i) es

-- The n numbers from a on.
abbrev pub counted_from : ℕ → ℕ → List ℕ
counted_from a zero = []
counted_from a (suc n) = a ∷ counted_from (suc a) n

-- The items in groups, with n more instances after them: instances, these type items, and the rest.
abbrev pub grouped : List (Name × ItemKind) → ℕ → List ℕ → List ℕ
grouped es n types = positions_of lists_instance 0 es ++ (counted_from (length es) n ++ (types ++ positions_of lists_rest 0 es))

-- The groups. Of the type items, the next is the first of those left that reaches none of those left, resources aside.
pub record AreGroups (c : Collection) (es : List (Name × ItemKind)) (n : ℕ) (all : List ℕ) : Type 0 where
  pub types : List ℕ
  pub taken : Takes (ReachesType c es) (is_type_at es) types
  pub is : all ≡ grouped es n types

-- The items in groups, each directly after the items that it depends on.
pub record IsSideOrder (c : Collection) (es : List (Name × ItemKind)) (n : ℕ) (depends : ℕ → ℕ → Type 0) (order : List ℕ) : Type 0 where
  pub all : List ℕ
  pub groups : AreGroups c es n all
  pub arranged : Arranges depends all [] all order

-- The order of the items of an instance type.
use Rattle.std.specs.Prelude.{ℕ, suc, ◌≡◌, ◌&&◌, ◌||◌, not, Bool, false, if◌then◌else◌, is_none, List, [], ◌∷◌, ◌++◌, slice_get}
use Rattle.wac_types_shapes.specs.primitives.Name.{Name, find_name, option_case}
use Rattle.wac_types_shapes.specs.declared.shapes.component.Interface.{Interface}
use Rattle.wac_types_shapes.specs.declared.shapes.component.ItemKind.{ItemKind}
use Rattle.wac_types_shapes.specs.declared.shapes.component.ItemKind.TheVariants as kind
use Rattle.wac_types_shapes.specs.declared.shapes.component.UsedType.{UsedType}
use Rattle.wac_types_shapes.specs.declared.shapes.component.«Type».TheVariants as ty
use Rattle.wac_types_collection.specs.collection.Collection.{Collection}
use Rattle.wac_types_collection.specs.collection.Bound.{is_alias, lists_type}
use Rattle.wac_encode_order.specs.private.TypeItems.{Reaches, Takes}

-- The item is a type item of a resource that is neither an alias nor a used type: an own resource of the interface.
abbrev pub lists_own_resource : Collection → List (Name × UsedType) → Name × ItemKind → Bool
lists_own_resource c uses (n, kind.TypeItem (ty.Resource r)) = not (is_alias c r) && is_none (find_name uses n)
lists_own_resource c uses _ = false

-- The item is another type item.
abbrev pub lists_other_type : Collection → List (Name × UsedType) → Name × ItemKind → Bool
lists_other_type c uses e = lists_type e && not (lists_own_resource c uses e)

-- The item at this position is a type item other than of an own resource.
abbrev pub is_other_type_at : Collection → Interface → ℕ → Bool
is_other_type_at c it p = option_case (slice_get it.exports p) false (lists_other_type c it.uses)

-- The positions of the items that are no type items. The first of these items is at position i.
abbrev pub others_from : ℕ → List (Name × ItemKind) → List ℕ
others_from i [] = []
others_from i (e ∷ es) = if lists_type e then others_from (suc i) es else i ∷ others_from (suc i) es

-- The item comes after the own resources: it is no own resource, and a type item if only those are exported.
abbrev pub comes_later : Collection → Interface → Bool → Name × ItemKind → Bool
comes_later c it types_only e = not (lists_own_resource c it.uses e) && (lists_type e || not types_only)

-- The item at this position comes after the own resources.
abbrev pub is_later_at : Collection → Interface → Bool → ℕ → Bool
is_later_at c it types_only p = option_case (slice_get it.exports p) false (comes_later c it types_only)

-- The order of an interface's items after its own resources: type items, the next the first of those left that reaches
-- none of those left, and then the other items as they are listed, unless only type items are exported.
pub record IsInterfaceOrder (c : Collection) (it : Interface) (types_only : Bool) (order : List ℕ) : Type 0 where
  pub types : List ℕ
  pub taken : Takes (Reaches c it.exports) (is_other_type_at c it) types
  pub is : order ≡ types ++ (if types_only then [] else others_from 0 it.exports)

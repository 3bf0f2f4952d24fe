-- Which import binds a resource, as it is looked up; private functions alone cite this.
use Rattle.std.specs.Prelude.{ℕ, ◌==◌, ◌&&◌, Bool, false, if◌then◌else◌, List, Option, Some, None}
use Rattle.wac_types_shapes.specs.primitives.Name.{Name}
use Rattle.wac_types_shapes.specs.primitives.Tree.{Place}
use Rattle.wac_types_shapes.specs.declared.shapes.component.InterfaceId.{InterfaceId}
use Rattle.wac_types_shapes.specs.declared.shapes.component.ItemKind.{ItemKind}
use Rattle.wac_types_shapes.specs.declared.shapes.component.ItemKind.TheVariants as kind
use Rattle.wac_types_shapes.specs.declared.shapes.component.ResourceId.{ResourceId}
use Rattle.wac_types_shapes.specs.declared.shapes.component.«Type».TheVariants as ty
use Rattle.wac_merge_classes.specs.entries.Bindings.{ClassBindings, first_in}

-- Whether the class that is the first to bind has this number.
abbrev pub is_class : ℕ → Option (ℕ × List Place) → Bool
is_class p None = false
is_class p (Some b) = b.0 == p

-- The resource of a type item, if the class with this number is the first to bind it.
abbrev pub first_of : ClassBindings → ℕ → ItemKind → Option ResourceId
first_of b p (kind.TypeItem (ty.Resource q)) = if is_class p (first_in b q) then Some q else None
first_of b p k = None

-- Whether the item is a type item of the resource, and that class is the first to bind it.
abbrev pub is_first_of : ClassBindings → ℕ → ResourceId → Name × ItemKind → Bool
is_first_of b p r (n, kind.TypeItem (ty.Resource q)) = (r.0 == q.0) && is_class p (first_in b q)
is_first_of b p r e = false

-- Whether there is a resource, and it is this one.
abbrev pub is_that : Option ResourceId → ResourceId → Bool
is_that None r = false
is_that (Some q) r = r.0 == q.0

-- The interface of an instance; then the resource of a type item.
abbrev pub interface_of : ItemKind → Option InterfaceId
interface_of (kind.Instance i) = Some i
interface_of k = None

abbrev pub resource_of : ItemKind → Option ResourceId
resource_of (kind.TypeItem (ty.Resource r)) = Some r
resource_of k = None

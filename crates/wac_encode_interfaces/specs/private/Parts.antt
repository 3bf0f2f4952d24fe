-- The parts of a component type, and instances that are listed; private functions alone cite this.
use Rattle.std.specs.Prelude.{ℕ, ◌≡◌, ◌==◌, ◌&&◌, Bool, false, if◌then◌else◌, List, [], ◌∷◌, ◌++◌, length, take, Option, Some, None}
use Rattle.wac_types_shapes.specs.primitives.Name.{Name}
use Rattle.wac_types_shapes.specs.primitives.Tree.{Side, named, Tree, instance_item}
use Rattle.wac_types_shapes.specs.declared.shapes.component.InterfaceId.{InterfaceId}
use Rattle.wac_types_shapes.specs.declared.shapes.component.ResourceId.{ResourceId}
use Rattle.wac_types_shapes.specs.declared.shapes.component.ItemKind.{ItemKind}
use Rattle.wac_types_shapes.specs.declared.shapes.component.ItemKind.TheVariants as kind
use Rattle.wac_types_shapes.specs.declared.shapes.component.«Type».{«Type» as AnyType}
use Rattle.wac_types_shapes.specs.declared.shapes.component.«Type».TheVariants as ty
use Rattle.wac_types_collection.specs.collection.Collection.{Collection}
use Rattle.wac_types_collection.specs.collection.Bound.{Bindings}
use Rattle.wac_binary.specs.HasMeaning.{IsFree}
use Rattle.wac_encode_stacks.specs.Good.{At, Good, innermost}
use Rattle.wac_encode_stacks.specs.Listed.{on_side}
use Rattle.wac_encode_scopes.specs.declared.state.State.{State}
use Rattle.wac_encode_scopes.specs.States.{stack}
use Rattle.wac_encode_scopes.specs.private.Components.{IsComponentType}
use Rattle.wac_encode_faults.specs.Sides.{Sides, parted_sides, export_bindings}
use Rattle.wac_encode_faults.specs.Free.{SideItem}
use Rattle.wac_encode_faults.specs.Cycle.{numbered_items, owner_of, AreOwners}
use Rattle.wac_encode_interfaces.specs.declared.sides.Parts.{Parts}
use Rattle.wac_encode_interfaces.specs.private.Trees.{IsInterfaceHeld}
use Rattle.wac_encode_interfaces.specs.private.Worlds.{Worlds}
use Rattle.wac_encode_interfaces.specs.private.Written.{side_item, IsWritten, IsNext, AreWritable, AddsToSide}

-- The sides with these parts.
abbrev pub sides_in : Parts → Sides
sides_in x = parted_sides x.uses.now (length x.listed.now) x.imports.now x.exports.now

-- The parts can be written, and the owners of resources are theirs.
pub record ArePlanned (c : Collection) (ws : Worlds) (x : Parts) : Type 0 where
  pub listed : take (length x.listed.now) x.imports.now ≡ x.listed.now
  pub writable : AreWritable c ws (sides_in x)
  pub owners : AreOwners (numbered_items (sides_in x)) (export_bindings c (sides_in x)) x.owners.now.entries

-- Some items are written, and this one is next.
abbrev pub MayFollow : Collection → Bool → Parts → Side → Name → State → Type 0
MayFollow c b x side n st = (xs : List SideItem) × IsNext c b (sides_in x) xs (side_item side n) st

-- If the item is next after the written ones, it is written after the step.
abbrev pub WritesItem : Collection → Bool → Parts → Side → Name → State → State → Type 0
WritesItem c b x side n old new = (xs : List SideItem) → IsNext c b (sides_in x) xs (side_item side n) old → IsWritten c b (sides_in x) (xs ++ side_item side n ∷ []) new

-- An instance of the interface is added to one side of a component type without enclosing scope, and has the index k.
abbrev pub ListsInterface : Collection → Bool → Side → Name → Bool → InterfaceId → State → State → ℕ → Type 0
ListsInterface c b side n types_only i old new k = (m : Bindings) → old.around.items ≡ [] → Good c (m ∷ []) (stack b old) → IsFree (on_side side (innermost (stack b old)) n)
    → (t : Tree) × IsInterfaceHeld c types_only m i t × AddsToSide c b side n m (instance_item t) old new × At ((innermost (stack b new)).instances) k (record { type = t; side = side; path = named n ∷ [] })

-- Whether the number is this one.
abbrev pub is_number : ℕ → Option ℕ → Bool
is_number p None = false
is_number p (Some q) = q == p

-- Whether the item is a type item of the resource, and the resource has this number.
abbrev pub is_owned : List (ResourceId × ℕ) → ℕ → ResourceId → Name × ItemKind → Bool
is_owned entries p r (n, kind.TypeItem (ty.Resource q)) = (r.0 == q.0) && is_number p (owner_of entries q)
is_owned entries p r e = false

-- The resource of a type item, if it has this number.
abbrev pub owned_in : List (ResourceId × ℕ) → ℕ → ItemKind → Option ResourceId
owned_in entries p (kind.TypeItem (ty.Resource q)) = if is_number p (owner_of entries q) then Some q else None
owned_in entries p k = None

-- The interface of an instance; then the resource of a type item.
abbrev pub interface_of : ItemKind → Option InterfaceId
interface_of (kind.Instance i) = Some i
interface_of k = None

abbrev pub resource_of : ItemKind → Option ResourceId
resource_of (kind.TypeItem (ty.Resource r)) = Some r
resource_of k = None

-- The interface, if the type is one.
abbrev pub type_interface : AnyType → Option InterfaceId
type_interface (ty.Interface i) = Some i
type_interface t = None

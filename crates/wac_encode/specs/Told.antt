-- Items of which a caller tells a state at which index they are.
use Rattle.std.specs.Prelude.{ℕ, ◌≡◌, ◌==◌, Bool, if◌then◌else◌, Option, Some, None, slice_get, Contains}
use Rattle.wac_types_shapes.specs.primitives.Name.{Name, option_case, first_some}
use Rattle.wac_types_shapes.specs.primitives.Tree.{Leaf, Tree, resource}
use Rattle.wac_types_shapes.specs.declared.shapes.component.Interface.{Interface}
use Rattle.wac_types_shapes.specs.declared.shapes.component.ResourceId.{ResourceId}
use Rattle.wac_types_shapes.specs.declared.shapes.component.DefinedTypeId.{DefinedTypeId}
use Rattle.wac_types_shapes.specs.declared.shapes.component.InterfaceId.{InterfaceId}
use Rattle.wac_types_shapes.specs.declared.shapes.component.ValueType.{ValueType}
use Rattle.wac_types_shapes.specs.declared.shapes.component.ValueType.TheVariants as val
use Rattle.wac_types_shapes.specs.declared.shapes.component.ItemKind.{ItemKind}
use Rattle.wac_types_shapes.specs.declared.shapes.component.ItemKind.TheVariants as kind
use Rattle.wac_types_shapes.specs.declared.shapes.component.«Type».{«Type» as AnyType}
use Rattle.wac_types_shapes.specs.declared.shapes.component.«Type».TheVariants as ty
use Rattle.wac_types_collection.specs.collection.Collection.{Collection, item_at}
use Rattle.wac_types_collection.specs.collection.Aliases.{value_resolved}
use Rattle.wac_types_collection.specs.collection.Held.{resolved}
use Rattle.wac_types_collection.specs.collection.Bound.{Bindings, own_name}
use Rattle.wac_binary.specs.Unfold.{Scope, Bound}
use Rattle.wac_encode_faults.specs.Free.{IsFree}
use Rattle.wac_encode_stacks.specs.Good.{At, IsHeld, IsOf}
use Rattle.wac_encode_stacks.specs.Instances.{Shows, taken_leaf}
use Rattle.wac_encode.specs.declared.state.State.{State}
use Rattle.wac_encode.specs.Named.{HasNameIn}
use Rattle.wac_encode.specs.Root.{written_items, component_scope, IsStateFor, KeepsOther}

-- The type index refers to the type, if it is to be recorded. A resource is if it is no alias and is not bound yet.
abbrev pub StandsForType : Collection → Bindings → Scope → AnyType → ℕ → Type 0
StandsForType c m w (ty.Resource r) k = resolved c r ≡ r → m r ≡ None → (l : Leaf) × At w.types k (resource l)
StandsForType c m w (ty.Module x) k = Unit {0}
StandsForType c m w a k = (t : Tree) × IsHeld c m a t × IsOf a t × At w.types k t

-- The index refers to the item, where resources are bound by m. An instance has the type items of its interface, perhaps with others.
abbrev pub StandsFor : Collection → Bindings → Scope → ItemKind → ℕ → Type 0
StandsFor c m w (kind.TypeItem a) k = StandsForType c m w a k
StandsFor c m w (kind.Instance i) k = (it : Interface) → item_at c.interfaces i.0 ≡ Some it → (x : Bound) × At w.instances k x × Shows c m it x
StandsFor c m w item k = Unit {0}

-- The leaf of a resource, if the tree is that of a resource.
abbrev pub leaf_in : Option Tree → Option Leaf
leaf_in (Some (resource l)) = Some l
leaf_in t = None

-- The bindings that an item at this index makes: of the own resources of an instance's interface, or of a type item's resource that is no alias.
abbrev pub told_bindings : Collection → Scope → ItemKind → ℕ → Bindings
told_bindings c w (kind.Instance i) k r =
    option_case (item_at c.interfaces i.0) None (λ it.
    option_case (slice_get w.instances k) None (λ x.
    option_case (own_name c it.uses it.exports r) None (λ n. Some (taken_leaf x n))))
told_bindings c w (kind.TypeItem (ty.Resource q)) k r = if (resolved c q).0 == q.0 then (if r.0 == q.0 then leaf_in (slice_get w.types k) else None) else None
told_bindings c w item k r = None

-- The bindings after the item is told: those before it come first.
abbrev pub and_told : Collection → Scope → ItemKind → ℕ → Bindings → Bindings
and_told c w item k m r = first_some (m r) (told_bindings c w item k r)

-- An instance exports the definition under a name of its interface. The definition means the same in it as outside: no own
-- resource of the interface that is free in it was bound before, so each is bound to the instance.
pub record ExportsDefinition (c : Collection) (m : Bindings) (i : InterfaceId) (d : DefinedTypeId) : Type 0 where
  pub interface : Interface
  pub there : item_at c.interfaces i.0 ≡ Some interface
  pub name : Name
  pub value : ValueType
  pub listed : Contains interface.exports (name, kind.TypeItem (ty.Value value))
  pub resolves : value_resolved c value ≡ val.Defined d
  pub same : (r : ResourceId) (n : Name) → IsFree c (ty.Value (val.Defined d)) r → own_name c interface.uses interface.exports r ≡ Some n → m r ≡ None

-- The item is a name of the definition, where resources are bound by m before it is told.
abbrev pub NamesDefinition : Collection → Bindings → ItemKind → DefinedTypeId → Type 0
NamesDefinition c m (kind.TypeItem (ty.Value v)) d = value_resolved c v ≡ val.Defined d
NamesDefinition c m (kind.Instance i) d = ExportsDefinition c m i d
NamesDefinition c m item d = ⊥

-- The state is told that the item is at this index. The component is unchanged.
pub record TellsItem (c : Collection) (b : Bool) (item : ItemKind) (k : ℕ) (old new : State) : Type 0 where
  pub unchanged : written_items new ≡ written_items old
  pub state : (m : Bindings) → IsStateFor c b m old → IsStateFor c b (and_told c (component_scope old) item k m) new
  -- Each definition that the item names has a name from then on.
  pub named : (m : Bindings) → IsStateFor c b m old → (d : DefinedTypeId) → NamesDefinition c m item d → HasNameIn b new d
  pub other : KeepsOther b old new

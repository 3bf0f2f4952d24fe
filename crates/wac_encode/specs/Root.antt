-- A component that is written by hand: its items, what is right of it for a collection, and the types that are written into it.
use Rattle.std.specs.Prelude.{ℕ, ◌≡◌, Bool, true, not, List, [], ◌∷◌, ◌++◌, Some}
use Rattle.std.specs.List.{AllByRecursion}
use Rattle.wac_types_shapes.specs.primitives.Tree.{Leaf, resource}
use Rattle.wac_types_shapes.specs.declared.shapes.component.ResourceId.{ResourceId}
use Rattle.wac_types_shapes.specs.declared.shapes.component.«Type».{«Type» as AnyType}
use Rattle.wac_types_shapes.specs.declared.shapes.component.«Type».TheVariants as ty
use Rattle.wac_types_collection.specs.collection.Collection.{Collection, holds_type}
use Rattle.wac_types_collection.specs.collection.Bound.{Bindings, held_tree}
use Rattle.wac_binary.specs.Items.{Item}
use Rattle.wac_binary.specs.Meaning.{meaning}
use Rattle.wac_binary.specs.Unfold.{Scope}
use Rattle.wac_encode_stacks.specs.Scopes.{Where}
use Rattle.wac_encode_stacks.specs.Good.{At, Good, Keeps, Stands}
use Rattle.wac_encode_scopes.specs.declared.encodable.Encodable.{Encodable}
use Rattle.wac_encode_scopes.specs.declared.scope.Scope.{Scope as OpenScope}
use Rattle.wac_encode_scopes.specs.Contents.{IsTypeItem}
use Rattle.wac_encode_scopes.specs.Roots.{IsRoot, items_of}
use Rattle.wac_encode_scopes.specs.States.{stack, IsPlace}
use Rattle.wac_encode.specs.declared.state.ResourcePlace.{ResourcePlace}
use Rattle.wac_encode.specs.declared.state.State.{State}

-- The items of the component.
abbrev pub written_items : State → List Item
written_items s = items_of s.scopes.here.content

-- What the indexes of the component refer to.
abbrev pub component_scope : State → Scope
component_scope s = (meaning (written_items s)).scope

-- The component may be lent: it is the innermost scope.
abbrev pub HasRoot : State → Type 0
HasRoot s = IsRoot s.scopes.here.content

-- The component is right for the types of the collection, whose resources are bound by m in it.
pub record IsStateFor (c : Collection) (b : Bool) (m : Bindings) (s : State) : Type 0 where
  -- The component is the only open scope.
  pub root : HasRoot s
  -- Its items have a meaning, and what is recorded of the types is at its index.
  pub good : Good c (m ∷ []) (stack b s.scopes)
  -- Only resources of the collection are bound.
  pub held : (r : ResourceId) (l : Leaf) → m r ≡ Some l → holds_type c (ty.Resource r) ≡ true

-- What is right for the types of the other collection stays right.
abbrev pub KeepsOther : Bool → State → State → Type 0
KeepsOther b old new = (d : Collection) (m : Bindings) → IsStateFor d (not b) m old → IsStateFor d (not b) m new

-- Types are written into the component, for the types of one collection.
pub record WritesTypes (c : Collection) (b : Bool) (old new : State) : Type 0 where
  -- Types and aliases of types alone are appended.
  pub more : List Item
  pub types : AllByRecursion IsTypeItem more
  pub added : written_items new ≡ written_items old ++ more
  -- Each index refers to what it referred to.
  pub keeps : Keeps (component_scope old) (component_scope new)
  -- The component stays right, with the same resources bound.
  pub state : (m : Bindings) → IsStateFor c b m old → IsStateFor c b m new
  pub other : KeepsOther b old new

-- The content of the outermost scope.
abbrev pub outermost : List OpenScope → OpenScope → Encodable
outermost [] here = here.content
outermost (s ∷ ss) here = s.content

-- The old items are still there, perhaps with more after them. Scopes may be open inside the component.
abbrev pub KeepsOldItems : State → State → Type 0
KeepsOldItems old new = (more : List Item) × (items_of (outermost new.scopes.around.items new.scopes.here) ≡ written_items old ++ more)

-- The index refers to the type, where resources are bound by m: a core type index for a core module, or else a type index.
abbrev pub RefersToType : Collection → Bindings → AnyType → State → ℕ → Type 0
RefersToType c m (ty.Module x) s k = At ((component_scope s).core_types) k (held_tree c m (ty.Module x))
RefersToType c m a s k = At ((component_scope s).types) k (held_tree c m a)

-- The resource is found at this place in the component: at a type index if is_type, or else as an export of the instance with
-- this index.
pub record IsResourcePlace (m : Bindings) (s : State) (r : ResourceId) (p : ResourcePlace) : Type 0 where
  pub here : p.out ≡ 0
  pub leaf : Leaf
  pub bound : m r ≡ Some leaf
  pub place : Where
  pub index : IsPlace place p.index p.is_type
  pub stands : Stands (component_scope s) (resource leaf) place

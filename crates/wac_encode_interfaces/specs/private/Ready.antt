-- Interfaces and component types that can be written, and the index of an interface that is written.
use Rattle.std.specs.Prelude.{ℕ, Bool, true, false, List}
use Rattle.wac_types_shapes.specs.primitives.Tree.{Tree}
use Rattle.wac_types_shapes.specs.declared.shapes.component.InterfaceId.{InterfaceId}
use Rattle.wac_types_shapes.specs.declared.shapes.component.«Type».{«Type» as AnyType}
use Rattle.wac_types_shapes.specs.declared.shapes.component.«Type».TheVariants as ty
use Rattle.wac_types_collection.specs.collection.Collection.{Collection}
use Rattle.wac_types_collection.specs.collection.Bound.{Bindings}
use Rattle.wac_binary.specs.HasMeaning.{IsInstance}
use Rattle.wac_encode_stacks.specs.Good.{At, Good, innermost, top}
use Rattle.wac_encode_scopes.specs.declared.state.State.{State}
use Rattle.wac_encode_scopes.specs.States.{stack}
use Rattle.wac_encode_faults.specs.declared.fault.WriteFault.{WriteFault}
use Rattle.wac_encode_faults.specs.Sides.{Sides}
use Rattle.wac_encode_faults.specs.Faults.{IsFaultInside, IsFaultOfTypes, IsSidesFault}
use Rattle.wac_encode_interfaces.specs.private.Trees.{IsInterfaceHeld}

-- Nothing inside the type has a fault.
abbrev pub IsClean : Collection → AnyType → Type 0
IsClean c a = (f : WriteFault) → IsFaultInside c a f → ⊥

-- Nothing inside the interface, of its types only or of all its items, has a fault.
abbrev pub IsInterfaceClean : Collection → Bool → InterfaceId → Type 0
IsInterfaceClean c true i = (f : WriteFault) → IsFaultOfTypes c i f → ⊥
IsInterfaceClean c false i = IsClean c (ty.Interface i)

-- A component type with these sides has no fault.
abbrev pub AreSidesClean : Collection → Sides → Type 0
AreSidesClean c s = (f : WriteFault) → IsSidesFault c s f → ⊥

-- The interface can be written: the scopes are good under some bindings, which bind each resource that it mentions, and
-- nothing inside it has a fault.
pub record IsInterfaceReady (c : Collection) (b : Bool) (s : State) (types_only : Bool) (i : InterfaceId) : Type 0 where
  pub bindings : List Bindings
  pub good : Good c bindings (stack b s)
  pub tree : Tree
  pub held : IsInterfaceHeld c types_only (top bindings) i tree
  pub clean : IsInterfaceClean c types_only i

-- The type index in the innermost scope refers to the interface's instance type, under all bindings under which the
-- scopes are good.
abbrev pub IsInterfaceAt : Collection → Bool → State → Bool → InterfaceId → ℕ → Type 0
IsInterfaceAt c b s types_only i k = (ms : List Bindings) → Good c ms (stack b s)
    → (t : Tree) × IsInterfaceHeld c types_only (top ms) i t × IsInstance t × At ((innermost (stack b s)).types) k t

-- How the worlds inside types are found and written; private functions alone cite this.
use Rattle.std.specs.Prelude.{ℕ, ◌≡◌, Bool, true, false, List, [], ◌∷◌, ◌++◌, map, take, Some, slice_get, Contains}
use Rattle.std.specs.List.{flat_map, list_any}
use Rattle.indexmap.specs.IndexSet.{insert_key}
use Rattle.wac_types_shapes.specs.primitives.Name.{Name}
use Rattle.wac_types_shapes.specs.shapes.Kinds.{kind_type}
use Rattle.wac_types_shapes.specs.contracts.shapes.component.TypePartialEq.TheImpl as TypeEq
use Rattle.wac_types_shapes.specs.declared.shapes.component.ItemKind.{ItemKind}
use Rattle.wac_types_shapes.specs.declared.shapes.component.WorldId.{WorldId}
use Rattle.wac_types_shapes.specs.declared.shapes.component.«Type».{«Type» as AnyType}
use Rattle.wac_types_shapes.specs.declared.shapes.component.«Type».TheVariants as ty
use Rattle.wac_types_collection.specs.collection.Collection.{Collection, holds_type}
use Rattle.wac_types_collection.specs.collection.Bound.{Bindings}
use Rattle.wac_binary.specs.Items.{Decl}
use Rattle.wac_encode_stacks.specs.Good.{IsHeld}
use Rattle.wac_encode_scopes.specs.private.Components.{ComponentHasMeaning, component_tree}
use Rattle.wac_encode_faults.specs.Faults.{listed_items, IsListed}
use Rattle.wac_encode_interfaces.specs.declared.inside.Step.{Step}
use Rattle.wac_encode_interfaces.specs.declared.inside.Step.TheVariants as step
use Rattle.wac_encode_interfaces.specs.private.Worlds.{Worlds, HaveWorlds}
use Rattle.wac_encode_interfaces.specs.private.Ready.{IsClean}

-- The type itself, if it is an interface or a world.
abbrev pub interface_or_world : AnyType → List AnyType
interface_or_world (ty.Interface i) = ty.Interface i ∷ []
interface_or_world (ty.World w) = ty.World w ∷ []
interface_or_world (ty.Resource r) = []
interface_or_world (ty.Func f) = []
interface_or_world (ty.Value v) = []
interface_or_world (ty.Module m) = []

-- The interfaces and worlds that are types of the items.
abbrev pub interfaces_and_worlds : List (Name × ItemKind) → List AnyType
interfaces_and_worlds items = flat_map (λ e. interface_or_world (kind_type e.1)) items

-- The interfaces and worlds that are types of a type's imports and exports.
abbrev pub inner_types : Collection → AnyType → List AnyType
inner_types c t = interfaces_and_worlds (listed_items c t)

-- Each type is after the interfaces and worlds that are types of its imports and exports.
abbrev pub IsInnerFirst : Collection → List AnyType → Type 0
IsInnerFirst c ts = (p : ℕ) (t u : AnyType) → slice_get ts p ≡ Some t → Contains (inner_types c t) u → Contains (take p ts) u

-- The type is of the collection, and nothing inside it has a fault.
abbrev pub IsCleanType : Collection → AnyType → Type 0
IsCleanType c t = (holds_type c t ≡ true) × IsClean c t

-- Each of the types is of the collection, and nothing inside it has a fault.
abbrev pub AreCleanTypes : Collection → List AnyType → Type 0
AreCleanTypes c ts = (t : AnyType) → Contains ts t → IsCleanType c t

-- Whether the type is among those that are done.
abbrev pub is_done : List AnyType → AnyType → Bool
is_done ts t = list_any ((TypeEq.ghosts).eq t) ts

-- Steps into types.
abbrev pub enter_all : List AnyType → List Step
enter_all ts = map (λ t. step.Enter t) ts

-- The type of a step.
abbrev pub step_type : Step → AnyType
step_type (step.Enter t) = t
step_type (step.Leave t) = t

-- What a step does with the types that are done, and with the steps that are pending.
abbrev pub TakesStep : Collection → Step → List AnyType → List Step → List AnyType → List Step → Type 0
TakesStep c (step.Enter t) done pending done_now pending_now =
    (done_now ≡ done) × (is_done done t ≡ true → pending_now ≡ pending)
    × (is_done done t ≡ false → pending_now ≡ (pending ++ step.Leave t ∷ []) ++ enter_all (inner_types c t))
TakesStep c (step.Leave t) done pending done_now pending_now = (done_now ≡ insert_key (TypeEq.ghosts).eq done t) × (pending_now ≡ pending)

-- The declarations have a meaning, and the tree of the world.
abbrev pub IsWorldType : Collection → WorldId → List Decl → Type 0
IsWorldType c w ds = ComponentHasMeaning ds × ((m : Bindings) → IsHeld c m (ty.World w) (component_tree ds))

-- Each world inside the types of a type's imports and exports is written.
abbrev pub HaveInner : Collection → Worlds → AnyType → Type 0
HaveInner c ws t = (k : ItemKind) → IsListed k (listed_items c t) → HaveWorlds c ws (kind_type k)

-- Each world that was written before is still written.
abbrev pub KeepsWorlds : Worlds → Worlds → Type 0
KeepsWorlds old new = (w : WorldId) (ds : List Decl) → old w ≡ Some ds → (es : List Decl) × (new w ≡ Some es)

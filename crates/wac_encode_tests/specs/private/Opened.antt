-- The root of open scopes, into which types of one of the two collections are written.
use Rattle.std.specs.Prelude.{ℕ, ◌≡◌, true, Bool, List, [], ◌∷◌, Option, Some, None, Contains}
use Rattle.wac_types_shapes.specs.primitives.Tree.{Leaf, Place}
use Rattle.wac_types_shapes.specs.declared.shapes.component.ResourceId.{ResourceId}
use Rattle.wac_types_shapes.specs.declared.shapes.component.ItemKind.{ItemKind}
use Rattle.wac_types_shapes.specs.declared.shapes.component.ItemKind.TheVariants as kind
use Rattle.wac_types_shapes.specs.declared.shapes.component.«Type».{«Type» as AnyType}
use Rattle.wac_types_shapes.specs.declared.shapes.component.«Type».TheVariants as ty
use Rattle.wac_types_shapes.specs.shapes.Kinds.{kind_type}
use Rattle.wac_types_collection.specs.collection.Collection.{Collection}
use Rattle.wac_types_collection.specs.collection.Bound.{Bindings}
use Rattle.wac_encode_stacks.specs.Good.{Good, innermost, top}
use Rattle.wac_encode_scopes.specs.declared.state.State.{State}
use Rattle.wac_encode_scopes.specs.Roots.{IsRoot}
use Rattle.wac_encode_scopes.specs.States.{stack}
use Rattle.wac_encode_scopes.specs.private.Telling.{is_one_of}
use Rattle.wac_encode_faults.specs.Faults.{import_fault}
use Rattle.wac_encode_faults.specs.Free.{IsFree}
use Rattle.wac_encode_interfaces.specs.private.Definitions.{IsFaultlessDefinition}
use Rattle.wac_encode_interfaces.specs.private.Imports.{RefersToImport}
use Rattle.wac_encode_interfaces.specs.private.Ready.{IsClean}

-- The root is the only open scope, and good under some bindings.
pub record IsRootOf (c : Collection) (b : Bool) (s : State) : Type 0 where
  pub bindings : List Bindings
  pub good : Good c bindings (stack b s)
  pub root : IsRoot s.here.content
  pub bottom : s.around.items ≡ []

-- The innermost scope binds each of these resources.
abbrev pub BindsAll : Bool → State → List ResourceId → Type 0
BindsAll b s rs = (r : ResourceId) → Contains rs r → (c : Collection) (ms : List Bindings) → Good c ms (stack b s) → (l : Leaf) × (top ms r ≡ Some l)

-- The innermost scope binds none of these resources.
abbrev pub BindsNoneOf : Bool → State → List ResourceId → Type 0
BindsNoneOf b s rs = (r : ResourceId) → is_one_of rs r ≡ true → (c : Collection) (ms : List Bindings) → Good c ms (stack b s) → top ms r ≡ None

-- The innermost scope binds each free resource of the item, and neither the item nor anything inside it has a fault.
pub record CanImport (c : Collection) (b : Bool) (s : State) (k : ItemKind) : Type 0 where
  pub binds : (r : ResourceId) → IsFree c (kind_type k) r → (ms : List Bindings) → Good c ms (stack b s) → (l : Leaf) × (top ms r ≡ Some l)
  pub writable : import_fault k ≡ None
  pub clean : IsClean c (kind_type k)

-- The resource of a type item.
abbrev pub item_resource : ItemKind → Option ResourceId
item_resource (kind.TypeItem (ty.Resource r)) = Some r
item_resource k = None

-- The index i refers to the item that the root imports: of a type item to its type, of an instance to the import.
abbrev pub IsImported : Collection → Bool → State → ItemKind → ℕ → Type 0
IsImported c b s k i = (m : Bindings) × (p : Place) × Good c (m ∷ []) (stack b s) × RefersToImport c m (innermost (stack b s)) p k i

-- The definition of the type has no fault under any bindings under which the innermost scope is good.
abbrev pub CanDefine : Collection → Bool → State → AnyType → Type 0
CanDefine c b s t = (ms : List Bindings) → Good c ms (stack b s) → IsFaultlessDefinition c (top ms) t

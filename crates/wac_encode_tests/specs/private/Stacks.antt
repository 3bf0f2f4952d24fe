-- Open scopes into which types of the merged collection are written.
use Rattle.std.specs.Prelude.{◌≡◌, true, List, [], ◌∷◌, Some}
use Rattle.wac_types_shapes.specs.primitives.Name.{Name}
use Rattle.wac_types_shapes.specs.declared.shapes.component.ResourceId.{ResourceId}
use Rattle.wac_types_shapes.specs.declared.shapes.component.Interface.{Interface}
use Rattle.wac_types_shapes.specs.declared.shapes.component.«Type».{«Type» as AnyType}
use Rattle.wac_types_shapes.specs.declared.shapes.component.ItemKind.{ItemKind}
use Rattle.wac_types_collection.specs.collection.Collection.{Collection, seconds}
use Rattle.wac_types_shapes.specs.declared.shapes.component.ValueType.{ValueType}
use Rattle.wac_encode_stacks.specs.private.HeldParts.{HoldsAll}
use Rattle.wac_types_collection.specs.collection.Bound.{Bindings}
use Rattle.wac_binary.specs.Items.{decls}
use Rattle.wac_binary.specs.HasMeaning.{ImportNothing}
use Rattle.wac_encode_stacks.specs.Good.{Good, Holds, top}
use Rattle.wac_encode_scopes.specs.declared.encodable.Encodable.{Encodable}
use Rattle.wac_encode_scopes.specs.declared.encodable.Encodable.TheVariants.{Instance}
use Rattle.wac_encode_scopes.specs.declared.state.State.{State}
use Rattle.wac_encode_scopes.specs.private.Interfaces.{own_in}
use Rattle.wac_encode_scopes.specs.Roots.{IsRoot}
use Rattle.wac_encode_scopes.specs.States.{stack}

-- The scopes are good under some bindings.
abbrev pub AreGood : Collection → State → Type 0
AreGood c s = (ms : List Bindings) × Good c ms (stack true s)

-- The root is the only open scope, and good.
pub record IsGoodRoot (c : Collection) (s : State) : Type 0 where
  pub good : AreGood c s
  pub root : IsRoot s.here.content
  pub bottom : s.around.items ≡ []

-- An instance type, none of whose declarations is an import.
abbrev pub HasNoImports : Encodable → Type 0
HasNoImports (Instance ds) = ImportNothing (decls ds)
HasNoImports _ = ⊥

-- The innermost scope binds each resource that the type mentions.
abbrev pub MayWrite : Collection → State → AnyType → Type 0
MayWrite c s a = (ms : List Bindings) → Good c ms (stack true s) → Holds c (top ms) a

-- The interface exports one item, which has this own resource.
abbrev pub HasOnly : Collection → Interface → ResourceId → Type 0
HasOnly c it r = (n : Name) × (k : ItemKind) × (it.exports ≡ (n, k) ∷ []) × (own_in c it.uses (n, k) ≡ Some r)

-- The innermost scope binds each resource that these parameters mention.
abbrev pub MayWriteAll : Collection → State → List (Name × ValueType) → Type 0
MayWriteAll c s ps = (ms : List Bindings) → Good c ms (stack true s) → HoldsAll c (top ms) (seconds ps)

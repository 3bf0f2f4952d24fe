-- Component types, core module types and primitive types that are added to the innermost scope.
use Rattle.std.specs.Prelude.{ℕ, ◌≡◌, Bool, List, [], ◌∷◌, Option, Some}
use Rattle.wac_types_shapes.specs.primitives.Tree.{Tree, component, primitive}
use Rattle.wac_types_shapes.specs.declared.primitives.component.PrimitiveType.{PrimitiveType}
use Rattle.wac_types_shapes.specs.declared.shapes.component.WorldId.{WorldId}
use Rattle.wac_types_shapes.specs.declared.shapes.component.«Type».TheVariants as ty
use Rattle.wac_types_collection.specs.collection.Collection.{Collection}
use Rattle.wac_types_collection.specs.collection.Bound.{Bindings}
use Rattle.wac_binary.specs.Items.{Decl, decls, ModuleDecl}
use Rattle.wac_binary.specs.Unfold.{empty, after, no_module, module_tree}
use Rattle.wac_binary.specs.HasMeaning.{DeclsHaveMeaning, ModuleHasMeaning}
use Rattle.wac_encode_scopes.specs.declared.encodable.Encodable.{Encodable}
use Rattle.wac_encode_scopes.specs.declared.encodable.Encodable.TheVariants.{Component}
use Rattle.wac_encode_scopes.specs.declared.state.State.{State}
use Rattle.wac_encode_scopes.specs.States.{stack, Goes}
use Rattle.wac_encode_stacks.specs.Good.{At, Good, innermost, IsHeld}

abbrev pub IsComponentType : Encodable → Type 0
IsComponentType (Component ds) = Unit {0}
IsComponentType _ = ⊥

-- The declarations of a component type have a meaning: it has no enclosing scope.
abbrev pub ComponentHasMeaning : List Decl → Type 0
ComponentHasMeaning ds = DeclsHaveMeaning (decls ds) empty []

-- The tree of a component type with these declarations.
abbrev pub component_tree : List Decl → Tree
component_tree ds = component ((after (decls ds) empty []).imports) ((after (decls ds) empty []).exports)

-- A component type is added, and the index k refers to it. If it is to be recorded as a world, it has that world's tree.
abbrev pub DefinesComponent : Bool → Option WorldId → List Decl → State → State → ℕ → Type 0
DefinesComponent b w ds old new k = (c : Collection) → ComponentHasMeaning ds → ((i : WorldId) → w ≡ Some i → (m : Bindings) → IsHeld c m (ty.World i) (component_tree ds))
    → Goes c b old new × ((m : Bindings) (ms : List Bindings) → Good c (m ∷ ms) (stack b old) → At ((innermost (stack b new)).types) k (component_tree ds))

-- A core module type is added, and the core type index k refers to it.
abbrev pub DefinesModuleType : List ModuleDecl → State → State → ℕ → Type 0
DefinesModuleType ds old new k = ModuleHasMeaning no_module ds → (c : Collection) (b : Bool)
    → Goes c b old new × ((m : Bindings) (ms : List Bindings) → Good c (m ∷ ms) (stack b old) → At ((innermost (stack b new)).core_types) k (module_tree ds))

-- A primitive type is defined, and the type index k refers to it.
abbrev pub DefinesPrimitiveType : PrimitiveType → State → State → ℕ → Type 0
DefinesPrimitiveType p old new k = (c : Collection) (b : Bool) → Goes c b old new × ((m : Bindings) (ms : List Bindings) → Good c (m ∷ ms) (stack b old) → At ((innermost (stack b new)).types) k (primitive p))

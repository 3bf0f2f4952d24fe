-- Core module types in an open scope.
use Rattle.std.specs.Prelude.{ℕ, ◌≡◌, List, [], ◌∷◌, ◌++◌, Some}
use Rattle.wac_types_shapes.specs.declared.shapes.component.ModuleTypeId.{ModuleTypeId}
use Rattle.wac_types_shapes.specs.declared.shapes.core_types.ModuleType.{ModuleType}
use Rattle.wac_types_shapes.specs.declared.shapes.component.«Type».TheVariants as ty
use Rattle.wac_types_collection.specs.collection.Collection.{Collection, item_at}
use Rattle.wac_types_collection.specs.collection.Held.{module_tree as held_module_tree}
use Rattle.wac_types_collection.specs.collection.Bound.{Bindings}
use Rattle.wac_binary.specs.Items.{ModuleDecl, core_type_decl, core_type}
use Rattle.wac_binary.specs.Indexes.{core_types as core_space, declared, indexes}
use Rattle.wac_binary.specs.Unfold.{no_module, module_tree}
use Rattle.wac_binary.specs.HasMeaning.{ModuleHasMeaning}
use Rattle.wac_encode_stacks.specs.Scopes.{Content, declarations, root, Open, Stack, env, envs}
use Rattle.wac_encode_stacks.specs.Good.{At, IsHeld, Good, Onward}

abbrev pub and_module : List ModuleDecl → Content → Content
and_module t (declarations ds) = declarations (ds ++ core_type_decl t ∷ [])
and_module t (root items) = root (items ++ core_type t ∷ [])

abbrev pub module_count : Content → ℕ
module_count (declarations ds) = declared core_space ds
module_count (root items) = indexes core_space items

abbrev pub with_module : List ModuleDecl → Open → Open
with_module t o = record o { content = and_module t o.content }

-- A core module type that is added gets the next core type index.
abbrev pub DefinesModule : Type 0
DefinesModule = (c : Collection) (m : Bindings) (ms : List Bindings) (o : Open) (os : Stack) (t : List ModuleDecl)
    → Good c (m ∷ ms) (o ∷ os) → ModuleHasMeaning no_module t → Onward c (m ∷ ms) (o ∷ os) (with_module t o ∷ os)
    × At ((env (with_module t o) (envs os)).core_types) (module_count o.content) (module_tree t)

-- A module type of the collection has its tree under any bindings.
abbrev pub HoldsModule : Type 0
HoldsModule = (c : Collection) (m : Bindings) (k : ModuleTypeId) (x : ModuleType) → item_at c.modules k.0 ≡ Some x → IsHeld c m (ty.Module k) (held_module_tree x)

-- The declarations of a held core module type.
use Rattle.std.specs.Prelude.{ℕ, ◌+◌, ◌≡◌, List, [], ◌∷◌, ◌++◌}
use Rattle.wac_types_shapes.specs.primitives.Name.{Name}
use Rattle.wac_types_shapes.specs.shapes.Imports.{Pair}
use Rattle.wac_types_shapes.specs.declared.shapes.core_types.CoreExtern.{CoreExtern}
use Rattle.wac_types_shapes.specs.declared.shapes.core_types.CoreExtern.TheVariants as core
use Rattle.wac_types_shapes.specs.declared.shapes.core_types.ModuleType.{ModuleType}
use Rattle.wac_types_shapes.specs.primitives.Tree.{Tree}
use Rattle.wac_types_collection.specs.collection.Held.{module_tree as held_module_tree}
use Rattle.wac_binary.specs.declared.core_types.EntityType.{EntityType}
use Rattle.wac_binary.specs.declared.core_types.EntityType.TheVariants as t
use Rattle.wac_binary.specs.Items.{ModuleDecl, module_import, module_func, module_export}
use Rattle.wac_binary.specs.Indexes.{function_types}
use Rattle.wac_binary.specs.Unfold.{no_module, module_tree}
use Rattle.wac_binary.specs.HasMeaning.{ModuleHasMeaning}

-- how a core item is described, where the function type that it needs has this index
abbrev pub entity : ℕ → CoreExtern → EntityType
entity i (core.Func f) = t.Function i
entity i (core.Table element least most wide shared) = t.Table (record { element_type = element; table64 = wide; minimum = least; maximum = most; shared = shared })
entity i (core.Memory wide shared least most page) = t.Memory (record { minimum = least; maximum = most; memory64 = wide; shared = shared; page_size_log2 = page })
entity i (core.Global value mutable shared) = t.Global (record { val_type = value; mutable = mutable; shared = shared })
entity i (core.Tag f) = t.Tag i

-- the function type that a core item needs is declared before it, its own
abbrev pub type_before : CoreExtern → List ModuleDecl
type_before (core.Func f) = module_func f.params f.results ∷ []
type_before (core.Tag f) = module_func f.params f.results ∷ []
type_before x = []

-- an import and an export, behind so many function types
abbrev pub import_of : ℕ → Pair × CoreExtern → List ModuleDecl
import_of i e = type_before e.1 ++ module_import e.0.0 e.0.1 (entity i e.1) ∷ []

abbrev pub export_of : ℕ → Name × CoreExtern → List ModuleDecl
export_of i e = type_before e.1 ++ module_export e.0 (entity i e.1) ∷ []

-- each of a list in order, the first behind so many function types
abbrev pub in_order : {A : Type 0} → (ℕ → A → List ModuleDecl) → ℕ → List A → List ModuleDecl
in_order f i [] = []
in_order f i (x ∷ xs) = f i x ++ in_order f (i + function_types (f i x)) xs

-- the imports in order, then the exports in order
abbrev pub declarations_of : ModuleType → List ModuleDecl
declarations_of m = let imports = in_order import_of 0 m.imports in imports ++ in_order export_of (function_types imports) m.exports

-- the declarations have a meaning, and the tree of the held type
pub record MeansModule (m : ModuleType) (ds : List ModuleDecl) : Type 0 where
  pub meaning : ModuleHasMeaning no_module ds
  pub tree : ◌≡◌ {A = Tree} (module_tree ds) (held_module_tree m)

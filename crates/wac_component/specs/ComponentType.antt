-- Bytes that are a component of a type. Not promised: that core modules, core instances and what they pass by name are
-- valid; that core functions and options fit their canonical functions (the canonical ABI); that `resource.new` and
-- `resource.rep` are of a resource that is defined here; that value types are within the limits of the standard; that
-- types in imports and exports are named there; that names are in the grammar and strongly unique. The type of a core
-- module that the component defines is what `module_tree_of` says of its bytes.
use Rattle.std.specs.Prelude.{ℕ, ◌≡◌, List, [], Ok}
use Rattle.wac_types_shapes.specs.primitives.Tree.{Tree}
use Rattle.wac_component.specs.Parts.{Parts}
use Rattle.wac_component.specs.Reading.{parts_of}
use Rattle.wac_component.specs.Context.{empty_context, after_parts}
use Rattle.wac_component.specs.ResourceNames.{IsComponentType}
use Rattle.wac_component.specs.Valid.{PartsAreValid}

module _ (module_tree_of : List ℕ → Tree) where
  -- The bytes are the text of parts that are valid, and the tree is a type of the component that these are.
  abbrev pub IsComponentOf : List ℕ → Tree → Type 0
  IsComponentOf bytes t = (ps : Parts) × (parts_of bytes ≡ Ok ps) ×
      PartsAreValid module_tree_of ps empty_context [] ×
      IsComponentType (after_parts module_tree_of ps empty_context []) t

-- The laws by which the root grows.
use Rattle.std.specs.Prelude.{ℕ, ◌≡◌, ◌<◌, List, [], ◌∷◌, ◌++◌, length, Some, slice_get}
use Rattle.wac_types_shapes.specs.primitives.Name.{Name}
use Rattle.wac_types_shapes.specs.primitives.Tree.{Tree}
use Rattle.wac_binary.specs.declared.sorts.Sort.TheVariants as sort
use Rattle.wac_binary.specs.Added.{type_added}
use Rattle.wac_binary.specs.HasMeaning.{HasMeaning, ItemHasMeaning}
use Rattle.wac_binary.specs.Indexes.{space, indexes}
use Rattle.wac_binary.specs.Items.{Item, export_item}
use Rattle.wac_binary.specs.Meaning.{meaning}
use Rattle.wac_binary.specs.Unfold.{type_at}
use Rattle.wac_encode_stacks.specs.private.Brought.{GoodOnce}
use Rattle.wac_encode_scopes.specs.Lending.{GoesOnLent}
use Rattle.wac_encode_interfaces.specs.private.Clean.{IsDefinitionOfNoFault}
use Rattle.wac_encode_interfaces.specs.private.FreeTrees.{TreesByFree}
use Rattle.wac_encode_interfaces.specs.private.WorldTrees.{IsTreeOfItsSides}

-- What the type index of an export refers to.
pub record ExportLaws : Type 0 where
  pub counted : (items : List Item) → length (meaning items).scope.types ≡ indexes (space sort.«Type») items
  pub there : (ts : List Tree) (i : ℕ) → i < length ts → slice_get ts i ≡ Some (type_at ts i)
  pub added : (items : List Item) (n : Name) (i : ℕ) → type_added items (export_item n sort.«Type» i) ≡ type_at (meaning items).scope.types i

-- What is appended to a good root, and the trees of its types.
pub record GrowthLaws : Type 0 where
  pub lent : GoesOnLent
  pub once : GoodOnce
  pub free : TreesByFree
  pub clean : IsDefinitionOfNoFault
  pub sides : IsTreeOfItsSides
  pub exports : ExportLaws
  pub before : (items : List Item) (x : Item) → HasMeaning (items ++ x ∷ []) → HasMeaning items × ItemHasMeaning (meaning items) x

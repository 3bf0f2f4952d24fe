-- The items, declarations and module types that can be written: their counts, sizes and indexes fit in 32 bits.
use Rattle.std.specs.Prelude.{ℕ, ◌<◌, ◌≤◌, ◌^◌, List, length, Result, Ok, Err}
use Rattle.std.specs.List.{AllByRecursion, flat_map}
use Rattle.wac_binary.specs.Items.{ModuleDecl, Decl, Item}
use Rattle.wac_binary.specs.Bytes.{module_decl_bytes, decl_bytes, Section, sections, contents}
use Rattle.wac_binary.specs.Indexes.{indexes, declared}
use Rattle.wac_binary.specs.declared.fault.BinaryFault.{BinaryFault}
use Rattle.wac_binary.specs.declared.fault.BinaryFault.TheVariants.{TooLarge, OutOfMemory}

-- The count and the size of a section are below 2 ^ 32.
pub record SectionFits (s : Section) : Type 0 where
  pub count : s.count < 2 ^ 32
  pub size : length (contents s) < 2 ^ 32

-- The count and the size of each section, and every index that the items add, are below 2 ^ 32.
pub record Fits (items : List Item) : Type 0 where
  pub sections_fit : AllByRecursion SectionFits (sections items)
  pub indexes_fit : (k : ℕ) → indexes k items ≤ 2 ^ 32

-- The number of the declarations, the size of their bytes, and every index that they add are below 2 ^ 32.
pub record DeclarationsFit (ds : List Decl) : Type 0 where
  pub count : length ds < 2 ^ 32
  pub size : length (flat_map decl_bytes ds) < 2 ^ 32
  pub indexes_fit : (k : ℕ) → declared k ds ≤ 2 ^ 32

-- The number of the declarations of a core module type and the size of their bytes are below 2 ^ 32.
pub record ModuleFits (ds : List ModuleDecl) : Type 0 where
  pub count : length ds < 2 ^ 32
  pub size : length (flat_map module_decl_bytes ds) < 2 ^ 32

-- The result is `Err(TooLarge)` if and only if P does not hold.
abbrev pub TooLargeUnless : {T : Type 0} → Result T BinaryFault → Type 0 → Type 0
TooLargeUnless (Ok x) P = P
TooLargeUnless (Err TooLarge) P = ¬ P
TooLargeUnless (Err OutOfMemory) P = P

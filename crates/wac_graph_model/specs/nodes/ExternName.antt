-- Valid names of imports and exports ("Import and Export Definitions" of Explainer.md).
use Rattle.std.specs.Prelude.{◌≡◌, ◌≢◌, ◌⊎◌}
use Rattle.wac_types_shapes.specs.primitives.Name.{Name}
use Rattle.wac_names.specs.Kind.{Kind, IsExportable}
use Rattle.wac_names.specs.Grammar.{HasKind}
use Rattle.wac_names.specs.Faults.{HasFault}
use Rattle.wac_names.specs.declared.fault.NameFault.{NameFault}
use Rattle.wac_names.specs.declared.fault.NameFault.TheVariants.{NotExportable, OutOfMemory}

-- An import name is any component name.
abbrev pub IsImportName : Name → Type 0
IsImportName text = (k : Kind) × HasKind text k

-- An export name is any component name except a hash, url or dependency name.
abbrev pub IsExportName : Name → Type 0
IsExportName text = (k : Kind) × HasKind text k × IsExportable k

-- The reason why a text is not an export name.
pub data HasExportFault (text : Name) (f : NameFault) : Type 0 where
  -- It is not a component name.
  unnamed : HasFault text f → HasExportFault text f
  -- It is a hash, url or dependency name.
  unexportable : (k : Kind) → HasKind text k → (IsExportable k → ⊥) → f ≡ NotExportable → HasExportFault text f

-- A text is an export name or has exactly one fault, never both, and the fault is not that memory ran out.
pub record IsExportDecided (text : Name) : Type 0 where
  pub some : IsExportName text ⊎ ((f : NameFault) × HasExportFault text f)
  pub one_fault : (f g : NameFault) → HasExportFault text f → HasExportFault text g → f ≡ g
  pub apart : (f : NameFault) → IsExportName text → HasExportFault text f → ⊥
  pub own : (f : NameFault) → HasExportFault text f → f ≢ OutOfMemory

-- A component name: a text with its kind.
use Rattle.std.specs.Prelude.{◌≡◌, ◌≢◌, ℕ, List, ◌⊎◌}
use Rattle.wac_names.specs.Kind.{Kind}
use Rattle.wac_names.specs.Grammar.{HasKind}
use Rattle.wac_names.specs.Faults.{HasFault}
use Rattle.wac_names.specs.declared.fault.NameFault.{NameFault}
use Rattle.wac_names.specs.declared.fault.NameFault.TheVariants as fault

-- A component name.
pub record Name : Type 0 where
  pub text : List ℕ
  pub kind : Kind

-- Each text has either one kind or one fault.
pub record IsDecided (text : List ℕ) : Type 0 where
  -- The text has a kind or a fault.
  pub some : ((k : Kind) × HasKind text k) ⊎ ((f : NameFault) × HasFault text f)
  -- The text has at most one kind.
  pub one_kind : (j k : Kind) → HasKind text j → HasKind text k → j ≡ k
  -- The text has at most one fault.
  pub one_fault : (f g : NameFault) → HasFault text f → HasFault text g → f ≡ g
  -- The text does not have both.
  pub apart : (k : Kind) (f : NameFault) → HasKind text k → HasFault text f → ⊥
  -- The fault is neither out of memory nor about exporting.
  pub own : (f : NameFault) → HasFault text f → (f ≢ fault.OutOfMemory) × (f ≢ fault.NotExportable)

-- The first fault of the outer names of a component. Imports come before exports. For each, names outside the grammar
-- come before clashes, and clashes before names that cannot be exported; then the written order decides.
use Rattle.std.specs.Prelude.{◌≡◌, ℕ, ◌<◌, List, length, string_bytes}
use Rattle.wac_names.specs.Clash.{Clash}
use Rattle.wac_names.specs.validation.Valid.{Text, at, IsName, IsExportName, Each, AreApartTo, AreNames, AreValid}
use Rattle.wac_names.specs.declared.validation.fault.ValidationError.{ValidationError}
use Rattle.wac_names.specs.declared.validation.fault.ValidationError.TheVariants as error
use Rattle.wac_names.specs.declared.validation.fault.ValidationFault.{ValidationFault}
use Rattle.wac_names.specs.declared.validation.fault.ValidationFault.TheVariants as fault

-- A fault, with the names that it is about.
pub data Fault : Type 0 where
  bad_name : Text → Fault
  clash : Text → Text → Fault
  not_exportable : Text → Fault

-- The first name of a list without the property P.
pub record IsFirstWithout (P : Text → Type 0) (names : List Text) (name : Text) : Type 0 where
  pub position : ℕ
  pub within : position < length names
  pub named : at names position ≡ name
  pub without : ¬ P name
  -- The names before it have the property.
  pub before : (i : ℕ) → i < position → P (at names i)

-- The first two names of a list that clash: the second is the earliest, and for it the first is.
pub record IsFirstClash (names : List Text) (first second : Text) : Type 0 where
  pub one : ℕ
  pub other : ℕ
  pub ordered : one < other
  pub within : other < length names
  pub first_named : at names one ≡ first
  pub second_named : at names other ≡ second
  pub clashes : Clash first second
  -- No two names before the second clash.
  pub earliest_second : AreApartTo names other
  -- No name before the first clashes with the second.
  pub earliest_first : (i : ℕ) → i < one → ¬ Clash (at names i) second

-- The first fault of names, whether they can be exported aside: a name outside the grammar, else two that clash.
abbrev pub IsNameFault : List Text → Fault → Type 0
IsNameFault names (bad_name name) = IsFirstWithout IsName names name
IsNameFault names (clash first second) = Each IsName names × IsFirstClash names first second
IsNameFault names (not_exportable name) = ⊥

-- The first name that cannot be exported.
abbrev pub IsExportFault : List Text → Fault → Type 0
IsExportFault names (bad_name name) = ⊥
IsExportFault names (clash first second) = ⊥
IsExportFault names (not_exportable name) = IsFirstWithout IsExportName names name

-- The first fault of the outer names of a component.
pub data IsFirstFault (imports exports : List Text) (f : Fault) : Type 0 where
  of_imports : IsNameFault imports f → IsFirstFault imports exports f
  of_exports : AreNames imports → IsNameFault exports f → IsFirstFault imports exports f
  of_exporting : AreNames imports → AreNames exports → IsExportFault exports f → IsFirstFault imports exports f

-- The names have no fault, or exactly one that is first.
pub record HasOneAnswer (imports exports : List Text) : Type 0 where
  pub one_fault : (f g : Fault) → IsFirstFault imports exports f → IsFirstFault imports exports g → f ≡ g
  pub apart : (f : Fault) → AreValid imports exports → IsFirstFault imports exports f → ⊥

-- The fault that a Rust value represents.
abbrev pub fault_view : ValidationFault → Fault
fault_view (fault.BadName name) = bad_name (string_bytes name)
fault_view (fault.Clash first second) = clash (string_bytes first) (string_bytes second)
fault_view (fault.NotExportable name) = not_exportable (string_bytes name)

-- The error is a fault with the property P, or out of memory.
abbrev pub IsRefusal : (Fault → Type 0) → ValidationError → Type 0
IsRefusal P (error.Fault f) = P (fault_view f)
IsRefusal P error.OutOfMemory = Unit {0}

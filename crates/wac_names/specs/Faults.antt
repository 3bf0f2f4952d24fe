-- The fault of a text that is not a name. The first line of the table that fits the text decides what the text must be.
-- The first of these conditions that does not hold is the fault.
-- Bytes: 46 is `.`, 47 is `/`, 58 is `:`, 60 is `<`, 62 is `>`, 64 is `@`.
use Rattle.std.specs.Prelude.{◌≡◌, ℕ, List, [], ◌++◌, codes, IsTrue, ◌⊎◌}
use Rattle.wac_names.specs.Text.{after, before, ends, front, has}
use Rattle.wac_names.specs.Label.{IsLabel, IsLowerLabel}
use Rattle.wac_names.specs.Kind.{Range, range_text}
use Rattle.wac_names.specs.Grammar.{IsHash, IsRange, IsVersion}
use Rattle.wac_names.specs.declared.fault.NameFault.{NameFault}
use Rattle.wac_names.specs.declared.fault.NameFault.TheVariants as fault

-- The text begins with start, and P holds of what follows.
abbrev pub Follows : List ℕ → List ℕ → (List ℕ → Type 0) → Type 0
Follows start text P = (rest : List ℕ) × (text ≡ start ++ rest) × P rest

-- A line of the table with the lines after it: if the line fits, only it counts.
abbrev pub Line : Type 0 → Type 0 → Type 0 → Type 0
Line fits here later = (fits × here) ⊎ (¬ fits × later)

-- A line that fits the texts that begin with start.
abbrev pub Front : List ℕ → List ℕ → (List ℕ → Type 0) → Type 0 → Type 0
Front start text here later = Line (Follows start text (λ _. Unit {0})) (Follows start text here) later

-- A condition, the fault if it does not hold, and the conditions after it.
abbrev pub Must : NameFault → Type 0 → NameFault → Type 0 → Type 0
Must f holds g later = (¬ holds × (f ≡ g)) ⊎ (holds × later)

-- The text is a range.
abbrev pub IsRangeText : List ℕ → Type 0
IsRangeText text = (r : Range) × IsRange r × (range_text r ≡ text)

-- The text is a package if split at the first `:`.
abbrev pub IsPackageText : List ℕ → Type 0
IsPackageText text = IsLowerLabel (before 58 text) × IsLowerLabel (after 58 text)

-- P holds of the text after the first `@`, if there is one.
abbrev pub IfVersioned : List ℕ → (List ℕ → Type 0) → Type 0
IfVersioned text P = IsTrue (has 64 text) → P (after 64 text)

-- After `integrity=<`: a hash up to the first `>`, and nothing after it.
abbrev pub HashFault : NameFault → List ℕ → Type 0
HashFault f text =
    Must f (IsTrue (has 62 text)) fault.Unclosed
    (Must f (IsHash (before 62 text)) fault.BadHash
    (Must f (after 62 text ≡ []) fault.Trailing ⊥))

-- The end of a name: nothing, or `,` and a hash.
abbrev pub TailFault : NameFault → List ℕ → Type 0
TailFault f text =
    Line (text ≡ []) ⊥
    (Front (codes ",integrity=<") text (HashFault f)
    (f ≡ fault.Trailing))

-- After `unlocked-dep=<`: a package, a range or none, and `>` at the end.
abbrev pub UnlockedFault : NameFault → List ℕ → Type 0
UnlockedFault f text =
    Must f (IsTrue (ends 62 text)) fault.Unclosed
    (Must f (IsPackageText (before 64 (front text))) fault.BadPackage
    (Must f (IfVersioned (front text) IsRangeText) fault.BadRange ⊥))

-- After `locked-dep=<`: a package and a version or none up to the first `>`, then the end.
abbrev pub LockedFault : NameFault → List ℕ → Type 0
LockedFault f text =
    Must f (IsTrue (has 62 text)) fault.Unclosed
    (Must f (IsPackageText (before 64 (before 62 text))) fault.BadPackage
    (Must f (IfVersioned (before 62 text) IsVersion) fault.BadVersion
    (TailFault f (after 62 text))))

-- After `url=<`: any text without `<` up to the first `>`, then the end.
abbrev pub UrlFault : NameFault → List ℕ → Type 0
UrlFault f text =
    Must f (IsTrue (has 62 text) × ¬ IsTrue (has 60 (before 62 text))) fault.Unclosed
    (TailFault f (after 62 text))

-- An interface: a text split at the first `@`, then at the first `:`, then at the first `/` after that.
abbrev pub InterfaceFault : NameFault → List ℕ → Type 0
InterfaceFault f text =
    let rest = after 58 (before 64 text) in
    Must f (IsLowerLabel (before 58 (before 64 text)) × IsLowerLabel (before 47 rest)) fault.BadPackage
    (Must f (IsLabel (after 47 rest)) fault.BadLabel
    (Must f (IfVersioned text IsVersion) fault.BadVersion ⊥))

-- A resource and a name, split at the first `.`.
abbrev pub PathFault : NameFault → List ℕ → Type 0
PathFault f text = Must f (IsLabel (before 46 text) × IsLabel (after 46 text)) fault.BadLabel ⊥

-- A text that begins with `[`.
abbrev pub BracketFault : NameFault → List ℕ → Type 0
BracketFault f text =
    Front (codes "[constructor]") text (λ rest. Must f (IsLabel rest) fault.BadLabel ⊥)
    (Front (codes "[method]") text (PathFault f)
    (Front (codes "[static]") text (PathFault f)
    (f ≡ fault.BadLabel)))

-- The fault of a text, by the first line that fits.
abbrev pub FaultOf : NameFault → List ℕ → Type 0
FaultOf f text =
    Line (text ≡ []) (f ≡ fault.Empty)
    (Front (codes "[") text (λ _. BracketFault f text)
    (Front (codes "unlocked-dep=<") text (UnlockedFault f)
    (Front (codes "locked-dep=<") text (LockedFault f)
    (Front (codes "url=<") text (UrlFault f)
    (Front (codes "integrity=<") text (HashFault f)
    (Line (IsTrue (has 58 text)) (InterfaceFault f text)
    (Must f (IsLabel text) fault.BadLabel ⊥)))))))

-- The text has the fault.
pub record HasFault (text : List ℕ) (f : NameFault) : Type 0 where
  pub fault_of : FaultOf f text

-- Plain versions: those without pre-release and build metadata. Reading one takes no memory.
use Rattle.std.specs.Prelude.{◌≡◌, ℕ, List, [], false, IfSome, IsOk, Result, Ok, Err, ◌⊎◌, ⊤}
use Rattle.semver.specs.Parse.{Parts, version_parts}
use Rattle.semver.specs.declared.error.Error.{Error}
use Rattle.wac_names.specs.Kind.{Kind, Range, any, at_least, below, between, constructor, hash, interface, label, locked, method, static, unlocked, url}
use Rattle.wac_names.specs.Text.{after, has}
use Rattle.wac_names.specs.Reading.{Read}
use Rattle.wac_names.specs.declared.fault.NameFault.{NameFault}

-- The parsed version has no pre-release and no build metadata.
abbrev pub ArePlain : Result Parts Error → Type 0
ArePlain (Ok parts) = (parts.3 ≡ []) × (parts.4 ≡ [])
ArePlain (Err e) = ⊥

-- The text is a plain version.
abbrev pub IsPlainVersion : List ℕ → Type 0
IsPlainVersion text = ArePlain (version_parts text)

-- The bounds of the range are plain.
abbrev pub IsPlainRange : Range → Type 0
IsPlainRange any = Unit {0}
IsPlainRange (at_least low) = IsPlainVersion low
IsPlainRange (below high) = IsPlainVersion high
IsPlainRange (between low high) = IsPlainVersion low × IsPlainVersion high

-- Each version of the kind is plain.
abbrev pub IsPlainKind : Kind → Type 0
IsPlainKind (label l) = Unit {0}
IsPlainKind (constructor r) = Unit {0}
IsPlainKind (method r n) = Unit {0}
IsPlainKind (static r n) = Unit {0}
IsPlainKind (interface p i v) = IfSome v IsPlainVersion
IsPlainKind (unlocked p r) = IfSome r IsPlainRange
IsPlainKind (locked p v h) = IfSome v IsPlainVersion
IsPlainKind (url u h) = Unit {0}
IsPlainKind (hash h) = Unit {0}

-- The text has no `@`, or a plain version after its first `@`.
abbrev pub IsPlainText : List ℕ → Type 0
IsPlainText text = (has 64 text ≡ false) ⊎ IsPlainVersion (after 64 text)

-- If the text reads as something plain, the function succeeds.
abbrev pub AnswersPlain : {X A : Type 0} → (A → Type 0) → Read A → Result X NameFault → Type 0
AnswersPlain IsPlain (Ok x) result = IsPlain x → IsOk result
AnswersPlain IsPlain (Err f) result = ⊤

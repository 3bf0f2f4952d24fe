-- The track of a name, and the order of the versions of interface names.
use Rattle.std.specs.Prelude.{◌≡◌, ℕ, nat_lt, if◌then◌else◌, List, [], ◌∷◌, ◌++◌, Option, Some, None, Ok, ◌⊎◌, ◌↔◌}
use Rattle.std.specs.Cmp.{IsTotalOrder}
use Rattle.std.specs.Fmt.{decimal}
use Rattle.std.specs.Result.{result_ok}
use Rattle.std.specs.Ordering.{nat_cmp, on, then_cmp}
use Rattle.std.specs.declared.cmp.Ordering.{Ordering}
use Rattle.std.specs.declared.cmp.Ordering.TheVariants.{Equal}
use Rattle.semver.specs.Order.{build_cmp, pre_cmp}
use Rattle.semver.specs.Parse.{Parts, version_parts}
use Rattle.wac_names.specs.Kind.{Package, interface, package_text}
use Rattle.wac_names.specs.Grammar.{HasKind}

-- The whole text, or an interface with its major, minor or patch number.
pub data Track : Type 0 where
  whole : List ℕ → Track
  major : List ℕ → ℕ → Track
  minor : List ℕ → ℕ → Track
  patch : List ℕ → ℕ → Track

-- The text is an interface name with a version: the text before its `@`, and the parts of the version.
pub record IsVersioned (text name : List ℕ) (parts : Parts) : Type 0 where
  pub of : Package
  pub interface_name : List ℕ
  pub version : List ℕ
  pub kind : HasKind text (interface of interface_name (Some version))
  pub reads : version_parts version ≡ Ok parts
  pub named : package_text of ++ 47 ∷ interface_name ≡ name

-- The text is an interface name with a version that is not a pre-release.
abbrev pub IsRelease : List ℕ → List ℕ → Parts → Type 0
IsRelease text name parts = IsVersioned text name parts × (parts.3 ≡ [])

-- The track of a release: by its major number if that is not 0, else by its minor number if that is not 0, else by its
-- patch number. Build metadata does not count.
unfoldable pub series : List ℕ → Parts → Track
series name parts =
    if nat_lt 0 parts.0 then major name parts.0
    else if nat_lt 0 parts.1 then minor name parts.1
    else patch name parts.2

-- The track of a text: that of its release, or the whole text if it is not one.
abbrev pub HasTrack : List ℕ → Track → Type 0
HasTrack text track =
    ((name : List ℕ) × (parts : Parts) × IsRelease text name parts × (track ≡ series name parts))
    ⊎ (¬ ((name : List ℕ) × (parts : Parts) × IsRelease text name parts) × (track ≡ whole text))

-- Two texts have the same track.
abbrev pub OneTrack : List ℕ → List ℕ → Type 0
OneTrack s t = (track : Track) × HasTrack s track × HasTrack t track

-- The key of a track: `=` and the text, or `1`, `2` or `3`, the number, `@` and the interface.
unfoldable pub key_text : Track → List ℕ
key_text (whole text) = 61 ∷ text
key_text (major name number) = 49 ∷ (decimal number ++ 64 ∷ name)
key_text (minor name number) = 50 ∷ (decimal number ++ 64 ∷ name)
key_text (patch name number) = 51 ∷ (decimal number ++ 64 ∷ name)

-- The keys of two texts are equal if and only if their tracks are.
abbrev pub KeysTellTracks : Type 0
KeysTellTracks = (s t : List ℕ) (j k : Track) → HasTrack s j → HasTrack t k → (key_text j ≡ key_text k) ↔ OneTrack s t

-- Having the same track is an equivalence, and each text has exactly one track.
pub record OneTrackLaws : Type 0 where
  pub reflexive : (s : List ℕ) → OneTrack s s
  pub symmetric : (s t : List ℕ) → OneTrack s t → OneTrack t s
  pub transitive : (s t u : List ℕ) → OneTrack s t → OneTrack t u → OneTrack s u
  pub some : (s : List ℕ) → (track : Track) × HasTrack s track
  pub one : (s : List ℕ) (j k : Track) → HasTrack s j → HasTrack s k → j ≡ k

-- The parts of a version, if there is a text and it is a version.
unfoldable pub parts_piece : Option (List ℕ) → Option Parts
parts_piece None = None
parts_piece (Some v) = result_ok (version_parts v)

-- The version of a text, if it is an interface name with one.
abbrev pub HasVersion : List ℕ → Option Parts → Type 0
HasVersion text (Some parts) = (name : List ℕ) × IsVersioned text name parts
HasVersion text None = ¬ ((name : List ℕ) × (parts : Parts) × IsVersioned text name parts)

-- Versions are ordered by their three numbers, then by pre-release, then by build metadata.
abbrev pub version_cmp : Parts → Parts → Ordering
version_cmp =
    then_cmp (on (λ (p : Parts). p.0) nat_cmp) (then_cmp (on (λ (p : Parts). p.1) nat_cmp) (then_cmp (on (λ (p : Parts). p.2) nat_cmp)
    (then_cmp (on (λ (p : Parts). p.3) pre_cmp) (on (λ (p : Parts). p.4) build_cmp))))

-- Each text has at most one version, and the order of versions is total.
pub record VersionLaws : Type 0 where
  -- A text has a version or none.
  pub some : (s : List ℕ) → (version : Option Parts) × HasVersion s version
  -- A text has at most one version.
  pub one : (s : List ℕ) (x y : Option Parts) → HasVersion s x → HasVersion s y → x ≡ y
  -- The order is total.
  pub total : IsTotalOrder version_cmp
  -- Versions that compare as `Equal` are equal.
  pub tie : (x y : Parts) → version_cmp x y ≡ Equal → x ≡ y
  -- An interface and a version make one text.
  pub same : (s t name : List ℕ) (parts : Parts) → IsVersioned s name parts → IsVersioned t name parts → s ≡ t

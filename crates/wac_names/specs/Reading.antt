-- What the functions compute: a text is split once, from the left. The grammar and the faults do not depend on this;
-- proofs show that it gives their kinds and faults.
use Rattle.std.specs.Prelude.{◌≡◌, ◌==◌, ℕ, Bool, true, false, ◌&&◌, ◌||◌, not, nat_lt, List, [], ◌∷◌, length, drop, codes, Option, Some, None, Result, Ok, Err, if◌then◌else◌, ◌⊎◌}
use Rattle.std.specs.List.{list_all, slice_split}
use Rattle.wac_names.specs.Text.{after, before, begins, behind, ends, front, has, is_empty}
use Rattle.wac_names.specs.Label.{begins_with_letter, is_lower_or_digit, is_upper_or_digit, not_upper}
use Rattle.wac_names.specs.Kind.{Kind, Package, Range, any, at_least, below, between, constructor, hash, interface, label, locked, method, static, unlocked, url}
use Rattle.wac_names.specs.Grammar.{is_base64, is_option_byte, is_version}
use Rattle.semver.specs.Parse.{Parts}
use Rattle.wac_names.specs.Track.{Track, parts_piece, series, whole}
use Rattle.wac_names.specs.declared.fault.NameFault.{NameFault}
use Rattle.wac_names.specs.declared.fault.NameFault.TheVariants as fault

-- The text is a fragment.
abbrev pub is_fragment : List ℕ → Bool
is_fragment text = nat_lt 0 (length text) && (list_all is_lower_or_digit text || list_all is_upper_or_digit text)

-- The text is a label: each part between its dashes is a fragment.
unfoldable pub is_label : List ℕ → Bool
is_label text = begins_with_letter text && list_all is_fragment (slice_split (λ b. b == 45) text)

-- The text is a lower-case label.
unfoldable pub is_lower_label : List ℕ → Bool
is_lower_label text = is_label text && list_all not_upper text

-- A value or a fault.
abbrev pub Read : Type 0 → Type 0
Read A = Result A NameFault

-- What was read if the test holds, else the fault.
abbrev pub needs : {A : Type 0} → Bool → NameFault → Read A → Read A
needs test f read = if test then read else Err f

-- A function of what was read.
abbrev pub with : {A B : Type 0} → (A → B) → Read A → Read B
with make (Ok x) = Ok (make x)
with make (Err f) = Err f

-- The package of two texts.
abbrev pub package_of : List ℕ → List ℕ → Package
package_of namespace name = record { namespace = namespace; name = name }

-- The package of a text `namespace:name`.
abbrev pub named_package : List ℕ → Package
named_package text = package_of (before 58 text) (after 58 text)

-- Both parts are lower-case labels.
unfoldable pub is_package : Package → Bool
is_package p = is_lower_label p.namespace && is_lower_label p.name

-- The text after the first `@`, if there is one.
unfoldable pub version_piece : List ℕ → Option (List ℕ)
version_piece text = if has 64 text then Some (after 64 text) else None

-- The text, if there is one, is a version.
unfoldable pub is_version_piece : Option (List ℕ) → Bool
is_version_piece None = true
is_version_piece (Some v) = is_version v

-- The padding of a digest after its first `=`: nothing, or one more `=`.
unfoldable pub is_padding : List ℕ → Bool
is_padding text = if begins (61 ∷ []) text then is_empty (behind (61 ∷ []) text) else is_empty text

-- A digest: letters, digits, `+` and `/`, and at most two `=`.
unfoldable pub is_digest : List ℕ → Bool
is_digest text = (nat_lt 0 (length (before 61 text)) && list_all is_base64 (before 61 text))
    && is_padding (after 61 text)

-- The text begins with an algorithm.
unfoldable pub has_algorithm : List ℕ → Bool
has_algorithm text = begins (codes "sha256-") text || (begins (codes "sha384-") text || begins (codes "sha512-") text)

-- The text is an item of a hash.
unfoldable pub is_hash_item : List ℕ → Bool
is_hash_item text = has_algorithm text
    && (is_digest (before 63 (drop 7 text)) && list_all is_option_byte (after 63 (drop 7 text)))

-- The text is a hash.
unfoldable pub is_hash : List ℕ → Bool
is_hash text = list_all is_hash_item (slice_split (λ b. b == 32) text)

-- Reads the text after `integrity=<`.
unfoldable pub read_hash : List ℕ → Read (List ℕ)
read_hash text =
    needs (has 62 text) fault.Unclosed
    (needs (is_hash (before 62 text)) fault.BadHash
    (needs (is_empty (after 62 text)) fault.Trailing (Ok (before 62 text))))

-- Reads the end of a name.
unfoldable pub read_tail : List ℕ → Read (Option (List ℕ))
read_tail text =
    if is_empty text then Ok None
    else if begins (codes ",integrity=<") text then with Some (read_hash (behind (codes ",integrity=<") text))
    else Err fault.Trailing

-- Reads the bounds of `{>=low}` or `{>=low <high}`, without the braces and the `>=`.
unfoldable pub read_from : List ℕ → Read Range
read_from text =
    if has 32 text then
    needs (begins (60 ∷ []) (after 32 text)) fault.BadRange
    (needs (is_version (before 32 text)) fault.BadRange
    (needs (is_version (behind (60 ∷ []) (after 32 text))) fault.BadRange
    (Ok (between (before 32 text) (behind (60 ∷ []) (after 32 text))))))
    else needs (is_version text) fault.BadRange (Ok (at_least text))

-- Reads a range.
unfoldable pub read_range : List ℕ → Read Range
read_range text =
    if begins (codes "{>=") text then needs (ends 125 (behind (codes "{>=") text)) fault.BadRange (read_from (front (behind (codes "{>=") text)))
    else if begins (codes "{<") text then needs (ends 125 (behind (codes "{<") text)) fault.BadRange
    (needs (is_version (front (behind (codes "{<") text))) fault.BadRange (Ok (below (front (behind (codes "{<") text)))))
    else needs (begins (codes "*") text && is_empty (behind (codes "*") text)) fault.BadRange (Ok any)

-- Reads a range, if there is one.
abbrev pub read_range_piece : Option (List ℕ) → Read (Option Range)
read_range_piece None = Ok None
read_range_piece (Some text) = with Some (read_range text)

-- Reads the text between `unlocked-dep=<` and the `>` at the end.
unfoldable pub read_unlocked_inside : List ℕ → Read Kind
read_unlocked_inside text =
    needs (is_package (named_package (before 64 text))) fault.BadPackage
    (with (λ r. unlocked (named_package (before 64 text)) r) (read_range_piece (version_piece text)))

-- Reads the text after `unlocked-dep=<`.
unfoldable pub read_unlocked : List ℕ → Read Kind
read_unlocked text = needs (ends 62 text) fault.Unclosed (read_unlocked_inside (front text))

-- Reads the text between `locked-dep=<` and `>`, and the end.
unfoldable pub read_locked_inside : List ℕ → List ℕ → Read Kind
read_locked_inside text tail =
    needs (is_package (named_package (before 64 text))) fault.BadPackage
    (needs (is_version_piece (version_piece text)) fault.BadVersion
    (with (λ h. locked (named_package (before 64 text)) (version_piece text) h) (read_tail tail)))

-- Reads the text after `locked-dep=<`.
unfoldable pub read_locked : List ℕ → Read Kind
read_locked text = needs (has 62 text) fault.Unclosed (read_locked_inside (before 62 text) (after 62 text))

-- Reads the text after `url=<`.
unfoldable pub read_url : List ℕ → Read Kind
read_url text =
    needs (has 62 text) fault.Unclosed
    (needs (not (has 60 (before 62 text))) fault.Unclosed
    (with (λ h. url (before 62 text) h) (read_tail (after 62 text))))

-- Reads an interface from the text before `@`, the text after its `:`, and the version.
abbrev pub read_interface_parts : List ℕ → List ℕ → Option (List ℕ) → Read Kind
read_interface_parts name rest version =
    needs (is_package (package_of (before 58 name) (before 47 rest))) fault.BadPackage
    (needs (is_label (after 47 rest)) fault.BadLabel
    (needs (is_version_piece version) fault.BadVersion
    (Ok (interface (package_of (before 58 name) (before 47 rest)) (after 47 rest) version))))

-- Reads an interface.
unfoldable pub read_interface : List ℕ → Read Kind
read_interface text = read_interface_parts (before 64 text) (after 58 (before 64 text)) (version_piece text)

-- Reads a label.
abbrev pub read_label : (List ℕ → Kind) → List ℕ → Read Kind
read_label make text = needs (is_label text) fault.BadLabel (Ok (make text))

-- Reads a resource and a name, split at the first `.`.
abbrev pub read_path : (List ℕ → List ℕ → Kind) → List ℕ → Read Kind
read_path make text =
    needs (is_label (before 46 text)) fault.BadLabel
    (needs (is_label (after 46 text)) fault.BadLabel (Ok (make (before 46 text) (after 46 text))))

-- Reads a text that begins with `[`.
unfoldable pub read_bracketed : List ℕ → Read Kind
read_bracketed text =
    if begins (codes "[constructor]") text then read_label constructor (behind (codes "[constructor]") text)
    else if begins (codes "[method]") text then read_path method (behind (codes "[method]") text)
    else if begins (codes "[static]") text then read_path static (behind (codes "[static]") text)
    else Err fault.BadLabel

-- Reads an interface if there is a `:`, else a label.
unfoldable pub read_plain : List ℕ → Read Kind
read_plain text = if has 58 text then read_interface text else read_label label text

-- Reads a URL, a hash, an interface or a label.
unfoldable pub read_placed : List ℕ → Read Kind
read_placed text =
    if begins (codes "url=<") text then read_url (behind (codes "url=<") text)
    else if begins (codes "integrity=<") text then with hash (read_hash (behind (codes "integrity=<") text))
    else read_plain text

-- Reads any text that does not begin with `[`.
unfoldable pub read_marked : List ℕ → Read Kind
read_marked text =
    if begins (codes "unlocked-dep=<") text then read_unlocked (behind (codes "unlocked-dep=<") text)
    else if begins (codes "locked-dep=<") text then read_locked (behind (codes "locked-dep=<") text)
    else read_placed text

-- Reads a text.
unfoldable pub read : List ℕ → Read Kind
read text =
    if is_empty text then Err fault.Empty
    else if begins (codes "[") text then read_bracketed text
    else read_marked text

-- ---- Results of functions.

-- The function returns what was read.
abbrev pub Gives : {X A : Type 0} → (X → A) → Result X NameFault → Read A → Type 0
Gives view (Ok x) read = read ≡ Ok (view x)
Gives view (Err f) read = read ≡ Err f

-- The function returns what was read, or is out of memory.
abbrev pub GivesOrMemory : {X A : Type 0} → (X → A) → Result X NameFault → Read A → Type 0
GivesOrMemory view (Ok x) read = read ≡ Ok (view x)
GivesOrMemory view (Err f) read = (f ≡ fault.OutOfMemory) ⊎ (read ≡ Err f)

-- The function returns a value with the property if the test holds, else the fault.
abbrev pub Passes : {X : Type 0} → Bool → NameFault → Result X NameFault → (X → Type 0) → Type 0
Passes test g (Ok x) P = (test ≡ true) × P x
Passes test g (Err f) P = (test ≡ false) × (f ≡ g)

-- The same, or the function is out of memory.
abbrev pub PassesOrMemory : {X : Type 0} → Bool → NameFault → Result X NameFault → (X → Type 0) → Type 0
PassesOrMemory test g (Ok x) P = (test ≡ true) × P x
PassesOrMemory test g (Err f) P = (f ≡ fault.OutOfMemory) ⊎ ((test ≡ false) × (f ≡ g))

-- ---- Versions and tracks.

-- The text is an interface without a version.
unfoldable pub is_interface_name : List ℕ → Bool
is_interface_name name = is_package (package_of (before 58 name) (before 47 (after 58 name))) && is_label (after 47 (after 58 name))

-- The version of an interface name that has one.
unfoldable pub read_version : List ℕ → Option Parts
read_version text = if is_interface_name (before 64 text) then parts_piece (version_piece text) else None

-- The track of a text with this name and version.
abbrev pub track_at : List ℕ → List ℕ → Option Parts → Track
track_at text name None = whole text
track_at text name (Some parts) = if is_empty parts.3 then series name parts else whole text

-- The track of a text.
unfoldable pub read_track : List ℕ → Track
read_track text = track_at text (before 64 text) (read_version text)

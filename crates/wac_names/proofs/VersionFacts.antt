-- A version has no bytes but letters, digits, `.`, `-` and `+`.
use Rattle.std.proofs.Common.{◌≡◌, ℕ, ◌^◌, ◌+◌, ◌%◌, ◌<◌, ◌==◌, ◌&&◌, ◌||◌, Bool, true, false, not, List, [], ◌∷◌, ◌++◌, length, refl, sym, ap, ◌∙◌, arith, Result, Ok, Err, nat_le, nat_lt}
use Rattle.std.proofs.lemmas.Bool.{and_parts, and_from, or_from, or_parts, le-leb}
use Rattle.std.proofs.lemmas.Fmt.{decimal_by_steps}
use Rattle.std.proofs.lemmas.List.Folds.{list_all-append}
use Rattle.std.specs.Char.{is_ascii_digit}
use Rattle.std.specs.Fmt.{decimal}
use Rattle.std.specs.List.{list_all}
use Rattle.std.specs.Prelude.{is_ok}
use Rattle.semver.specs.Grammar.{IsValid, has_leading_zero, is_build, is_build_identifier, is_identifier_byte, is_pre_identifier, is_pre_release}
use Rattle.semver.specs.Identifiers.{marked, parts_text}
use Rattle.semver.specs.Order.{is_numeric, parts}
use Rattle.semver.specs.Parse.{Parts, version_parts}
use Rattle.semver.proofs.Grammar.{version_parts-sound}
use Rattle.semver.specs.declared.error.Error.{Error}
use Rattle.wac_names.specs.Text.{has}
use Rattle.wac_names.specs.Grammar.{is_version}
use Rattle.wac_names.proofs.PieceFacts.{all-lacks, all-weaker, pieces-all}
use Rattle.wac_names.proofs.TextFacts.{has-append}

-- whether a byte may stand in a version
abbrev pub is_version_byte : ℕ → Bool
is_version_byte c = (46 == c) || ((45 == c) || ((43 == c) || (is_ascii_digit c || ((c == 46) || is_identifier_byte c))))

build-bytes : (part : List ℕ) → is_build_identifier part ≡ true → list_all is_identifier_byte part ≡ true
build-bytes part h = (and_parts (nat_lt 0 (length part)) (list_all is_identifier_byte part) h).1

pre-bytes : (part : List ℕ) → is_pre_identifier part ≡ true → list_all is_identifier_byte part ≡ true
pre-bytes part h = build-bytes part (and_parts (is_build_identifier part) (not (is_numeric part && has_leading_zero part)) h).0

pre-lacks : (c : ℕ) (text : List ℕ) → is_pre_release text ≡ true → ((c == 46) || is_identifier_byte c) ≡ false → has c text ≡ false
unfolding has
pre-lacks c [] h out = refl
pre-lacks c (b ∷ rest) h out =
    all-lacks (λ x. (x == 46) || is_identifier_byte x) c (b ∷ rest)
    (pieces-all 46 is_identifier_byte (b ∷ rest) (all-weaker is_pre_identifier (list_all is_identifier_byte) (parts (b ∷ rest)) pre-bytes h)) out

build-lacks : (c : ℕ) (text : List ℕ) → is_build text ≡ true → ((c == 46) || is_identifier_byte c) ≡ false → has c text ≡ false
unfolding has
build-lacks c [] h out = refl
build-lacks c (b ∷ rest) h out =
    all-lacks (λ x. (x == 46) || is_identifier_byte x) c (b ∷ rest)
    (pieces-all 46 is_identifier_byte (b ∷ rest) (all-weaker is_build_identifier (list_all is_identifier_byte) (parts (b ∷ rest)) build-bytes h)) out

digit-of : (n : ℕ) → n < 10 → is_ascii_digit (48 + n) ≡ true
digit-of n h = and_from (nat_le 48 (48 + n)) (nat_le (48 + n) 57) (le-leb 48 (48 + n) (omega arith)) (le-leb (48 + n) 57 (omega arith))

decimal-digits : (n : ℕ) → n < 2 ^ 64 → list_all is_ascii_digit (decimal n) ≡ true
decimal-digits n small = decimal_by_steps (λ m ds. list_all is_ascii_digit ds ≡ true)
    (λ m h. and_from (is_ascii_digit (48 + m)) true (digit-of m h) refl)
    (λ m ds big h. rw (list_all-append is_ascii_digit ds ((48 + m % 10) ∷ []))
    (and_from (list_all is_ascii_digit ds) _ h (and_from (is_ascii_digit (48 + m % 10)) true (digit-of (m % 10) (omega arith)) refl)))
    n small

pub decimal-lacks : (c n : ℕ) → n < 2 ^ 64 → is_ascii_digit c ≡ false → has c (decimal n) ≡ false
decimal-lacks c n small out = all-lacks is_ascii_digit c (decimal n) (decimal-digits n small) out

marked-lacks : (c m : ℕ) (text : List ℕ) → (m == c) ≡ false → has c text ≡ false → has c (marked m text) ≡ false
unfolding has
marked-lacks c m [] ne h = refl
marked-lacks c m (b ∷ rest) ne h = or_from (m == c) _ ne h

-- two texts that lack a byte
append-lacks : (c : ℕ) (a b : List ℕ) → has c a ≡ false → has c b ≡ false → has c (a ++ b) ≡ false
append-lacks c a b h k = has-append c a b ∙ or_from (has c a) (has c b) h k

cons-lacks : (c x : ℕ) (a : List ℕ) → (x == c) ≡ false → has c a ≡ false → has c (x ∷ a) ≡ false
unfolding has
cons-lacks c x a h k = or_from (x == c) (has c a) h k

parts-lacks : (c : ℕ) (p : Parts) → IsValid p → is_version_byte c ≡ false → has c (parts_text p) ≡ false
parts-lacks c p v out =
    let dot = or_parts (46 == c) _ out in
    let dash = or_parts (45 == c) _ dot.1 in
    let plus = or_parts (43 == c) _ dash.1 in
    let digit = or_parts (is_ascii_digit c) _ plus.1 in
    let tail = append-lacks c (marked 45 p.3) (marked 43 p.4)
    (marked-lacks c 45 p.3 dash.0 (pre-lacks c p.3 v.3 digit.1)) (marked-lacks c 43 p.4 plus.0 (build-lacks c p.4 v.4 digit.1)) in
    let third = append-lacks c (decimal p.2) _ (decimal-lacks c p.2 v.2 digit.0) tail in
    let second = append-lacks c (decimal p.1) _ (decimal-lacks c p.1 v.1 digit.0) (cons-lacks c 46 _ dot.0 third) in
    append-lacks c (decimal p.0) _ (decimal-lacks c p.0 v.0 digit.0) (cons-lacks c 46 _ dot.0 second)

-- a version lacks each byte that is no letter, digit, `.`, `-` or `+`
pub version-lacks : (c : ℕ) (text : List ℕ) → is_version text ≡ true → is_version_byte c ≡ false → has c text ≡ false
version-lacks c text h out = go (version_parts text) refl h
  where
    go : (r : Result Parts Error) → version_parts text ≡ r → is_ok r ≡ true → has c text ≡ false
    go (Ok p) e k =
        let v = version_parts-sound text p e in
        ap (has c) (sym v.0) ∙ parts-lacks c p v.1 out
    go (Err f) e k = cc

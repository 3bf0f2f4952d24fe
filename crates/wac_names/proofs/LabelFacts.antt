-- The test of a label decides the grammar's label, and a label has no other bytes than its own.
use Rattle.std.proofs.Common.{◌≡◌, ℕ, ◌<◌, ◌==◌, ◌||◌, true, false, List, [], ◌∷◌, length, refl, sym, ap, ◌∙◌, inl, inr, arith, nat_lt}
use Rattle.std.proofs.lemmas.Bool.{and_parts, and_from, or_left, or_right, or_cases, ltb-true, lt-ltb}
use Rattle.std.specs.List.{join_with_byte, list_all, slice_split}
use Rattle.std.specs.Char.{is_ascii_alphanumeric, is_ascii_digit, is_ascii_lowercase, is_ascii_uppercase}
use Rattle.wac_names.specs.Reading.{is_fragment, is_label, is_lower_label}
use Rattle.wac_names.specs.Text.{has}
use Rattle.wac_names.specs.Label.{IsFragment, IsLabel, IsLowerLabel, begins_with_letter, is_lower_or_digit, is_upper_or_digit, not_upper}
use Rattle.wac_names.proofs.PieceFacts.{Joined, all-lacks, all-weaker, joined-of_pieces, pieces-all, pieces-of_joined}

-- a fragment, from its test
fragment-of_test : (text : List ℕ) → is_fragment text ≡ true → IsFragment text
fragment-of_test text h =
    let p = and_parts (nat_lt 0 (length text)) _ h in
    let long = ltb-true 0 (length text) p.0 in
    elim (or_cases (list_all is_lower_or_digit text) (list_all is_upper_or_digit text) p.1) [
      | inl lower ↦ inl (long, lower)
      | inr upper ↦ inr (long, upper)
    ]

test-of_fragment : (text : List ℕ) → IsFragment text → is_fragment text ≡ true
test-of_fragment text (inl lower) = and_from (nat_lt 0 (length text)) _ (lt-ltb 0 (length text) lower.0) (or_left (list_all is_lower_or_digit text) _ lower.1)
test-of_fragment text (inr upper) = and_from (nat_lt 0 (length text)) _ (lt-ltb 0 (length text) upper.0) (or_right (list_all is_lower_or_digit text) _ upper.1)

lower-alphanumeric : (b : ℕ) → is_lower_or_digit b ≡ true → is_ascii_alphanumeric b ≡ true
lower-alphanumeric b h = elim (or_cases (is_ascii_lowercase b) (is_ascii_digit b) h) [
  | inl lower ↦ or_right (is_ascii_digit b || is_ascii_uppercase b) (is_ascii_lowercase b) lower
  | inr digit ↦ or_left (is_ascii_digit b || is_ascii_uppercase b) (is_ascii_lowercase b) (or_left (is_ascii_digit b) (is_ascii_uppercase b) digit)
]

upper-alphanumeric : (b : ℕ) → is_upper_or_digit b ≡ true → is_ascii_alphanumeric b ≡ true
upper-alphanumeric b h = elim (or_cases (is_ascii_uppercase b) (is_ascii_digit b) h) [
  | inl upper ↦ or_left (is_ascii_digit b || is_ascii_uppercase b) (is_ascii_lowercase b) (or_right (is_ascii_digit b) (is_ascii_uppercase b) upper)
  | inr digit ↦ or_left (is_ascii_digit b || is_ascii_uppercase b) (is_ascii_lowercase b) (or_left (is_ascii_digit b) (is_ascii_uppercase b) digit)
]

-- a fragment has letters and digits alone
fragment-bytes : (text : List ℕ) → is_fragment text ≡ true → list_all is_ascii_alphanumeric text ≡ true
fragment-bytes text h = elim (fragment-of_test text h) [
  | inl lower ↦ all-weaker is_lower_or_digit is_ascii_alphanumeric text lower-alphanumeric lower.1
  | inr upper ↦ all-weaker is_upper_or_digit is_ascii_alphanumeric text upper-alphanumeric upper.1
]

-- the first letter of a text is that of its first piece
letter-join : (first : List ℕ) (others : List (List ℕ)) → 0 < length first → begins_with_letter (join_with_byte 45 (first ∷ others)) ≡ begins_with_letter first
letter-join [] others h = absurd (omega arith)
letter-join (b ∷ rest) [] h = refl
letter-join (b ∷ rest) (next ∷ others) h = refl

fragment-long : (text : List ℕ) → IsFragment text → 0 < length text
fragment-long text (inl lower) = lower.0
fragment-long text (inr upper) = upper.0

-- a label, from its test
pub label-of_test : (text : List ℕ) → is_label text ≡ true → IsLabel text
unfolding is_label
label-of_test text h =
    let p = and_parts (begins_with_letter text) _ h in
    let j = joined-of_pieces 45 is_fragment IsFragment text fragment-of_test p.1 in
    (j.first, j.others, j.of_first, sym (letter-join j.first j.others (fragment-long j.first j.of_first)) ∙ (sym (ap begins_with_letter j.whole) ∙ p.0), j.of_others, j.whole)

pub test-of_label : (text : List ℕ) → IsLabel text → is_label text ≡ true
unfolding is_label
test-of_label text l =
    let j : Joined 45 IsFragment text = record { first = l.0; others = l.1; of_first = l.2; of_others = l.4; whole = l.5 } in
    and_from (begins_with_letter text) _ (ap begins_with_letter l.5 ∙ (letter-join l.0 l.1 (fragment-long l.0 l.2) ∙ l.3))
    (pieces-of_joined 45 is_fragment IsFragment text test-of_fragment (λ x f. all-lacks is_ascii_alphanumeric 45 x (fragment-bytes x (test-of_fragment x f)) refl) j)

-- a label has no byte but letters, digits and `-`
pub label-lacks : (c : ℕ) (text : List ℕ) → is_label text ≡ true → ((c == 45) || is_ascii_alphanumeric c) ≡ false → has c text ≡ false
unfolding is_label
label-lacks c text h out =
    let p = and_parts (begins_with_letter text) _ h in
    let all = all-weaker is_fragment (list_all is_ascii_alphanumeric) (slice_split (λ b. b == 45) text) fragment-bytes p.1 in
    all-lacks (λ b. (b == 45) || is_ascii_alphanumeric b) c text (pieces-all 45 is_ascii_alphanumeric text all) out

-- a label begins with a letter, so it isn't empty
pub label-letter : (text : List ℕ) → is_label text ≡ true → begins_with_letter text ≡ true
unfolding is_label
label-letter text h = (and_parts (begins_with_letter text) _ h).0

pub lower_label-of_test : (text : List ℕ) → is_lower_label text ≡ true → IsLowerLabel text
unfolding is_lower_label
lower_label-of_test text h =
    let p = and_parts (is_label text) (list_all not_upper text) h in
    (label-of_test text p.0, p.1)

pub test-of_lower_label : (text : List ℕ) → IsLowerLabel text → is_lower_label text ≡ true
unfolding is_lower_label
test-of_lower_label text l = and_from (is_label text) (list_all not_upper text) (test-of_label text l.0) l.1

-- a lower-case label is a label
pub lower_label-label : (text : List ℕ) → is_lower_label text ≡ true → is_label text ≡ true
unfolding is_lower_label
lower_label-label text h = (and_parts (is_label text) (list_all not_upper text) h).0

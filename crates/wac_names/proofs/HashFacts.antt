-- The test of a hash decides the grammar's hash, and a hash has neither `<` nor `>`.
use Rattle.std.proofs.Common.{◌≡◌, ℕ, suc, ◌<◌, ◌≤◌, ◌==◌, ◌&&◌, true, false, List, [], ◌∷◌, ◌++◌, length, drop, codes, replicate, refl, sym, ap, ◌∙◌, inl, inr, arith, nat_lt, append_assoc, append-nil, zero, ◌⊎◌}
use Rattle.std.proofs.lemmas.Bool.{eqb-true, cases_Bool, or_from, and_parts, and_from, or_left, or_right, or_cases, ltb-true, lt-ltb}
use Rattle.std.specs.List.{AllByRecursion, join_with_byte, list_all}
use Rattle.wac_names.specs.Text.{after, before, begins, has}
use Rattle.wac_names.specs.Grammar.{IsAlgorithm, IsHash, IsHashItem, IsOptions, is_base64, is_option_byte}
use Rattle.wac_names.specs.Reading.{has_algorithm, is_digest, is_hash, is_hash_item, is_padding}
use Rattle.wac_names.proofs.PieceFacts.{Joined, all-lacks, facts-weaker, joined-of_pieces, pieces-of_joined}
use Rattle.wac_names.proofs.TextFacts.{after-none, after-there, before-none, before-there, begins-there, begins-whole, cut-whole, has-append}

-- ---- texts that lack a byte

append-lacks : (c : ℕ) (a b : List ℕ) → has c a ≡ false → has c b ≡ false → has c (a ++ b) ≡ false
append-lacks c a b h k = has-append c a b ∙ or_from (has c a) (has c b) h k

cons-lacks : (c x : ℕ) (a : List ℕ) → (x == c) ≡ false → has c a ≡ false → has c (x ∷ a) ≡ false
unfolding has
cons-lacks c x a h k = or_from (x == c) (has c a) h k

nil-lacks : (c : ℕ) → has c [] ≡ false
unfolding has
nil-lacks c = refl

padding-lacks : (c n : ℕ) → (61 == c) ≡ false → n ≤ 2 → has c (replicate n 61) ≡ false
padding-lacks c zero h small = nil-lacks c
padding-lacks c (suc n) h small = cons-lacks c 61 (replicate n 61) h (padding-lacks c n h (omega arith))

joined-lacks : (c d : ℕ) (first : List ℕ) (others : List (List ℕ)) → (d == c) ≡ false → has c first ≡ false → AllByRecursion (λ x. has c x ≡ false) others
    → has c (join_with_byte d (first ∷ others)) ≡ false
joined-lacks c d first [] h k t = k
joined-lacks c d first (next ∷ others) h k t =
    append-lacks c first _ k (cons-lacks c d _ h (joined-lacks c d next others h t.0 t.1))

-- ---- the digits and their padding

padding-cases : (text : List ℕ) → is_padding text ≡ true → (text ≡ []) ⊎ (text ≡ 61 ∷ [])
unfolding is_padding begins
padding-cases [] h = inl refl
padding-cases (b ∷ []) h = elim (cases_Bool (b == 61)) [
  | inl same ↦ inr (ap (λ (x : ℕ). x ∷ []) (eqb-true b 61 same))
  | inr other ↦ cc (rw other at h)
]
padding-cases (b ∷ d ∷ more) h = elim (cases_Bool (b == 61)) [
  | inl same ↦ cc (rw same at h)
  | inr other ↦ cc (rw other at h)
]

-- digits of a hash: what stands in front of the options
pub record Digest (text : List ℕ) : Type 0 where
  pub digest : List ℕ
  pub padding : ℕ
  pub encoded : (0 < length digest) × (list_all is_base64 digest ≡ true)
  pub padded : padding ≤ 2
  pub whole : text ≡ digest ++ replicate padding 61

digest-of_test : (text : List ℕ) → is_digest text ≡ true → Digest text
unfolding is_digest
digest-of_test text h =
    let p = and_parts (nat_lt 0 (length (before 61 text)) && list_all is_base64 (before 61 text)) (is_padding (after 61 text)) h in
    let d = and_parts (nat_lt 0 (length (before 61 text))) (list_all is_base64 (before 61 text)) p.0 in
    let long = ltb-true 0 (length (before 61 text)) d.0 in
    elim (cases_Bool (has 61 text)) [
      | inl there ↦ elim (padding-cases (after 61 text) p.1) [
        | inl none ↦ record { digest = before 61 text; padding = 1; encoded = (long, d.1); padded = omega arith; whole = cut-whole 61 text there ∙ ap (λ (l : List ℕ). before 61 text ++ 61 ∷ l) none }
        | inr one ↦ record { digest = before 61 text; padding = 2; encoded = (long, d.1); padded = omega arith; whole = cut-whole 61 text there ∙ ap (λ (l : List ℕ). before 61 text ++ 61 ∷ l) one }
      ]
      | inr absent ↦ record { digest = before 61 text; padding = 0; encoded = (long, d.1); padded = omega arith; whole = sym (before-none 61 text absent) ∙ sym (append-nil (before 61 text)) }
    ]

digest-padded : (digest : List ℕ) (n : ℕ) → has 61 digest ≡ false → n ≤ 2
    → (before 61 (digest ++ replicate n 61) ≡ digest) × (is_padding (after 61 (digest ++ replicate n 61)) ≡ true)
unfolding is_padding begins
digest-padded digest zero h small =
    let e = append-nil digest in
    (ap (before 61) e ∙ before-none 61 digest h, rw (e, after-none 61 digest h) refl)
digest-padded digest (suc zero) h small = (before-there 61 digest [] h, rw (after-there 61 digest [] h) refl)
digest-padded digest (suc (suc zero)) h small = (before-there 61 digest (61 ∷ []) h, rw (after-there 61 digest (61 ∷ []) h) refl)
digest-padded digest (suc (suc (suc n))) h small = absurd (omega arith)

test-of_digest : (text : List ℕ) → Digest text → is_digest text ≡ true
unfolding is_digest
test-of_digest text d =
    let lacks = all-lacks is_base64 61 d.digest d.encoded.1 refl in
    let e = digest-padded d.digest d.padding lacks d.padded in
    rw (d.whole, e.0) (and_from (nat_lt 0 (length d.digest) && list_all is_base64 d.digest) _
    (and_from (nat_lt 0 (length d.digest)) _ (lt-ltb 0 (length d.digest) d.encoded.0) d.encoded.1) e.1)

-- ---- an item

algorithm-of_test : (text : List ℕ) → has_algorithm text ≡ true → (algorithm : List ℕ) × IsAlgorithm algorithm × (text ≡ algorithm ++ drop 7 text)
unfolding has_algorithm
algorithm-of_test text h = elim (or_cases (begins (codes "sha256-") text) _ h) [
  | inl one ↦ (codes "sha256-", inl refl, begins-whole (codes "sha256-") text one)
  | inr more ↦ elim (or_cases (begins (codes "sha384-") text) _ more) [
    | inl two ↦ (codes "sha384-", inr (inl refl), begins-whole (codes "sha384-") text two)
    | inr three ↦ (codes "sha512-", inr (inr refl), begins-whole (codes "sha512-") text three)
  ]
]

test-of_algorithm : (algorithm rest : List ℕ) → IsAlgorithm algorithm → (has_algorithm (algorithm ++ rest) ≡ true) × (drop 7 (algorithm ++ rest) ≡ rest)
unfolding has_algorithm
test-of_algorithm algorithm rest (inl e) = rw e (or_left (begins (codes "sha256-") (codes "sha256-" ++ rest)) _ (begins-there (codes "sha256-") rest), refl)
test-of_algorithm algorithm rest (inr (inl e)) = rw e (or_right (begins (codes "sha256-") (codes "sha384-" ++ rest)) _ (or_left (begins (codes "sha384-") (codes "sha384-" ++ rest)) _ (begins-there (codes "sha384-") rest)), refl)
test-of_algorithm algorithm rest (inr (inr e)) = rw e (or_right (begins (codes "sha256-") (codes "sha512-" ++ rest)) _ (or_right (begins (codes "sha384-") (codes "sha512-" ++ rest)) _ (begins-there (codes "sha512-") rest)), refl)

item-made : (text algorithm rest head options digest padding : List ℕ) → text ≡ algorithm ++ rest → rest ≡ head ++ options → head ≡ digest ++ padding
    → algorithm ++ (digest ++ (padding ++ options)) ≡ text
item-made text algorithm rest head options digest padding e f g =
    ap (λ (l : List ℕ). algorithm ++ l) (sym (append_assoc digest padding options) ∙ (ap (λ (l : List ℕ). l ++ options) (sym g) ∙ sym f)) ∙ sym e

item-of_test : (text : List ℕ) → is_hash_item text ≡ true → IsHashItem text
unfolding is_hash_item
item-of_test text h =
    let p = and_parts (has_algorithm text) _ h in
    let q = and_parts (is_digest (before 63 (drop 7 text))) (list_all is_option_byte (after 63 (drop 7 text))) p.1 in
    let a = algorithm-of_test text p.0 in
    let d = digest-of_test (before 63 (drop 7 text)) q.0 in
    elim (cases_Bool (has 63 (drop 7 text))) [
      | inl there ↦ record {
        algorithm = a.0;
        digest = d.digest;
        padding = d.padding;
        options = 63 ∷ after 63 (drop 7 text);
        known = a.1;
        encoded = d.encoded;
        padded = d.padded;
        optional = inr (after 63 (drop 7 text), refl, q.1);
        makes = item-made text a.0 (drop 7 text) (before 63 (drop 7 text)) (63 ∷ after 63 (drop 7 text)) d.digest (replicate d.padding 61) a.2 (cut-whole 63 (drop 7 text) there) d.whole;
      }
      | inr absent ↦ record {
        algorithm = a.0;
        digest = d.digest;
        padding = d.padding;
        options = [];
        known = a.1;
        encoded = d.encoded;
        padded = d.padded;
        optional = inl refl;
        makes = item-made text a.0 (drop 7 text) (before 63 (drop 7 text)) [] d.digest (replicate d.padding 61) a.2 (sym (before-none 63 (drop 7 text) absent) ∙ sym (append-nil (before 63 (drop 7 text)))) d.whole;
      }
    ]

-- what stands in front of the options, and the options
options-cut : (head options : List ℕ) → has 63 head ≡ false → IsOptions options
    → (before 63 (head ++ options) ≡ head) × (list_all is_option_byte (after 63 (head ++ options)) ≡ true)
options-cut head options h (inl none) =
    let e : head ++ options ≡ head = ap (λ (l : List ℕ). head ++ l) none ∙ append-nil head in
    (ap (before 63) e ∙ before-none 63 head h, rw (e, after-none 63 head h) refl)
options-cut head options h (inr some) =
    let e : head ++ options ≡ head ++ 63 ∷ some.0 = ap (λ (l : List ℕ). head ++ l) some.1 in
    (ap (before 63) e ∙ before-there 63 head some.0 h, rw (e, after-there 63 head some.0 h) some.2)

test-of_item : (text : List ℕ) → IsHashItem text → is_hash_item text ≡ true
unfolding is_hash_item
test-of_item text i =
    let head : List ℕ = i.digest ++ replicate i.padding 61 in
    let e : text ≡ i.algorithm ++ (head ++ i.options) = sym i.makes ∙ ap (λ (l : List ℕ). i.algorithm ++ l) (sym (append_assoc i.digest (replicate i.padding 61) i.options)) in
    let a = test-of_algorithm i.algorithm (head ++ i.options) i.known in
    let lacks = append-lacks 63 i.digest (replicate i.padding 61) (all-lacks is_base64 63 i.digest i.encoded.1 refl) (padding-lacks 63 i.padding refl i.padded) in
    let o = options-cut head i.options lacks i.optional in
    let d = test-of_digest head (record { digest = i.digest; padding = i.padding; encoded = i.encoded; padded = i.padded; whole = refl }) in
    rw (e, a.1, o.0) (and_from (has_algorithm (i.algorithm ++ (head ++ i.options))) _ a.0 (and_from (is_digest head) _ d o.1))

options-lack : (c : ℕ) (options : List ℕ) → (63 == c) ≡ false → is_option_byte c ≡ false → IsOptions options → has c options ≡ false
options-lack c options h k (inl none) = ap (has c) none ∙ nil-lacks c
options-lack c options h k (inr some) = ap (has c) some.1 ∙ cons-lacks c 63 some.0 h (all-lacks is_option_byte c some.0 some.2 k)

algorithm-lacks : (c : ℕ) (algorithm : List ℕ) → has c (codes "sha256-") ≡ false → has c (codes "sha384-") ≡ false → has c (codes "sha512-") ≡ false → IsAlgorithm algorithm → has c algorithm ≡ false
algorithm-lacks c algorithm x y z (inl e) = ap (has c) e ∙ x
algorithm-lacks c algorithm x y z (inr (inl e)) = ap (has c) e ∙ y
algorithm-lacks c algorithm x y z (inr (inr e)) = ap (has c) e ∙ z

item-lacks : (c : ℕ) (text : List ℕ) → has c (codes "sha256-") ≡ false → has c (codes "sha384-") ≡ false → has c (codes "sha512-") ≡ false
    → is_base64 c ≡ false → (61 == c) ≡ false → (63 == c) ≡ false → is_option_byte c ≡ false → IsHashItem text → has c text ≡ false
item-lacks c text x y z b p o q i =
    ap (has c) (sym i.makes) ∙ append-lacks c i.algorithm _ (algorithm-lacks c i.algorithm x y z i.known)
    (append-lacks c i.digest _ (all-lacks is_base64 c i.digest i.encoded.1 b)
    (append-lacks c (replicate i.padding 61) i.options (padding-lacks c i.padding p i.padded) (options-lack c i.options o q i.optional)))

-- ---- a hash

pub hash-of_test : (text : List ℕ) → is_hash text ≡ true → IsHash text
unfolding is_hash
hash-of_test text h =
    let j = joined-of_pieces 32 is_hash_item IsHashItem text item-of_test h in
    (j.first, j.others, j.of_first, j.of_others, j.whole)

pub test-of_hash : (text : List ℕ) → IsHash text → is_hash text ≡ true
unfolding is_hash has
test-of_hash text g =
    let j : Joined 32 IsHashItem text = record { first = g.0; others = g.1; of_first = g.2; of_others = g.3; whole = g.4 } in
    pieces-of_joined 32 is_hash_item IsHashItem text test-of_item (λ x i. item-lacks 32 x refl refl refl refl refl refl refl i) j

-- a hash has no `>`
pub hash-lacks : (text : List ℕ) → IsHash text → has 62 text ≡ false
unfolding has
hash-lacks text g =
    ap (has 62) g.4 ∙ joined-lacks 62 32 g.0 g.1 refl (item-lacks 62 g.0 refl refl refl refl refl refl refl g.2)
    (facts-weaker IsHashItem (λ x. has 62 x ≡ false) g.1 (λ x i. item-lacks 62 x refl refl refl refl refl refl refl i) g.3)

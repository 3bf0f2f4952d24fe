-- The keys of tracks tell the tracks of texts apart.
use Rattle.std.proofs.Common.{◌≡◌, ℕ, ◌<◌, ◌^◌, nat_lt, List, ◌∷◌, ◌++◌, refl, sym, ap, ◌∙◌, inl, inr, subst, arith}
use Rattle.std.specs.Fmt.{decimal}
use Rattle.std.specs.Str.Parse.{digits_value}
use Rattle.std.proofs.lemmas.Fmt.{decimal_is_IsNumeral}
use Rattle.std.proofs.lemmas.Bool.{cases_Bool}
use Rattle.semver.specs.Parse.{Parts}
use Rattle.semver.proofs.Grammar.{version_parts-sound}
use Rattle.wac_names.specs.Text.{after, before}
use Rattle.wac_names.specs.Track.{HasTrack, KeysTellTracks, Track, key_text, major, minor, patch, series, whole}
use Rattle.wac_names.proofs.TextFacts.{after-there, before-there}
use Rattle.wac_names.proofs.TrackFacts.{had-track, one_track-read}
use Rattle.wac_names.proofs.VersionFacts.{decimal-lacks}

-- the number of a track fits 64 bits
abbrev IsSmall : Track → Type 0
IsSmall (whole text) = Unit {0}
IsSmall (major name number) = number < 2 ^ 64
IsSmall (minor name number) = number < 2 ^ 64
IsSmall (patch name number) = number < 2 ^ 64

same-number : (m n : ℕ) (a b : List ℕ) → m < 2 ^ 64 → n < 2 ^ 64 → decimal m ++ 64 ∷ a ≡ decimal n ++ 64 ∷ b → (m ≡ n) × (a ≡ b)
same-number m n a b small little e =
    let lacks = decimal-lacks 64 m small refl in
    let misses = decimal-lacks 64 n little refl in
    let digits : decimal m ≡ decimal n = sym (before-there 64 (decimal m) a lacks) ∙ (ap (before 64) e ∙ before-there 64 (decimal n) b misses) in
    let names : a ≡ b = sym (after-there 64 (decimal m) a lacks) ∙ (ap (after 64) e ∙ after-there 64 (decimal n) b misses) in
    (sym (decimal_is_IsNumeral m small).1 ∙ (ap (digits_value 10) digits ∙ (decimal_is_IsNumeral n little).1), names)

tail-same : (c : ℕ) (a b : List ℕ) → c ∷ a ≡ c ∷ b → a ≡ b
tail-same c a b e = cc

numbered : (make : List ℕ → ℕ → Track) (c : ℕ) (a b : List ℕ) (m n : ℕ) → m < 2 ^ 64 → n < 2 ^ 64 → c ∷ (decimal m ++ 64 ∷ a) ≡ c ∷ (decimal n ++ 64 ∷ b) → make a m ≡ make b n
numbered make c a b m n small little e =
    let p = same-number m n a b small little (tail-same c _ _ e) in
    ap (λ (x : List ℕ). make x m) p.1 ∙ ap (λ (k : ℕ). make b k) p.0

head-same : (c d : ℕ) (a b : List ℕ) → c ∷ a ≡ d ∷ b → c ≡ d
head-same c d a b e = cc

key-same : (j k : Track) → IsSmall j → IsSmall k → key_text j ≡ key_text k → j ≡ k
unfolding key_text
key-same (whole s) (whole t) p q e = ap whole (tail-same 61 s t e)
key-same (major a m) (major b n) p q e = numbered major 49 a b m n p q e
key-same (minor a m) (minor b n) p q e = numbered minor 50 a b m n p q e
key-same (patch a m) (patch b n) p q e = numbered patch 51 a b m n p q e
key-same (whole s) (major b n) p q e = let h = head-same 61 49 _ _ e in absurd (omega arith)
key-same (whole s) (minor b n) p q e = let h = head-same 61 50 _ _ e in absurd (omega arith)
key-same (whole s) (patch b n) p q e = let h = head-same 61 51 _ _ e in absurd (omega arith)
key-same (major a m) (whole t) p q e = let h = head-same 49 61 _ _ e in absurd (omega arith)
key-same (major a m) (minor b n) p q e = let h = head-same 49 50 _ _ e in absurd (omega arith)
key-same (major a m) (patch b n) p q e = let h = head-same 49 51 _ _ e in absurd (omega arith)
key-same (minor a m) (whole t) p q e = let h = head-same 50 61 _ _ e in absurd (omega arith)
key-same (minor a m) (major b n) p q e = let h = head-same 50 49 _ _ e in absurd (omega arith)
key-same (minor a m) (patch b n) p q e = let h = head-same 50 51 _ _ e in absurd (omega arith)
key-same (patch a m) (whole t) p q e = let h = head-same 51 61 _ _ e in absurd (omega arith)
key-same (patch a m) (major b n) p q e = let h = head-same 51 49 _ _ e in absurd (omega arith)
key-same (patch a m) (minor b n) p q e = let h = head-same 51 50 _ _ e in absurd (omega arith)

small-series : (name : List ℕ) (parts : Parts) → parts.0 < 2 ^ 64 → parts.1 < 2 ^ 64 → parts.2 < 2 ^ 64 → IsSmall (series name parts)
unfolding series
small-series name parts p q r = elim (cases_Bool (nat_lt 0 parts.0)) [
  | inl one ↦ rw one p
  | inr none ↦ elim (cases_Bool (nat_lt 0 parts.1)) [
    | inl one ↦ rw (none, one) q
    | inr both ↦ rw (none, both) r
  ]
]

small : (s : List ℕ) (j : Track) → HasTrack s j → IsSmall j
small s j (inl w) =
    let v = (version_parts-sound w.2.0.version w.1 w.2.0.reads).1 in
    subst IsSmall (sym w.3) (small-series w.0 w.1 v.0 v.1 v.2)
small s j (inr w) = subst IsSmall (sym w.1) tt

pub keys : KeysTellTracks
keys s t j k h g = (
  λ e. let same = key-same j k (small s j h) (small t k g) e in (k, subst (HasTrack s) same h, g),
  λ w. ap key_text (had-track s j h ∙ (one_track-read s t w ∙ sym (had-track t k g))),
)

-- What declarations have written, after one more declaration.
use Rattle.std.proofs.Common.{◌≡◌, ℕ, ◌+◌, ◌<◌, ◌^◌, List, [], ◌∷◌, ◌++◌, length, refl, ap, sym, ◌∙◌, arith, append_assoc, append-nil, length-append, ◌-◌}
use Rattle.std.specs.Prelude.{Some, slice_index, slice_set, Result, Ok, Err, OnOk, if◌then◌else◌}
use Rattle.std.specs.Result.{is_ok}
use Rattle.std.specs.List.{flat_map}
use Rattle.std.proofs.lemmas.Grind.{common_steps}
use Rattle.wac_binary.specs.Leb.{unsigned}
use Rattle.wac_binary.specs.Items.{Decl, Decls, instance_def, type_decl, decls}
use Rattle.wac_binary.specs.private.declarations.DeclView.{scope_def, scope_byte}
use Rattle.wac_binary.specs.declared.declarations.decl.Scope.{Scope}
use Rattle.wac_binary.specs.declared.declarations.decl.Scope.TheVariants as o
use Rattle.wac_binary.specs.Bytes.{type_bytes, decl_bytes, decls_bytes, count as count_of}
use Rattle.wac_binary.specs.Indexes.{decl_adds, declared, is_in}
use Rattle.wac_binary.specs.Fits.{DeclarationsFit}
use Rattle.wac_binary.specs.Format.{DeclIsInFormat}
use Rattle.wac_binary.specs.private.declarations.WrittenDecls.{WrittenDecls, declarations, declarations_are, type_is, DeclState}
use Rattle.wac_binary.specs.private.OneReading.{heads}
use Rattle.wac_binary.proofs.DeclBytes.{bytes_all}
use Rattle.wac_binary.proofs.Counts.{grown, bounded, here}
use Rattle.wac_binary.proofs.lemmas.declarations.FormatLaws.{decls-snoc}

counts_all : (ds : List Decl) → count_of (decls ds) ≡ length ds
counts_all [] = refl
counts_all (d ∷ ds) = omega (arith, counts_all ds)

texts : (ds : List Decl) (d : Decl) → flat_map decl_bytes (ds ++ d ∷ []) ≡ flat_map decl_bytes ds ++ decl_bytes d
texts [] d = append-nil (decl_bytes d)
texts (e ∷ ds) d = ap (λ t. decl_bytes e ++ t) (texts ds d) ∙ sym (append_assoc (decl_bytes e) (flat_map decl_bytes ds) (decl_bytes d))

declared_snoc : (k : ℕ) (ds : List Decl) (d : Decl) → declared k (ds ++ d ∷ []) ≡ declared k ds + is_in k (Some (decl_adds d))
declared_snoc k [] d = omega arith
declared_snoc k (y ∷ ys) d = omega (arith, declared_snoc k ys d)

module _ {ds : List Decl} {bytes counts : List ℕ} {count : ℕ} (s : DeclState ds bytes count counts) where
  text_of : type_bytes (instance_def (decls ds)) ≡ 0x42 ∷ (unsigned count ++ bytes)
  text_of = rw (counts_all ds, bytes_all ds, s.count_is, s.bytes_are) refl

  pub written_type : WrittenDecls bytes count
  written_type = record { list = ds; text = text_of }

  pub declarations_kept : (w : WrittenDecls bytes count) → declarations w ≡ ds
  declarations_kept w = declarations_are w ds text_of

  pub type_kept : (w : WrittenDecls bytes count) → DeclState (declarations w) bytes count counts
  type_kept w = rw (declarations_kept w) s

  module _ (d : Decl) (k : ℕ) (p : decl_adds d ≡ k) (q : k < 7) where
    added : (j : ℕ) → declared j (ds ++ d ∷ []) ≡ declared j ds + is_in j (Some k)
    added j = declared_snoc j ds d ∙ ap (λ m. declared j ds + is_in j (Some m)) p

    longer : length (ds ++ d ∷ []) ≡ count + 1
    longer = omega (arith, s.count_is, length-append ds (d ∷ []))

    pub fits_before : DeclarationsFit (ds ++ d ∷ []) → (slice_index counts k < 2 ^ 32) × (count < 2 ^ 32 - 1)
    fits_before f = (omega (arith, f.indexes_fit k, added k, here k, s.counted k q), omega (arith, f.count, longer))

    pub size_before : DeclarationsFit (ds ++ d ∷ []) → length (bytes ++ decl_bytes d) < 2 ^ 32
    size_before f = rw (s.bytes_are, ← texts ds d) f.size

    -- with one more declaration that fits there was room for it
    pub room_for : (n len : ℕ) → n ≡ length (decl_bytes d) → len ≡ length bytes → DeclarationsFit (ds ++ d ∷ []) → (slice_index counts k < 2 ^ 32) × (count + 1 < 2 ^ 32) × (len + n < 2 ^ 32)
    room_for n len e l f = let h = fits_before f in let z = size_before f in (h.0, omega arith, omega (arith, length-append bytes (decl_bytes d)))

    -- where there is room it fits
    pub room_fits : (n len : ℕ) → n ≡ length (decl_bytes d) → len ≡ length bytes → (slice_index counts k < 2 ^ 32) × (count + 1 < 2 ^ 32) × (len + n < 2 ^ 32) → DeclarationsFit (ds ++ d ∷ [])
    room_fits n len e l r = record {
      count = let h = r.1 in omega (arith, longer);
      size = let h = r.2 in rw (texts ds d, ← s.bytes_are) (omega (arith, length-append bytes (decl_bytes d)));
      indexes_fit = λ j. rw (added j) (bounded k j (declared j ds) (2 ^ 32) (s.fits.indexes_fit j) (λ e. rw (← e, ← s.counted k q) r.0));
    }

    pub type_more : length counts ≡ 7 → DeclarationsFit (ds ++ d ∷ []) → DeclIsInFormat d → DeclState (ds ++ d ∷ []) (bytes ++ decl_bytes d) (count + 1) (slice_set counts k (slice_index counts k + 1))
    type_more l f one = record {
      count_is = sym longer;
      bytes_are = rw (s.bytes_are) (sym (texts ds d));
      counted = λ j r. grown k j (declared j ds) (declared j (ds ++ d ∷ [])) counts (s.counted j r) (omega arith) (added j);
      fits = f;
      in_format = decls-snoc ds d s.in_format one;
    }

pub type_none : DeclState [] [] 0 (0 ∷ 0 ∷ 0 ∷ 0 ∷ 0 ∷ 0 ∷ 0 ∷ [])
type_none = record {
  count_is = refl;
  bytes_are = refl;
  counted = λ k p. grind (arith, common_steps);
  fits = record { count = omega arith; size = omega arith; indexes_fit = λ k. omega arith };
  in_format = tt;
}

-- the same bytes in another buffer
pub type_same : {ds : List Decl} {bytes counts more : List ℕ} {count : ℕ} → DeclState ds bytes count counts → more ≡ bytes → DeclState ds more count counts
type_same s p = rw p s

-- the number and the bytes of declarations
pub behind : {bytes : List ℕ} {count : ℕ} (w : WrittenDecls bytes count) → unsigned (count_of (decls (declarations w))) ++ decls_bytes (decls (declarations w)) ≡ unsigned count ++ bytes
behind w = (heads 0x42 0x42 _ _ (type_is w)).1

pub joins : (a : List ℕ) (n : ℕ) (b c : List ℕ) → a ++ n ∷ (b ++ c) ≡ ((a ++ n ∷ []) ++ b) ++ c
joins a n b c = grind (arith, append_assoc)

pub joins_two : (a b c : List ℕ) → a ++ (b ++ c) ≡ (a ++ b) ++ c
joins_two a b c = sym (append_assoc a b c)

pub on_ok : {T E A : Type 0} (x a b : A) (r : Result T E) → x ≡ (if is_ok r then a else b) → OnOk r (x ≡ a)
on_ok x a b (Ok t) h = h
on_ok x a b (Err e) h = tt

-- a type of declarations: what stands before them, and they
pub scope_bytes : (o : Scope) (ds : Decls) → type_bytes (scope_def o ds) ≡ scope_byte o ∷ (unsigned (count_of ds) ++ decls_bytes ds)
scope_bytes o.Component ds = refl
scope_bytes o.Instance ds = refl

-- what stands around a type of declarations, and they
pub scope_around : (o : Scope) (before : List ℕ) {bytes : List ℕ} {count : ℕ} (w : WrittenDecls bytes count)
    → (before ++ 1 ∷ scope_byte o ∷ unsigned count) ++ bytes ≡ before ++ decl_bytes (type_decl (scope_def o (decls (declarations w))))
scope_around o.Component before {bytes} {count} w = append_assoc before (1 ∷ 0x41 ∷ unsigned count) bytes ∙ ap (λ t. before ++ 1 ∷ 0x41 ∷ t) (sym (behind w))
scope_around o.Instance before {bytes} {count} w = append_assoc before (1 ∷ 0x42 ∷ unsigned count) bytes ∙ ap (λ t. before ++ 1 ∷ 0x42 ∷ t) (sym (behind w))

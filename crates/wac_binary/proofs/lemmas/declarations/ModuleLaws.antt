-- What a core module type has written, after one more declaration.
use Rattle.std.proofs.Common.{◌≡◌, ℕ, ◌+◌, ◌<◌, ◌≤◌, ◌^◌, List, [], ◌∷◌, ◌++◌, length, refl, ap, sym, ◌∙◌, arith, append_assoc, append-nil, length-append, ◌-◌}
use Rattle.std.specs.List.{flat_map}
use Rattle.wac_binary.specs.Leb.{unsigned}
use Rattle.wac_binary.specs.Items.{ModuleDecl, module_import, module_func, module_export}
use Rattle.wac_binary.specs.Bytes.{module_bytes, module_decl_bytes}
use Rattle.wac_binary.specs.Indexes.{function_types}
use Rattle.wac_binary.specs.Fits.{ModuleFits}
use Rattle.wac_binary.specs.Format.{ModuleDeclIsInFormat}
use Rattle.wac_binary.specs.private.declarations.WrittenModule.{WrittenModule, declarations, declarations_are, ModuleState}
use Rattle.wac_binary.proofs.lemmas.declarations.FormatLaws.{all-snoc}

texts : (ds : List ModuleDecl) (d : ModuleDecl) → flat_map module_decl_bytes (ds ++ d ∷ []) ≡ flat_map module_decl_bytes ds ++ module_decl_bytes d
texts [] d = append-nil (module_decl_bytes d)
texts (e ∷ ds) d = ap (λ t. module_decl_bytes e ++ t) (texts ds d) ∙ sym (append_assoc (module_decl_bytes e) (flat_map module_decl_bytes ds) (module_decl_bytes d))

types_snoc : (ds : List ModuleDecl) (d : ModuleDecl) → function_types (ds ++ d ∷ []) ≡ function_types ds + function_types (d ∷ [])
types_snoc [] d = omega arith
types_snoc (module_func ps rs ∷ ds) d = omega (arith, types_snoc ds d)
types_snoc (module_import m n x ∷ ds) d = types_snoc ds d
types_snoc (module_export n x ∷ ds) d = types_snoc ds d

types_few : (ds : List ModuleDecl) → function_types ds ≤ length ds
types_few [] = omega arith
types_few (module_func ps rs ∷ ds) = omega (arith, types_few ds)
types_few (module_import m n x ∷ ds) = omega (arith, types_few ds)
types_few (module_export n x ∷ ds) = omega (arith, types_few ds)

pub one_type : (d : ModuleDecl) → function_types (d ∷ []) ≤ 1
one_type (module_func ps rs) = omega arith
one_type (module_import m n x) = omega arith
one_type (module_export n x) = omega arith

module _ {ds : List ModuleDecl} {bytes : List ℕ} {count types : ℕ} (s : ModuleState ds bytes count types) where
  text_of : module_bytes ds ≡ 0x50 ∷ (unsigned count ++ bytes)
  text_of = rw (s.count_is, s.bytes_are) refl

  pub written_module : WrittenModule bytes count
  written_module = record { list = ds; text = text_of }

  pub module_listed : (w : WrittenModule bytes count) → declarations w ≡ ds
  module_listed w = declarations_are w ds text_of

  pub module_kept : (w : WrittenModule bytes count) → ModuleState (declarations w) bytes count types
  module_kept w = rw (module_listed w) s

  pub types_below : types < 2 ^ 32
  types_below = omega (arith, s.types_are, types_few ds, s.fits.count)

  module _ (d : ModuleDecl) where
    longer : length (ds ++ d ∷ []) ≡ count + 1
    longer = omega (arith, s.count_is, length-append ds (d ∷ []))

    pub count_before : ModuleFits (ds ++ d ∷ []) → count < 2 ^ 32 - 1
    count_before f = omega (arith, f.count, longer)

    pub module_size : ModuleFits (ds ++ d ∷ []) → length (bytes ++ module_decl_bytes d) < 2 ^ 32
    module_size f = rw (s.bytes_are, ← texts ds d) f.size

    -- with one more declaration that fits there was room for it
    pub module_room : (n len : ℕ) → n ≡ length (module_decl_bytes d) → len ≡ length bytes → ModuleFits (ds ++ d ∷ []) → (count + 1 < 2 ^ 32) × (len + n < 2 ^ 32)
    module_room n len e l f = let h = count_before f in let z = module_size f in (omega arith, omega (arith, length-append bytes (module_decl_bytes d)))

    pub module_snoc : count < 2 ^ 32 - 1 → length (bytes ++ module_decl_bytes d) < 2 ^ 32 → ModuleDeclIsInFormat d → ModuleState (ds ++ d ∷ []) (bytes ++ module_decl_bytes d) (count + 1) (types + function_types (d ∷ []))
    module_snoc c z one = record {
      count_is = sym longer;
      bytes_are = rw (s.bytes_are) (sym (texts ds d));
      types_are = rw (s.types_are) (sym (types_snoc ds d));
      fits = record { count = omega (arith, longer); size = rw (texts ds d, ← s.bytes_are) z };
      in_format = all-snoc ModuleDeclIsInFormat ds d s.in_format one;
    }

    -- where there is room
    pub module_more : (n len : ℕ) → n ≡ length (module_decl_bytes d) → len ≡ length bytes → (count + 1 < 2 ^ 32) × (len + n < 2 ^ 32) → ModuleDeclIsInFormat d
        → ModuleState (ds ++ d ∷ []) (bytes ++ module_decl_bytes d) (count + 1) (types + function_types (d ∷ []))
    module_more n len e m r one = module_snoc (let h = r.0 in omega arith) (let h = r.1 in omega (arith, length-append bytes (module_decl_bytes d))) one

pub module_none : ModuleState [] [] 0 0
module_none = record { count_is = refl; bytes_are = refl; types_are = refl; fits = record { count = omega arith; size = omega arith }; in_format = tt }

-- the same bytes in another buffer
pub module_same : {ds : List ModuleDecl} {bytes more : List ℕ} {count types : ℕ} → ModuleState ds bytes count types → more ≡ bytes → ModuleState ds more count types
module_same s p = rw p s

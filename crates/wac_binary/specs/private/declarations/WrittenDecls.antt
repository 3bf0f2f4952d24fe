-- The list of declarations with given bytes, of which there is at most one.
use Rattle.std.specs.Prelude.{◌≡◌, ℕ, List, [], ◌∷◌, ◌++◌, length, ◌<◌, slice_index}
use Rattle.std.specs.List.{flat_map}
use Rattle.std.specs.Coded.{Coded-set, coded_list, coded_ℕ}
use Rattle.std.proofs.Common.{sym, ap, refl, ◌∙◌}
use mathlib.Core.HLevel.{is_prop→PathP}
use Rattle.wac_binary.specs.Leb.{unsigned}
use Rattle.wac_binary.specs.Items.{TypeDef, instance_def, Decl, Decls, end, next, decls}
use Rattle.wac_binary.specs.Bytes.{type_bytes, decl_bytes}
use Rattle.wac_binary.specs.Indexes.{declared}
use Rattle.wac_binary.specs.Fits.{DeclarationsFit}
use Rattle.wac_binary.specs.Format.{DeclsAreInFormat}
use Rattle.wac_binary.specs.private.OneItem.{one_type}

pub record WrittenDecls (bytes : List ℕ) (count : ℕ) : Type 0 where
  pub list : List Decl
  pub text : type_bytes (instance_def (decls list)) ≡ 0x42 ∷ (unsigned count ++ bytes)

abbrev to_list : Decls → List Decl
to_list end = []
to_list (next d ds) = d ∷ to_list ds

back : (ds : List Decl) → to_list (decls ds) ≡ ds
back [] = refl
back (d ∷ ds) = ap (λ t. d ∷ t) (back ds)

abbrev listed_in : TypeDef → List Decl
listed_in (instance_def ds) = to_list ds
listed_in _ = []

one_list : (xs ys : List Decl) → type_bytes (instance_def (decls xs)) ≡ type_bytes (instance_def (decls ys)) → xs ≡ ys
one_list xs ys h =
    let r = one_type.one (instance_def (decls xs)) (instance_def (decls ys)) [] [] (ap (λ t. t ++ []) h) in
    sym (back xs) ∙ ap listed_in r.0 ∙ back ys

pub WrittenDecls_prop : (bytes : List ℕ) (count : ℕ) → IsProp (WrittenDecls bytes count)
WrittenDecls_prop bytes count a b =
    let whole : List ℕ = 0x42 ∷ (unsigned count ++ bytes) in
    let p : a.list ≡ b.list = one_list a.list b.list (a.text ∙ sym b.text) in
    let q = is_prop→PathP (λ i. type_bytes (instance_def (decls (p i))) ≡ whole) (λ i. Coded-set (coded_list coded_ℕ) (type_bytes (instance_def (decls (p i)))) whole) a.text b.text in
    λ i. record { list = p i; text = q i }

pub declarations : {bytes : List ℕ} {count : ℕ} → WrittenDecls bytes count → List Decl
declarations w = w.list

pub declarations_are : {bytes : List ℕ} {count : ℕ} (w : WrittenDecls bytes count) (xs : List Decl) → type_bytes (instance_def (decls xs)) ≡ 0x42 ∷ (unsigned count ++ bytes) → declarations w ≡ xs
unfolding declarations
declarations_are w xs h = one_list w.list xs (w.text ∙ sym h)

pub type_is : {bytes : List ℕ} {count : ℕ} (w : WrittenDecls bytes count) → type_bytes (instance_def (decls (declarations w))) ≡ 0x42 ∷ (unsigned count ++ bytes)
unfolding declarations
type_is w = w.text

-- The bytes, the number and the indexes of these declarations, which fit 32-bit sizes and are in the format.
pub record DeclState (ds : List Decl) (bytes : List ℕ) (count : ℕ) (counts : List ℕ) : Type 0 where
  pub count_is : count ≡ length ds
  pub bytes_are : bytes ≡ flat_map decl_bytes ds
  pub counted : (k : ℕ) → k < 7 → slice_index counts k ≡ declared k ds
  pub fits : DeclarationsFit ds
  pub in_format : DeclsAreInFormat (decls ds)

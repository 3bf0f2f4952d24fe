-- The list of a core module type's declarations with given bytes, of which there is at most one.
use Rattle.std.specs.Prelude.{◌≡◌, ℕ, List, [], ◌∷◌, ◌++◌, length}
use Rattle.std.specs.List.{flat_map}
use Rattle.std.specs.Coded.{Coded-set, coded_list, coded_ℕ}
use Rattle.std.proofs.Common.{sym, ap, ◌∙◌}
use mathlib.Core.HLevel.{is_prop→PathP}
use Rattle.wac_binary.specs.Leb.{unsigned}
use Rattle.wac_binary.specs.Items.{ModuleDecl}
use Rattle.wac_binary.specs.Bytes.{module_bytes, module_decl_bytes}
use Rattle.wac_binary.specs.Indexes.{function_types}
use Rattle.wac_binary.specs.Fits.{ModuleFits}
use Rattle.wac_binary.specs.Format.{ModuleIsInFormat}
use Rattle.wac_binary.specs.private.OneModule.{one_module}

pub record WrittenModule (bytes : List ℕ) (count : ℕ) : Type 0 where
  pub list : List ModuleDecl
  pub text : module_bytes list ≡ 0x50 ∷ (unsigned count ++ bytes)

one_list : (xs ys : List ModuleDecl) → module_bytes xs ≡ module_bytes ys → xs ≡ ys
one_list xs ys h = (one_module.one xs ys [] [] (ap (λ t. t ++ []) h)).0

pub WrittenModule_prop : (bytes : List ℕ) (count : ℕ) → IsProp (WrittenModule bytes count)
WrittenModule_prop bytes count a b =
    let whole : List ℕ = 0x50 ∷ (unsigned count ++ bytes) in
    let p : a.list ≡ b.list = one_list a.list b.list (a.text ∙ sym b.text) in
    let q = is_prop→PathP (λ i. module_bytes (p i) ≡ whole) (λ i. Coded-set (coded_list coded_ℕ) (module_bytes (p i)) whole) a.text b.text in
    λ i. record { list = p i; text = q i }

pub declarations : {bytes : List ℕ} {count : ℕ} → WrittenModule bytes count → List ModuleDecl
declarations w = w.list

pub declarations_are : {bytes : List ℕ} {count : ℕ} (w : WrittenModule bytes count) (xs : List ModuleDecl) → module_bytes xs ≡ 0x50 ∷ (unsigned count ++ bytes) → declarations w ≡ xs
unfolding declarations
declarations_are w xs h = one_list w.list xs (w.text ∙ sym h)

pub module_is : {bytes : List ℕ} {count : ℕ} (w : WrittenModule bytes count) → module_bytes (declarations w) ≡ 0x50 ∷ (unsigned count ++ bytes)
unfolding declarations
module_is w = w.text

-- The bytes, the number and the function types of these declarations, which fit 32-bit sizes and are in the format.
pub record ModuleState (ds : List ModuleDecl) (bytes : List ℕ) (count types : ℕ) : Type 0 where
  pub count_is : count ≡ length ds
  pub bytes_are : bytes ≡ flat_map module_decl_bytes ds
  pub types_are : types ≡ function_types ds
  pub fits : ModuleFits ds
  pub in_format : ModuleIsInFormat ds

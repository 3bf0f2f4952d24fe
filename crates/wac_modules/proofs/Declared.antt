-- What is declared of a list, one more at a time.
use Rattle.std.proofs.Common.{◌≡◌, ℕ, zero, suc, ◌+◌, ◌≤◌, List, [], ◌∷◌, ◌++◌, length, take, add-one, refl, ap, ◌∙◌, sym, subst, arith, append_assoc, Some, Result, Ok, Err}
use Rattle.std.specs.Prelude.{slice_get}
use Rattle.std.specs.List.{flat_map}
use Rattle.std.specs.Result.{IsErrAnd}
use Rattle.std.proofs.lemmas.List.{append-nil, length-append, take_all}
use Rattle.std.proofs.lemmas.Grind.{flat_map-append}
use Rattle.wac_types_shapes.proofs.lemmas.shapes.Names.{take_at}
use Rattle.wac_binary.specs.Items.{ModuleDecl, module_import, module_func, module_export}
use Rattle.wac_binary.specs.Bytes.{module_decl_bytes}
use Rattle.wac_binary.specs.Indexes.{function_types}
use Rattle.wac_binary.specs.Fits.{ModuleFits}
use Rattle.wac_binary.specs.declared.fault.BinaryFault.{BinaryFault}
use Rattle.wac_binary.specs.declared.fault.BinaryFault.TheVariants.{TooLarge}
use Rattle.wac_modules.specs.private.Declarations.{in_order}

pub function_types-append : (xs ys : List ModuleDecl) → function_types (xs ++ ys) ≡ function_types xs + function_types ys
function_types-append [] ys = omega arith
function_types-append (module_func ps rs ∷ xs) ys = let later = function_types-append xs ys in omega (arith, later)
function_types-append (module_import m n x ∷ xs) ys = function_types-append xs ys
function_types-append (module_export n x ∷ xs) ys = function_types-append xs ys

module _ {A : Type 0} (f : ℕ → A → List ModuleDecl) where
  -- of two lists
  pub in_order-append : (i : ℕ) (xs ys : List A) → in_order f i (xs ++ ys) ≡ in_order f i xs ++ in_order f (i + function_types (in_order f i xs)) ys
  in_order-append i [] ys = ap (λ k. in_order f k ys) (let zero_more : i ≡ i + 0 = omega arith in zero_more)
  in_order-append i (x ∷ xs) ys =
      let j : ℕ = i + function_types (f i x) in
      let at : j + function_types (in_order f j xs) ≡ i + function_types (f i x ++ in_order f j xs) = (let all = function_types-append (f i x) (in_order f j xs) in omega (arith, all)) in
      ap (λ ds. f i x ++ ds) (in_order-append j xs ys ∙ ap (λ k. in_order f j xs ++ in_order f k ys) at)
      ∙ sym (append_assoc (f i x) (in_order f j xs) (in_order f (i + function_types (f i x ++ in_order f j xs)) ys))

  -- of one more
  pub in_order-push : (i : ℕ) (xs : List A) (x : A) → in_order f i (xs ++ x ∷ []) ≡ in_order f i xs ++ f (i + function_types (in_order f i xs)) x
  in_order-push i xs x = in_order-append i xs (x ∷ []) ∙ ap (λ ds. in_order f i xs ++ ds) (append-nil (f (i + function_types (in_order f i xs)) x))

  pub in_order-next : (i : ℕ) (xs : List A) (k : ℕ) (x : A) → slice_get xs k ≡ Some x → in_order f i (take (suc k) xs) ≡ in_order f i (take k xs) ++ f (i + function_types (in_order f i (take k xs))) x
  in_order-next i xs k x at = ap (in_order f i) (take_at xs k x at) ∙ in_order-push i (take k xs) x

  -- nothing yet
  pub none_yet : (i : ℕ) (xs : List A) → [] ≡ in_order f i (take 0 xs)
  none_yet i [] = refl
  none_yet i (x ∷ xs) = refl

  -- what is declared of the first few begins what is declared of all
  pub begins : (i : ℕ) (xs : List A) (k : ℕ) → (more : List ModuleDecl) × (in_order f i xs ≡ in_order f i (take k xs) ++ more)
  begins i xs zero = (in_order f i xs, refl)
  begins i [] (suc k) = ([], refl)
  begins i (x ∷ xs) (suc k) =
      let (more, is) = begins (i + function_types (f i x)) xs k in
      (more, ap (λ ds. f i x ++ ds) is ∙ sym (append_assoc (f i x) (in_order f (i + function_types (f i x)) (take k xs)) more))

-- what fits has a beginning that fits
pub first_fits : (xs ys : List ModuleDecl) → ModuleFits (xs ++ ys) → ModuleFits xs
first_fits xs ys h =
    let count = length-append xs ys in
    let size = ap length (flat_map-append module_decl_bytes xs ys) ∙ length-append (flat_map module_decl_bytes xs) (flat_map module_decl_bytes ys) in
    record { count = omega (arith, count, h.count); size = omega (arith, size, h.size) }

-- the error that a `?` hands on
pub fault_is : {A B : Type 0} (r : Result A BinaryFault) (e : BinaryFault) → IsErrAnd r (λ y. y ≡ e) → r ≡ Err TooLarge → ◌≡◌ {A = Result B BinaryFault} (Err e) (Err TooLarge)
fault_is (Ok a) e h is = absurd h
fault_is (Err y) e h is = let same : y ≡ TooLarge = cc in ap Err (sym h ∙ same)

-- ---- a loop that declares each of a list behind what stood before
module _ {A : Type 0} (f : ℕ → A → List ModuleDecl) (b : List ModuleDecl) (xs : List A) where
  abbrev pub Behind : ℕ → List ModuleDecl → Type 0
  Behind k now = now ≡ b ++ in_order f (function_types b) (take k xs)

  -- one more is
  pub one_more : (k : ℕ) (x : A) → slice_get xs k ≡ Some x → (old new : List ModuleDecl) → Behind k old → new ≡ old ++ f (function_types old) x → Behind (k + 1) new
  one_more k x at old new before is =
      let d : List ModuleDecl = in_order f (function_types b) (take k xs) in
      let counted : function_types old ≡ function_types b + function_types d = ap function_types before ∙ function_types-append b d in
      is ∙ ap (λ i. old ++ f i x) counted ∙ ap (λ ds. ds ++ f (function_types b + function_types d) x) before
      ∙ append_assoc b d (f (function_types b + function_types d) x)
      ∙ ap (λ ds. b ++ ds) (sym (in_order-next f (function_types b) xs k x at))
      ∙ ap (λ j. b ++ in_order f (function_types b) (take j xs)) (sym (add-one k))

  -- all are
  pub all_are : (k : ℕ) (now : List ModuleDecl) → length xs ≤ k → Behind k now → now ≡ b ++ in_order f (function_types b) xs
  all_are k now past is = is ∙ ap (λ ys. b ++ in_order f (function_types b) ys) (take_all k xs past)

  -- one more does not fit
  pub one_large : (k : ℕ) (x : A) → slice_get xs k ≡ Some x → (old : List ModuleDecl) → Behind k old → (ModuleFits (old ++ f (function_types old) x) → ⊥) → ModuleFits (b ++ in_order f (function_types b) (take (k + 1) xs)) → ⊥
  one_large k x at old before large fits = large (subst ModuleFits (sym (one_more k x at old (old ++ f (function_types old) x) before refl)) fits)

  -- one does not fit, so all do not
  pub none_fit : (k : ℕ) (x : A) → slice_get xs k ≡ Some x → (old : List ModuleDecl) → Behind k old → (ModuleFits (old ++ f (function_types old) x) → ⊥) → (more : List ModuleDecl) → ModuleFits ((b ++ in_order f (function_types b) xs) ++ more) → ⊥
  none_fit k x at old before large more fits =
      let first : List ModuleDecl = in_order f (function_types b) (take (k + 1) xs) in
      let (rest, is) = begins f (function_types b) xs (k + 1) in
      let whole : (b ++ in_order f (function_types b) xs) ++ more ≡ (b ++ first) ++ (rest ++ more) =
      ap (λ ds. (b ++ ds) ++ more) is ∙ ap (λ ds. ds ++ more) (sym (append_assoc b first rest)) ∙ append_assoc (b ++ first) rest more in
      one_large k x at old before large (first_fits (b ++ first) (rest ++ more) (subst ModuleFits whole fits))

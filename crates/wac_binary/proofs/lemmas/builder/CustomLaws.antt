-- Names of one sort, seen through the lists of the code.
use Rattle.std.proofs.Common.{◌≡◌, ℕ, List, [], ◌∷◌, ◌++◌, refl, ap, true, false, arith, append_assoc}
use Rattle.std.specs.Prelude.{if◌then◌else◌}
use Rattle.std.specs.Borrow.{Bor}
use Rattle.std.specs.List.{flat_map}
use Rattle.wac_types_shapes.specs.primitives.Name.{Name}
use Rattle.wac_binary.specs.Views.{names_of}
use Rattle.wac_binary.specs.Customs.{same_sort, of_sort, naming}
use Rattle.wac_binary.specs.declared.sorts.Sort.{Sort}

abbrev pub Entry : Type 0
Entry = Sort × ℕ × Bor (List ℕ)

-- one entry, where it is of this sort
abbrev pub one_of : Sort → Entry → List (ℕ × Name)
one_of t e = if same_sort e.0 t then (e.1, e.2.now) ∷ [] else []

pub all_of : (t : Sort) (es : List Entry) → of_sort t (names_of es) ≡ flat_map (one_of t) es
all_of t [] = refl
all_of t (e ∷ es) =
    elim (same_sort e.0 t) as (λ b. (if b then (e.1, e.2.now) ∷ of_sort t (names_of es) else of_sort t (names_of es)) ≡ (if b then (e.1, e.2.now) ∷ [] else []) ++ flat_map (one_of t) es) [
      | true ↦ ap (λ l. (e.1, e.2.now) ∷ l) (all_of t es)
      | false ↦ all_of t es
    ]

-- the bytes of one entry, where it is of this sort
abbrev pub naming_of : Sort → Entry → List ℕ
naming_of t e = if same_sort e.0 t then naming (e.1, e.2.now) else []

pub all_namings : (t : Sort) (es : List Entry) → flat_map naming (of_sort t (names_of es)) ≡ flat_map (naming_of t) es
all_namings t [] = refl
all_namings t (e ∷ es) =
    elim (same_sort e.0 t) as (λ b. flat_map naming (if b then (e.1, e.2.now) ∷ of_sort t (names_of es) else of_sort t (names_of es)) ≡ (if b then naming (e.1, e.2.now) else []) ++ flat_map (naming_of t) es) [
      | true ↦ ap (λ l. naming (e.1, e.2.now) ++ l) (all_namings t es)
      | false ↦ all_namings t es
    ]

-- a field with one value, part by part
pub field_of : (field name version : List ℕ) → ((((([] ++ 1 ∷ []) ++ field) ++ 1 ∷ []) ++ name) ++ version) ≡ 1 ∷ (field ++ 1 ∷ (name ++ version))
field_of field name version = grind (arith, append_assoc)

-- Value types, fields, cases and the result of a function are read as they were written.
use Rattle.std.proofs.Common.{◌≡◌, ℕ, ◌<◌, ◌≤◌, ◌^◌, true, false, ◌&&◌, eqb, ltb, List, [], ◌∷◌, ◌++◌, length, Ok, refl, arith, eqb-true, ltb-true, append_assoc, length-append}
use Rattle.std.specs.Prelude.{Bool, Option, Some, None}
use Rattle.std.specs.List.{AllByRecursion}
use Rattle.std.proofs.lemmas.Bool.{and_parts}
use Rattle.wac_types_shapes.specs.declared.primitives.component.PrimitiveType.{PrimitiveType}
use Rattle.wac_types_shapes.specs.declared.primitives.component.PrimitiveType.TheVariants as p
use Rattle.wac_binary.specs.declared.types.ComponentValType.{ComponentValType}
use Rattle.wac_binary.specs.declared.types.ComponentValType.TheVariants.{Primitive, Index}
use Rattle.wac_types_shapes.specs.primitives.Name.{Name}
use Rattle.wac_binary.specs.Leb.{signed}
use Rattle.wac_binary.specs.Bytes.{text, vector, value, optional, field, case, outcome}
use Rattle.wac_binary.specs.Format.{IsText, ValIsInFormat, OptionIsInFormat, FieldIsInFormat, CaseIsInFormat}
use Rattle.wac_component.specs.Reader.{Reader, done, ◌>>=◌, made, byte, chosen, rows, one_of}
use Rattle.wac_component.specs.Numbers.{leb_at, number_at, signed_at, name_at, vector_at, optional_at}
use Rattle.wac_component.specs.Types.{primitives, value_at, field_at, case_at, result_at}
use Rattle.wac_binary.specs.private.LebLaws.{leb_first}
use Rattle.wac_component.proofs.Laws.{signed_again}
use Rattle.wac_component.proofs.texts.Reads.{Reads, reads_moved, reads_done, reads_then, reads_made, reads_made2, reads_byte, reads_name, reads_list, some_number, some_text}

-- The first byte of a signed number is no byte from 64 to 127, as those of the primitive types are.

differs : (b n : ℕ) → (b < 128 → b < 64) → 64 ≤ n → n < 128 → eqb b n ≡ false
differs b n h low high =
    elim (eqb b n) as (λ c. eqb b n ≡ c → c ≡ false) [
      | true ↦ λ e. let same : b ≡ n = eqb-true b n e in absurd (omega (arith, h))
      | false ↦ λ e. refl
    ] refl

abbrev is_high : ℕ → Bool
is_high n = ltb 63 n && ltb n 128

abbrev are_high : {A : Type 0} → List (ℕ × A) → Bool
are_high [] = true
are_high (row ∷ table) = is_high row.0 && are_high table

chosen_none : {A : Type 0} (other : A) (table : List (ℕ × A)) (b : ℕ) → (b < 128 → b < 64) → are_high table ≡ true → chosen other table b ≡ other
chosen_none other [] b h e = refl
chosen_none other (row ∷ table) b h e =
    let all = and_parts (is_high row.0) (are_high table) e in
    let first = and_parts (ltb 63 row.0) (ltb row.0 128) all.0 in
    rw (differs b row.0 h (ltb-true 63 row.0 first.0) (ltb-true row.0 128 first.1)) (chosen_none other table b h all.1)

abbrev as_types : List (ℕ × Reader ComponentValType)
as_types = rows (λ t. made (λ first. Primitive t) byte) primitives

index_again : (i : ℕ) (rest : List ℕ) → i < 2 ^ 32 → value_at (signed i ++ rest) ≡ Ok (Index i, rest)
unfolding value_at
index_again i rest h =
    let f = leb_first 64 (omega arith) i rest in
    let front : signed i ++ rest ≡ f.0 ∷ f.1 = f.2.0 in
    let other = chosen_none (made Index signed_at) as_types f.0 f.2.1 refl in
    rw (front, other, ← front, signed_again i rest h) refl

primitive_again : (t : PrimitiveType) → Reads value_at (value (Primitive t)) (Primitive t)
unfolding value_at
primitive_again p.Bool = record { again = λ short rest. refl }
primitive_again t = record { again = λ short rest. refl }

pub reads_value : (v : ComponentValType) → ValIsInFormat v → Reads value_at (value v) v
reads_value (Primitive t) h = primitive_again t
reads_value (Index i) h = record { again = λ short rest. index_again i rest h }

pub reads_optional : (o : Option ComponentValType) → OptionIsInFormat o → Reads (optional_at value_at) (optional o) o
unfolding optional_at
reads_optional None h = reads_byte 0 (reads_done None) (λ bytes. refl)
reads_optional (Some v) h = reads_byte 1 (reads_made Some (reads_value v h)) (λ bytes. refl)

pub reads_field : (f : Name × ComponentValType) → FieldIsInFormat f → Reads field_at (field f) f
unfolding field_at
reads_field f h = reads_made2 (λ n t. (n, t)) (reads_name f.0 h.0) (reads_value f.1 h.1)

abbrev case_end : Name → Option ComponentValType → Reader (Name × Option ComponentValType)
case_end name t = one_of ((0, done (name, t)) ∷ [])

pub reads_case : (c : Name × Option ComponentValType) → CaseIsInFormat c → Reads case_at (case c) c
unfolding case_at
reads_case c h =
    let last : Reads (case_end c.0 c.1) (0 ∷ []) c = reads_byte 0 (reads_done c) (λ bytes. refl) in
    let all : Reads case_at (text c.0 ++ (optional c.1 ++ 0 ∷ [])) c = reads_then (λ name. optional_at value_at >>= case_end name) (reads_name c.0 h.0) (reads_then (case_end c.0) (reads_optional c.1 h.1) last) in
    reads_moved (text c.0 ++ (optional c.1 ++ 0 ∷ [])) (case c) all (append_assoc (text c.0) (optional c.1) (0 ∷ []))

no_result : Reads result_at (1 ∷ 0 ∷ []) None
unfolding result_at number_at leb_at
no_result = record { again = λ short rest. refl }

pub reads_result : (o : Option ComponentValType) → OptionIsInFormat o → Reads result_at (outcome o) o
unfolding result_at
reads_result None h = no_result
reads_result (Some v) h = reads_byte 0 (reads_made Some (reads_value v h)) (λ bytes. refl)

-- Vectors of these.

some_value : (v : ComponentValType) → 0 < length (value v)
some_value (Primitive t) = omega arith
some_value (Index i) = some_number 64 i (omega arith)

some_field : (f : Name × ComponentValType) → 0 < length (field f)
some_field f = omega (arith, some_text f.0, length-append (text f.0) (value f.1))

some_case : (c : Name × Option ComponentValType) → 0 < length (case c)
some_case c = omega (arith, length-append (text c.0 ++ optional c.1) (0 ∷ []))

pub reads_fields : (fs : List (Name × ComponentValType)) → AllByRecursion FieldIsInFormat fs → Reads (vector_at field_at) (vector field fs) fs
reads_fields fs h = reads_list field_at field FieldIsInFormat some_field reads_field fs h

pub reads_cases : (cs : List (Name × Option ComponentValType)) → AllByRecursion CaseIsInFormat cs → Reads (vector_at case_at) (vector case cs) cs
reads_cases cs h = reads_list case_at case CaseIsInFormat some_case reads_case cs h

pub reads_values : (vs : List ComponentValType) → AllByRecursion ValIsInFormat vs → Reads (vector_at value_at) (vector value vs) vs
reads_values vs h = reads_list value_at value ValIsInFormat some_value reads_value vs h

pub reads_names : (ns : List Name) → AllByRecursion IsText ns → Reads (vector_at name_at) (vector text ns) ns
reads_names ns h = reads_list name_at text IsText some_text reads_name ns h

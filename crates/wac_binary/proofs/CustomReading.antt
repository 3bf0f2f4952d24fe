-- No bytes are the contents of two custom sections that say different things.
use Rattle.std.proofs.Common.{◌≡◌, ℕ, List, [], ◌∷◌, ◌++◌, length, refl, ap, sym, ◌∙◌, arith, append_assoc, Bool, true, false}
use Rattle.std.specs.Prelude.{if◌then◌else◌, eqb, codes}
use Rattle.std.specs.List.{flat_map}
use Rattle.std.proofs.lemmas.Bool.Decides.{nat_tests}
use Rattle.wac_types_shapes.specs.primitives.Name.{Name}
use Rattle.wac_binary.specs.Leb.{unsigned}
use Rattle.wac_binary.specs.Bytes.{text}
use Rattle.wac_binary.specs.Indexes.{space}
use Rattle.wac_binary.specs.Customs.{same_sort, of_sort, naming, names_in, subsection, sorts_in_order, names_bytes, producers_bytes}
use Rattle.wac_binary.specs.declared.sorts.Sort.{Sort}
use Rattle.wac_binary.specs.declared.sorts.Sort.TheVariants as s
use Rattle.wac_binary.specs.private.OneReading.{OneReading, one_unsigned, one_pair, one_vector, one_text, heads, same_length}
use Rattle.wac_binary.specs.private.OneItem.{one_sort}

one_naming : OneReading naming
one_naming = one_pair one_unsigned one_text

-- a sort with its names
abbrev Named : Type 0
Named = Sort × List (ℕ × Name)

abbrev bytes_in : Named → List ℕ
bytes_in e = names_in e.0 e.1

abbrev bytes_after : Named → List ℕ
bytes_after e = 1 ∷ (unsigned (length (bytes_in e)) ++ bytes_in e)

one_named : (a b : Named) (x y : List ℕ) → bytes_after a ++ x ≡ bytes_after b ++ y → (a ≡ b) × (x ≡ y)
one_named a b x y h =
    let r = one_unsigned.one (length (bytes_in a)) (length (bytes_in b)) (bytes_in a ++ x) (bytes_in b ++ y) (sym (append_assoc (unsigned (length (bytes_in a))) (bytes_in a) x) ∙ (heads _ _ _ _ h).1 ∙ append_assoc (unsigned (length (bytes_in b))) (bytes_in b) y) in
    let q = same_length (bytes_in a) (bytes_in b) x y r.0 r.1 in
    let w = (one_pair one_sort (one_vector one_naming)).one a b [] [] (ap (λ t. t ++ []) q.0) in
    (w.0, q.1)

one_list : (us vs : List Named) → flat_map bytes_after us ≡ flat_map bytes_after vs → us ≡ vs
one_list [] [] h = refl
one_list [] (v ∷ vs) h = cc
one_list (u ∷ us) [] h = cc
one_list (u ∷ us) (v ∷ vs) h =
    let r = one_named u v (flat_map bytes_after us) (flat_map bytes_after vs) h in
    let q = one_list us vs r.1 in
    λ i. r.0 i ∷ q i

-- the sorts that have names
abbrev with_names : Sort → List (ℕ × Name) → List Named → List Named
with_names t [] rest = rest
with_names t (e ∷ es) rest = (t, e ∷ es) ∷ rest

abbrev present : List Sort → List (Sort × ℕ × Name) → List Named
present [] es = []
present (t ∷ ts) es = with_names t (of_sort t es) (present ts es)

one_present : (t : Sort) (l : List (ℕ × Name)) (rest : List Named) → flat_map bytes_after (with_names t l rest) ≡ subsection t l ++ flat_map bytes_after rest
one_present t [] rest = refl
one_present t (e ∷ es) rest = refl

present_bytes : (ts : List Sort) (es : List (Sort × ℕ × Name)) → flat_map bytes_after (present ts es) ≡ flat_map (λ t. subsection t (of_sort t es)) ts
present_bytes [] es = refl
present_bytes (t ∷ ts) es = one_present t (of_sort t es) (present ts es) ∙ ap (λ l. subsection t (of_sort t es) ++ l) (present_bytes ts es)

-- the names of a sort, looked up
abbrev found : Sort → List Named → List (ℕ × Name)
found t [] = []
found t (e ∷ es) = if same_sort e.0 t then e.1 else found t es

abbrev member : Sort → List Sort → Bool
member t [] = false
member t (u ∷ us) = if same_sort u t then true else member t us

one_space : (t u : Sort) → space t ≡ space u → t ≡ u
one_space s.CoreModule s.CoreModule e = refl
one_space s.Func s.Func e = refl
one_space s.Value s.Value e = refl
one_space s.Type s.Type e = refl
one_space s.Component s.Component e = refl
one_space s.Instance s.Instance e = refl
one_space _ _ e = absurd (omega arith)

same_is : (t u : Sort) → same_sort t u ≡ true → t ≡ u
same_is t u e = one_space t u (numbers (space t) (space u) e)
  where
    numbers : (m n : ℕ) → eqb m n ≡ true → m ≡ n
    numbers m n e = grind (arith, nat_tests)

-- what is found behind a sort with these names: they where it is the sort, if there are any
abbrev found_as : Sort → List (ℕ × Name) → List Named → Bool → List (ℕ × Name)
found_as t [] rest b = found t rest
found_as t (x ∷ xs) rest true = x ∷ xs
found_as t (x ∷ xs) rest false = found t rest

found_with : (t u : Sort) (l : List (ℕ × Name)) (rest : List Named) (b : Bool) → same_sort u t ≡ b → found t (with_names u l rest) ≡ found_as t l rest b
found_with t u [] rest true e = refl
found_with t u [] rest false e = refl
found_with t u (x ∷ xs) rest true e = rw e refl
found_with t u (x ∷ xs) rest false e = rw e refl

-- one sort more, where those after it are found
found_more : (t u : Sort) (us : List Sort) (es : List (Sort × ℕ × Name)) → found t (present us es) ≡ (if member t us then of_sort t es else []) → found t (present (u ∷ us) es) ≡ (if member t (u ∷ us) then of_sort t es else [])
found_more t u us es rest = by (same_sort u t) refl
  where
    none : (b : Bool) → [] ≡ of_sort t es → (if b then of_sort t es else []) ≡ of_sort t es
    none true e = refl
    none false e = e

    first : (l : List (ℕ × Name)) → l ≡ of_sort t es → found_as t l (present us es) true ≡ of_sort t es
    first [] e = rest ∙ none (member t us) e
    first (x ∷ xs) e = e

    later : (l : List (ℕ × Name)) → found_as t l (present us es) false ≡ (if member t us then of_sort t es else [])
    later [] = rest
    later (x ∷ xs) = rest

    by : (b : Bool) → same_sort u t ≡ b → found t (with_names u (of_sort u es) (present us es)) ≡ (if (if same_sort u t then true else member t us) then of_sort t es else [])
    by true e = found_with t u (of_sort u es) (present us es) true e ∙ first (of_sort u es) (ap (λ v. of_sort v es) (same_is u t e)) ∙ rw e refl
    by false e = found_with t u (of_sort u es) (present us es) false e ∙ later (of_sort u es) ∙ rw e refl

-- every sort of a list is found with its names
found_all : (t : Sort) (ts : List Sort) (es : List (Sort × ℕ × Name)) → found t (present ts es) ≡ (if member t ts then of_sort t es else [])
found_all t [] es = refl
found_all t (u ∷ us) es = found_more t u us es (found_all t us es)

in_order : (t : Sort) → member t sorts_in_order ≡ true
in_order s.CoreModule = refl
in_order s.Func = refl
in_order s.Value = refl
in_order s.Type = refl
in_order s.Component = refl
in_order s.Instance = refl

found_names : (t : Sort) (es : List (Sort × ℕ × Name)) → found t (present sorts_in_order es) ≡ of_sort t es
found_names t es = found_all t sorts_in_order es ∙ ap (λ (b : Bool). if b then of_sort t es else []) (in_order t)

pub one_names : (xs ys : List (Sort × ℕ × Name)) → names_bytes xs ≡ names_bytes ys → (t : Sort) → of_sort t xs ≡ of_sort t ys
unfolding names_bytes
one_names xs ys h t =
    let p = one_list (present sorts_in_order xs) (present sorts_in_order ys) (present_bytes sorts_in_order xs ∙ h ∙ sym (present_bytes sorts_in_order ys)) in
    sym (found_names t xs) ∙ ap (found t) p ∙ found_names t ys

pub one_producer : (name other version another : Name) → producers_bytes name version ≡ producers_bytes other another → (name ≡ other) × (version ≡ another)
unfolding producers_bytes
one_producer name other version another h =
    let field = text (codes "processed-by") in
    let r = one_text.one (codes "processed-by") (codes "processed-by") (1 ∷ (text name ++ text version)) (1 ∷ (text other ++ text another)) (heads _ _ _ _ h).1 in
    let q = (one_pair one_text one_text).one (name, version) (other, another) [] [] (ap (λ t. t ++ []) (heads _ _ _ _ r.1).1) in
    (ap (λ e. e.0) q.0, ap (λ e. e.1) q.0)

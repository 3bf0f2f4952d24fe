-- What is opened, as far as a loop has come.
use Rattle.std.proofs.Common.{◌≡◌, ℕ, zero, suc, ◌+◌, ◌<◌, List, [], ◌∷◌, ◌++◌, length, take, get_or, Option, Some, None, refl, ap, sym, ◌∙◌, subst, append_assoc, add-one, arith}
use Rattle.std.specs.Prelude.{slice_get}
use Rattle.std.specs.Option.{option_map}
use Rattle.std.specs.List.{AllByRecursion}
use Rattle.wac_types_shapes.specs.primitives.Name.{Name}
use Rattle.wac_types_collection.specs.collection.Collection.{and_maybe, case_values, seconds}
use Rattle.wac_types_shapes.specs.declared.shapes.component.ValueType.{ValueType}
use Rattle.wac_merge_tables.specs.declared.tables.tasks.Task.{Task}
use Rattle.wac_merge_tables.specs.private.tables.Tasks.{opening, openings}

openings_joined : (vs ws : List ValueType) → openings (vs ++ ws) ≡ openings vs ++ openings ws
openings_joined [] ws = refl
openings_joined (v ∷ vs) ws = ap (λ r. opening v ++ r) (openings_joined vs ws) ∙ sym (append_assoc (opening v) (openings vs) (openings ws))

pub openings_more : (old before now : List Task) (vs us ws : List ValueType) → ws ≡ vs ++ us → before ≡ old ++ openings vs → now ≡ before ++ openings us → now ≡ old ++ openings ws
openings_more old before now vs us ws more so also =
    also ∙ ap (λ ts. ts ++ openings us) so ∙ append_assoc old (openings vs) (openings us) ∙ ap (λ ts. old ++ ts) (sym (openings_joined vs us) ∙ ap openings (sym more))

pub values_take : {A : Type 0} (vs : List A) (i : ℕ) (d : A) → i < length vs → take (i + 1) vs ≡ take i vs ++ get_or vs i d ∷ []
values_take vs i d low = rw add-one (by vs i low) where
  by : (vs : List _) (i : ℕ) → i < length vs → take (suc i) vs ≡ take i vs ++ get_or vs i d ∷ []
  by [] i low = absurd (omega (arith, low))
  by (v ∷ vs) zero low = refl
  by (v ∷ vs) (suc i) low = ap (λ r. v ∷ r) (by vs i (omega (arith, low)))

maybe_joined : (o : Option ValueType) (vs ws : List ValueType) → and_maybe o (vs ++ ws) ≡ and_maybe o vs ++ ws
maybe_joined None vs ws = refl
maybe_joined (Some v) vs ws = refl

pub cases_take : (es : List (Name × Option ValueType)) (i : ℕ) (v : Option ValueType) → option_map (λ e. e.1) (slice_get es i) ≡ Some v → case_values (take (i + 1) es) ≡ case_values (take i es) ++ and_maybe v []
cases_take es i v is = rw add-one (by es i is) where
  by : (es : List (Name × Option ValueType)) (i : ℕ) → option_map (λ e. e.1) (slice_get es i) ≡ Some v → case_values (take (suc i) es) ≡ case_values (take i es) ++ and_maybe v []
  by [] i is = cc
  by (e ∷ es) zero is = let same : e.1 ≡ v = cc in ap (λ x. and_maybe x []) same
  by (e ∷ es) (suc i) is = ap (λ r. and_maybe e.1 r) (by es i is) ∙ maybe_joined e.1 (case_values (take i es)) (and_maybe v [])

-- ---- what is true of each value, as a loop reads it
pub each_value : {A : Type 0} (P : A → Type 0) (vs : List A) (i : ℕ) (d : A) → i < length vs → AllByRecursion P vs → P (get_or vs i d)
each_value P [] i d low h = absurd (omega (arith, low))
each_value P (v ∷ vs) zero d low h = h.0
each_value P (v ∷ vs) (suc i) d low h = each_value P vs i d (omega (arith, low)) h.1

pub each_field : (P : ValueType → Type 0) (es : List (Name × ValueType)) (i : ℕ) (v : ValueType) → option_map (λ e. e.1) (slice_get es i) ≡ Some v → AllByRecursion P (seconds es) → P v
each_field P [] i v is h = cc
each_field P (e ∷ es) zero v is h = let same : e.1 ≡ v = cc in subst P same h.0
each_field P (e ∷ es) (suc i) v is h = each_field P es i v is h.1

maybe_parts : (P : ValueType → Type 0) (o : Option ValueType) (vs : List ValueType) → AllByRecursion P (and_maybe o vs) → AllByRecursion P (and_maybe o []) × AllByRecursion P vs
maybe_parts P None vs h = (tt, h)
maybe_parts P (Some v) vs h = ((h.0, tt), h.1)

pub each_case : (P : ValueType → Type 0) (es : List (Name × Option ValueType)) (i : ℕ) (v : Option ValueType) → option_map (λ e. e.1) (slice_get es i) ≡ Some v → AllByRecursion P (case_values es) → AllByRecursion P (and_maybe v [])
each_case P [] i v is h = cc
each_case P (e ∷ es) zero v is h = let same : e.1 ≡ v = cc in subst (λ o. AllByRecursion P (and_maybe o [])) same (maybe_parts P e.1 (case_values es) h).0
each_case P (e ∷ es) (suc i) v is h = each_case P es i v is (maybe_parts P e.1 (case_values es) h).1

pub first_of : (P : ValueType → Type 0) (o : Option ValueType) (vs : List ValueType) → AllByRecursion P (and_maybe o vs) → AllByRecursion P (and_maybe o [])
first_of P o vs h = (maybe_parts P o vs h).0

pub rest_of : (P : ValueType → Type 0) (o : Option ValueType) (vs : List ValueType) → AllByRecursion P (and_maybe o vs) → AllByRecursion P vs
rest_of P o vs h = (maybe_parts P o vs h).1

pub labels_take : (names labels : List Name) (i : ℕ) (n : Name) → slice_get labels i ≡ Some n → names ≡ take i labels → names ++ n ∷ [] ≡ take (i + 1) labels
labels_take names labels i n is so = ap (λ ns. ns ++ n ∷ []) so ∙ sym (rw add-one (by labels i is)) where
  by : (ls : List Name) (i : ℕ) → slice_get ls i ≡ Some n → take (suc i) ls ≡ take i ls ++ n ∷ []
  by [] i is = cc
  by (l ∷ ls) zero is = let same : l ≡ n = cc in ap (λ x. x ∷ []) same
  by (l ∷ ls) (suc i) is = ap (λ r. l ∷ r) (by ls i is)

-- what a function type's result and parameters open
pub openings_two : (o : Option ValueType) (ws : List ValueType) (a b c : List Task) → a ≡ [] → b ≡ a ++ openings (and_maybe o []) → c ≡ b ++ openings ws → c ≡ openings (and_maybe o ws)
openings_two o ws a b c none first second =
    second ∙ ap (λ ts. ts ++ openings ws) (first ∙ ap (λ ts. ts ++ openings (and_maybe o [])) none) ∙ sym (openings_joined (and_maybe o []) ws) ∙ ap openings (sym (maybe_joined o [] ws))

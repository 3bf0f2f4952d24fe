-- Outlines of definitions and of function types: what became another has its outline, and an outline and what stands in it tell a definition.
use Rattle.std.proofs.Common.{◌≡◌, ℕ, zero, suc, List, [], ◌∷◌, map, Option, Some, None, slice_get, refl, ap, sym, ◌∙◌}
use Rattle.std.specs.List.{AllZip}
use Rattle.wac_types_shapes.specs.primitives.Name.{Name}
use Rattle.wac_types_collection.specs.collection.Collection.{and_maybe, case_values, defined_values, func_values, seconds}
use Rattle.wac_types_shapes.specs.declared.shapes.component.DefinedType.{DefinedType}
use Rattle.wac_types_shapes.specs.declared.shapes.component.DefinedType.TheVariants as def
use Rattle.wac_types_shapes.specs.declared.shapes.component.FuncType.{FuncType}
use Rattle.wac_types_shapes.specs.declared.shapes.component.ValueType.{ValueType}
use Rattle.wac_merge_resources.specs.renaming.MadeOf.{any_maybe, any_value, func_outline, outline}
use Rattle.wac_merge_resources.specs.private.renaming.RenamingSteps.{CasesGoTogether, FieldsGoTogether, GoTogether, HaveOneShape, aliases, enums, fixed_lists, flags, futures, lists, options, records, results, streams, tuples, variants}

-- ---- what became another has its outline
module _ (R : ValueType → ValueType → Type 0) where
  maybe_outlined : (v w : Option ValueType) → GoTogether R v w → any_maybe w ≡ any_maybe v
  maybe_outlined None None h = refl
  maybe_outlined None (Some w) h = absurd h
  maybe_outlined (Some v) None h = absurd h
  maybe_outlined (Some v) (Some w) h = refl

  values_outlined : (vs ws : List ValueType) → AllZip R vs ws → ◌≡◌ {A = List ValueType} (map (λ v. any_value) ws) (map (λ v. any_value) vs)
  values_outlined [] [] h = refl
  values_outlined [] (w ∷ ws) h = absurd h
  values_outlined (v ∷ vs) [] h = absurd h
  values_outlined (v ∷ vs) (w ∷ ws) h = ap (λ l. any_value ∷ l) (values_outlined vs ws h.1)

  fields_outlined : (es fs : List (Name × ValueType)) → FieldsGoTogether R es fs → ◌≡◌ {A = List (Name × ValueType)} (map (λ e. (e.0, any_value)) fs) (map (λ e. (e.0, any_value)) es)
  fields_outlined [] [] h = refl
  fields_outlined [] (f ∷ fs) h = absurd h
  fields_outlined (e ∷ es) [] h = absurd h
  fields_outlined (e ∷ es) (f ∷ fs) h = let n = h.0.0 in let r = fields_outlined es fs h.1 in (λ i. (n i, any_value) ∷ r i)

  cases_outlined : (es fs : List (Name × Option ValueType)) → CasesGoTogether R es fs → ◌≡◌ {A = List (Name × Option ValueType)} (map (λ e. (e.0, any_maybe e.1)) fs) (map (λ e. (e.0, any_maybe e.1)) es)
  cases_outlined [] [] h = refl
  cases_outlined [] (f ∷ fs) h = absurd h
  cases_outlined (e ∷ es) [] h = absurd h
  cases_outlined (e ∷ es) (f ∷ fs) h = let n = h.0.0 in let m = maybe_outlined e.1 f.1 h.0.1 in let r = cases_outlined es fs h.1 in (λ i. (n i, m i) ∷ r i)

  by_both : (d e x y : DefinedType) → d ≡ x → e ≡ y → outline y ≡ outline x → outline e ≡ outline d
  by_both d e x y a b h = ap outline b ∙ h ∙ sym (ap outline a)

  pub outlined : (d e : DefinedType) → HaveOneShape R d e → outline e ≡ outline d
  outlined d e (tuples vs ws a b h) = by_both d e _ _ a b (ap def.Tuple (values_outlined vs ws h))
  outlined d e (lists v w a b h) = by_both d e _ _ a b refl
  outlined d e (fixed_lists v w n a b h) = by_both d e _ _ a b refl
  outlined d e (options v w a b h) = by_both d e _ _ a b refl
  outlined d e (results v w p q a b h g) = let x = maybe_outlined v w h in let y = maybe_outlined p q g in by_both d e _ _ a b (λ i. def.Result (x i) (y i))
  outlined d e (variants x y a b h) = by_both d e _ _ a b (ap (λ l. def.Variant (record { cases = l })) (cases_outlined x.cases y.cases h))
  outlined d e (records x y a b h) = by_both d e _ _ a b (ap (λ l. def.Record (record { fields = l })) (fields_outlined x.fields y.fields h))
  outlined d e (flags x y a b h) = by_both d e _ _ a b (ap (λ l. def.Flags (record { 0 = l })) h)
  outlined d e (enums x y a b h) = by_both d e _ _ a b (ap (λ l. def.Enum (record { 0 = l })) h)
  outlined d e (aliases v w a b h) = by_both d e _ _ a b refl
  outlined d e (streams v w a b h) = by_both d e _ _ a b (ap def.Stream (maybe_outlined v w h))
  outlined d e (futures v w a b h) = by_both d e _ _ a b (ap def.Future (maybe_outlined v w h))

  pub func_outlined : (x y : FuncType) → FieldsGoTogether R x.params y.params → GoTogether R x.result y.result → y.is_async ≡ x.is_async → func_outline y ≡ func_outline x
  func_outlined x y h g e =
      let p = fields_outlined x.params y.params h in
      let r = maybe_outlined x.result y.result g in
      (λ i. record { params = p i; result = r i; is_async = e i })

-- ---- an outline, and what stands in it, tell a definition

-- values that stand at one position of both are one
abbrev pub AreBesideAlike : List ValueType → List ValueType → Type 0
AreBesideAlike vs ws = (i : ℕ) (a b : ValueType) → slice_get vs i ≡ Some a → slice_get ws i ≡ Some b → a ≡ b

maybe_same : (v w : Option ValueType) (vs ws : List ValueType) → any_maybe v ≡ any_maybe w → AreBesideAlike (and_maybe v vs) (and_maybe w ws) → (v ≡ w) × AreBesideAlike vs ws
maybe_same None None vs ws o h = (refl, h)
maybe_same None (Some w) vs ws o h = cc o
maybe_same (Some v) None vs ws o h = cc o
maybe_same (Some v) (Some w) vs ws o h = (ap Some (h 0 v w refl refl), λ i a b p q. h (suc i) a b p q)

values_same : (vs ws : List ValueType) → ◌≡◌ {A = List ValueType} (map (λ v. any_value) vs) (map (λ v. any_value) ws) → AreBesideAlike vs ws → vs ≡ ws
values_same [] [] o h = refl
values_same [] (w ∷ ws) o h = cc o
values_same (v ∷ vs) [] o h = cc o
values_same (v ∷ vs) (w ∷ ws) o h =
    let a = h 0 v w refl refl in
    let rest : ◌≡◌ {A = List ValueType} (map (λ v. any_value) vs) (map (λ v. any_value) ws) = cc o in
    let r = values_same vs ws rest (λ i a b p q. h (suc i) a b p q) in
    (λ i. a i ∷ r i)

fields_same : (es fs : List (Name × ValueType)) → ◌≡◌ {A = List (Name × ValueType)} (map (λ e. (e.0, any_value)) es) (map (λ e. (e.0, any_value)) fs) → AreBesideAlike (seconds es) (seconds fs) → es ≡ fs
fields_same [] [] o h = refl
fields_same [] (f ∷ fs) o h = cc o
fields_same (e ∷ es) [] o h = cc o
fields_same (e ∷ es) (f ∷ fs) o h =
    let first : ◌≡◌ {A = Name × ValueType} (e.0, any_value) (f.0, any_value) = cc o in
    let n = ap (λ (z : Name × ValueType). z.0) first in
    let a = h 0 e.1 f.1 refl refl in
    let rest : ◌≡◌ {A = List (Name × ValueType)} (map (λ e. (e.0, any_value)) es) (map (λ e. (e.0, any_value)) fs) = cc o in
    let r = fields_same es fs rest (λ i a b p q. h (suc i) a b p q) in
    (λ i. (n i, a i) ∷ r i)

cases_same : (es fs : List (Name × Option ValueType)) → ◌≡◌ {A = List (Name × Option ValueType)} (map (λ e. (e.0, any_maybe e.1)) es) (map (λ e. (e.0, any_maybe e.1)) fs) → AreBesideAlike (case_values es) (case_values fs) → es ≡ fs
cases_same [] [] o h = refl
cases_same [] (f ∷ fs) o h = cc o
cases_same (e ∷ es) [] o h = cc o
cases_same (e ∷ es) (f ∷ fs) o h =
    let first : ◌≡◌ {A = Name × Option ValueType} (e.0, any_maybe e.1) (f.0, any_maybe f.1) = cc o in
    let n = ap (λ (z : Name × Option ValueType). z.0) first in
    let m = ap (λ (z : Name × Option ValueType). z.1) first in
    let rest : ◌≡◌ {A = List (Name × Option ValueType)} (map (λ e. (e.0, any_maybe e.1)) es) (map (λ e. (e.0, any_maybe e.1)) fs) = cc o in
    let (a, more) = maybe_same e.1 f.1 (case_values es) (case_values fs) m h in
    let r = cases_same es fs rest more in
    (λ i. (n i, a i) ∷ r i)

maybe_alone : (v w : Option ValueType) → any_maybe v ≡ any_maybe w → AreBesideAlike (and_maybe v []) (and_maybe w []) → v ≡ w
maybe_alone v w o h = (maybe_same v w [] [] o h).0

pub outline_same : (x y : DefinedType) → outline x ≡ outline y → AreBesideAlike (defined_values x) (defined_values y) → x ≡ y
outline_same (def.Tuple vs) (def.Tuple ws) o h = ap def.Tuple (values_same vs ws (cc o) h)
outline_same (def.List v) (def.List w) o h = ap def.List (h 0 v w refl refl)
outline_same (def.FixedSizeList v n) (def.FixedSizeList w m) o h = let a = h 0 v w refl refl in let s : n ≡ m = cc o in (λ i. def.FixedSizeList (a i) (s i))
outline_same (def.Option v) (def.Option w) o h = ap def.Option (h 0 v w refl refl)
outline_same (def.Result v p) (def.Result w q) o h =
    let first : any_maybe v ≡ any_maybe w = cc o in
    let second : any_maybe p ≡ any_maybe q = cc o in
    let (a, more) = maybe_same v w (and_maybe p []) (and_maybe q []) first h in
    let b = maybe_alone p q second more in
    (λ i. def.Result (a i) (b i))
outline_same (def.Variant x) (def.Variant y) o h = ap (λ l. def.Variant (record { cases = l })) (cases_same x.cases y.cases (ap cases_of o) h) where
  cases_of : DefinedType → List (Name × Option ValueType)
  cases_of (def.Variant v) = v.cases
  cases_of d = []
outline_same (def.Record x) (def.Record y) o h = ap (λ l. def.Record (record { fields = l })) (fields_same x.fields y.fields (ap fields_of o) h) where
  fields_of : DefinedType → List (Name × ValueType)
  fields_of (def.Record v) = v.fields
  fields_of d = []
outline_same (def.Flags x) (def.Flags y) o h = o
outline_same (def.Enum x) (def.Enum y) o h = o
outline_same (def.Alias v) (def.Alias w) o h = ap def.Alias (h 0 v w refl refl)
outline_same (def.Stream v) (def.Stream w) o h = ap def.Stream (maybe_alone v w (cc o) h)
outline_same (def.Future v) (def.Future w) o h = ap def.Future (maybe_alone v w (cc o) h)
outline_same _ _ o h = cc o

pub func_outline_same : (x y : FuncType) → func_outline x ≡ func_outline y → AreBesideAlike (func_values x) (func_values y) → x ≡ y
func_outline_same x y o h =
    let (r, more) = maybe_same x.result y.result (seconds x.params) (seconds y.params) (ap (λ (f : FuncType). f.result) o) h in
    let p = fields_same x.params y.params (ap (λ (f : FuncType). f.params) o) more in
    let a = ap (λ (f : FuncType). f.is_async) o in
    (λ i. record { params = p i; result = r i; is_async = a i })

-- ---- of two definitions of one outline, as many values stand in both

next_at : (vs ws : List ValueType) → ((i : ℕ) (a : ValueType) → slice_get vs i ≡ Some a → (b : ValueType) × (slice_get ws i ≡ Some b)) → (v w : ValueType) (i : ℕ) (a : ValueType) → slice_get (v ∷ vs) i ≡ Some a → (b : ValueType) × (slice_get (w ∷ ws) i ≡ Some b)
next_at vs ws h v w zero a at = (w, refl)
next_at vs ws h v w (suc i) a at = h i a at

-- there is a value at the same position of the second list
abbrev pub AreAsMany : List ValueType → List ValueType → Type 0
AreAsMany vs ws = (i : ℕ) (a : ValueType) → slice_get vs i ≡ Some a → (b : ValueType) × (slice_get ws i ≡ Some b)

none_many : AreAsMany [] []
none_many i a at = cc at

maybe_many : (v w : Option ValueType) (vs ws : List ValueType) → any_maybe v ≡ any_maybe w → AreAsMany vs ws → AreAsMany (and_maybe v vs) (and_maybe w ws)
maybe_many None None vs ws o h = h
maybe_many None (Some w) vs ws o h = cc o
maybe_many (Some v) None vs ws o h = cc o
maybe_many (Some v) (Some w) vs ws o h = next_at vs ws h v w

values_many : (vs ws : List ValueType) → ◌≡◌ {A = List ValueType} (map (λ v. any_value) vs) (map (λ v. any_value) ws) → AreAsMany vs ws
values_many [] [] o = none_many
values_many [] (w ∷ ws) o = cc o
values_many (v ∷ vs) [] o = cc o
values_many (v ∷ vs) (w ∷ ws) o =
    let rest : ◌≡◌ {A = List ValueType} (map (λ v. any_value) vs) (map (λ v. any_value) ws) = cc o in
    next_at vs ws (values_many vs ws rest) v w

fields_many : (es fs : List (Name × ValueType)) → ◌≡◌ {A = List (Name × ValueType)} (map (λ e. (e.0, any_value)) es) (map (λ e. (e.0, any_value)) fs) → AreAsMany (seconds es) (seconds fs)
fields_many [] [] o = none_many
fields_many [] (f ∷ fs) o = cc o
fields_many (e ∷ es) [] o = cc o
fields_many (e ∷ es) (f ∷ fs) o =
    let rest : ◌≡◌ {A = List (Name × ValueType)} (map (λ e. (e.0, any_value)) es) (map (λ e. (e.0, any_value)) fs) = cc o in
    next_at (seconds es) (seconds fs) (fields_many es fs rest) e.1 f.1

cases_many : (es fs : List (Name × Option ValueType)) → ◌≡◌ {A = List (Name × Option ValueType)} (map (λ e. (e.0, any_maybe e.1)) es) (map (λ e. (e.0, any_maybe e.1)) fs) → AreAsMany (case_values es) (case_values fs)
cases_many [] [] o = none_many
cases_many [] (f ∷ fs) o = cc o
cases_many (e ∷ es) [] o = cc o
cases_many (e ∷ es) (f ∷ fs) o =
    let first : ◌≡◌ {A = Name × Option ValueType} (e.0, any_maybe e.1) (f.0, any_maybe f.1) = cc o in
    let m = ap (λ (z : Name × Option ValueType). z.1) first in
    let rest : ◌≡◌ {A = List (Name × Option ValueType)} (map (λ e. (e.0, any_maybe e.1)) es) (map (λ e. (e.0, any_maybe e.1)) fs) = cc o in
    maybe_many e.1 f.1 (case_values es) (case_values fs) m (cases_many es fs rest)

pub outline_many : (x y : DefinedType) → outline x ≡ outline y → AreAsMany (defined_values x) (defined_values y)
outline_many (def.Tuple vs) (def.Tuple ws) o = values_many vs ws (cc o)
outline_many (def.List v) (def.List w) o = next_at [] [] none_many v w
outline_many (def.FixedSizeList v n) (def.FixedSizeList w m) o = next_at [] [] none_many v w
outline_many (def.Option v) (def.Option w) o = next_at [] [] none_many v w
outline_many (def.Result v p) (def.Result w q) o =
    let first : any_maybe v ≡ any_maybe w = cc o in
    let second : any_maybe p ≡ any_maybe q = cc o in
    maybe_many v w (and_maybe p []) (and_maybe q []) first (maybe_many p q [] [] second none_many)
outline_many (def.Variant x) (def.Variant y) o = cases_many x.cases y.cases (ap cases_of o) where
  cases_of : DefinedType → List (Name × Option ValueType)
  cases_of (def.Variant v) = v.cases
  cases_of d = []
outline_many (def.Record x) (def.Record y) o = fields_many x.fields y.fields (ap fields_of o) where
  fields_of : DefinedType → List (Name × ValueType)
  fields_of (def.Record v) = v.fields
  fields_of d = []
outline_many (def.Flags x) (def.Flags y) o = none_many
outline_many (def.Enum x) (def.Enum y) o = none_many
outline_many (def.Alias v) (def.Alias w) o = next_at [] [] none_many v w
outline_many (def.Stream v) (def.Stream w) o = maybe_many v w [] [] (cc o) none_many
outline_many (def.Future v) (def.Future w) o = maybe_many v w [] [] (cc o) none_many
outline_many _ _ o = cc o

pub func_outline_many : (x y : FuncType) → func_outline x ≡ func_outline y → AreAsMany (func_values x) (func_values y)
func_outline_many x y o =
    maybe_many x.result y.result (seconds x.params) (seconds y.params) (ap (λ (f : FuncType). f.result) o)
    (fields_many x.params y.params (ap (λ (f : FuncType). f.params) o))

-- A definition that is made of its parts as they are written is written.
use Rattle.std.specs.Prelude.{ℕ, zero, suc, ◌≡◌, ◌<◌, ◌+◌, Bool, List, [], ◌∷◌, ◌++◌, length, map, take, Option, Some, None, slice_get}
use Rattle.std.specs.List.{AllZip}
use Rattle.std.specs.Borrow.{Bor}
use Rattle.std.proofs.Common.{refl, ap, ◌∙◌, sym, subst, arith, add-one}
use Rattle.wac_types_shapes.specs.primitives.Name.{Name}
use Rattle.wac_types_shapes.specs.declared.shapes.component.Record.{Record}
use Rattle.wac_types_shapes.specs.declared.shapes.component.Variant.{Variant}
use Rattle.wac_types_shapes.specs.declared.shapes.component.Flags.{Flags}
use Rattle.wac_types_shapes.specs.declared.shapes.component.Enum.{Enum}
use Rattle.wac_types_shapes.specs.declared.shapes.component.DefinedType.{DefinedType}
use Rattle.wac_types_shapes.specs.declared.shapes.component.DefinedType.TheVariants as def
use Rattle.wac_types_shapes.specs.declared.shapes.component.DefinedTypeId.{DefinedTypeId}
use Rattle.wac_types_shapes.specs.declared.shapes.component.ValueType.{ValueType}
use Rattle.wac_types_collection.specs.collection.Collection.{Collection, item_at}
use Rattle.wac_types_collection.specs.collection.Bound.{Bindings}
use Rattle.wac_binary.specs.declared.types.ComponentValType.{ComponentValType}
use Rattle.wac_binary.specs.Items.{ValueDef, record_def, variant_def, list_def, fixed_list_def, tuple_def, flags_def, enum_def, option_def, result_def, stream_def, future_def}
use Rattle.wac_binary.specs.Unfold.{Scope as Env}
use Rattle.wac_binary.specs.Views.{named, texts_of}
use Rattle.wac_encode_stacks.specs.Good.{Good, top, innermost}
use Rattle.wac_encode_stacks.specs.private.Parts.{MaybeIs, AreValues, AreFields, AreCases, IsWritten}
use Rattle.wac_encode_scopes.specs.declared.state.State.{State}
use Rattle.wac_encode_scopes.specs.States.{stack, SaysWritten}
use Rattle.wac_encode_scopes.specs.private.Parts.{parts, some_of, second_of, some_second_of}
use Rattle.wac_encode_values.specs.private.Parts.{MaybeWrittenAs, AreParts, IsMadeOf, IsPresent, ArePresent, IsPlain, IsText, IsFieldName, IsCaseName, IsValue, IsFieldValue, IsCaseValue}

-- lists that go together

pub zip-more : {A B : Type 0} (R : A → B → Type 0) (vs : List A) (xs : List B) (i : ℕ) (v : A) (x : B) → slice_get vs i ≡ Some v → AllZip R (take i vs) xs → R v x → AllZip R (take (suc i) vs) (xs ++ x ∷ [])
zip-more R [] xs i v x at z r = let no_some : None ≡ Some v = at in cc
zip-more {A} R (w ∷ vs) [] zero v x at z r = let e : w ≡ v = cc in (subst (λ (u : A). R u x) (sym e) r, tt)
zip-more R (w ∷ vs) (y ∷ xs) zero v x at z r = absurd z
zip-more R (w ∷ vs) [] (suc i) v x at z r = absurd z
zip-more R (w ∷ vs) (y ∷ xs) (suc i) v x at z r = (z.0, zip-more R vs xs i v x at z.1 r)

pub zip-further : {A B : Type 0} (R : A → B → Type 0) (vs : List A) (xs ys : List B) (i : ℕ) (v : A) (x : B) → slice_get vs i ≡ Some v → ys ≡ xs ++ x ∷ [] → AllZip R (take i vs) xs → R v x → AllZip R (take (i + 1) vs) ys
zip-further {A} {B} R vs xs ys i v x at is z r = subst (λ (n : ℕ). AllZip R (take n vs) ys) (sym (add-one i)) (subst (λ (zs : List B). AllZip R (take (suc i) vs) zs) (sym is) (zip-more R vs xs i v x at z r))

pub zip-as : {A B : Type 0} (R Q : A → B → Type 0) → ((a : A) (b : B) → R a b → Q a b) → (vs : List A) (xs : List B) → AllZip R vs xs → AllZip Q vs xs
zip-as R Q ok [] [] z = tt
zip-as R Q ok (v ∷ vs) (x ∷ xs) z = (ok v x z.0, zip-as R Q ok vs xs z.1)
zip-as R Q ok [] (x ∷ xs) z = absurd z
zip-as R Q ok (v ∷ vs) [] z = absurd z

pub zip-map : {A B C : Type 0} (R : A → B → Type 0) (Q : A → C → Type 0) (h : B → C) → ((a : A) (b : B) → R a b → Q a (h b)) → (vs : List A) (xs : List B) → AllZip R vs xs → AllZip Q vs (map h xs)
zip-map R Q h ok [] [] z = tt
zip-map R Q h ok (v ∷ vs) (x ∷ xs) z = (ok v x z.0, zip-map R Q h ok vs xs z.1)
zip-map R Q h ok [] (x ∷ xs) z = absurd z
zip-map R Q h ok (v ∷ vs) [] z = absurd z

pub zip-long : {A B : Type 0} (R : A → B → Type 0) (vs : List A) (xs : List B) → AllZip R vs xs → length vs ≡ length xs
zip-long R [] [] z = refl
zip-long R (v ∷ vs) (x ∷ xs) z = ap suc (zip-long R vs xs z.1)
zip-long R [] (x ∷ xs) z = absurd z
zip-long R (v ∷ vs) [] z = absurd z

pub map-long : {A B : Type 0} (h : A → B) (xs : List A) → length (map h xs) ≡ length xs
map-long h [] = refl
map-long h (x ∷ xs) = ap suc (map-long h xs)

pub texts-are : (ns : List Name) (xs : List (Bor (List ℕ))) → AllZip IsText ns xs → texts_of xs ≡ ns
texts-are [] [] z = refl
texts-are (n ∷ ns) (x ∷ xs) z = let head : x.now ≡ n = z.0 in let rest : texts_of xs ≡ ns = texts-are ns xs z.1 in cc
texts-are [] (x ∷ xs) z = absurd z
texts-are (n ∷ ns) [] z = absurd z

-- what is made of parts

module _ (c : Collection) (m : Bindings) (e : Env) where
  tuple-is : (vs : List ValueType) (ps : List (Option ComponentValType)) (xs : List ComponentValType) → AllZip (MaybeIs c m e) (map some_of vs) ps → AllZip (λ p x. p ≡ Some x) ps xs → AreValues c m e vs xs
  tuple-is [] [] [] h z = tt
  tuple-is (v ∷ vs) (p ∷ ps) (x ∷ xs) h z = (subst (MaybeIs c m e (Some v)) z.0 h.0, tuple-is vs ps xs h.1 z.1)
  tuple-is [] [] (x ∷ xs) h z = absurd z
  tuple-is [] (p ∷ ps) xs h z = absurd h
  tuple-is (v ∷ vs) [] xs h z = absurd h
  tuple-is (v ∷ vs) (p ∷ ps) [] h z = absurd z

  record-is : (vs : List (Name × ValueType)) (ps : List (Option ComponentValType)) (xs : List (Name × ComponentValType)) → AllZip (MaybeIs c m e) (map some_second_of vs) ps → AllZip (λ v x. x.0 ≡ v.0) vs xs → AllZip (λ p x. p ≡ Some x.1) ps xs → AreFields c m e vs xs
  record-is [] [] [] h n z = tt
  record-is (v ∷ vs) (p ∷ ps) (x ∷ xs) h n z = ((n.0, subst (MaybeIs c m e (Some v.1)) z.0 h.0), record-is vs ps xs h.1 n.1 z.1)
  record-is [] [] (x ∷ xs) h n z = absurd z
  record-is [] (p ∷ ps) xs h n z = absurd h
  record-is (v ∷ vs) [] xs h n z = absurd h
  record-is (v ∷ vs) (p ∷ ps) [] h n z = absurd z

  variant-is : (vs : List (Name × Option ValueType)) (ps : List (Option ComponentValType)) (xs : List (Name × Option ComponentValType)) → AllZip (MaybeIs c m e) (map second_of vs) ps → AllZip (λ v x. x.0 ≡ v.0) vs xs → AllZip (λ p x. p ≡ x.1) ps xs → AreCases c m e vs xs
  variant-is [] [] [] h n z = tt
  variant-is (v ∷ vs) (p ∷ ps) (x ∷ xs) h n z = ((n.0, subst (MaybeIs c m e v.1) z.0 h.0), variant-is vs ps xs h.1 n.1 z.1)
  variant-is [] [] (x ∷ xs) h n z = absurd z
  variant-is [] (p ∷ ps) xs h n z = absurd h
  variant-is (v ∷ vs) [] xs h n z = absurd h
  variant-is (v ∷ vs) (p ∷ ps) [] h n z = absurd z

  -- of the first two parts
  first-is : (o : Option ValueType) (os : List (Option ValueType)) (ps : List (Option ComponentValType)) (x : Option ComponentValType) → AllZip (MaybeIs c m e) (o ∷ os) ps → slice_get ps 0 ≡ Some x → MaybeIs c m e o x
  first-is o os [] x h at = absurd h
  first-is o os (p ∷ ps) x h at = let same : p ≡ x = cc in subst (MaybeIs c m e o) same h.0

  second-is : (o u : Option ValueType) (os : List (Option ValueType)) (ps : List (Option ComponentValType)) (x : Option ComponentValType) → AllZip (MaybeIs c m e) (o ∷ u ∷ os) ps → slice_get ps 1 ≡ Some x → MaybeIs c m e u x
  second-is o u os [] x h at = absurd h
  second-is o u os (p ∷ ps) x h at = first-is u os ps x h.1 at

  made-is : (d : DefinedType) (ps : List (Option ComponentValType)) (y : ValueDef) → AllZip (MaybeIs c m e) (parts d) ps → IsMadeOf d ps y → IsWritten c m e d y
  made-is (def.Tuple vs) ps (tuple_def xs) h z = tuple-is vs ps xs h z
  made-is (def.List v) ps (list_def x) h z = first-is (Some v) [] ps (Some x) h z
  made-is (def.FixedSizeList v n) ps (fixed_list_def x k) h z = (z.0, first-is (Some v) [] ps (Some x) h z.1)
  made-is (def.Option v) ps (option_def x) h z = first-is (Some v) [] ps (Some x) h z
  made-is (def.Result ok err) ps (result_def x y) h z = (first-is ok (err ∷ []) ps x h z.0, second-is ok err [] ps y h z.1)
  made-is (def.Variant v) ps (variant_def xs) h z = variant-is v.cases ps xs h z.0 z.1
  made-is (def.Record r) ps (record_def xs) h z = record-is r.fields ps xs h z.0 z.1
  made-is (def.Flags names) ps (flags_def xs) h z = z
  made-is (def.Enum names) ps (enum_def xs) h z = z
  made-is (def.Stream v) ps (stream_def x) h z = first-is v [] ps x h z
  made-is (def.Future v) ps (future_def x) h z = first-is v [] ps x h z
  made-is d ps y h z = absurd z

pub maybe-is : (c : Collection) (b : Bool) (s : State) (ms : List Bindings) → Good c ms (stack b s) → (p : Option ValueType) (q : Option ComponentValType) → MaybeWrittenAs c b s p q → MaybeIs c (top ms) (innermost (stack b s)) p q
maybe-is c b s ms good None None w = tt
maybe-is c b s ms good (Some v) (Some x) w = w ms good
maybe-is c b s ms good None (Some x) w = absurd w
maybe-is c b s ms good (Some v) None w = absurd w

pub made-written : (c : Collection) (b : Bool) (s : State) (d : DefinedTypeId) (x : DefinedType) (ps : List (Option ComponentValType)) (y : ValueDef) → item_at c.defined d.0 ≡ Some x → AreParts c b s d ps → IsMadeOf x ps y → (z : DefinedType) × (item_at c.defined d.0 ≡ Some z) × SaysWritten c b s z y
made-written c b s d x ps y at h z = (x, at, λ ms good. made-is c (top ms) (innermost (stack b s)) x ps y (zip-as (MaybeWrittenAs c b s) (MaybeIs c (top ms) (innermost (stack b s))) (maybe-is c b s ms good) (parts x) ps (h x at)) z)

pub made-tuple : (x : DefinedType) (vs : List ValueType) (ps : List (Option ComponentValType)) (xs ys : List ComponentValType) → x ≡ def.Tuple vs → ys ≡ xs → AllZip IsValue ps xs → IsMadeOf x ps (tuple_def ys)
made-tuple x vs ps xs ys is same z = subst (λ (d : DefinedType). IsMadeOf d ps (tuple_def ys)) (sym is) (subst (λ (zs : List ComponentValType). AllZip IsValue ps zs) (sym same) z)

pub made-record : (x : DefinedType) (r : Record) (ps : List (Option ComponentValType)) (xs ys : List (Bor (List ℕ) × ComponentValType)) → x ≡ def.Record r → ys ≡ xs → AllZip IsFieldName r.fields xs → AllZip IsFieldValue ps xs → IsMadeOf x ps (record_def (named ys))
made-record x r ps xs ys is same n z =
    subst (λ (d : DefinedType). IsMadeOf d ps (record_def (named ys))) (sym is) (subst (λ (zs : List (Bor (List ℕ) × ComponentValType)). IsMadeOf (def.Record r) ps (record_def (named zs))) (sym same) (
      zip-map IsFieldName (λ e y. y.0 ≡ e.0) (λ f. (f.0.now, f.1)) (λ e y h. h) r.fields xs n,
      zip-map IsFieldValue (λ p y. p ≡ Some y.1) (λ f. (f.0.now, f.1)) (λ p y h. h) ps xs z,
    ))

pub made-variant : (x : DefinedType) (r : Variant) (ps : List (Option ComponentValType)) (xs ys : List (Bor (List ℕ) × Option ComponentValType)) → x ≡ def.Variant r → ys ≡ xs → AllZip IsCaseName r.cases xs → AllZip IsCaseValue ps xs → IsMadeOf x ps (variant_def (named ys))
made-variant x r ps xs ys is same n z =
    subst (λ (d : DefinedType). IsMadeOf d ps (variant_def (named ys))) (sym is) (subst (λ (zs : List (Bor (List ℕ) × Option ComponentValType)). IsMadeOf (def.Variant r) ps (variant_def (named zs))) (sym same) (
      zip-map IsCaseName (λ e y. y.0 ≡ e.0) (λ f. (f.0.now, f.1)) (λ e y h. h) r.cases xs n,
      zip-map IsCaseValue (λ p y. p ≡ y.1) (λ f. (f.0.now, f.1)) (λ p y h. h) ps xs z,
    ))

pub made-flags : (x : DefinedType) (f : Flags) (ps : List (Option ComponentValType)) (xs ys : List (Bor (List ℕ))) → x ≡ def.Flags f → ys ≡ xs → AllZip IsText f.0 xs → IsMadeOf x ps (flags_def (texts_of ys))
made-flags x f ps xs ys is same z = subst (λ (d : DefinedType). IsMadeOf d ps (flags_def (texts_of ys))) (sym is) (ap texts_of same ∙ texts-are f.0 xs z)

pub made-enum : (x : DefinedType) (f : Enum) (ps : List (Option ComponentValType)) (xs ys : List (Bor (List ℕ))) → x ≡ def.Enum f → ys ≡ xs → AllZip IsText f.0 xs → IsMadeOf x ps (enum_def (texts_of ys))
made-enum x f ps xs ys is same z = subst (λ (d : DefinedType). IsMadeOf d ps (enum_def (texts_of ys))) (sym is) (ap texts_of same ∙ texts-are f.0 xs z)

-- what is present

present-value : (v : ValueType) (p : Option ComponentValType) (c : Collection) (b : Bool) (s : State) → MaybeWrittenAs c b s (Some v) p → IsPresent p
present-value v None c b s h = h
present-value v (Some x) c b s h = tt

pub present-values : (c : Collection) (b : Bool) (s : State) (vs : List ValueType) (ps : List (Option ComponentValType)) → AllZip (MaybeWrittenAs c b s) (map some_of vs) ps → ArePresent ps
present-values c b s [] [] h = tt
present-values c b s (v ∷ vs) (p ∷ ps) h = (present-value v p c b s h.0, present-values c b s vs ps h.1)
present-values c b s [] (p ∷ ps) h = absurd h
present-values c b s (v ∷ vs) [] h = absurd h

pub present-fields : (c : Collection) (b : Bool) (s : State) (vs : List (Name × ValueType)) (ps : List (Option ComponentValType)) → AllZip (MaybeWrittenAs c b s) (map some_second_of vs) ps → ArePresent ps
present-fields c b s [] [] h = tt
present-fields c b s (v ∷ vs) (p ∷ ps) h = (present-value v.1 p c b s h.0, present-fields c b s vs ps h.1)
present-fields c b s [] (p ∷ ps) h = absurd h
present-fields c b s (v ∷ vs) [] h = absurd h

pub present-at : (ps : List (Option ComponentValType)) (i : ℕ) → ArePresent ps → i < length ps → (x : ComponentValType) × (slice_get ps i ≡ Some (Some x))
present-at [] i h lt = absurd (omega (arith, lt))
present-at (None ∷ ps) i h lt = absurd h.0
present-at (Some x ∷ ps) zero h lt = (x, refl)
present-at (Some x ∷ ps) (suc i) h lt = present-at ps i h.1 (omega (arith, lt))

present-first : (p : Option ComponentValType) (ps : List (Option ComponentValType)) → IsPresent p → (x : ComponentValType) × (slice_get (p ∷ ps) 0 ≡ Some (Some x))
present-first None ps h = absurd h
present-first (Some x) ps h = (x, refl)

first-present : (c : Collection) (b : Bool) (s : State) (v : ValueType) (ps : List (Option ComponentValType)) → AllZip (MaybeWrittenAs c b s) (Some v ∷ []) ps → (x : ComponentValType) × (slice_get ps 0 ≡ Some (Some x))
first-present c b s v [] h = absurd h
first-present c b s v (p ∷ ps) h = present-first p ps (present-value v p c b s h.0)

-- of a definition of which all parts are written
pub tuple-present : (c : Collection) (b : Bool) (s : State) (d : DefinedTypeId) (x : DefinedType) (vs : List ValueType) (ps : List (Option ComponentValType)) → item_at c.defined d.0 ≡ Some x → x ≡ def.Tuple vs → AreParts c b s d ps → ArePresent ps
tuple-present c b s d x vs ps at is h = present-values c b s vs ps (h (def.Tuple vs) (at ∙ ap (λ (y : DefinedType). Some y) is))

pub record-present : (c : Collection) (b : Bool) (s : State) (d : DefinedTypeId) (x : DefinedType) (r : Record) (ps : List (Option ComponentValType)) → item_at c.defined d.0 ≡ Some x → x ≡ def.Record r → AreParts c b s d ps → ArePresent ps
record-present c b s d x r ps at is h = present-fields c b s r.fields ps (h (def.Record r) (at ∙ ap (λ (y : DefinedType). Some y) is))

pub record-long : (c : Collection) (b : Bool) (s : State) (d : DefinedTypeId) (x : DefinedType) (r : Record) (ps : List (Option ComponentValType)) → item_at c.defined d.0 ≡ Some x → x ≡ def.Record r → AreParts c b s d ps → length r.fields ≡ length ps
record-long c b s d x r ps at is h = sym (map-long some_second_of r.fields) ∙ zip-long (MaybeWrittenAs c b s) (map some_second_of r.fields) ps (h (def.Record r) (at ∙ ap (λ (y : DefinedType). Some y) is))

pub variant-long : (c : Collection) (b : Bool) (s : State) (d : DefinedTypeId) (x : DefinedType) (r : Variant) (ps : List (Option ComponentValType)) → item_at c.defined d.0 ≡ Some x → x ≡ def.Variant r → AreParts c b s d ps → length r.cases ≡ length ps
variant-long c b s d x r ps at is h = sym (map-long second_of r.cases) ∙ zip-long (MaybeWrittenAs c b s) (map second_of r.cases) ps (h (def.Variant r) (at ∙ ap (λ (y : DefinedType). Some y) is))

-- a definition without names whose parts are there
abbrev pub IsUnnamed : DefinedType → Type 0
IsUnnamed (def.Tuple vs) = ⊥
IsUnnamed (def.Variant v) = ⊥
IsUnnamed (def.Record r) = ⊥
IsUnnamed (def.Flags names) = ⊥
IsUnnamed (def.Enum names) = ⊥
IsUnnamed (def.Alias v) = ⊥
IsUnnamed d = Unit {0}

pub unnamed : (d : DefinedType) → ((x : List ValueType) → d ≡ def.Tuple x → ⊥) → ((x : Variant) → d ≡ def.Variant x → ⊥) → ((x : Record) → d ≡ def.Record x → ⊥) → ((x : Flags) → d ≡ def.Flags x → ⊥) → ((x : Enum) → d ≡ def.Enum x → ⊥) → ((x : ValueType) → d ≡ def.Alias x → ⊥) → IsUnnamed d
unnamed (def.Tuple vs) t v r f e a = t vs refl
unnamed (def.Variant x) t v r f e a = v x refl
unnamed (def.Record x) t v r f e a = r x refl
unnamed (def.Flags x) t v r f e a = f x refl
unnamed (def.Enum x) t v r f e a = e x refl
unnamed (def.Alias x) t v r f e a = a x refl
unnamed d t v r f e a = tt

pub is-plain : (c : Collection) (b : Bool) (s : State) (d : DefinedType) (ps : List (Option ComponentValType)) → IsUnnamed d → AllZip (MaybeWrittenAs c b s) (parts d) ps → IsPlain d ps
is-plain c b s (def.List v) ps un h = first-present c b s v ps h
is-plain c b s (def.FixedSizeList v n) ps un h = first-present c b s v ps h
is-plain c b s (def.Option v) ps un h = first-present c b s v ps h
is-plain c b s (def.Result ok err) ps un h = let n = zip-long (MaybeWrittenAs c b s) (ok ∷ err ∷ []) ps h in omega (arith, n)
is-plain c b s (def.Stream v) ps un h = let n = zip-long (MaybeWrittenAs c b s) (v ∷ []) ps h in omega (arith, n)
is-plain c b s (def.Future v) ps un h = let n = zip-long (MaybeWrittenAs c b s) (v ∷ []) ps h in omega (arith, n)
is-plain c b s d ps un h = absurd un

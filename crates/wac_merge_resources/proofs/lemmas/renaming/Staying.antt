-- What value types became where their definitions did, and those that became themselves.
use Rattle.std.proofs.Common.{◌≡◌, ℕ, ◌+◌, ◌<◌, ◌&&◌, ◌↔◌, Bool, true, false, List, [], ◌∷◌, length, take, get_or, Option, Some, None, IsTrue, refl, sym, ◌∙◌, subst}
use Rattle.std.specs.List.{AllByRecursion, AllZip}
use Rattle.std.specs.Option.{option_map}
use Rattle.std.specs.Prelude.{slice_get}
use Rattle.wac_types_shapes.specs.primitives.Name.{Name}
use Rattle.wac_types_collection.specs.collection.Collection.{Collection, and_maybe, case_values, defined_values, func_values, seconds}
use Rattle.wac_types_collection.specs.collection.Held.{resolved}
use Rattle.wac_types_shapes.specs.declared.shapes.component.DefinedType.{DefinedType}
use Rattle.wac_types_shapes.specs.declared.shapes.component.DefinedType.TheVariants as def
use Rattle.wac_types_shapes.specs.declared.shapes.component.DefinedTypeId.{DefinedTypeId}
use Rattle.wac_types_shapes.specs.declared.shapes.component.FuncType.{FuncType}
use Rattle.wac_types_shapes.specs.declared.shapes.component.ValueType.{ValueType}
use Rattle.wac_types_shapes.specs.declared.shapes.component.ValueType.TheVariants as val
use Rattle.wac_types_collection.specs.private.subtyping.Extended.{AreHeldValues}
use Rattle.wac_merge_tables.specs.private.tables.Tasks.{IsHeldTask, openings}
use Rattle.wac_merge_tables.proofs.lemmas.tables.TaskLemmas.{all_joined}
use Rattle.wac_merge_tables.proofs.lemmas.tables.TaskOpenings.{cases_take, values_take}
use Rattle.wac_types_collection.proofs.lemmas.subtyping.Taking.{seconds_take}
use Rattle.wac_merge_resources.specs.renaming.MadeOf.{plain}
use Rattle.wac_merge_resources.specs.private.renaming.RenamedTypes.{AreRenamed, CanRename, becomes, defined_in}
use Rattle.wac_merge_resources.specs.private.renaming.RenamingSteps.{AllStay, CasesGoTogether, FieldsGoTogether, GoTogether, HaveOneFuncShape, HaveOneShape, IsBecome, IsRenamedIn, aliases, enums, fixed_lists, flags, futures, lists, options, records, results, streams, tuples, variants}
use Rattle.wac_merge_resources.specs.declared.renaming.renamer.Renamed.{Renamed}
use Rattle.wac_merge_resources.specs.declared.renaming.renamer.Renaming.{Renaming}
use Rattle.wac_merge_resources.proofs.lemmas.renaming.RenamingShapes.{fields_more, option_more}
use Rattle.wac_merge_resources.proofs.lemmas.renaming.RenamingTrees.{borrow_renamed, own_renamed, primitive_renamed, tested_low}

pub same_some : {A : Type 0} (a b : A) → Some a ≡ Some b → a ≡ b
same_some a b e = cc

-- ---- what a value type became is renamed

module _ (s : Renaming) (m : Collection) (memo : Renamed) (known : CanRename m s) (right : AreRenamed m s memo) where
  pub become_renamed : (v w : ValueType) → IsBecome s memo v w → IsRenamedIn s m memo.made v w
  become_renamed (val.Primitive p) w h =
      subst (λ (x : ValueType). IsRenamedIn s m memo.made (val.Primitive p) x) (same_some (val.Primitive p) w h.1)
      (primitive_renamed s.types.now m (becomes s) p, plain (val.Primitive p) (val.Primitive p) refl)
  become_renamed (val.Own r) w h =
      let q = becomes s (resolved s.types.now r) in
      subst (λ (x : ValueType). IsRenamedIn s m memo.made (val.Own r) x) (same_some (val.Own q) w h.1)
      (own_renamed s.types.now m (becomes s) known.ends r q (tested_low _ _ h.0) refl, plain (val.Own r) (val.Own q) refl)
  become_renamed (val.Borrow r) w h =
      let q = becomes s (resolved s.types.now r) in
      subst (λ (x : ValueType). IsRenamedIn s m memo.made (val.Borrow r) x) (same_some (val.Borrow q) w h.1)
      (borrow_renamed s.types.now m (becomes s) known.ends r q (tested_low _ _ h.0) refl, plain (val.Borrow r) (val.Borrow q) refl)
  become_renamed (val.Defined d) w h = at (defined_in memo d) refl h.1 where
    at : (o : Option DefinedTypeId) → defined_in memo d ≡ o → option_map val.Defined o ≡ Some w → IsRenamedIn s m memo.made (val.Defined d) w
    at None is e = cc e
    at (Some e) is became = subst (λ (x : ValueType). IsRenamedIn s m memo.made (val.Defined d) x) (same_some (val.Defined e) w became) (right.defined d e is, right.once d e is)

  pub func_shape_renamed : (x y : FuncType) → HaveOneFuncShape (IsBecome s memo) x y → HaveOneFuncShape (IsRenamedIn s m memo.made) x y
  func_shape_renamed x y shape = record {
    params = fields_more (IsBecome s memo) (IsRenamedIn s m memo.made) become_renamed x.params y.params shape.params;
    result = option_more (IsBecome s memo) (IsRenamedIn s m memo.made) become_renamed x.result y.result shape.result;
    sort = shape.sort;
  }

-- ---- values that go with themselves

module _ (R : ValueType → ValueType → Type 0) where
  abbrev AllAlike : List ValueType → Type 0
  AllAlike vs = AllByRecursion (λ v. R v v) vs

  maybe_alike : (v : Option ValueType) (vs : List ValueType) → AllAlike (and_maybe v vs) → GoTogether R v v × AllAlike vs
  maybe_alike None vs h = (tt, h)
  maybe_alike (Some v) vs h = (h.0, h.1)

  values_alike : (vs : List ValueType) → AllAlike vs → AllZip R vs vs
  values_alike [] h = tt
  values_alike (v ∷ vs) h = (h.0, values_alike vs h.1)

  fields_alike : (es : List (Name × ValueType)) → AllAlike (seconds es) → FieldsGoTogether R es es
  fields_alike [] h = tt
  fields_alike (e ∷ es) h = ((refl, h.0), fields_alike es h.1)

  cases_alike : (es : List (Name × Option ValueType)) → AllAlike (case_values es) → CasesGoTogether R es es
  cases_alike [] h = tt
  cases_alike (e ∷ es) h = let a = maybe_alike e.1 (case_values es) h in ((refl, a.0), cases_alike es a.1)

  pub shape_alike : (d : DefinedType) → AllAlike (defined_values d) → HaveOneShape R d d
  shape_alike (def.Tuple vs) h = tuples vs vs refl refl (values_alike vs h)
  shape_alike (def.List v) h = lists v v refl refl h.0
  shape_alike (def.FixedSizeList v n) h = fixed_lists v v n refl refl h.0
  shape_alike (def.Option v) h = options v v refl refl h.0
  shape_alike (def.Result v w) h = let a = maybe_alike v (and_maybe w []) h in results v v w w refl refl a.0 (maybe_alike w [] a.1).0
  shape_alike (def.Variant x) h = variants x x refl refl (cases_alike x.cases h)
  shape_alike (def.Record x) h = records x x refl refl (fields_alike x.fields h)
  shape_alike (def.Flags x) h = flags x x refl refl refl
  shape_alike (def.Enum x) h = enums x x refl refl refl
  shape_alike (def.Alias v) h = aliases v v refl refl h.0
  shape_alike (def.Stream v) h = streams v v refl refl (maybe_alike v [] h).0
  shape_alike (def.Future v) h = futures v v refl refl (maybe_alike v [] h).0

  pub func_alike : (x : FuncType) → AllAlike (func_values x) → HaveOneFuncShape R x x
  func_alike x h = let a = maybe_alike x.result (seconds x.params) h in record { params = fields_alike x.params a.1; result = a.0; sort = refl }

  -- and back
  maybe_each : (v : Option ValueType) (vs : List ValueType) → GoTogether R v v → AllAlike vs → AllAlike (and_maybe v vs)
  maybe_each None vs g h = h
  maybe_each (Some v) vs g h = (g, h)

  fields_each : (es : List (Name × ValueType)) → FieldsGoTogether R es es → AllAlike (seconds es)
  fields_each [] h = tt
  fields_each (e ∷ es) h = (h.0.1, fields_each es h.1)

  func_each : (x : FuncType) → HaveOneFuncShape R x x → AllAlike (func_values x)
  func_each x h = maybe_each x.result (seconds x.params) h.result (fields_each x.params h.params)

module _ (s : Renaming) (memo : Renamed) where
  become_themselves : (vs : List ValueType) → AreHeldValues s.types.now vs → AllStay s memo vs → AllByRecursion (λ v. IsBecome s memo v v) vs
  become_themselves [] h g = tt
  become_themselves (v ∷ vs) h g = ((h.0, g.0), become_themselves vs h.1 g.1)

  all_stay : (vs : List ValueType) → AllByRecursion (λ v. IsBecome s memo v v) vs → AllStay s memo vs
  all_stay [] h = tt
  all_stay (v ∷ vs) h = (h.0.1, all_stay vs h.1)

  -- a definition whose parts became themselves has its own shape
  pub shape_stays : (d : DefinedType) → AreHeldValues s.types.now (defined_values d) → AllStay s memo (defined_values d) → HaveOneShape (IsBecome s memo) d d
  shape_stays d h g = shape_alike (IsBecome s memo) d (become_themselves (defined_values d) h g)

  pub func_shape_stays : (x : FuncType) → AreHeldValues s.types.now (func_values x) → AllStay s memo (func_values x) → HaveOneFuncShape (IsBecome s memo) x x
  func_shape_stays x h g = func_alike (IsBecome s memo) x (become_themselves (func_values x) h g)

  -- a function type that became itself has parts that did
  pub func_parts_stay : (x y : FuncType) → x ≡ y → HaveOneFuncShape (IsBecome s memo) x y → AllStay s memo (func_values x)
  func_parts_stay x y same h = all_stay (func_values x) (func_each (IsBecome s memo) x (subst (λ (z : FuncType). HaveOneFuncShape (IsBecome s memo) x z) (sym same) h))

-- ---- what is tested

not_true : false ≡ true → ⊥
not_true e = cc e

pub fails : (A P : Type 0) (b : Bool) → IsTrue b ↔ P → b ≡ false → (A → P) → IsTrue false ↔ A
fails A P b test none f = (λ h. absurd (not_true h), λ a. absurd (not_true (sym none ∙ test.1 (f a))))

pub holds : (A : Type 0) → A → IsTrue true ↔ A
holds A a = (λ h. a, λ h. refl)

pub alone : (P : ValueType → Type 0) (b : Bool) (v : ValueType) → IsTrue b ↔ P v → IsTrue b ↔ AllByRecursion P (v ∷ [])
alone P b v test = (λ h. (test.0 h, tt), λ a. test.1 a.0)

maybe_split : (P : ValueType → Type 0) (o : Option ValueType) (vs : List ValueType) → AllByRecursion P (and_maybe o vs) ↔ (AllByRecursion P (and_maybe o []) × AllByRecursion P vs)
maybe_split P None vs = (λ h. (tt, h), λ h. h.1)
maybe_split P (Some v) vs = (λ h. ((h.0, tt), h.1), λ h. (h.0.0, h.1))

pub both_stay : (P : ValueType → Type 0) (a b : Bool) (o : Option ValueType) (vs : List ValueType) → IsTrue a ↔ AllByRecursion P (and_maybe o []) → IsTrue b ↔ AllByRecursion P vs → IsTrue (a && b) ↔ AllByRecursion P (and_maybe o vs)
both_stay P true b o vs first second = (λ h. (maybe_split P o vs).1 (first.0 refl, second.0 h), λ all. second.1 ((maybe_split P o vs).0 all).1)
both_stay P false b o vs first second = (λ h. absurd (not_true h), λ all. absurd (not_true (first.1 ((maybe_split P o vs).0 all).0)))

pub tested_as : (P : ValueType → Type 0) (b : Bool) (d x : DefinedType) → d ≡ x → IsTrue b ↔ AllByRecursion P (defined_values x) → IsTrue b ↔ AllByRecursion P (defined_values d)
tested_as P b d x is h = subst (λ (y : DefinedType). IsTrue b ↔ AllByRecursion P (defined_values y)) (sym is) h

-- as far as a loop has come
module _ (P : ValueType → Type 0) where
  pub values_further : (vs : List ValueType) (i : ℕ) (d : ValueType) → i < length vs → AllByRecursion P (take i vs) → P (get_or vs i d) → AllByRecursion P (take (i + 1) vs)
  values_further vs i d low h p = subst (AllByRecursion P) (sym (values_take vs i d low)) (all_joined P (take i vs) (get_or vs i d ∷ []) h (p, tt))

  pub fields_further : (es : List (Name × ValueType)) (i : ℕ) (v : ValueType) → option_map (λ e. e.1) (slice_get es i) ≡ Some v → AllByRecursion P (seconds (take i es)) → P v → AllByRecursion P (seconds (take (i + 1) es))
  fields_further es i v at h p = subst (AllByRecursion P) (sym (seconds_take es i v at)) (all_joined P (seconds (take i es)) (v ∷ []) h (p, tt))

  pub cases_further : (es : List (Name × Option ValueType)) (i : ℕ) (v : Option ValueType) → option_map (λ e. e.1) (slice_get es i) ≡ Some v → AllByRecursion P (case_values (take i es)) → AllByRecursion P (and_maybe v []) → AllByRecursion P (case_values (take (i + 1) es))
  cases_further es i v at h p = subst (AllByRecursion P) (sym (cases_take es i v at)) (all_joined P (case_values (take i es)) (and_maybe v []) h p)

-- ---- the tasks of held values are held
pub held_openings : (c : Collection) (vs : List ValueType) → AreHeldValues c vs → AllByRecursion (IsHeldTask c) (openings vs)
held_openings c [] h = tt
held_openings c (val.Primitive p ∷ vs) h = held_openings c vs h.1
held_openings c (val.Own r ∷ vs) h = held_openings c vs h.1
held_openings c (val.Borrow r ∷ vs) h = held_openings c vs h.1
held_openings c (val.Defined d ∷ vs) h = (tested_low _ _ h.0, held_openings c vs h.1)

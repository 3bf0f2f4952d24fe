-- Definitions of one shape: their trees, what they mention, and copies of fields and cases.
use Rattle.std.proofs.Common.{◌≡◌, suc, List, [], ◌∷◌, length, map, Option, Some, None, refl, ap, sym, ◌∙◌, subst}
use Rattle.std.specs.List.{AllByRecursion, AllZip}
use Rattle.wac_types_shapes.specs.primitives.Name.{Name}
use Rattle.wac_types_shapes.specs.primitives.Tree.{TypeTree, record_of, variant_of, list_of, fixed_list_of, tuple_of, flags_of, enum_of, option_of, result_of, stream_of, future_of, function}
use Rattle.wac_types_collection.specs.collection.Collection.{and_maybe, case_values, defined_values, func_values, seconds}
use Rattle.wac_types_collection.specs.collection.Held.{defined_tree, func_tree, option_tree, part_at}
use Rattle.wac_types_shapes.specs.declared.shapes.component.DefinedType.{DefinedType}
use Rattle.wac_types_shapes.specs.declared.shapes.component.FuncType.{FuncType}
use Rattle.wac_types_shapes.specs.declared.shapes.component.ValueType.{ValueType}
use Rattle.wac_merge_resources.specs.private.renaming.RenamingSteps.{CasesGoTogether, FieldsGoTogether, GoTogether, HaveOneShape, aliases, enums, fixed_lists, flags, futures, lists, options, records, results, streams, tuples, variants}
use Rattle.wac_merge_classes.proofs.lemmas.entries.Lists.{zip_all}

-- ---- trees
module _ {L : Type 0} (R : ValueType → ValueType → Type 0) (t s : ValueType → TypeTree L) (same : (v w : ValueType) → R v w → t w ≡ s v) where
  option_same : (v w : Option ValueType) → GoTogether R v w → option_tree t w ≡ option_tree s v
  option_same None None h = refl
  option_same None (Some w) h = absurd h
  option_same (Some v) None h = absurd h
  option_same (Some v) (Some w) h = same v w h

  parts_same : (vs ws : List ValueType) → AllZip R vs ws → map t ws ≡ map s vs
  parts_same [] [] h = refl
  parts_same [] (w ∷ ws) h = absurd h
  parts_same (v ∷ vs) [] h = absurd h
  parts_same (v ∷ vs) (w ∷ ws) h = let a = same v w h.0 in let b = parts_same vs ws h.1 in (λ i. a i ∷ b i)

  parts_long : (vs ws : List ValueType) → AllZip R vs ws → length ws ≡ length vs
  parts_long [] [] h = refl
  parts_long [] (w ∷ ws) h = absurd h
  parts_long (v ∷ vs) [] h = absurd h
  parts_long (v ∷ vs) (w ∷ ws) h = ap suc (parts_long vs ws h.1)

  fields_same : (es fs : List (Name × ValueType)) → FieldsGoTogether R es fs → map (λ e. t e.1) fs ≡ map (λ e. s e.1) es
  fields_same [] [] h = refl
  fields_same [] (f ∷ fs) h = absurd h
  fields_same (e ∷ es) [] h = absurd h
  fields_same (e ∷ es) (f ∷ fs) h = let a = same e.1 f.1 h.0.1 in let b = fields_same es fs h.1 in (λ i. a i ∷ b i)

  fields_named : (es fs : List (Name × ValueType)) → FieldsGoTogether R es fs → map (λ e. e.0) fs ≡ map (λ e. e.0) es
  fields_named [] [] h = refl
  fields_named [] (f ∷ fs) h = absurd h
  fields_named (e ∷ es) [] h = absurd h
  fields_named (e ∷ es) (f ∷ fs) h = let a = h.0.0 in let b = fields_named es fs h.1 in (λ i. a i ∷ b i)

  cases_same : (es fs : List (Name × Option ValueType)) → CasesGoTogether R es fs → map (λ e. option_tree t e.1) fs ≡ map (λ e. option_tree s e.1) es
  cases_same [] [] h = refl
  cases_same [] (f ∷ fs) h = absurd h
  cases_same (e ∷ es) [] h = absurd h
  cases_same (e ∷ es) (f ∷ fs) h = let a = option_same e.1 f.1 h.0.1 in let b = cases_same es fs h.1 in (λ i. a i ∷ b i)

  cases_named : (es fs : List (Name × Option ValueType)) → CasesGoTogether R es fs → map (λ e. e.0) fs ≡ map (λ e. e.0) es
  cases_named [] [] h = refl
  cases_named [] (f ∷ fs) h = absurd h
  cases_named (e ∷ es) [] h = absurd h
  cases_named (e ∷ es) (f ∷ fs) h = let a = h.0.0 in let b = cases_named es fs h.1 in (λ i. a i ∷ b i)

  by_both : (d e x y : DefinedType) → d ≡ x → e ≡ y → defined_tree t y ≡ defined_tree s x → defined_tree t e ≡ defined_tree s d
  by_both d e x y a b h = ap (defined_tree t) b ∙ h ∙ sym (ap (defined_tree s) a)

  -- definitions of one shape have one tree
  pub shape_same : (d e : DefinedType) → HaveOneShape R d e → defined_tree t e ≡ defined_tree s d
  shape_same d e (tuples vs ws a b h) = let n = parts_long vs ws h in let p = parts_same vs ws h in by_both d e _ _ a b (λ i. tuple_of (n i) (part_at (p i)))
  shape_same d e (lists v w a b h) = by_both d e _ _ a b (ap list_of (same v w h))
  shape_same d e (fixed_lists v w n a b h) = by_both d e _ _ a b (ap (fixed_list_of n) (same v w h))
  shape_same d e (options v w a b h) = by_both d e _ _ a b (ap option_of (same v w h))
  shape_same d e (results v w p q a b h g) = let x = option_same v w h in let y = option_same p q g in by_both d e _ _ a b (λ i. result_of (x i) (y i))
  shape_same d e (variants x y a b h) = let n = cases_named x.cases y.cases h in let p = cases_same x.cases y.cases h in by_both d e _ _ a b (λ i. variant_of (n i) (part_at (p i)))
  shape_same d e (records x y a b h) = let n = fields_named x.fields y.fields h in let p = fields_same x.fields y.fields h in by_both d e _ _ a b (λ i. record_of (n i) (part_at (p i)))
  shape_same d e (flags x y a b h) = by_both d e _ _ a b (ap flags_of h)
  shape_same d e (enums x y a b h) = by_both d e _ _ a b (ap enum_of h)
  shape_same d e (aliases v w a b h) = by_both d e _ _ a b (same v w h)
  shape_same d e (streams v w a b h) = by_both d e _ _ a b (ap stream_of (option_same v w h))
  shape_same d e (futures v w a b h) = by_both d e _ _ a b (ap future_of (option_same v w h))

  pub func_same : (x y : FuncType) → FieldsGoTogether R x.params y.params → GoTogether R x.result y.result → y.is_async ≡ x.is_async → func_tree t y ≡ func_tree s x
  func_same x y h g e =
      let n = fields_named x.params y.params h in
      let p = fields_same x.params y.params h in
      let r = option_same x.result y.result g in
      (λ i. function (e i) (n i) (part_at (p i)) (r i))

-- ---- what is mentioned
module _ (R : ValueType → ValueType → Type 0) (P : ValueType → Type 0) (each : (v w : ValueType) → R v w → P w) where
  maybe_all : (v w : Option ValueType) (vs : List ValueType) → GoTogether R v w → AllByRecursion P vs → AllByRecursion P (and_maybe w vs)
  maybe_all None None vs h g = g
  maybe_all None (Some w) vs h g = absurd h
  maybe_all (Some v) None vs h g = absurd h
  maybe_all (Some v) (Some w) vs h g = (each v w h, g)

  parts_all : (vs ws : List ValueType) → AllZip R vs ws → AllByRecursion P ws
  parts_all [] [] h = tt
  parts_all [] (w ∷ ws) h = absurd h
  parts_all (v ∷ vs) [] h = absurd h
  parts_all (v ∷ vs) (w ∷ ws) h = (each v w h.0, parts_all vs ws h.1)

  fields_all : (es fs : List (Name × ValueType)) → FieldsGoTogether R es fs → AllByRecursion P (seconds fs)
  fields_all [] [] h = tt
  fields_all [] (f ∷ fs) h = absurd h
  fields_all (e ∷ es) [] h = absurd h
  fields_all (e ∷ es) (f ∷ fs) h = (each e.1 f.1 h.0.1, fields_all es fs h.1)

  cases_all : (es fs : List (Name × Option ValueType)) → CasesGoTogether R es fs → AllByRecursion P (case_values fs)
  cases_all [] [] h = tt
  cases_all [] (f ∷ fs) h = absurd h
  cases_all (e ∷ es) [] h = absurd h
  cases_all (e ∷ es) (f ∷ fs) h = maybe_all e.1 f.1 (case_values fs) h.0.1 (cases_all es fs h.1)

  of_both : (e y : DefinedType) → e ≡ y → AllByRecursion P (defined_values y) → AllByRecursion P (defined_values e)
  of_both e y b h = subst (λ x. AllByRecursion P (defined_values x)) (sym b) h

  -- each value that the second of two definitions of one shape mentions goes with one of the first
  pub shape_all : (d e : DefinedType) → HaveOneShape R d e → AllByRecursion P (defined_values e)
  shape_all d e (tuples vs ws a b h) = of_both e _ b (parts_all vs ws h)
  shape_all d e (lists v w a b h) = of_both e _ b (each v w h, tt)
  shape_all d e (fixed_lists v w n a b h) = of_both e _ b (each v w h, tt)
  shape_all d e (options v w a b h) = of_both e _ b (each v w h, tt)
  shape_all d e (results v w p q a b h g) = of_both e _ b (maybe_all v w (and_maybe q []) h (maybe_all p q [] g tt))
  shape_all d e (variants x y a b h) = of_both e _ b (cases_all x.cases y.cases h)
  shape_all d e (records x y a b h) = of_both e _ b (fields_all x.fields y.fields h)
  shape_all d e (flags x y a b h) = of_both e _ b tt
  shape_all d e (enums x y a b h) = of_both e _ b tt
  shape_all d e (aliases v w a b h) = of_both e _ b (each v w h, tt)
  shape_all d e (streams v w a b h) = of_both e _ b (maybe_all v w [] h tt)
  shape_all d e (futures v w a b h) = of_both e _ b (maybe_all v w [] h tt)

  pub func_all : (x y : FuncType) → FieldsGoTogether R x.params y.params → GoTogether R x.result y.result → AllByRecursion P (func_values y)
  func_all x y h g = maybe_all x.result y.result (seconds y.params) g (fields_all x.params y.params h)

-- ---- what goes together still does
module _ (R S : ValueType → ValueType → Type 0) (more : (v w : ValueType) → R v w → S v w) where
  pub option_more : (v w : Option ValueType) → GoTogether R v w → GoTogether S v w
  option_more None None h = tt
  option_more None (Some w) h = h
  option_more (Some v) None h = h
  option_more (Some v) (Some w) h = more v w h

  pub fields_more : (es fs : List (Name × ValueType)) → FieldsGoTogether R es fs → FieldsGoTogether S es fs
  fields_more es fs h = zip_all _ _ (λ e f (k : (f.0 ≡ e.0) × R e.1 f.1). (k.0, more e.1 f.1 k.1)) es fs h

  cases_more : (es fs : List (Name × Option ValueType)) → CasesGoTogether R es fs → CasesGoTogether S es fs
  cases_more es fs h = zip_all _ _ (λ e f (k : (f.0 ≡ e.0) × GoTogether R e.1 f.1). (k.0, option_more e.1 f.1 k.1)) es fs h

  pub shape_more : (d e : DefinedType) → HaveOneShape R d e → HaveOneShape S d e
  shape_more d e (tuples vs ws a b h) = tuples vs ws a b (zip_all R S more vs ws h)
  shape_more d e (lists v w a b h) = lists v w a b (more v w h)
  shape_more d e (fixed_lists v w n a b h) = fixed_lists v w n a b (more v w h)
  shape_more d e (options v w a b h) = options v w a b (more v w h)
  shape_more d e (results v w p q a b h g) = results v w p q a b (option_more v w h) (option_more p q g)
  shape_more d e (variants x y a b h) = variants x y a b (cases_more x.cases y.cases h)
  shape_more d e (records x y a b h) = records x y a b (fields_more x.fields y.fields h)
  shape_more d e (flags x y a b h) = flags x y a b h
  shape_more d e (enums x y a b h) = enums x y a b h
  shape_more d e (aliases v w a b h) = aliases v w a b (more v w h)
  shape_more d e (streams v w a b h) = streams v w a b (option_more v w h)
  shape_more d e (futures v w a b h) = futures v w a b (option_more v w h)

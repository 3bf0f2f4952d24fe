-- Nodes of shapes whose parts have numbers.
use Rattle.std.proofs.Common.{◌≡◌, ℕ, suc, Bool, ◌<◌, List, [], ◌∷◌, length, map, Option, Some, None, refl, ap, sym, subst}
use Rattle.std.specs.Borrow.{Bor}
use Rattle.std.specs.List.{AllByRecursion}
use Rattle.wac_types_shapes.specs.primitives.Name.{Name}
use Rattle.wac_types_shapes.specs.primitives.Tree.{TypeTree, record_of, variant_of, list_of, fixed_list_of, tuple_of, flags_of, enum_of, option_of, result_of, stream_of, future_of, function}
use Rattle.wac_types_collection.specs.subtyping.Called.{Called}
use Rattle.wac_types_collection.specs.collection.Held.{part_at, option_tree, defined_tree}
use Rattle.wac_types_shapes.specs.declared.shapes.component.DefinedType.{DefinedType}
use Rattle.wac_merge_tables.specs.declared.tables.nodes.Node.{Node as ANode}
use Rattle.wac_types_shapes.specs.declared.shapes.component.ValueType.{ValueType}
use Rattle.wac_merge_tables.specs.private.tables.Nodes.{Node, of_record, of_variant, of_list, of_fixed_list, of_tuple, of_flags, of_enum, of_option, of_result, of_stream, of_future, of_function, and_optional, optionals, seconds, optional_tree, tree_at}
use Rattle.wac_merge_tables.specs.private.tables.NodeViews.{named, node_view}
use Rattle.wac_merge_trees.specs.private.coding.Coding.{HasTree, HasOption, AreParts, AreFields, AreCases, Fits}

module _ (t : ValueType → TypeTree Called) (ns : List Node) where
  abbrev Low : List ℕ → Type 0
  Low is = AllByRecursion (λ m. m < length ns) is

  option_is : (v : Option ValueType) (i : Option ℕ) → HasOption ns t v i → optional_tree (tree_at ns) i ≡ option_tree t v
  option_is None None h = refl
  option_is None (Some i) h = absurd h
  option_is (Some v) None h = absurd h
  option_is (Some v) (Some i) h = h.is

  option_low : (v : Option ValueType) (i : Option ℕ) (rest : List ℕ) → HasOption ns t v i → Low rest → Low (and_optional i rest)
  option_low None None rest h l = l
  option_low None (Some i) rest h l = absurd h
  option_low (Some v) None rest h l = absurd h
  option_low (Some v) (Some i) rest h l = (h.there, l)

  parts_are : (vs : List ValueType) (is : List ℕ) → AreParts ns t vs is → map (tree_at ns) is ≡ map t vs
  parts_are [] [] h = refl
  parts_are [] (i ∷ is) h = absurd h
  parts_are (v ∷ vs) [] h = absurd h
  parts_are (v ∷ vs) (i ∷ is) h = let a = h.0.is in let b = parts_are vs is h.1 in (λ j. a j ∷ b j)

  parts_long : (vs : List ValueType) (is : List ℕ) → AreParts ns t vs is → length is ≡ length vs
  parts_long [] [] h = refl
  parts_long [] (i ∷ is) h = absurd h
  parts_long (v ∷ vs) [] h = absurd h
  parts_long (v ∷ vs) (i ∷ is) h = ap suc (parts_long vs is h.1)

  parts_low : (vs : List ValueType) (is : List ℕ) → AreParts ns t vs is → Low is
  parts_low [] [] h = tt
  parts_low [] (i ∷ is) h = absurd h
  parts_low (v ∷ vs) [] h = absurd h
  parts_low (v ∷ vs) (i ∷ is) h = (h.0.there, parts_low vs is h.1)

  fields_are : (fs : List (Name × ValueType)) (es : List (Bor (List ℕ) × ℕ)) → AreFields ns t fs es → map (λ e. tree_at ns e.1) (named es) ≡ map (λ f. t f.1) fs
  fields_are [] [] h = refl
  fields_are [] (e ∷ es) h = absurd h
  fields_are (f ∷ fs) [] h = absurd h
  fields_are (f ∷ fs) (e ∷ es) h = let a = h.0.1.is in let b = fields_are fs es h.1 in (λ j. a j ∷ b j)

  fields_named : (fs : List (Name × ValueType)) (es : List (Bor (List ℕ) × ℕ)) → AreFields ns t fs es → map (λ e. e.0) (named es) ≡ map (λ f. f.0) fs
  fields_named [] [] h = refl
  fields_named [] (e ∷ es) h = absurd h
  fields_named (f ∷ fs) [] h = absurd h
  fields_named (f ∷ fs) (e ∷ es) h = let a = h.0.0 in let b = fields_named fs es h.1 in (λ j. a j ∷ b j)

  fields_low : (fs : List (Name × ValueType)) (es : List (Bor (List ℕ) × ℕ)) → AreFields ns t fs es → Low (seconds (named es))
  fields_low [] [] h = tt
  fields_low [] (e ∷ es) h = absurd h
  fields_low (f ∷ fs) [] h = absurd h
  fields_low (f ∷ fs) (e ∷ es) h = (h.0.1.there, fields_low fs es h.1)

  cases_are : (fs : List (Name × Option ValueType)) (es : List (Bor (List ℕ) × Option ℕ)) → AreCases ns t fs es → map (λ e. optional_tree (tree_at ns) e.1) (named es) ≡ map (λ f. option_tree t f.1) fs
  cases_are [] [] h = refl
  cases_are [] (e ∷ es) h = absurd h
  cases_are (f ∷ fs) [] h = absurd h
  cases_are (f ∷ fs) (e ∷ es) h = let a = option_is f.1 e.1 h.0.1 in let b = cases_are fs es h.1 in (λ j. a j ∷ b j)

  cases_named : (fs : List (Name × Option ValueType)) (es : List (Bor (List ℕ) × Option ℕ)) → AreCases ns t fs es → map (λ e. e.0) (named es) ≡ map (λ f. f.0) fs
  cases_named [] [] h = refl
  cases_named [] (e ∷ es) h = absurd h
  cases_named (f ∷ fs) [] h = absurd h
  cases_named (f ∷ fs) (e ∷ es) h = let a = h.0.0 in let b = cases_named fs es h.1 in (λ j. a j ∷ b j)

  cases_low : (fs : List (Name × Option ValueType)) (es : List (Bor (List ℕ) × Option ℕ)) → AreCases ns t fs es → Low (optionals (named es))
  cases_low [] [] h = tt
  cases_low [] (e ∷ es) h = absurd h
  cases_low (f ∷ fs) [] h = absurd h
  cases_low (f ∷ fs) (e ∷ es) h = option_low f.1 e.1 (optionals (named es)) h.0.1 (cases_low fs es h.1)

  pub fits_tuple : (vs : List ValueType) (is : List ℕ) → AreParts ns t vs is → Fits ns (tuple_of (length vs) (part_at (map t vs))) (of_tuple is)
  fits_tuple vs is h = let a = parts_long vs is h in let b = parts_are vs is h in record { lower = parts_low vs is h; sorted = tt; is = λ j. tuple_of (a j) (part_at (b j)) }

  pub fits_list : (v : ValueType) (i : ℕ) → HasTree ns (t v) i → Fits ns (list_of (t v)) (of_list i)
  fits_list v i h = record { lower = (h.there, tt); sorted = tt; is = ap list_of h.is }

  pub fits_fixed : (v : ValueType) (k i : ℕ) → HasTree ns (t v) i → Fits ns (fixed_list_of k (t v)) (of_fixed_list k i)
  fits_fixed v k i h = record { lower = (h.there, tt); sorted = tt; is = ap (fixed_list_of k) h.is }

  pub fits_option : (v : ValueType) (i : ℕ) → HasTree ns (t v) i → Fits ns (option_of (t v)) (of_option i)
  fits_option v i h = record { lower = (h.there, tt); sorted = tt; is = ap option_of h.is }

  pub fits_result : (v w : Option ValueType) (i j : Option ℕ) → HasOption ns t v i → HasOption ns t w j → Fits ns (result_of (option_tree t v) (option_tree t w)) (of_result i j)
  fits_result v w i j h g =
      let a = option_is v i h in let b = option_is w j g in
      record { lower = option_low v i (and_optional j []) h (option_low w j [] g tt); sorted = tt; is = λ k. result_of (a k) (b k) }

  pub fits_stream : (v : Option ValueType) (i : Option ℕ) → HasOption ns t v i → Fits ns (stream_of (option_tree t v)) (of_stream i)
  fits_stream v i h = record { lower = option_low v i [] h tt; sorted = tt; is = ap stream_of (option_is v i h) }

  pub fits_future : (v : Option ValueType) (i : Option ℕ) → HasOption ns t v i → Fits ns (future_of (option_tree t v)) (of_future i)
  fits_future v i h = record { lower = option_low v i [] h tt; sorted = tt; is = ap future_of (option_is v i h) }

  pub fits_record : (fs : List (Name × ValueType)) (es : List (Bor (List ℕ) × ℕ)) → AreFields ns t fs es → Fits ns (record_of (map (λ f. f.0) fs) (part_at (map (λ f. t f.1) fs))) (of_record (named es))
  fits_record fs es h =
      let a = fields_named fs es h in let b = fields_are fs es h in
      record { lower = fields_low fs es h; sorted = tt; is = λ j. record_of (a j) (part_at (b j)) }

  pub fits_variant : (fs : List (Name × Option ValueType)) (es : List (Bor (List ℕ) × Option ℕ)) → AreCases ns t fs es → Fits ns (variant_of (map (λ f. f.0) fs) (part_at (map (λ f. option_tree t f.1) fs))) (of_variant (named es))
  fits_variant fs es h =
      let a = cases_named fs es h in let b = cases_are fs es h in
      record { lower = cases_low fs es h; sorted = tt; is = λ j. variant_of (a j) (part_at (b j)) }

  pub fits_flags : (names labels : List Name) → names ≡ labels → Fits ns (flags_of labels) (of_flags names)
  fits_flags names labels e = record { lower = tt; sorted = tt; is = ap flags_of e }

  pub fits_enum : (names labels : List Name) → names ≡ labels → Fits ns (enum_of labels) (of_enum names)
  fits_enum names labels e = record { lower = tt; sorted = tt; is = ap enum_of e }

  pub fits_function : (b : Bool) (fs : List (Name × ValueType)) (es : List (Bor (List ℕ) × ℕ)) (v : Option ValueType) (i : Option ℕ) → AreFields ns t fs es → HasOption ns t v i
      → Fits ns (function b (map (λ f. f.0) fs) (part_at (map (λ f. t f.1) fs)) (option_tree t v)) (of_function b (named es) i)
  fits_function b fs es v i h g =
      let n = fields_named fs es h in let p = fields_are fs es h in let r = option_is v i g in
      record { lower = option_low v i (seconds (named es)) g (fields_low fs es h); sorted = tt; is = λ j. function b (n j) (part_at (p j)) (r j) }

-- what a definition comes to, by what both are
pub fits_by : (t : ValueType → TypeTree Called) (ms ns : List Node) (d e : DefinedType) (x y : ANode) → ms ≡ ns → d ≡ e → x ≡ y → Fits ns (defined_tree t e) (node_view y) → Fits ms (defined_tree t d) (node_view x)
fits_by t ms ns d e x y a b c h =
    subst (λ (l : List Node). Fits l (defined_tree t d) (node_view x)) (sym a)
    (subst (λ f. Fits ns (defined_tree t f) (node_view x)) (sym b)
    (subst (λ n. Fits ns (defined_tree t e) (node_view n)) (sym c) h))

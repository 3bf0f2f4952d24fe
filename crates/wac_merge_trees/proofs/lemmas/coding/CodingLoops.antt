-- Numbers of parts, as far as a loop has come.
use Rattle.std.proofs.Common.{◌≡◌, ℕ, ◌+◌, ◌<◌, List, [], ◌∷◌, ◌++◌, length, take, get_or, Option, Some, sym, subst, add-one}
use Rattle.std.specs.Prelude.{slice_get}
use Rattle.std.specs.Borrow.{Bor}
use Rattle.std.specs.Option.{option_map}
use Rattle.wac_types_shapes.specs.primitives.Name.{Name}
use Rattle.wac_types_shapes.specs.primitives.Tree.{TypeTree}
use Rattle.wac_types_collection.specs.subtyping.Called.{Called}
use Rattle.wac_types_shapes.specs.declared.shapes.component.ValueType.{ValueType}
use Rattle.wac_types_shapes.proofs.lemmas.shapes.Loops.{take_more}
use Rattle.wac_merge_tables.specs.private.tables.Nodes.{Node}
use Rattle.wac_merge_trees.specs.private.coding.Coding.{IsGrown, HasTree, HasOption, AreParts, AreFields, AreCases}
use Rattle.wac_merge_trees.proofs.lemmas.coding.CodingGrowth.{parts_grown, fields_grown, cases_grown}
use Rattle.wac_merge_classes.proofs.lemmas.entries.Lists.{zip_push}
use Rattle.wac_merge_tables.proofs.lemmas.tables.TaskOpenings.{values_take}

take_next : {V : Type 0} (es : List (Name × V)) (i : ℕ) (n : Name) (v : V) → option_map (λ e. e.0) (slice_get es i) ≡ Some n → option_map (λ e. e.1) (slice_get es i) ≡ Some v → take (i + 1) es ≡ take i es ++ (n, v) ∷ []
take_next es i n v a b = rw add-one (take_more es i n v a b)

module _ (t : ValueType → TypeTree Called) (old new : List Node) (g : IsGrown old new) where
  pub parts_more : (vs : List ValueType) (i : ℕ) (d : ValueType) (is js : List ℕ) (k : ℕ) → i < length vs → js ≡ is ++ k ∷ [] → AreParts old t (take i vs) is → HasTree new (t (get_or vs i d)) k → AreParts new t (take (i + 1) vs) js
  parts_more vs i d is js k low more h next =
      subst (λ ws. AreParts new t ws js) (sym (values_take vs i d low))
      (subst (λ ks. AreParts new t (take i vs ++ get_or vs i d ∷ []) ks) (sym more)
      (zip_push (λ v n. HasTree new (t v) n) (take i vs) is (get_or vs i d) k (parts_grown t old new g (take i vs) is h) next))

  pub fields_more : (fs : List (Name × ValueType)) (i : ℕ) (n : Name) (v : ValueType) (es more : List (Bor (List ℕ) × ℕ)) (s : Bor (List ℕ)) (k : ℕ)
      → option_map (λ e. e.0) (slice_get fs i) ≡ Some n → option_map (λ e. e.1) (slice_get fs i) ≡ Some v → more ≡ es ++ (s, k) ∷ [] → s.now ≡ n → AreFields old t (take i fs) es → HasTree new (t v) k
      → AreFields new t (take (i + 1) fs) more
  fields_more fs i n v es more s k named valued is text h next =
      subst (λ ws. AreFields new t ws more) (sym (take_next fs i n v named valued))
      (subst (λ ks. AreFields new t (take i fs ++ (n, v) ∷ []) ks) (sym is)
      (zip_push (λ f e. (e.0.now ≡ f.0) × HasTree new (t f.1) e.1) (take i fs) es (n, v) (s, k) (fields_grown t old new g (take i fs) es h) (text, next)))

  pub cases_more : (fs : List (Name × Option ValueType)) (i : ℕ) (n : Name) (v : Option ValueType) (es more : List (Bor (List ℕ) × Option ℕ)) (s : Bor (List ℕ)) (k : Option ℕ)
      → option_map (λ e. e.0) (slice_get fs i) ≡ Some n → option_map (λ e. e.1) (slice_get fs i) ≡ Some v → more ≡ es ++ (s, k) ∷ [] → s.now ≡ n → AreCases old t (take i fs) es → HasOption new t v k
      → AreCases new t (take (i + 1) fs) more
  cases_more fs i n v es more s k named valued is text h next =
      subst (λ ws. AreCases new t ws more) (sym (take_next fs i n v named valued))
      (subst (λ ks. AreCases new t (take i fs ++ (n, v) ∷ []) ks) (sym is)
      (zip_push (λ f e. (e.0.now ≡ f.0) × HasOption new t f.1 e.1) (take i fs) es (n, v) (s, k) (cases_grown t old new g (take i fs) es h) (text, next)))

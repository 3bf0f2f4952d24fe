-- Steps in order: one more, and one that is refused.
use Rattle.std.proofs.Common.{◌≡◌, ℕ, zero, suc, ◌+◌, ◌≤◌, List, [], ◌∷◌, length, drop, slice_get, refl, ap, sym, subst, Some, Result, Ok, Err, inl, inr, arith}
use Rattle.std.specs.Prelude.{IsErrAnd}
use Rattle.std.proofs.lemmas.List.{drop_all}
use Rattle.std.specs.Option.{option_map}
use Rattle.wac_types_shapes.specs.primitives.Name.{Name}
use Rattle.wac_types_shapes.specs.shapes.Named.{names_of}
use Rattle.wac_types_shapes.proofs.lemmas.shapes.Loops.{drop_at}
use Rattle.wac_graph_model.specs.nodes.Graph.{Graph}
use Rattle.wac_graph.specs.declared.plugs.errors.PlugError.{PlugError}
use Rattle.wac_graph.specs.plugs.Plugging.{Answer, InOrder}

module _ {A : Type 0} (Step : Graph → A → Answer → Graph → Type 0) (xs : List A) (i : ℕ) (x : A) (now : Graph) (at : slice_get xs i ≡ Some x) where
  -- a step was made
  pub one-more : (mid : Graph) → Step now x (Ok tt) mid → (answer : Answer) (new : Graph) → InOrder Step mid (drop (i + 1) xs) answer new → InOrder Step now (drop i xs) answer new
  one-more mid step answer new rest =
      let place : i + 1 ≡ suc i = omega arith in
      subst (λ l. InOrder Step now l answer new) (sym (drop_at xs i x at)) (inr (mid, step, subst (λ k. InOrder Step mid (drop k xs) answer new) place rest))

  -- a step was refused
  pub refused-at : (e : PlugError) (new : Graph) → Step now x (Err e) new → InOrder Step now (drop i xs) (Err e) new
  refused-at e new step = subst (λ l. InOrder Step now l (Err e) new) (sym (drop_at xs i x at)) (inl (refl, step))

-- all steps were made
pub all-made : {A : Type 0} (Step : Graph → A → Answer → Graph → Type 0) (xs : List A) (i : ℕ) (now : Graph) → length xs ≤ i → InOrder Step now (drop i xs) (Ok tt) now
all-made Step xs i now h = subst (λ l. InOrder Step now l (Ok tt) now) (sym (drop_all i xs h)) (refl, refl)

-- what the exit of a `?` answers
pub exit-is : {A E : Type 0} (r : Result A E) (e : E) → IsErrAnd r (λ y. y ≡ e) → r ≡ Err e
exit-is (Ok a) e h = absurd h
exit-is (Err y) e h = ap Err h

-- the name at a position of a list under names
pub name-at : {V : Type 0} (es : List (Name × V)) (i : ℕ) (n : Name) → option_map (λ e. e.0) (slice_get es i) ≡ Some n → slice_get (names_of es) i ≡ Some n
name-at [] i n h = cc
name-at (e ∷ es) zero n h = h
name-at (e ∷ es) (suc i) n h = name-at es i n h

-- The first name that occurs twice.
use Rattle.std.proofs.Common.{◌≡◌, ◌<◌, ◌≤◌, ℕ, zero, suc, List, [], ◌∷◌, ◌++◌, map, take, length, Some, IsSome, get_or, slice_get, refl, ap, sym, ◌∙◌, subst, inl, inr}
use Rattle.std.specs.Borrow.{Bor}
use Rattle.std.proofs.lemmas.Option.{slice_get-get_or}
use Rattle.wac_types_shapes.specs.primitives.Name.{Name, find_name}
use Rattle.wac_types_shapes.specs.shapes.Named.{NoNameTwice, labelled, named_pairs, names_of}
use Rattle.wac_types_shapes.proofs.lemmas.shapes.AsGiven.{given_all}
use Rattle.wac_graph.specs.declared.errors.Error.{Error}
use Rattle.wac_graph.specs.declared.errors.Error.TheVariants as error
use Rattle.wac_graph.specs.Building.{IsFirstTwice}
use Rattle.wac_graph.specs.private.Twice.{IsNameError, IsRefusedAfter, IsSideError, IsThatName}

-- The names of pairs.
pub pairs_names : {V : Type 0} (es : List (Bor (List ℕ) × V)) → map (λ e. e.0.now) es ≡ names_of (named_pairs es)
pairs_names [] = refl
pairs_names (e ∷ es) = ap (λ l. e.0.now ∷ l) (pairs_names es)

module _ {A : Type 0} (f : A → Name) where
  labels : (xs : List A) → map (λ x. (f x, tt)) xs ≡ labelled (map f xs)
  labels [] = refl
  labels (x ∷ xs) = ap (λ l. (f x, tt) ∷ l) (labels xs)

  cut : (xs : List A) (i : ℕ) (x : A) → slice_get xs i ≡ Some x → (after : List Name) × (map f xs ≡ map f (take i xs) ++ f x ∷ after)
  cut [] i x h = absurd (cc)
  cut (y ∷ ys) zero x h = let same : y ≡ x = cc in (map f ys, ap (λ z. f z ∷ map f ys) same)
  cut (y ∷ ys) (suc i) x h = let (after, place) = cut ys i x h in (after, ap (λ l. f y ∷ l) place)

  pub first_twice : (xs : List A) (i : ℕ) (d : A) (found : List (Name × Unit {0})) → i < length xs → found ≡ map (λ x. (f x, tt)) (take i xs) → NoNameTwice found → IsSome (find_name found (f (get_or xs i d)))
      → IsFirstTwice (map f xs) (f (get_or xs i d))
  first_twice xs i d found low so_far distinct again =
      let (after, place) = cut xs i (get_or xs i d) (slice_get-get_or xs i d low) in
      let same : found ≡ labelled (map f (take i xs)) = so_far ∙ labels (take i xs) in
      record {
        before = map f (take i xs);
        after = after;
        place = place;
        distinct = subst (λ (es : List (Name × Unit {0})). NoNameTwice es) same distinct;
        again = subst (λ (es : List (Name × Unit {0})). IsSome (find_name es (f (get_or xs i d)))) same again;
      }

  pub refused : (xs : List A) (names : List Name) (i : ℕ) (d : A) (found : List (Name × Unit {0})) (e : Error) → map f xs ≡ names → i < length xs → found ≡ map (λ x. (f x, tt)) (take i xs)
      → IsRefusedAfter found (f (get_or xs i d)) e → IsNameError names e
  refused xs names i d found (error.NameTwice text) all low so_far h =
      subst (λ (n : Name). IsFirstTwice names n) (sym h.0) (subst (λ (ns : List Name). IsFirstTwice ns (f (get_or xs i d))) all (first_twice xs i d found low so_far h.1 h.2))
  refused xs names i d found (error.Shape x) all low so_far h = absurd h
  refused xs names i d found (error.AddType x) all low so_far h = absurd h
  refused xs names i d found (error.RegisterPackage x) all low so_far h = absurd h
  refused xs names i d found (error.Import x) all low so_far h = absurd h
  refused xs names i d found (error.DefineType x) all low so_far h = absurd h
  refused xs names i d found (error.Alias x) all low so_far h = absurd h
  refused xs names i d found (error.Export x) all low so_far h = absurd h
  refused xs names i d found (error.Unexport x) all low so_far h = absurd h
  refused xs names i d found (error.Argument x) all low so_far h = absurd h
  refused xs names i d found (error.Plug x) all low so_far h = absurd h
  refused xs names i d found (error.Encode x) all low so_far h = absurd h
  refused xs names i d found error.OutOfMemory all low so_far h = tt

  pub passed : (xs : List A) (names : List Name) (i : ℕ) (found : List (Name × Unit {0})) → map f xs ≡ names → length xs ≤ i → found ≡ map (λ x. (f x, tt)) (take i xs) → NoNameTwice found → NoNameTwice (labelled names)
  passed xs names i found all done so_far distinct =
      subst (λ (es : List (Name × Unit {0})). NoNameTwice es) (given_all (λ x. (f x, tt)) xs i found done so_far ∙ labels xs ∙ ap (λ (ns : List Name). labelled ns) all) distinct

-- The error of a name that is among those found.
pub that_name : (found : List (Name × Unit {0})) (name : Name) (e : Error) → NoNameTwice found → IsSome (find_name found name) → IsThatName name e → IsRefusedAfter found name e
that_name found name (error.NameTwice text) distinct again h = (h, distinct, again)
that_name found name (error.Shape x) distinct again h = absurd h
that_name found name (error.AddType x) distinct again h = absurd h
that_name found name (error.RegisterPackage x) distinct again h = absurd h
that_name found name (error.Import x) distinct again h = absurd h
that_name found name (error.DefineType x) distinct again h = absurd h
that_name found name (error.Alias x) distinct again h = absurd h
that_name found name (error.Export x) distinct again h = absurd h
that_name found name (error.Unexport x) distinct again h = absurd h
that_name found name (error.Argument x) distinct again h = absurd h
that_name found name (error.Plug x) distinct again h = absurd h
that_name found name (error.Encode x) distinct again h = absurd h
that_name found name error.OutOfMemory distinct again h = tt

-- The error of one side of a world is one of the world.
pub of_imports : (imports exports : List Name) (e : Error) → IsNameError imports e → IsSideError imports exports e
of_imports imports exports (error.NameTwice text) h = inl h
of_imports imports exports (error.Shape x) h = absurd h
of_imports imports exports (error.AddType x) h = absurd h
of_imports imports exports (error.RegisterPackage x) h = absurd h
of_imports imports exports (error.Import x) h = absurd h
of_imports imports exports (error.DefineType x) h = absurd h
of_imports imports exports (error.Alias x) h = absurd h
of_imports imports exports (error.Export x) h = absurd h
of_imports imports exports (error.Unexport x) h = absurd h
of_imports imports exports (error.Argument x) h = absurd h
of_imports imports exports (error.Plug x) h = absurd h
of_imports imports exports (error.Encode x) h = absurd h
of_imports imports exports error.OutOfMemory h = tt

pub of_exports : (imports exports : List Name) (e : Error) → NoNameTwice (labelled imports) → IsNameError exports e → IsSideError imports exports e
of_exports imports exports (error.NameTwice text) distinct h = inr (distinct, h)
of_exports imports exports (error.Shape x) distinct h = absurd h
of_exports imports exports (error.AddType x) distinct h = absurd h
of_exports imports exports (error.RegisterPackage x) distinct h = absurd h
of_exports imports exports (error.Import x) distinct h = absurd h
of_exports imports exports (error.DefineType x) distinct h = absurd h
of_exports imports exports (error.Alias x) distinct h = absurd h
of_exports imports exports (error.Export x) distinct h = absurd h
of_exports imports exports (error.Unexport x) distinct h = absurd h
of_exports imports exports (error.Argument x) distinct h = absurd h
of_exports imports exports (error.Plug x) distinct h = absurd h
of_exports imports exports (error.Encode x) distinct h = absurd h
of_exports imports exports error.OutOfMemory distinct h = tt

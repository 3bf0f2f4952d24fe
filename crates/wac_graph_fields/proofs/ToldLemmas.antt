-- What nodes tell of their exports.
use Rattle.std.proofs.Common.{◌≡◌, ℕ, zero, suc, Bool, true, false, ◌||◌, List, [], ◌∷◌, ◌++◌, refl, ap, ◌∙◌, ◌⊎◌, inl, inr, Option, Some, None, IsSome}
use Rattle.std.specs.Prelude.{slice_get}
use Rattle.wac_types_shapes.specs.primitives.Name.{Name}
use Rattle.wac_types_shapes.proofs.lemmas.shapes.Names.{same_name-refl}
use Rattle.wac_graph_model.specs.nodes.Graph.{GraphNode}
use Rattle.wac_graph_fields.specs.private.Told.{is_name, tells}

-- a node that tells is there
pub tells_there : (b : Bool) (o : Option GraphNode) (name : Name) → tells b o name ≡ true → IsSome o
tells_there b None name h = cc
tells_there b (Some n) name h = refl

or_yes : (b c : Bool) → b ≡ true → (b || c) ≡ true
or_yes b c h = ap (λ x. x || c) h

yes_or : (b : Bool) → (b || true) ≡ true
yes_or true = refl
yes_or false = refl

-- it tells of the name that it keeps
pub keeps_name : (b : Bool) (n : GraphNode) (name : Name) → n.export_name ≡ Some name → tells b (Some n) name ≡ true
keeps_name b n name kept = ap (λ o. b || is_name o name) kept ∙ ap (λ x. b || x) (same_name-refl name) ∙ yes_or b

-- of what a node told it tells where it may have further names
pub tells_again : (b : Bool) (n : GraphNode) (name : Name) → b ≡ true → tells b (Some n) name ≡ true
tells_again b n name h = or_yes b (is_name n.export_name name) h

pub tells_more : (b c : Bool) (o : Option GraphNode) (name : Name) → (b ≡ true → c ≡ true) → tells b o name ≡ true → tells c o name ≡ true
tells_more b c None name more h = cc
tells_more true c (Some n) name more h = tells_again c n name (more refl)
tells_more false c (Some n) name more h = ap (λ x. c || x) h ∙ yes_or c

-- a node that keeps no name and has no further ones tells of none
pub tells_kept : (n : GraphNode) (name : Name) → tells false (Some n) name ≡ true → IsSome n.export_name
tells_kept n name h = split n.export_name h where
  split : (o : Option Name) → is_name o name ≡ true → IsSome o
  split None h = cc
  split (Some x) h = refl

-- an entry of a list with one more is of the list, or the one
pub listed_before : {X : Type 0} (xs : List X) (x : X) (i : ℕ) (y : X) → slice_get (xs ++ x ∷ []) i ≡ Some y → (slice_get xs i ≡ Some y) ⊎ (x ≡ y)
listed_before [] x zero y h = let same : x ≡ y = cc in inr same
listed_before [] x (suc i) y h = cc
listed_before (z ∷ xs) x zero y h = inl h
listed_before (z ∷ xs) x (suc i) y h = listed_before xs x i y h

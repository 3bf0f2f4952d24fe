-- All imports of a component type, additional ones included.
use Rattle.std.proofs.Common.{ℕ, ◌+◌, ◌≤◌, List, [], ◌∷◌, ◌++◌, length, take, drop, Some, IsSome, ◌≡◌, refl, ap, sym, ◌∙◌, flat_map, slice_get, append-nil, append_assoc, subst}
use Rattle.std.specs.Prelude.{Result, Ok, Err, IsErrAnd}
use Rattle.std.proofs.lemmas.List.{take_all, take-append-drop}
use Rattle.wac_types_shapes.specs.primitives.Name.{Name, find_name}
use Rattle.wac_types_shapes.specs.declared.shapes.component.InterfaceId.{InterfaceId}
use Rattle.wac_types_shapes.specs.declared.shapes.component.Interface.{Interface}
use Rattle.wac_types_shapes.specs.declared.shapes.component.ItemKind.{ItemKind}
use Rattle.wac_types_shapes.specs.declared.shapes.component.ItemKind.TheVariants as kind
use Rattle.wac_types_collection.specs.collection.Collection.{Collection, item_at}
use Rattle.wac_types_collection.proofs.lemmas.wide.Members.{flat_joined}
use Rattle.wac_types_shapes.specs.shapes.Named.{NoNameTwice}
use Rattle.wac_encode_faults.specs.Sides.{under_id}
use Rattle.wac_encode_faults.proofs.Taken.{taken_more}
use Rattle.wac_encode_faults.proofs.Twice.{once_first, twice_last, under_of, under_in}

module _ (c : Collection) (imports : List (Name × ItemKind)) where
  pub joined_first : (is : List InterfaceId) (all : List (Name × ItemKind)) → all ≡ imports → all ≡ imports ++ flat_map (under_id c) (take 0 is)
  joined_first is all e = e ∙ none is
    where
      none : (is : List InterfaceId) → imports ≡ imports ++ flat_map (under_id c) (take 0 is)
      none [] = sym (append-nil imports)
      none (i ∷ is) = sym (append-nil imports)

  module _ (is : List InterfaceId) (p : ℕ) where
    pub joined_next : (i : InterfaceId) (all now : List (Name × ItemKind)) → slice_get is p ≡ Some i → all ≡ imports ++ flat_map (under_id c) (take p is) → now ≡ all ++ under_id c i
        → now ≡ imports ++ flat_map (under_id c) (take (p + 1) is)
    joined_next i all now at was grown =
        let before = flat_map (under_id c) (take p is) in
        let more : before ++ under_id c i ≡ flat_map (under_id c) (take (p + 1) is) =
        ap (λ l. before ++ l) (sym (append-nil (under_id c i))) ∙ sym (flat_joined (under_id c) (take p is) (i ∷ [])) ∙ ap (flat_map (under_id c)) (sym (taken_more is p i at)) in
        grown ∙ ap (λ l. l ++ under_id c i) was ∙ append_assoc imports before (under_id c i) ∙ ap (λ l. imports ++ l) more

    pub joined_all : (all : List (Name × ItemKind)) → length is ≤ p → all ≡ imports ++ flat_map (under_id c) (take p is) → all ≡ imports ++ flat_map (under_id c) is
    joined_all all past e = e ∙ ap (λ l. imports ++ flat_map (under_id c) l) (take_all p is past)

    -- A name that is there twice so far is there twice in all.
    pub joined_twice : (i : InterfaceId) (all : List (Name × ItemKind)) → slice_get is p ≡ Some i → all ≡ imports ++ flat_map (under_id c) (take p is) → (NoNameTwice (all ++ under_id c i) → ⊥)
        → NoNameTwice (imports ++ flat_map (under_id c) is) → ⊥
    joined_twice i all at was twice once =
        let before = flat_map (under_id c) (take (p + 1) is) in
        let after = flat_map (under_id c) (drop (p + 1) is) in
        let parts : imports ++ flat_map (under_id c) is ≡ (imports ++ before) ++ after =
        ap (λ l. imports ++ flat_map (under_id c) l) (sym (take-append-drop (p + 1) is)) ∙ ap (λ l. imports ++ l) (flat_joined (under_id c) (take (p + 1) is) (drop (p + 1) is)) ∙ sym (append_assoc imports before after) in
        let first = once_first (imports ++ before) after (subst NoNameTwice parts once) in
        twice (subst NoNameTwice (sym (joined_next i all (all ++ under_id c i) at was refl)) first)

-- An interface whose id is among the names is there twice with it.
module _ (c : Collection) (i : InterfaceId) where
  pub under_twice : (it : Interface) (id : Name) (all : List (Name × ItemKind)) → item_at c.interfaces i.0 ≡ Some it → it.id ≡ Some id → IsSome (find_name all id) → NoNameTwice (all ++ under_id c i) → ⊥
  under_twice it id all at named there once =
      let is : under_id c i ≡ (id, kind.Instance i) ∷ [] = ap (under_in i) at ∙ ap (under_of i) named in
      twice_last all id (kind.Instance i) there (subst (λ l. NoNameTwice (all ++ l)) is once)

-- The error that a `?` hands on.
pub handed : {A E : Type 0} (r : Result A E) (e x : E) → IsErrAnd r (λ y. y ≡ e) → r ≡ Err x → e ≡ x
handed (Ok a) e x h is = absurd h
handed (Err y) e x h is = let same : y ≡ x = cc is in sym h ∙ same

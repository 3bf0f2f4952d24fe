-- Entries under the same names, with values of two types.
use Rattle.std.proofs.Common.{cond, ◌≡◌, sym, ap, ◌∙◌, subst, refl, List, [], ◌∷◌, ◌++◌, Some, None, inl, inr}
use Rattle.std.proofs.lemmas.Bool.{cases_Bool}
use Rattle.wac_types_shapes.specs.primitives.Name.{Name, same_name, find_name}
use Rattle.wac_types_shapes.specs.shapes.Named.{NoNameTwice, names_of}
use Rattle.wac_merge_unions.proofs.lemmas.uniting.UnionLists.{map_push}

module _ {V W : Type 0} where
  -- where nothing stands under a name in the one, nothing does in the other
  pub none_alike : (es : List (Name × V)) (fs : List (Name × W)) (n : Name) → names_of es ≡ names_of fs → find_name es n ≡ None → find_name fs n ≡ None
  none_alike [] [] n e h = refl
  none_alike [] (f ∷ fs) n e h = cc
  none_alike (x ∷ es) [] n e h = cc
  none_alike (x ∷ es) (f ∷ fs) n e h =
      let first : x.0 ≡ f.0 = cc in
      let rest : names_of es ≡ names_of fs = cc in
      elim (cases_Bool (same_name n x.0)) [
        | inl t ↦ let some : Some x.1 ≡ None = sym (ap (λ b. cond b (Some x.1) (find_name es n)) t) ∙ h in cc
        | inr g ↦
            let none = none_alike es fs n rest (sym (ap (λ b. cond b (Some x.1) (find_name es n)) g) ∙ h) in
            ap (λ b. cond b (Some f.1) (find_name fs n)) (sym (ap (same_name n) first) ∙ g) ∙ none
      ]

  -- where no name stands twice in the one, none does in the other
  pub once_alike : (es : List (Name × V)) (fs : List (Name × W)) → names_of es ≡ names_of fs → NoNameTwice es → NoNameTwice fs
  once_alike [] [] e h = tt
  once_alike [] (f ∷ fs) e h = cc
  once_alike (x ∷ es) [] e h = cc
  once_alike (x ∷ es) (f ∷ fs) e h =
      let first : x.0 ≡ f.0 = cc in
      let rest : names_of es ≡ names_of fs = cc in
      (subst (λ (n : Name). find_name fs n ≡ None) first (none_alike es fs x.0 rest h.0), once_alike es fs rest h.1)

  -- the same names still, with one entry more of the same name behind both
  pub push_alike : (es : List (Name × V)) (fs : List (Name × W)) (n : Name) (v : V) (w : W) → names_of es ≡ names_of fs → names_of (es ++ (n, v) ∷ []) ≡ names_of (fs ++ (n, w) ∷ [])
  push_alike es fs n v w e = map_push (λ x. x.0) es (n, v) ∙ ap (λ ns. ns ++ n ∷ []) e ∙ sym (map_push (λ x. x.0) fs (n, w))

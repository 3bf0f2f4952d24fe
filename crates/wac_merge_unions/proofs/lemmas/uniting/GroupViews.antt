-- What is grouped by name, as a map holds it.
use Rattle.std.proofs.Common.{◌≡◌, ℕ, suc, Bool, false, not, cond, ◌+◌, List, [], ◌∷◌, ◌++◌, Option, Some, None, slice_get, inl, inr, refl, sym, ap, ◌∙◌, subst, arith}
use Rattle.std.specs.Borrow.{Bor}
use Rattle.std.specs.List.{position_or_len}
use Rattle.std.specs.Map.{lookup, keys_of}
use Rattle.std.proofs.lemmas.Bool.{cases_Bool}
use Rattle.indexmap.specs.IndexMap.{insert_entry, set_value_at}
use Rattle.wac_types_shapes.specs.primitives.Name.{Name, same_name, find_name}
use Rattle.wac_types_shapes.specs.shapes.Named.{NoNameTwice}
use Rattle.wac_types_shapes.specs.declared.shapes.component.ItemKind.{ItemKind}
use Rattle.wac_types_shapes.proofs.lemmas.shapes.Names.{same_name-sym, none_behind}
use Rattle.wac_merge_unions.specs.declared.uniting.grouped.Listed.{Listed}
use Rattle.wac_merge_unions.specs.private.uniting.GroupViews.{listed_items, groups_of}
use Rattle.wac_merge_unions.specs.private.uniting.UnionSteps.{with_listed}
use Rattle.wac_merge_unions.proofs.lemmas.uniting.UnionLists.{get_map}

abbrev Entries : Type 0
Entries = List (Bor (List ℕ) × Listed)

-- what is listed, where something is
abbrev pub items_or : Option Listed → List (ℕ × ItemKind)
items_or None = []
items_or (Some v) = listed_items v

pub viewed_at : (es : Entries) (i : ℕ) (k : Bor (List ℕ)) (v : Listed) → slice_get es i ≡ Some (k, v) → slice_get (groups_of es) i ≡ Some (k.now, listed_items v)
viewed_at es i k v at = get_map (λ (e : Bor (List ℕ) × Listed). (e.0.now, listed_items e.1)) es i (k, v) at

-- one more behind what is under a name
module _ (E : Bor (List ℕ) → Bor (List ℕ) → Bool) (tells : (a b : Bor (List ℕ)) → E a b ≡ same_name a.now b.now) (k : Bor (List ℕ)) (w : Listed) where
  pub put_listed : (es : Entries) (l : ℕ × ItemKind) → listed_items w ≡ items_or (lookup (E k) es) ++ l ∷ [] → groups_of (insert_entry E es k w) ≡ with_listed (groups_of es) k.now l
  put_listed [] l is = ap (λ x. (k.now, x) ∷ []) is
  put_listed (e ∷ es) l is = elim (cases_Bool (E k e.0)) [
    | inl t ↦
        let items : listed_items w ≡ listed_items e.1 ++ l ∷ [] = is ∙ ap (λ b. items_or (cond b (Some e.1) (lookup (E k) es)) ++ l ∷ []) t in
        ap (λ b. groups_of (cond b ((e.0, w) ∷ es) (e ∷ insert_entry E es k w))) t
        ∙ ap (λ x. (e.0.now, x) ∷ groups_of es) items
        ∙ sym (ap (λ b. cond b ((e.0.now, listed_items e.1 ++ l ∷ []) ∷ groups_of es) ((e.0.now, listed_items e.1) ∷ with_listed (groups_of es) k.now l)) (sym (tells k e.0) ∙ t))
    | inr f ↦
        let items : listed_items w ≡ items_or (lookup (E k) es) ++ l ∷ [] = is ∙ ap (λ b. items_or (cond b (Some e.1) (lookup (E k) es)) ++ l ∷ []) f in
        ap (λ b. groups_of (cond b ((e.0, w) ∷ es) (e ∷ insert_entry E es k w))) f
        ∙ ap (λ r. (e.0.now, listed_items e.1) ∷ r) (put_listed es l items)
        ∙ sym (ap (λ b. cond b ((e.0.now, listed_items e.1 ++ l ∷ []) ∷ groups_of es) ((e.0.now, listed_items e.1) ∷ with_listed (groups_of es) k.now l)) (sym (tells k e.0) ∙ f))
  ]

  -- what is put under a name and then written there is what was put under it
  pub written_there : (es : Entries) (v : Listed) → set_value_at (insert_entry E es k v) (position_or_len (E k) (keys_of es)) w ≡ insert_entry E es k w
  written_there [] v = refl
  written_there (e ∷ es) v = elim (cases_Bool (E k e.0)) [
    | inl t ↦
        ap (λ b. set_value_at (cond b ((e.0, v) ∷ es) (e ∷ insert_entry E es k v)) (cond (not b) (1 + position_or_len (E k) (keys_of es)) 0) w) t
        ∙ sym (ap (λ b. cond b ((e.0, w) ∷ es) (e ∷ insert_entry E es k w)) t)
    | inr f ↦
        let next : 1 + position_or_len (E k) (keys_of es) ≡ suc (position_or_len (E k) (keys_of es)) = omega arith in
        ap (λ b. set_value_at (cond b ((e.0, v) ∷ es) (e ∷ insert_entry E es k v)) (cond (not b) (1 + position_or_len (E k) (keys_of es)) 0) w) f
        ∙ ap (λ n. set_value_at (e ∷ insert_entry E es k v) n w) next
        ∙ ap (λ r. e ∷ r) (written_there es v)
        ∙ sym (ap (λ b. cond b ((e.0, w) ∷ es) (e ∷ insert_entry E es k w)) f)
  ]

  -- no name stands twice then
  other_put : (es : Entries) (m : Name) → same_name m k.now ≡ false → find_name (groups_of es) m ≡ None → find_name (groups_of (insert_entry E es k w)) m ≡ None
  other_put [] m other h = ap (λ b. cond b (Some (listed_items w)) None) other
  other_put (e ∷ es) m other h =
      let (apart, rest) = none_behind (e.0.now, listed_items e.1) (groups_of es) m h in
      elim (cases_Bool (E k e.0)) [
        | inl t ↦
            ap (λ b. find_name (groups_of (cond b ((e.0, w) ∷ es) (e ∷ insert_entry E es k w))) m) t
            ∙ ap (λ b. cond b (Some (listed_items w)) (find_name (groups_of es) m)) apart ∙ rest
        | inr f ↦
            ap (λ b. find_name (groups_of (cond b ((e.0, w) ∷ es) (e ∷ insert_entry E es k w))) m) f
            ∙ ap (λ b. cond b (Some (listed_items e.1)) (find_name (groups_of (insert_entry E es k w)) m)) apart ∙ other_put es m other rest
      ]

  pub once_put : (es : Entries) → NoNameTwice (groups_of es) → NoNameTwice (groups_of (insert_entry E es k w))
  once_put [] once = (refl, tt)
  once_put (e ∷ es) once = elim (cases_Bool (E k e.0)) [
    | inl t ↦ subst (λ b. NoNameTwice (groups_of (cond b ((e.0, w) ∷ es) (e ∷ insert_entry E es k w)))) (sym t) once
    | inr f ↦
        subst (λ b. NoNameTwice (groups_of (cond b ((e.0, w) ∷ es) (e ∷ insert_entry E es k w)))) (sym f)
        (other_put es e.0.now (same_name-sym k.now e.0.now (sym (tells k e.0) ∙ f)) once.0, once_put es once.1)
  ]

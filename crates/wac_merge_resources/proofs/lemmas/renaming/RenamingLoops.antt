-- Copies with renamed value types, as far as a loop has come.
use Rattle.std.proofs.Common.{◌≡◌, ℕ, ◌+◌, ◌<◌, if◌then◌else◌, List, [], ◌∷◌, ◌++◌, length, take, get_or, Some, None, refl, ap, sym, ◌∙◌, subst, add-one}
use Rattle.std.proofs.lemmas.List.{map-append}
use Rattle.std.specs.Prelude.{slice_get}
use Rattle.std.specs.List.{AllZip}
use Rattle.std.specs.Borrow.{Bor}
use Rattle.wac_types_shapes.specs.primitives.Name.{Name, find_name, same_name}
use Rattle.wac_types_shapes.specs.shapes.Named.{NoNameTwice, given_names}
use Rattle.wac_types_shapes.specs.declared.shapes.component.ValueType.{ValueType}
use Rattle.wac_types_shapes.proofs.lemmas.shapes.Names.{none_before, none_behind, take_at}
use Rattle.wac_merge_classes.proofs.lemmas.entries.Lists.{zip_push}
use Rattle.wac_merge_tables.proofs.lemmas.tables.TaskOpenings.{labels_take, values_take}

pub parts_further : (R : ValueType → ValueType → Type 0) (vs : List ValueType) (i : ℕ) (d : ValueType) (ws us : List ValueType) (w : ValueType) → i < length vs → us ≡ ws ++ w ∷ [] → AllZip R (take i vs) ws → R (get_or vs i d) w → AllZip R (take (i + 1) vs) us
parts_further R vs i d ws us w low more h next =
    subst (λ xs. AllZip R xs us) (sym (values_take vs i d low)) (subst (λ ys. AllZip R (take i vs ++ get_or vs i d ∷ []) ys) (sym more) (zip_push R (take i vs) ws (get_or vs i d) w h next))

-- entries beside each other, of the same names
abbrev pub Beside : {V : Type 0} → (V → V → Type 0) → List (Name × V) → List (Name × V) → Type 0
Beside S = AllZip (λ e f. (f.0 ≡ e.0) × S e.1 f.1)

module _ {V : Type 0} (S : V → V → Type 0) where
  pub beside_further : (es : List (Name × V)) (i : ℕ) (n : Name) (v w : V) (fs gs : List (Name × V)) → slice_get es i ≡ Some (n, v) → gs ≡ fs ++ (n, w) ∷ [] → Beside S (take i es) fs → S v w → Beside S (take (i + 1) es) gs
  beside_further es i n v w fs gs at more h next =
      let far : take (i + 1) es ≡ take i es ++ (n, v) ∷ [] = rw add-one (take_at es i (n, v) at) in
      subst (λ xs. Beside S xs gs) (sym far)
      (subst (λ ys. Beside S (take i es ++ (n, v) ∷ []) ys) (sym more)
      (zip_push (λ e f. (f.0 ≡ e.0) × S e.1 f.1) (take i es) fs (n, v) (n, w) h (refl, next)))

  none_beside : (es fs : List (Name × V)) (n : Name) → Beside S es fs → find_name es n ≡ None → find_name fs n ≡ None
  none_beside [] [] n h none = refl
  none_beside [] (f ∷ fs) n h none = absurd h
  none_beside (e ∷ es) [] n h none = absurd h
  none_beside (e ∷ es) (f ∷ fs) n h none =
      let k = none_behind e es n none in
      ap (λ m. if same_name n m then Some f.1 else find_name fs n) h.0.0 ∙ ap (λ b. if b then Some f.1 else find_name fs n) k.0 ∙ none_beside es fs n h.1 k.1

  -- a name that a loop comes to is not among those that it has passed
  pub new_beside : (es fs : List (Name × V)) (i : ℕ) (n : Name) (v : V) → NoNameTwice es → slice_get es i ≡ Some (n, v) → Beside S (take i es) fs → find_name fs n ≡ None
  new_beside es fs i n v law at h = none_beside (take i es) fs n h (none_before es i n v law at)

-- ---- labels
pub labels_further : (labels : List Name) (i : ℕ) (n : Bor Name) (ns ms : List (Bor Name)) → slice_get labels i ≡ Some n.now → ms ≡ ns ++ n ∷ [] → given_names ns ≡ take i labels → given_names ms ≡ take (i + 1) labels
labels_further labels i n ns ms at more so = ap given_names more ∙ map-append (λ (m : Bor Name). m.now) ns (n ∷ []) ∙ labels_take (given_names ns) labels i n.now at so

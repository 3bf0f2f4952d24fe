-- What the comparison keeps: which questions are settled, and that the answer to all of them is that to the first.
use Rattle.std.proofs.Common.{ℕ, zero, suc, Bool, true, false, List, [], ◌∷◌, ◌++◌, ◌≡◌, ◌<◌, ◌≤◌, ◌+◌, ◌⊎◌, inl, inr, length, drop, min, refl, ap, sym, ◌∙◌, subst, Some, arith, slice_get, length-append}
use Rattle.std.proofs.lemmas.Bool.{cases_lt}
use Rattle.std.proofs.lemmas.List.{drop-append-le, drop_all}
use Rattle.std.proofs.lemmas.Option.{same_Some, slice_get_within}
use Rattle.std.specs.List.{AllByRecursion, Contains}
use Rattle.wac_types.specs.declared.comparison.questions.Question.{Question}
use Rattle.wac_types.specs.declared.comparison.questions.Asked.{Asked}
use Rattle.wac_types_shapes.specs.declared.shapes.component.ItemKind.{ItemKind}
use Rattle.wac_types_collection.specs.collection.Collection.{Collection}
use Rattle.wac_types_shapes.specs.shapes.Kinds.{kind_type}
use Rattle.wac_types_shapes.proofs.lemmas.shapes.Loops.{drop_at}
use Rattle.wac_types_collection.specs.subtyping.Subtype.{Sub, IsSubtype, kind_tree}
use Rattle.wac_types.specs.private.comparison.Weights.{type_weight}
use Rattle.wac_types.specs.private.comparison.Questions.{in_order, first_of_pair, second_of_pair, IsAskableQuestion, IsYes, IsYesBelow}
use Rattle.wac_types.specs.private.comparison.Classes.{AreLinked}
use Rattle.wac_types.specs.private.comparison.Settling.{AreJoined, Settles, Asks, RestsOn}
use Rattle.wac_types_collection.proofs.lemmas.collection.Steady.{all_left, all_right}
use Rattle.wac_types_collection.proofs.lemmas.collection.Growth.{map_all}
use Rattle.wac_types_collection.proofs.lemmas.subtyping.Unfolding.{all_both}

pub record Compares (c d : Collection) (a b : ItemKind) (asked : Asked) (next : ℕ) : Type 0 where
  pub held : AllByRecursion (IsAskableQuestion (c, d)) asked.questions.items
  pub within : next ≤ length asked.questions.items
  pub joined : AreJoined (c, d) asked
  pub carried : (k : ℕ) → AllByRecursion (IsYesBelow (c, d) k) (drop next asked.questions.items) → AllByRecursion (IsYesBelow (c, d) k) asked.questions.items
  pub back : IsSubtype c a d b → AllByRecursion (IsYes (c, d)) asked.questions.items
  pub forth : AllByRecursion (IsYes (c, d)) asked.questions.items → IsSubtype c a d b

all_index : {A : Type 0} (P : A → Type 0) (xs : List A) (i : ℕ) (x : A) → AllByRecursion P xs → slice_get xs i ≡ Some x → P x
all_index P [] i x h e = cc
all_index P (y ∷ xs) zero x h e = subst P (same_Some y x e) h.0
all_index P (y ∷ xs) (suc i) x h e = all_index P xs i x h.1 e

first_weight : Collection × Collection → Question → ℕ
first_weight p q = type_weight (first_of_pair q.turned p) q.first

second_weight : Collection × Collection → Question → ℕ
second_weight p q = type_weight (second_of_pair q.turned p) q.second

all_every : (p : Collection × Collection) (qs : List Question) → ((k : ℕ) → AllByRecursion (IsYesBelow p k) qs) → AllByRecursion (IsYes p) qs
unfolding first_weight
all_every p [] h = tt
all_every p (q ∷ qs) h = ((h (suc (first_weight p q))).0 (inl (omega arith)), all_every p qs (λ k. (h k).1))

none_joined : (p : Collection × Collection) (qs : List Question) → AreLinked p qs []
none_joined p qs i u l e = cc

pub compares_first : (c d : Collection) (a b : ItemKind) (o asked : Asked) → o.questions.items ≡ [] → o.others.keys ≡ [] → o.classes.links.entries ≡ []
    → Asks false c d (kind_type a ∷ []) (kind_type b ∷ []) o asked (Sub (kind_tree c a) (kind_tree d b)) → Compares c d a b asked 0
compares_first c d a b o asked none no_others apart asks =
    let p : Collection × Collection = (c, d) in
    let m = type_weight c (kind_type a) in
    let s = asks.settles (suc m) (inl (omega arith, tt)) in
    let is : asked.questions.items ≡ s.added = s.grown ∙ ap (λ x. x ++ s.added) none in
    let J : _ → Type 0 = λ es. AreLinked p o.questions.items es in
    let K : _ → Type 0 = AllByRecursion (Contains o.questions.items) in
    let joined : AreJoined p o = (subst J (sym apart) (none_joined p o.questions.items), subst K (sym no_others) tt) in
    record {
      held = rw is s.asked;
      within = omega arith;
      joined = s.joined joined;
      carried = λ k h. h;
      back = λ e. rw is (s.complete e);
      forth = λ h. s.sound joined (map_all (IsYes p) (IsYesBelow p (suc m)) (λ q y _. y) asked.questions.items h);
    }

-- the collections of a question, in the order of the first one
in_order_pair : (t : Bool) (p : Collection × Collection) → in_order t (first_of_pair t p) (second_of_pair t p) ≡ p
in_order_pair false p = refl
in_order_pair true p = refl

-- what the answer to the next question rests on was asked
module _ (c d : Collection) (a b : ItemKind) (o asked : Asked) (i : ℕ) (q : Question) (at : slice_get o.questions.items i ≡ Some q) (w : Compares c d a b o i)
    (s : RestsOn q.turned (first_of_pair q.turned (c, d)) (second_of_pair q.turned (c, d)) q.first q.second o asked (IsYes (c, d) q)) where
  abbrev first : ℕ
  first = first_weight (c, d) q

  abbrev second : ℕ
  second = second_weight (c, d) q

  settled : (n : ℕ) → (first ≤ n) ⊎ (second ≤ n) → Settles (c, d) n o asked (IsYes (c, d) q)
  unfolding first_weight second_weight
  settled n le = let P : Collection × Collection → Type 0 = λ p. Settles p n o asked (IsYes (c, d) q) in subst P (in_order_pair q.turned (c, d)) (s.settles n le)

  -- yes, where the other questions are answered yes that have a type lighter than this
  yes_at : (k : ℕ) → AllByRecursion (IsYesBelow (c, d) k) (drop (suc i) o.questions.items) → (added : List Question) → asked.questions.items ≡ o.questions.items ++ added → AllByRecursion (IsYesBelow (c, d) k) added → IsYesBelow (c, d) k q
  unfolding first_weight second_weight
  yes_at k old added grown new below =
      let n = min first second in
      let less : n < k = omega (arith, below) in
      let least : (first ≤ n) ⊎ (second ≤ n) = elim (cases_lt first second) [ inl h ↦ inl (omega (arith, h)) | inr h ↦ inr (omega (arith, h)) ] in
      let weaken = map_all (IsYesBelow (c, d) k) (IsYesBelow (c, d) n) (λ r y b. y (elim b [ inl h ↦ inl (omega (arith, h, less)) | inr h ↦ inr (omega (arith, h, less)) ])) in
      let self : IsYesBelow (c, d) n q = λ b. absurd (omega (arith, b)) in
      let L : List Question → Type 0 = AllByRecursion (IsYesBelow (c, d) n) in
      let all = w.carried n (subst L (sym (drop_at o.questions.items i q at)) (self, weaken (drop (suc i) o.questions.items) old)) in
      (settled n least).sound w.joined (subst L (sym grown) (all_both (IsYesBelow (c, d) n) o.questions.items added all (weaken added new)))

  pub compares_next : Compares c d a b asked (i + 1)
  compares_next =
      let p : Collection × Collection = (c, d) in
      let t = settled first (inl (omega arith)) in
      let H : List Question → Type 0 = AllByRecursion (IsAskableQuestion p) in
      let Y : List Question → Type 0 = AllByRecursion (IsYes p) in
      let lt = slice_get_within o.questions.items i q at in
      let len : length asked.questions.items ≡ length o.questions.items + length t.added = ap length t.grown ∙ length-append o.questions.items t.added in
      let more : i + 1 ≡ suc i = omega arith in
      let cut : drop (i + 1) asked.questions.items ≡ drop (suc i) o.questions.items ++ t.added = ap (λ n. drop n asked.questions.items) more ∙ ap (drop (suc i)) t.grown ∙ drop-append-le (suc i) o.questions.items t.added (omega (arith, lt)) in
      record {
        held = subst H (sym t.grown) (all_both (IsAskableQuestion p) o.questions.items t.added w.held t.asked);
        within = omega (arith, len, lt);
        joined = t.joined w.joined;
        carried = λ k h.
            let B : List Question → Type 0 = AllByRecursion (IsYesBelow p k) in
            let rest = subst B cut h in
            let old = all_left (IsYesBelow p k) (drop (suc i) o.questions.items) t.added rest in
            let new = all_right (IsYesBelow p k) (drop (suc i) o.questions.items) t.added rest in
            let yes = yes_at k old t.added t.grown new in
            subst B (sym t.grown) (all_both (IsYesBelow p k) o.questions.items t.added (w.carried k (subst B (sym (drop_at o.questions.items i q at)) (yes, old))) new);
        back = λ e. let h = w.back e in subst Y (sym t.grown) (all_both (IsYes p) o.questions.items t.added h (t.complete (all_index (IsYes p) o.questions.items i q h at)));
        forth = λ h. w.forth (all_left (IsYes p) o.questions.items t.added (subst Y t.grown h));
      }

pub compares_last : (c d : Collection) (a b : ItemKind) (o : Asked) (i : ℕ) → length o.questions.items ≤ i → Compares c d a b o i → IsSubtype c a d b
compares_last c d a b o i le w =
    w.forth (all_every (c, d) o.questions.items (λ k.
    let B : List Question → Type 0 = AllByRecursion (IsYesBelow (c, d) k) in
    w.carried k (subst B (sym (drop_all i o.questions.items le)) tt)))

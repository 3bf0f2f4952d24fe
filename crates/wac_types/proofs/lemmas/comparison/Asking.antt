-- Questions that settle a statement, from those that settle its parts.
use Rattle.std.proofs.Common.{cond, ℕ, Bool, true, false, not, List, [], ◌∷◌, ◌++◌, ◌≡◌, ◌<◌, ◌≤◌, refl, ap, sym, ◌∙◌, subst, arith, append_assoc, ◌⊎◌, inl, inr}
use Rattle.std.proofs.lemmas.List.{append-nil}
use Rattle.std.proofs.lemmas.List.Elements.{All-contains, All-from_recursion, Contains-append_left, Contains-push}
use Rattle.std.specs.List.{AllByRecursion, Contains, list_any}
use Rattle.indexmap.specs.IndexSet.{insert_key}
use Rattle.indexmap.proofs.CallerLemmas.{Contains-list_any}
use Rattle.wac_types.specs.declared.comparison.questions.Question.{Question}
use Rattle.wac_types.specs.declared.comparison.questions.Asked.{Asked}
use Rattle.wac_types_shapes.specs.declared.shapes.component.«Type».{«Type» as AnyType}
use Rattle.wac_types_shapes.specs.primitives.Name.{Name}
use Rattle.wac_types_shapes.specs.primitives.Tree.{TypeTree}
use Rattle.wac_types_collection.specs.collection.Collection.{Collection}
use Rattle.wac_types_collection.specs.subtyping.Subtype.{Sub, type_tree}
use Rattle.wac_types.specs.private.comparison.Weights.{type_weight}
use Rattle.wac_types.specs.private.comparison.Questions.{in_order, first_of_pair, second_of_pair, IsAskable, IsAskableQuestion, IsYes, IsYesBelow, AreBelow}
use Rattle.wac_types.specs.private.comparison.Classes.{AreLinked, AreSame}
use Rattle.wac_types.specs.private.comparison.Settling.{Settles, Asks, RestsOn, Puts}
use Rattle.wac_types_collection.proofs.lemmas.collection.Steady.{all_left}
use Rattle.wac_types_collection.proofs.lemmas.collection.Growth.{map_all}
use Rattle.wac_types_collection.proofs.lemmas.subtyping.Unfolding.{all_both}
use Rattle.wac_types.proofs.lemmas.comparison.Lighter.{Lowers}

pub all_at : {A : Type 0} (P : A → Type 0) (xs : List A) (x : A) → AllByRecursion P xs → Contains xs x → P x
all_at P xs x h c = All-contains P xs x (All-from_recursion P xs h) c

-- what holds of a question holds of those that were added where it was put
pub all_only : (P : Question → Type 0) (q : Question) (added : List Question) → AllByRecursion (λ r. r ≡ q) added → P q → AllByRecursion P added
all_only P q added only h = map_all (λ r. r ≡ q) P (λ r e. subst P (sym e) h) added only

pub swapped : {A B : Type 0} → A ⊎ B → B ⊎ A
swapped (inl a) = inr a
swapped (inr b) = inl b

-- what is the same where some answers are yes is so where more are
pub same_more : (p : Collection × Collection) (qs added : List Question) (u v : _) → AreSame p qs u v → AreSame p (qs ++ added) u v
same_more p qs added u v s n h = s n (all_left (IsYesBelow p n) qs added h)

pub linked_more : (p : Collection × Collection) (qs added : List Question) (es : _) → AreLinked p qs es → AreLinked p (qs ++ added) es
linked_more p qs added es h i u l at = let k = h i u l at in (k.0, k.1, same_more p qs added u k.0 k.2)

module _ (p : Collection × Collection) (n : ℕ) where
  pub settles_now : {E : Type 0} (s : Asked) → E → Settles p n s s E
  settles_now s e = record { added = []; grown = sym (append-nil s.questions.items); asked = tt; joined = λ j. j; complete = λ _. tt; sound = λ _ _. e }

  pub settles_then : {E F : Type 0} (o m k : Asked) → Settles p n o m E → Settles p n m k F → Settles p n o k (E × F)
  settles_then o m k s t =
      let grown : k.questions.items ≡ o.questions.items ++ (s.added ++ t.added) = t.grown ∙ ap (λ x. x ++ t.added) s.grown ∙ append_assoc o.questions.items s.added t.added in
      let P : List Question → Type 0 = AllByRecursion (IsYesBelow p n) in
      record {
        added = s.added ++ t.added;
        grown = grown;
        asked = all_both (IsAskableQuestion p) s.added t.added s.asked t.asked;
        joined = λ j. t.joined (s.joined j);
        complete = λ e. all_both (IsYes p) s.added t.added (s.complete e.0) (t.complete e.1);
        sound = λ j h. (s.sound j (all_left (IsYesBelow p n) m.questions.items t.added (subst P t.grown h)), t.sound (s.joined j) h);
      }

  pub settles_iff : {E F : Type 0} (o k : Asked) → (E → F) → (F → E) → Settles p n o k E → Settles p n o k F
  settles_iff o k f g s = record { added = s.added; grown = s.grown; asked = s.asked; joined = s.joined; complete = λ e. s.complete (g e); sound = λ j h. f (s.sound j h) }

  pub settles_put : (o k : Asked) (q : Question) → Puts o k q → IsAskableQuestion p q → (type_weight (first_of_pair q.turned p) q.first < n) ⊎ (type_weight (second_of_pair q.turned p) q.second < n)
      → Settles p n o k (IsYes p q)
  settles_put o k q s held below = record {
    added = s.added;
    grown = s.grown;
    asked = all_only (IsAskableQuestion p) q s.added s.only held;
    joined = λ j.
        let P : List Question → Type 0 = λ x. AreLinked p x k.classes.links.entries in
        let Q : _ → Type 0 = λ x. AreLinked p (o.questions.items ++ s.added) x.links.entries in
        (subst P (sym s.grown) (subst Q (sym s.classes) (linked_more p o.questions.items s.added o.classes.links.entries j.0)), s.asked j.1);
    complete = λ y. all_only (IsYes p) q s.added s.only y;
    sound = λ j h. all_at (IsYesBelow p n) k.questions.items q h (s.there j.1) below;
  }

-- a question in the order of the comparison
abbrev pub ordered : Bool → AnyType → AnyType → Question
ordered t a b = record { turned = t; first = a; second = b }

-- a question that was put settles what it asks
pub asks_put : (t : Bool) (x y : Collection) (a b : AnyType) (o k : Asked) → Puts o k (ordered t a b)
    → (n : ℕ) → IsAskable x a → IsAskable y b → (type_weight x a < n) ⊎ (type_weight y b < n) → Settles (in_order t x y) n o k (Sub (type_tree x a) (type_tree y b))
asks_put false x y a b o k s n ha hb below = settles_put (x, y) n o k _ s (ha, hb) below
asks_put true x y a b o k s n ha hb below = settles_put (y, x) n o k _ s (ha, hb) below

module _ (t : Bool) (x y : Collection) (a b : AnyType) where
  pub rests_now : {E : Type 0} (o : Asked) → E → RestsOn t x y a b o o E
  rests_now o e = record { settles = λ n below. settles_now _ _ o e }

  pub rests_iff : {E F : Type 0} (o k : Asked) → (E → F) → (F → E) → RestsOn t x y a b o k E → RestsOn t x y a b o k F
  rests_iff o k f g s = record { settles = λ n below. settles_iff _ _ o k f g (s.settles n below) }

-- what mentions types is settled by what they settle
pub rests_on : {E F : Type 0} (t : Bool) (x y : Collection) (a b : AnyType) (ps qs : List AnyType) (u v : TypeTree Name) (o k : Asked) → Lowers x a ps u → Lowers y b qs v
    → (E → F) → (F → E) → Asks t x y ps qs o k E → RestsOn t x y a b o k F
rests_on t x y a b ps qs u v o k la lb f g asks = record {
  settles = λ n below. settles_iff _ _ o k f g (asks.settles n (by n below));
}
  where
    below : (c : Collection) (a : AnyType) (ps : List AnyType) (n : ℕ) → AreBelow c (type_weight c a) ps → type_weight c a ≤ n → AreBelow c n ps
    below c a ps n h le = map_all (λ t. type_weight c t < type_weight c a) (λ t. type_weight c t < n) (λ t lt. omega (arith, lt, le)) ps h

    by : (n : ℕ) → (type_weight x a ≤ n) ⊎ (type_weight y b ≤ n) → AreBelow x n ps ⊎ AreBelow y n qs
    by n (inl le) = inl (below x a ps n la.lower le)
    by n (inr le) = inr (below y b qs n lb.lower le)

-- a question whether types are so is settled by what its answer rests on
pub asks_rested : {E : Type 0} (t : Bool) (x y : Collection) (a b : AnyType) (o k : Asked) → RestsOn t x y a b o k E → Asks t x y (a ∷ []) (b ∷ []) o k E
asks_rested t x y a b o k s = record { settles = λ n below. s.settles n (by n below) }
  where
    by : (n : ℕ) → AreBelow x n (a ∷ []) ⊎ AreBelow y n (b ∷ []) → (type_weight x a ≤ n) ⊎ (type_weight y b ≤ n)
    by n (inl h) = let lt = h.0 in inl (omega (arith, lt))
    by n (inr h) = let lt = h.0 in inr (omega (arith, lt))

-- what was asked is asked where more is
pub asked_more : (qs added others : List Question) → AllByRecursion (Contains qs) others → AllByRecursion (Contains (qs ++ added)) others
asked_more qs added others h = map_all (Contains qs) (Contains (qs ++ added)) (λ r c. Contains-append_left qs added r c) others h

not_false : (b : Bool) → not b ≡ false → b ≡ true
not_false true h = refl
not_false false h = cc

not_true : (b : Bool) → not b ≡ true → b ≡ false
not_true true h = cc
not_true false h = refl

-- a question that was noted before, and so was asked, and one that was added
module _ (eq : Question → Question → Bool) (tells : (a b : Question) → eq a b ≡ true → a ≡ b) (o k : Asked) (q : Question) (noted : k.others.keys ≡ insert_key eq o.others.keys q) (classes : k.classes ≡ o.classes) where
  abbrev found : Bool
  found = list_any (eq q) o.others.keys

  pub puts_none : not found ≡ false → k.questions.items ≡ o.questions.items → Puts o k q
  puts_none old items =
      let there : found ≡ true = not_false found old in
      let others : k.others.keys ≡ o.others.keys = noted ∙ ap (λ b. cond b o.others.keys (o.others.keys ++ q ∷ [])) there in
      record {
        added = [];
        grown = items ∙ sym (append-nil o.questions.items);
        only = tt;
        classes = classes;
        asked = λ h. rw (items, others) h;
        there = λ h. let c = all_at (Contains o.questions.items) o.others.keys q h (Contains-list_any eq tells o.others.keys q there) in rw items c;
      }

  pub puts_one : not found ≡ true → k.questions.items ≡ o.questions.items ++ q ∷ [] → Puts o k q
  puts_one new grown =
      let C : List Question → Type 0 = λ x. Contains x q in
      let P : List Question → Type 0 = λ x. AllByRecursion (Contains x) o.others.keys in
      let Q : List Question → Type 0 = AllByRecursion (Contains k.questions.items) in
      let there : Contains k.questions.items q = subst C (sym grown) (Contains-push o.questions.items q) in
      let others : k.others.keys ≡ o.others.keys ++ q ∷ [] = noted ∙ ap (λ b. cond b o.others.keys (o.others.keys ++ q ∷ [])) (not_true found new) in
      record {
        added = q ∷ [];
        grown = grown;
        only = (refl, tt);
        classes = classes;
        asked = λ h. subst Q (sym others) (all_both (Contains k.questions.items) o.others.keys (q ∷ []) (subst P (sym grown) (asked_more o.questions.items (q ∷ []) o.others.keys h)) (there, tt));
        there = λ _. there;
      }

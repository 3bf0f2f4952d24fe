-- Which definitions are one named type once pairs were joined: those that the pairs link.
use Rattle.std.proofs.Common.{◌≡◌, true, cond, ◌||◌, nat_eq, is_some, Some, None, sym, ap, ◌∙◌, subst, ◌⊎◌, inl, inr}
use Rattle.std.proofs.lemmas.Bool.{cases_Bool}
use Rattle.wac_types_shapes.specs.declared.shapes.component.DefinedTypeId.{DefinedTypeId}
use Rattle.wac_merge_resources.specs.values.NamedTypes.{AreAllOne, AreJoined, AreLinked, IsOneType, IsTouched, JoinsAlong, TouchesOnly, at_one, at_other, chain, earlier_of, first_of, first_of_one, first_of_other, lower, named_type, no_join, one_join, pair, stood, turned}
use Rattle.wac_merge_resources.specs.declared.values.named.NamedTypes.{NamedTypes}
use Rattle.wac_merge_resources.proofs.lemmas.values.Joins.{first-stops, lower-one, there-named, IsFirst}
use Rattle.wac_merge_resources.proofs.lemmas.values.Tables.{same_id}

abbrev Pairs : Type 1
Pairs = DefinedTypeId → DefinedTypeId → Type 0

-- ---- joins of pairs
pub joins-for : (P Q : Pairs) (old new : NamedTypes) → ((a b : DefinedTypeId) → P a b → Q a b) → JoinsAlong P old new → JoinsAlong Q old new
joins-for P Q old new f no_join = no_join
joins-for P Q old new f (one_join mid _ a b before p joined only) = one_join mid new a b (joins-for P Q old mid f before) (f a b p) joined only

pub joins-then : (P : Pairs) (old mid new : NamedTypes) → JoinsAlong P old mid → JoinsAlong P mid new → JoinsAlong P old new
joins-then P old mid new first no_join = first
joins-then P old mid new first (one_join there _ a b before p joined only) = one_join there new a b (joins-then P old mid there first before) p joined only

-- each pair of either kind is one named type
pub either-one : (P Q : Pairs) (t : NamedTypes) → AreAllOne P t → AreAllOne Q t → AreAllOne (λ a b. P a b ⊎ Q a b) t
either-one P Q t ps qs a b (inl p) = ps a b p
either-one P Q t ps qs a b (inr q) = qs a b q

-- what pairs link is one named type where each pair is
pub linked-one : (P : Pairs) (t : NamedTypes) → AreAllOne P t → (a b : DefinedTypeId) → AreLinked P a b → IsOneType t a b
linked-one P t all _ _ (pair a b p) = all a b p
linked-one P t all _ _ (turned a b l) = let (r, p, q) = linked-one P t all a b l in (r, q, p)
linked-one P t all _ _ (chain a d b l m) =
    let (r, p, q) = linked-one P t all a d l in
    let (s, u, v) = linked-one P t all d b m in
    (r, p, v ∙ sym u ∙ q)

-- ---- what they leave
module _ (P : Pairs) where
  -- what each definition leads to is linked with it, and what stands under a name with itself
  record Leads (t : NamedTypes) : Type 0 where
    first : (d : DefinedTypeId) → (d ≡ first_of t d) ⊎ AreLinked P d (first_of t d)
    itself : (d : DefinedTypeId) → is_some (earlier_of t d) ≡ true → AreLinked P d d

  from_first : (d e f : DefinedTypeId) → (d ≡ e) ⊎ AreLinked P d e → AreLinked P d f → AreLinked P e f
  from_first d e f (inl same) l = subst (λ x. AreLinked P x f) same l
  from_first d e f (inr h) l = chain e d f (turned d e h) l

  to_first : (d e f : DefinedTypeId) → (d ≡ e) ⊎ AreLinked P d e → AreLinked P e f → AreLinked P d f
  to_first d e f (inl same) l = subst (λ x. AreLinked P x f) (sym same) l
  to_first d e f (inr h) l = chain d e f h l

  module _ (old new : NamedTypes) (a b : DefinedTypeId) (p : P a b) (joined : AreJoined old a b new) (only : TouchesOnly old a b new) (ls : Leads old) where
    abbrev fa : DefinedTypeId
    fa = first_of old a

    abbrev fb : DefinedTypeId
    fb = first_of old b

    abbrev z : DefinedTypeId
    z = lower fa fb

    there : AreLinked P fa fb
    there = turned fb fa (from_first b fb fa (ls.first b) (turned fa b (from_first a fa b (ls.first a) (pair a b p))))

    fa-z : AreLinked P fa z
    fa-z = elim (lower-one fa fb) [
      | inl e ↦ subst (λ x. AreLinked P fa x) (sym e) (chain fa fb fa there (turned fa fb there))
      | inr e ↦ subst (λ x. AreLinked P fa x) (sym e) there
    ]

    fb-z : AreLinked P fb z
    fb-z = chain fb fa z (turned fa fb there) fa-z

    moved : (d : DefinedTypeId) → AreLinked P (first_of old d) z → first_of new d ≡ z → (d ≡ first_of new d) ⊎ AreLinked P d (first_of new d)
    moved d l is = inr (subst (λ x. AreLinked P d x) (sym is) (to_first d (first_of old d) z (ls.first d) l))

    unmoved : (d : DefinedTypeId) → first_of new d ≡ first_of old d → (d ≡ first_of new d) ⊎ AreLinked P d (first_of new d)
    unmoved d is = subst (λ x. (d ≡ x) ⊎ AreLinked P d x) (sym is) (ls.first d)

    leads-first : (d : DefinedTypeId) → (d ≡ first_of new d) ⊎ AreLinked P d (first_of new d)
    leads-first d = elim (cases_Bool (nat_eq (first_of old d).0 fa.0)) [
      | inl same ↦
          moved d (subst (λ x. AreLinked P x z) (sym (same_id (first_of old d) fa same)) fa-z)
          (joined d ∙ ap (λ c. cond (c || nat_eq (first_of old d).0 fb.0) z (first_of old d)) same)
      | inr apart ↦ elim (cases_Bool (nat_eq (first_of old d).0 fb.0)) [
        | inl same ↦
            moved d (subst (λ x. AreLinked P x z) (sym (same_id (first_of old d) fb same)) fb-z)
            (joined d ∙ ap (λ c. cond (c || nat_eq (first_of old d).0 fb.0) z (first_of old d)) apart ∙ ap (λ c. cond c z (first_of old d)) same)
        | inr far ↦
            unmoved d (joined d ∙ ap (λ c. cond (c || nat_eq (first_of old d).0 fb.0) z (first_of old d)) apart ∙ ap (λ c. cond c z (first_of old d)) far)
      ]
    ]

    itself-by : (d : DefinedTypeId) → IsTouched old a b d → AreLinked P d d
    itself-by d (at_one e) = subst (λ x. AreLinked P x x) (sym e) (chain a b a (pair a b p) (turned a b (pair a b p)))
    itself-by d (at_other e) = subst (λ x. AreLinked P x x) (sym e) (chain b a b (turned a b (pair a b p)) (pair a b p))
    itself-by d (first_of_one e) = subst (λ x. AreLinked P x x) (sym e) (chain fa fb fa there (turned fa fb there))
    itself-by d (first_of_other e) = subst (λ x. AreLinked P x x) (sym e) (chain fb fa fb (turned fa fb there) there)
    itself-by d (stood s) = ls.itself d s

    leads-more : Leads new
    leads-more = record { first = leads-first; itself = λ d s. itself-by d (only d s) }

  leads-along : (old new : NamedTypes) → JoinsAlong P old new → Leads old → Leads new
  leads-along old _ no_join ls = ls
  leads-along old new (one_join mid _ a b rest p joined only) ls = leads-more mid new a b p joined only (leads-along old mid rest ls)

  module _ (empty : NamedTypes) (is : (d : DefinedTypeId) → named_type empty d ≡ None) where
    no-link : (d : DefinedTypeId) → is_some (earlier_of empty d) ≡ true → ⊥
    no-link d s = let e : Some (first_of empty d) ≡ None = sym (ap (λ c. cond c (Some (first_of empty d)) None) s) ∙ is d in cc e

    stands : (d : DefinedTypeId) → IsFirst (earlier_of empty) d
    stands d e at = absurd (no-link d (ap is_some at))

    leads-none : Leads empty
    leads-none = record { first = λ d. inl (sym (first-stops (earlier_of empty) d (stands d))); itself = λ d s. absurd (no-link d s) }

    -- what is one named type after joins of pairs is linked by them
    pub one-linked : (t : NamedTypes) → JoinsAlong P empty t → (a b : DefinedTypeId) → IsOneType t a b → AreLinked P a b
    one-linked t along a b (r, p, q) =
        let ls = leads-along empty t along leads-none in
        let (s, e) = there-named (earlier_of t) a r p in
        let (u, h) = there-named (earlier_of t) b r q in
        let ra = from_first a (first_of t a) a (ls.first a) (ls.itself a s) in
        let rb = from_first b (first_of t b) b (ls.first b) (ls.itself b u) in
        chain a r b (subst (λ x. AreLinked P a x) e (turned (first_of t a) a ra)) (subst (λ x. AreLinked P x b) h rb)

-- Lists that are sorted by name are maps: those that give the same under each name are equal.
use Rattle.std.proofs.Common.{◌≡◌, true, false, List, [], ◌∷◌, map, Some, refl, ap, sym, ◌∙◌, subst, eqb, eq-eqb, if◌then◌else◌}
use Rattle.std.proofs.lemmas.Bool.{eqb-true}
use Rattle.std.specs.List.{AllByRecursion}
use Rattle.std.specs.Ordering.{nat_cmp, ordering_reverse}
use Rattle.std.specs.declared.cmp.Ordering.{Ordering}
use Rattle.std.specs.declared.cmp.Ordering.TheVariants.{Less, Equal, Greater}
use Rattle.std.specs.Cmp.Lexicographic.{slice_cmp, nat_list_cmp_total}
use Rattle.std.specs.FinMap.{nat_cmp-IsAntisymmetric, slice_cmp-IsAntisymmetric}
use Rattle.wac_types_shapes.specs.primitives.Name.{Name, same_name}
use Rattle.wac_types_shapes.specs.primitives.Name.{find_name, option_case}
use Rattle.wac_types_shapes.specs.primitives.Tree.{TypeTree, absent}
use Rattle.wac_types_collection.specs.collection.Held.{items_under}
use Rattle.wac_merge_tables.specs.private.tables.Nodes.{Sorted}

abbrev compare : Name → Name → Ordering
compare = slice_cmp nat_cmp

same_is : (a b : Name) → same_name a b ≡ true → a ≡ b
same_is [] [] e = refl
same_is [] (y ∷ ys) e = cc
same_is (x ∷ xs) [] e = cc
same_is (x ∷ xs) (y ∷ ys) e = elim (eqb x y) as (λ t. eqb x y ≡ t → (if t then same_name xs ys else false) ≡ true → x ∷ xs ≡ y ∷ ys) [
  | true ↦ λ one rest. rw (eqb-true x y one, same_is xs ys rest) refl
  | false ↦ λ _ wrong. cc
] refl e

never_less : (a : Name) → compare a a ≡ Less → ⊥
never_less a e = split (compare a a) (nat_list_cmp_total.antisymm a a) e where
  split : (r : Ordering) → r ≡ ordering_reverse r → r ≡ Less → ⊥
  split Less s _ = cc
  split Equal s e = cc
  split Greater s e = cc

module _ {V T : Type 0} (none : T) (tree : V → T) where
  -- what stands under a name
  abbrev pub under : List (Name × V) → Name → T
  under [] n = none
  under (e ∷ es) n = if same_name n e.0 then tree e.1 else under es n

  -- nothing stands under a name before all of them
  none_before : (n : Name) (es : List (Name × V)) → AllByRecursion (λ x. compare n x.0 ≡ Less) es → under es n ≡ none
  none_before n [] h = refl
  none_before n (e ∷ es) h = elim (same_name n e.0) as (λ t. same_name n e.0 ≡ t → (if t then tree e.1 else under es n) ≡ none) [
    | true ↦ λ one. absurd (never_less n (subst (λ x. compare n x ≡ Less) (sym (same_is n e.0 one)) h.0))
    | false ↦ λ _. none_before n es h.1
  ] refl

  itself : (n : Name) → same_name n n ≡ true
  itself [] = refl
  itself (x ∷ xs) = ap (λ t. if t then same_name xs xs else false) (eq-eqb x x refl) ∙ itself xs

  apart : (a b : Name) → compare a b ≡ Less → same_name a b ≡ false
  apart a b less = elim (same_name a b) as (λ t. same_name a b ≡ t → t ≡ false) [
    | true ↦ λ one. absurd (never_less a (subst (λ x. compare a x ≡ Less) (sym (same_is a b one)) less))
    | false ↦ λ _. refl
  ] refl

  turned : (a b : Name) → compare a b ≡ Less → same_name b a ≡ false
  turned a b less = elim (same_name b a) as (λ t. same_name b a ≡ t → t ≡ false) [
    | true ↦ λ one. absurd (never_less a (subst (λ x. compare a x ≡ Less) (same_is b a one) less))
    | false ↦ λ _. refl
  ] refl

  pub first_under : (e : Name × V) (es : List (Name × V)) → under (e ∷ es) e.0 ≡ tree e.1
  first_under e es = ap (λ t. if t then tree e.1 else under es e.0) (itself e.0)

  before_all : (a b : Name) (es : List (Name × V)) → compare a b ≡ Less → AllByRecursion (λ x. compare b x.0 ≡ Less) es → AllByRecursion (λ x. compare a x.0 ≡ Less) es
  before_all a b [] less h = tt
  before_all a b (e ∷ es) less h = (nat_list_cmp_total.trans a b e.0 less h.0, before_all a b es less h.1)

  -- behind the same first name the rest is the same under each name
  rest_same : (n : Name) (a b : V) (es fs : List (Name × V)) → AllByRecursion (λ x. compare n x.0 ≡ Less) es → AllByRecursion (λ x. compare n x.0 ≡ Less) fs
      → ((m : Name) → under ((n, a) ∷ es) m ≡ under ((n, b) ∷ fs) m) → (m : Name) → under es m ≡ under fs m
  rest_same n a b es fs h g same m = elim (same_name m n) as (λ t. same_name m n ≡ t → (if t then tree a else under es m) ≡ (if t then tree b else under fs m) → under es m ≡ under fs m) [
    | true ↦ λ one _. let is = same_is m n one in
        subst (λ x. under es x ≡ under fs x) (sym is) (none_before n es h ∙ sym (none_before n fs g))
    | false ↦ λ _ e. e
  ] refl (same m)

  -- sorted lists that give the same under each name are equal, where their values are told apart
  pub one_map : (Good : V → Type 0) → ((v : V) → Good v → tree v ≡ none → ⊥) → ((v w : V) → Good v → Good w → tree v ≡ tree w → v ≡ w) → (es fs : List (Name × V)) → Sorted es → Sorted fs
      → AllByRecursion (λ e. Good e.1) es → AllByRecursion (λ e. Good e.1) fs → ((n : Name) → under es n ≡ under fs n) → es ≡ fs
  one_map Good there one [] [] h g p q same = refl
  one_map Good there one [] (f ∷ fs) h g p q same = absurd (there f.1 q.0 (sym (same f.0 ∙ first_under f fs)))
  one_map Good there one (e ∷ es) [] h g p q same = absurd (there e.1 p.0 (sym (first_under e es) ∙ same e.0))
  one_map Good there one ((n, a) ∷ es) ((m, b) ∷ fs) h g p q same = by_order (compare n m) refl (λ is k next. one_map Good there one es fs h.1 k p.1 q.1 next) where
    by_order : (r : Ordering) → compare n m ≡ r → ((n ≡ m) → Sorted fs → ((x : Name) → under es x ≡ under fs x) → es ≡ fs) → (n, a) ∷ es ≡ (m, b) ∷ fs
    by_order Less less _ = absurd (there a p.0 (sym (first_under (n, a) es) ∙ same n ∙ ap (λ t. if t then tree b else under fs n) (apart n m less) ∙ none_before n fs (before_all n m fs less g.0)))
    by_order Greater more _ =
        let less : compare m n ≡ Less = nat_list_cmp_total.antisymm m n ∙ ap ordering_reverse more in
        absurd (there b q.0 (sym (first_under (m, b) fs) ∙ sym (same m) ∙ ap (λ t. if t then tree a else under es m) (apart m n less) ∙ none_before m es (before_all m n es less h.0)))
    by_order Equal is next =
        let name : n ≡ m = slice_cmp-IsAntisymmetric nat_cmp-IsAntisymmetric n m is in
        let lower : AllByRecursion (λ x. compare n x.0 ≡ Less) fs = subst (λ x. AllByRecursion (λ y. compare x y.0 ≡ Less) fs) (sym name) g.0 in
        let alike : (x : Name) → under ((n, a) ∷ es) x ≡ under ((n, b) ∷ fs) x = λ x. same x ∙ ap (λ k. under ((k, b) ∷ fs) x) (sym name) in
        let value : a ≡ b = one a b p.0 q.0 (sym (first_under (n, a) es) ∙ alike n ∙ first_under (n, b) fs) in
        let rest : es ≡ fs = next name g.1 (rest_same n a b es fs h.0 lower alike) in
        (λ i. (name i, value i) ∷ rest i)

-- so are those of trees
pub items_are : {V L : Type 0} (tree : V → TypeTree L) (es : List (Name × V)) (n : Name) → items_under (map (λ e. (e.0, tree e.1)) es) n ≡ under absent tree es n
items_are tree [] n = refl
items_are tree (e ∷ es) n = ap (λ t. if same_name n e.0 then tree e.1 else t) (items_are tree es n)

-- and those that are looked up
pub found_are : {V T : Type 0} (none : T) (tree : V → T) (es : List (Name × V)) (n : Name) → option_case (find_name es n) none tree ≡ under none tree es n
found_are none tree [] n = refl
found_are none tree (e ∷ es) n = elim (same_name n e.0) as (λ t. option_case (if t then Some e.1 else find_name es n) none tree ≡ (if t then tree e.1 else under none tree es n)) [
  | true ↦ refl
  | false ↦ found_are none tree es n
]

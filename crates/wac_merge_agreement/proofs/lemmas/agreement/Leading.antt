-- The way to where two items disagree.
use Rattle.std.proofs.Common.{◌≡◌, ℕ, zero, suc, ◌+◌, if◌then◌else◌, List, [], ◌∷◌, ◌++◌, ◌⊎◌, inl, inr, map, take, Option, Some, None, refl, ap, sym, ◌∙◌, subst, add-one}
use Rattle.std.specs.Prelude.{slice_get, IsSome, IfOk, Result, Ok, Err}
use Rattle.std.specs.List.{AllByRecursion}
use Rattle.std.specs.Option.{MatchOption}
use Rattle.wac_types_shapes.specs.primitives.Name.{Name, same_name, find_name, option_case}
use Rattle.wac_types_shapes.specs.primitives.Tree.{TypeTree, absent, instance, instance_item}
use Rattle.wac_types_collection.specs.subtyping.Called.{Called}
use Rattle.wac_types_collection.specs.collection.Collection.{Collection, interface_exports}
use Rattle.wac_types_shapes.specs.declared.shapes.component.ItemKind.{ItemKind}
use Rattle.wac_types_shapes.specs.declared.shapes.component.ItemKind.TheVariants as kind
use Rattle.wac_types_shapes.specs.declared.shapes.component.InterfaceId.{InterfaceId}
use Rattle.wac_types_shapes.proofs.lemmas.shapes.Names.{take_at, same_name-from}
use Rattle.std.proofs.lemmas.Bool.{cases_Bool}
use Rattle.wac_merge_classes.specs.entries.Agreement.{LeadsApart, below, AgreesAt}
use Rattle.wac_merge_tables.specs.private.tables.Nodes.{Node, Item, item_tree, listed_tree, tree_at, IsTable}
use Rattle.wac_merge_agreement.specs.private.agreeing.Fitting.{exports_of}
use Rattle.wac_merge_agreement.specs.private.agreeing.Apart.{ItemsAgree}
use Rattle.wac_merge_agreement.specs.private.agreement.Shapes.{IsShaped, IsOfKind, AgreeUnder, IsNextListed}
use Rattle.wac_merge_classes.proofs.lemmas.terms.Found.{some_same, no_some, find_at}
use Rattle.wac_merge_agreement.proofs.lemmas.agreeing.Comparing.{all_at, listed_find, item_there, open_tree, agree_open}
use Rattle.wac_merge_classes.proofs.lemmas.terms.Alike.{agree_at}

-- ---- listings
pub all_before : {A : Type 0} (P : A → Type 0) (xs : List A) (i : ℕ) (x : A) → slice_get xs i ≡ Some x → AllByRecursion P (take i xs) → P x → AllByRecursion P (take (i + 1) xs)
all_before P xs i x at h last = rw (add-one, take_at xs i x at) (pushed (take i xs) h) where
  pushed : (ys : List _) → AllByRecursion P ys → AllByRecursion P (ys ++ x ∷ [])
  pushed [] h = (last, tt)
  pushed (y ∷ ys) h = (h.0, pushed ys h.1)

pub split_at : {A : Type 0} (xs : List A) (i : ℕ) (x : A) → slice_get xs i ≡ Some x → (after : List A) × (xs ≡ take i xs ++ x ∷ after)
split_at [] i x at = absurd (no_some x at)
split_at (y ∷ xs) zero x at = (xs, ap (λ z. z ∷ xs) (some_same y x at))
split_at (y ∷ xs) (suc i) x at = let (after, is) = split_at xs i x at in (after, ap (λ l. y ∷ l) is)

-- something is found under a name that stands in a listing
find_there : {V : Type 0} (es : List (Name × V)) (q : ℕ) (e : Name × V) → slice_get es q ≡ Some e → (v : V) × (find_name es e.0 ≡ Some v)
find_there [] q e at = absurd (no_some e at)
find_there (y ∷ es) zero e at = (y.1, ap (λ b. if b then Some y.1 else find_name es e.0) (same_name-from e.0 y.0 (ap (λ z. z.0) (sym (some_same y e at)))))
find_there (y ∷ es) (suc q) e at = elim (cases_Bool (same_name e.0 y.0)) [
  | inl t ↦ (y.1, ap (λ b. if b then Some y.1 else find_name es e.0) t)
  | inr f ↦ let (v, is) = find_there es q e at in (v, ap (λ b. if b then Some y.1 else find_name es e.0) f ∙ is)
]

at_first : {A : Type 0} (xs ys : List A) (k : ℕ) (x : A) → slice_get xs k ≡ Some x → slice_get (xs ++ ys) k ≡ Some x
at_first [] ys k x at = absurd (no_some x at)
at_first (z ∷ xs) ys zero x at = at
at_first (z ∷ xs) ys (suc k) x at = at_first xs ys k x at

all_indexed : {A : Type 0} {P Q : A → Type 0} (xs : List A) → ((k : ℕ) (x : A) → slice_get xs k ≡ Some x → P x → Q x) → AllByRecursion P xs → AllByRecursion Q xs
all_indexed [] f h = tt
all_indexed (x ∷ xs) f h = (f 0 x refl h.0, all_indexed xs (λ k y at. f (suc k) y at) h.1)

some_of : {A : Type 0} (o : Option A) → IsSome o → (x : A) × (o ≡ Some x)
some_of None h = cc h
some_of (Some x) h = (x, refl)

-- ---- trees of a kind
is_absent : (t : TypeTree Called) → (t ≡ absent) ⊎ (t ≡ absent → ⊥)
is_absent absent = inl refl
is_absent _ = inr (λ e. cc e)

-- what is of a kind is shaped
pub of_kind_shaped : (c : Collection) (t : TypeTree Called) (k : ItemKind) → IsOfKind c t k → IsShaped t
of_kind_shaped c (instance_item (instance g)) (kind.Instance i) h = λ n. at n (is_absent (g n)) (λ k of. of_kind_shaped c (g n) k of) where
  at : (n : Name) → (g n ≡ absent) ⊎ (g n ≡ absent → ⊥) → ((k : ItemKind) → IsOfKind c (g n) k → IsShaped (g n)) → IsShaped (g n)
  at n (inl gone) _ = subst (λ t. IsShaped t) (sym gone) tt
  at n (inr there) on =
      let (k, is) = some_of (find_name (interface_exports c i) n) (h.1 n there) in
      on k (h.2 n k is).1
of_kind_shaped c (instance_item (instance g)) _ h = absurd h
of_kind_shaped c (instance_item _) k h = h
of_kind_shaped c _ k h = tt

module _ (c : Collection) (ns : List Node) (table : IsTable ns) where
  module _ (x y : Item) (es fs : List (Name × Item)) (i : InterfaceId) (open_x : exports_of ns x ≡ Some es) (open_y : exports_of ns y ≡ Some fs) (of : IsOfKind c (item_tree (tree_at ns) y) (kind.Instance i)) where
    abbrev f : Name → TypeTree Called
    f = listed_tree (tree_at ns) es

    abbrev g : Name → TypeTree Called
    g = listed_tree (tree_at ns) fs

    opened : IsOfKind c (instance_item (instance g)) (kind.Instance i)
    opened = subst (λ t. IsOfKind c t (kind.Instance i)) (open_tree ns table y fs open_y) of

    in_f : (n : Name) (o : Option Item) → find_name es n ≡ o → f n ≡ option_case o absent (item_tree (tree_at ns))
    in_f n o is = listed_find (tree_at ns) es n ∙ ap (λ r. option_case r absent (item_tree (tree_at ns))) is

    in_g : (n : Name) (o : Option Item) → find_name fs n ≡ o → g n ≡ option_case o absent (item_tree (tree_at ns))
    in_g n o is = listed_find (tree_at ns) fs n ∙ ap (λ r. option_case r absent (item_tree (tree_at ns))) is

    pub all_agree : AllByRecursion (λ e. AgreeUnder ns es fs e.0) (interface_exports c i) → ItemsAgree ns x y
    all_agree all = agree_open ns table x y es fs open_x open_y under where
      under : (n : Name) (a b : Item) → find_name es n ≡ Some a → find_name fs n ≡ Some b → ItemsAgree ns a b
      under n a b found also =
          let (k, is) = some_of (find_name (interface_exports c i) n) (opened.1 n (λ gone. item_there (tree_at ns) b (sym (in_g n (Some b) also) ∙ gone))) in
          let (q, at) = find_at (interface_exports c i) n k is in
          all_at (λ (e : Name × ItemKind). AgreeUnder ns es fs e.0) (interface_exports c i) q (n, k) all at a b found also

    pub shaped_under : (n : Name) (a : Item) → find_name es n ≡ Some a → IsShaped (item_tree (tree_at ns) x) → IsShaped (item_tree (tree_at ns) a)
    shaped_under n a found shaped = subst (λ t. IsShaped t) (in_f n (Some a) found) (all n) where
      all : IsShaped (instance_item (instance f))
      all = subst (λ t. IsShaped t) (open_tree ns table x es open_x) shaped

    pub of_kind_under : (n : Name) (b : Item) (k : ItemKind) → find_name fs n ≡ Some b → find_name (interface_exports c i) n ≡ Some k → IsOfKind c (item_tree (tree_at ns) b) k
    of_kind_under n b k found listed = subst (λ t. IsOfKind c t k) (in_g n (Some b) found) (opened.2 n k listed).1

    module _ (n : Name) (a b : Item) (k : ItemKind) (next : IsNextListed ns es fs (interface_exports c i) n a b k) where
      agrees_at : (q : ℕ) (e : Name × ItemKind) → slice_get next.before q ≡ Some e → AgreeUnder ns es fs e.0 → AgreesAt f g e
      agrees_at q e at agree = go (find_name es e.0) (find_name fs e.0) refl refl where
        there : g e.0 ≡ absent → ⊥
        there =
            let (l, is) = find_there (interface_exports c i) q e (ap (λ l. slice_get l q) next.order ∙ at_first next.before ((n, k) ∷ next.after) q e at) in
            (opened.2 e.0 l is).0

        go : (o r : Option Item) → find_name es e.0 ≡ o → find_name fs e.0 ≡ r → AgreesAt f g e
        go None r is also = inl (in_f e.0 None is)
        go (Some a') None is also = absurd (there (in_g e.0 None also))
        go (Some a') (Some b') is also = inr (agree_at (f e.0) (g e.0) (item_tree (tree_at ns) a') (item_tree (tree_at ns) b') (in_f e.0 (Some a') is) (in_g e.0 (Some b') also) (agree a' b' is also))

      apart_here : AgreesAt f g (n, k) → ⊥
      apart_here (inl gone) = item_there (tree_at ns) a (sym (in_f n (Some a) next.under.in_first) ∙ gone)
      apart_here (inr agree) =
          next.under.apart (agree_at (item_tree (tree_at ns) a) (item_tree (tree_at ns) b) (f n) (g n) (sym (in_f n (Some a) next.under.in_first)) (sym (in_g n (Some b) next.under.in_second)) agree)

      pub leads_on : (names : List Name) → LeadsApart c (item_tree (tree_at ns) a) (item_tree (tree_at ns) b) k names → LeadsApart c (item_tree (tree_at ns) x) (item_tree (tree_at ns) y) (kind.Instance i) (n ∷ names)
      leads_on names leads =
          subst (λ t. LeadsApart c t (item_tree (tree_at ns) y) (kind.Instance i) (n ∷ names)) (sym (open_tree ns table x es open_x))
          (subst (λ u. LeadsApart c (instance_item (instance f)) u (kind.Instance i) (n ∷ names)) (sym (open_tree ns table y fs open_y))
          (below f g i next.before next.after (n, k) names next.order (all_indexed next.before agrees_at next.agree) apart_here
          (subst (λ t. LeadsApart c t (g n) k names) (sym (in_f n (Some a) next.under.in_first)) (subst (λ u. LeadsApart c (item_tree (tree_at ns) a) u k names) (sym (in_g n (Some b) next.under.in_second)) leads))))

-- ---- what a call gave
pub match_some : {A : Type 0} (Q : Type 0) (P : A → Type 0) (o : Option A) (x : A) → MatchOption o Q P → o ≡ Some x → P x
match_some Q P None x h e = absurd (no_some x e)
match_some Q P (Some y) x h e = subst P (some_same y x e) h

pub match_none : {A : Type 0} (Q : Type 0) (P : A → Type 0) (o : Option A) → MatchOption o Q P → ((x : A) → o ≡ Some x → ⊥) → Q
match_none Q P None h never = h
match_none Q P (Some y) h never = absurd (never y refl)

pub is_none : {A : Type 0} (o : Option A) → ((x : A) → o ≡ Some x → ⊥) → o ≡ None
is_none None never = refl
is_none (Some x) never = absurd (never x refl)

pub match_on : {A : Type 0} (Q R : Type 0) (P S : A → Type 0) (o : Option A) → (Q → R) → ((x : A) → P x → S x) → MatchOption o Q P → MatchOption o R S
match_on Q R P S None f g h = f h
match_on Q R P S (Some x) f g h = g x h

pub if_ok : {T E : Type 0} (P Q : T → Type 0) (r : Result T E) → ((x : T) → P x → Q x) → IfOk r P → IfOk r Q
if_ok P Q (Ok x) f h = f x h
if_ok P Q (Err e) f h = h

pub map_pushed : {A B : Type 0} (f : A → B) (xs : List A) (x : A) (ys : List B) → map f (xs ++ x ∷ []) ++ ys ≡ map f xs ++ f x ∷ ys
map_pushed f [] x ys = refl
map_pushed f (z ∷ xs) x ys = ap (λ l. f z ∷ l) (map_pushed f xs x ys)

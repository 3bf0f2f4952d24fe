-- Items agree name by name.
use Rattle.std.proofs.Common.{◌≡◌, ℕ, zero, suc, ◌<◌, List, [], ◌∷◌, ◌⊎◌, inl, inr, length, Option, Some, None, refl, ap, sym, ◌∙◌, subst, arith, if◌then◌else◌}
use Rattle.std.specs.Prelude.{slice_get}
use Rattle.std.specs.List.{AllByRecursion}
use Rattle.std.proofs.lemmas.Bool.{cases_Bool}
use Rattle.std.specs.Ordering.{nat_cmp, ordering_reverse}
use Rattle.std.specs.declared.cmp.Ordering.{Ordering}
use Rattle.std.specs.declared.cmp.Ordering.TheVariants.{Less, Equal, Greater}
use Rattle.std.specs.Cmp.Lexicographic.{slice_cmp, nat_list_cmp_total}
use Rattle.wac_types_shapes.specs.primitives.Name.{Name, same_name, find_name, option_case}
use Rattle.wac_types_shapes.specs.primitives.Tree.{TypeTree, absent, instance, type_equal, function_item, instance_item, component_item, module_item, value_item}
use Rattle.wac_types_collection.specs.subtyping.Called.{Called}
use Rattle.wac_types_shapes.proofs.lemmas.shapes.Names.{same_name-true, same_name-refl}
use Rattle.wac_merge_classes.specs.entries.Agreement.{Agree}
use Rattle.wac_merge_tables.specs.private.tables.Nodes.{Node, of_resource, of_primitive, of_own, of_borrow, of_record, of_variant, of_list, of_fixed_list, of_tuple, of_flags, of_enum, of_option, of_result, of_stream, of_future, of_function, of_instance, of_component, of_module, Item, a_type, a_func, an_instance, a_component, a_module, a_value, type_of, types_of, item_tree, listed_tree, Sorted, node_tree, tree_to, tree_at, IsTable}
use Rattle.wac_merge_agreement.specs.private.agreeing.Fitting.{exports_in, exports_of, IsOpen, Fits}
use Rattle.wac_merge_agreement.specs.private.agreeing.Apart.{ItemsAgree}
use Rattle.wac_merge_tables.proofs.lemmas.tables.SortedMaps.{items_are, found_are}
use Rattle.wac_merge_classes.proofs.lemmas.terms.Alike.{agree_at, agree_itself}
use Rattle.wac_merge_classes.proofs.lemmas.terms.Found.{no_some, some_same}
use Rattle.wac_merge_tables.proofs.lemmas.tables.NodeLaws.{same_tree, deep, one_tree}

agree_equal : (t u : TypeTree Called) → t ≡ u → Agree t u
agree_equal t u e = subst (λ x. Agree t x) e (agree_itself t)

-- nodes that are not both instances agree where they are equal
node_agree : (t u : ℕ → TypeTree Called) (n m : Node) → ((es : List (Name × Item)) → exports_in n ≡ Some es → (fs : List (Name × Item)) → exports_in m ≡ Some fs → ⊥) → Agree (node_tree t n) (node_tree u m) → node_tree t n ≡ node_tree u m
node_agree t u (of_instance es) (of_instance fs) never h = absurd (never es refl fs refl)
node_agree t u (of_instance es) (of_resource r) never h = h
node_agree t u (of_instance es) (of_primitive r) never h = h
node_agree t u (of_instance es) (of_own r) never h = h
node_agree t u (of_instance es) (of_borrow r) never h = h
node_agree t u (of_instance es) (of_record r) never h = h
node_agree t u (of_instance es) (of_variant r) never h = h
node_agree t u (of_instance es) (of_list r) never h = h
node_agree t u (of_instance es) (of_fixed_list k r) never h = h
node_agree t u (of_instance es) (of_tuple r) never h = h
node_agree t u (of_instance es) (of_flags r) never h = h
node_agree t u (of_instance es) (of_enum r) never h = h
node_agree t u (of_instance es) (of_option r) never h = h
node_agree t u (of_instance es) (of_result a b) never h = h
node_agree t u (of_instance es) (of_stream r) never h = h
node_agree t u (of_instance es) (of_future r) never h = h
node_agree t u (of_instance es) (of_function i ps r) never h = h
node_agree t u (of_instance es) (of_component is xs) never h = h
node_agree t u (of_instance es) (of_module is xs) never h = h
node_agree t u (of_resource r) m never h = h
node_agree t u (of_primitive r) m never h = h
node_agree t u (of_own r) m never h = h
node_agree t u (of_borrow r) m never h = h
node_agree t u (of_record r) m never h = h
node_agree t u (of_variant r) m never h = h
node_agree t u (of_list r) m never h = h
node_agree t u (of_fixed_list k r) m never h = h
node_agree t u (of_tuple r) m never h = h
node_agree t u (of_flags r) m never h = h
node_agree t u (of_enum r) m never h = h
node_agree t u (of_option r) m never h = h
node_agree t u (of_result a b) m never h = h
node_agree t u (of_stream r) m never h = h
node_agree t u (of_future r) m never h = h
node_agree t u (of_function i ps r) m never h = h
node_agree t u (of_component is xs) m never h = h
node_agree t u (of_module is xs) m never h = h

-- ---- what stands under a name
-- what holds of each stands of what is found
pub all_find : {V : Type 0} (P : V → Type 0) (es : List (Name × V)) (n : Name) (x : V) → AllByRecursion (λ e. P e.1) es → find_name es n ≡ Some x → P x
all_find P [] n x h e = absurd (no_some x e)
all_find P (y ∷ es) n x h e = elim (cases_Bool (same_name n y.0)) [
  | inl t ↦ subst P (some_same y.1 x (sym (ap (λ b. if b then Some y.1 else find_name es n) t) ∙ e)) h.0
  | inr f ↦ all_find P es n x h.1 (sym (ap (λ b. if b then Some y.1 else find_name es n) f) ∙ e)
]

pub all_at : {A : Type 0} (P : A → Type 0) (xs : List A) (k : ℕ) (x : A) → AllByRecursion P xs → slice_get xs k ≡ Some x → P x
all_at P [] k x h e = absurd (no_some x e)
all_at P (y ∷ xs) zero x h e = subst P (some_same y x e) h.0
all_at P (y ∷ xs) (suc k) x h e = all_at P xs k x h.1 e

-- what holds at each position holds of all
pub all_from : {A : Type 0} (P : A → Type 0) (xs : List A) → ((k : ℕ) (x : A) → slice_get xs k ≡ Some x → P x) → AllByRecursion P xs
all_from P [] h = tt
all_from P (x ∷ xs) h = (h 0 x refl, all_from P xs (λ k y at. h (suc k) y at))

pub never_less : (a : Name) → slice_cmp nat_cmp a a ≡ Less → ⊥
never_less a e = split (slice_cmp nat_cmp a a) (nat_list_cmp_total.antisymm a a) e where
  split : (r : Ordering) → r ≡ ordering_reverse r → r ≡ Less → ⊥
  split Less s _ = cc
  split Equal s e = cc
  split Greater s e = cc

-- what stands in a sorted list is found
pub at_find : {V : Type 0} (es : List (Name × V)) (k : ℕ) (n : Name) (x : V) → Sorted es → slice_get es k ≡ Some (n, x) → find_name es n ≡ Some x
at_find [] k n x h e = absurd (no_some (n, x) e)
at_find (y ∷ es) zero n x h e =
    let same : y ≡ (n, x) = some_same y (n, x) e in
    subst (λ z. find_name (z ∷ es) n ≡ Some x) (sym same) (ap (λ b. if b then Some x else find_name es n) (same_name-refl n))
at_find (y ∷ es) (suc k) n x h e = elim (cases_Bool (same_name n y.0)) [
  | inl t ↦
      let less : slice_cmp nat_cmp y.0 n ≡ Less = all_at (λ z. slice_cmp nat_cmp y.0 z.0 ≡ Less) es k (n, x) h.0 e in
      absurd (never_less n (subst (λ m. slice_cmp nat_cmp m n ≡ Less) (sym (same_name-true n y.0 t)) less))
  | inr f ↦ ap (λ b. if b then Some y.1 else find_name es n) f ∙ at_find es k n x h.1 e
]

pub listed_find : (t : ℕ → TypeTree Called) (es : List (Name × Item)) (n : Name) → listed_tree t es n ≡ option_case (find_name es n) absent (item_tree t)
listed_find t es n = items_are (item_tree t) es n ∙ sym (found_are absent (item_tree t) es n)

pub item_there : (t : ℕ → TypeTree Called) (a : Item) → item_tree t a ≡ absent → ⊥
item_there t (a_type n) e = cc
item_there t (a_func n) e = cc
item_there t (an_instance n) e = cc
item_there t (a_component n) e = cc
item_there t (a_module n) e = cc
item_there t (a_value n) e = cc

-- ---- exports
pub open_instance : (ns : List Node) (x : Item) (es : List (Name × Item)) → exports_of ns x ≡ Some es → x ≡ an_instance (type_of x)
open_instance ns (a_type n) es e = absurd (no_some es e)
open_instance ns (a_func n) es e = absurd (no_some es e)
open_instance ns (an_instance n) es e = refl
open_instance ns (a_component n) es e = absurd (no_some es e)
open_instance ns (a_module n) es e = absurd (no_some es e)
open_instance ns (a_value n) es e = absurd (no_some es e)

exports_node : (n : Node) (es : List (Name × Item)) → exports_in n ≡ Some es → n ≡ of_instance es
exports_node (of_instance fs) es e = ap of_instance (some_same fs es e)
exports_node _ es e = cc e

-- the node of an instance
pub open_node : (ns : List Node) (m : ℕ) (es : List (Name × Item)) → exports_of ns (an_instance m) ≡ Some es → slice_get ns m ≡ Some (of_instance es)
open_node ns m es e = go (slice_get ns m) e where
  go : (o : Option Node) → option_case o None exports_in ≡ Some es → o ≡ Some (of_instance es)
  go None e = absurd (no_some es e)
  go (Some n) e = ap Some (exports_node n es e)

pub all_of : {A : Type 0} {P Q : A → Type 0} → ((m : A) → P m → Q m) → (ns : List A) → AllByRecursion P ns → AllByRecursion Q ns
all_of f [] h = tt
all_of f (n ∷ ns) h = (f n h.0, all_of f ns h.1)

pub all_types : (P : ℕ → Type 0) (es : List (Name × Item)) → AllByRecursion P (types_of es) → AllByRecursion (λ e. P (type_of e.1)) es
all_types P [] h = tt
all_types P (e ∷ es) h = (h.0, all_types P es h.1)

module _ (ns : List Node) (table : IsTable ns) where
  -- the exports of an instance are sorted and lower
  pub open_sorted : (x : Item) (es : List (Name × Item)) → exports_of ns x ≡ Some es → Sorted es
  open_sorted x es e = table.sorted (type_of x) (of_instance es) (open_node ns (type_of x) es (ap (exports_of ns) (sym (open_instance ns x es e)) ∙ e))

  pub open_lower : (x : Item) (es : List (Name × Item)) → exports_of ns x ≡ Some es → AllByRecursion (λ e. type_of e.1 < type_of x) es
  open_lower x es e =
      all_types (λ m. m < type_of x) es (table.lower (type_of x) (of_instance es) (open_node ns (type_of x) es (ap (exports_of ns) (sym (open_instance ns x es e)) ∙ e)))

  pub child_lower : (x y : Item) (es : List (Name × Item)) (n : Name) → exports_of ns x ≡ Some es → find_name es n ≡ Some y → type_of y < type_of x
  child_lower x y es n e f = all_find (λ z. type_of z < type_of x) es n y (open_lower x es e) f

  instance_tree : (m : ℕ) (es : List (Name × Item)) → slice_get ns m ≡ Some (of_instance es) → tree_at ns m ≡ instance (listed_tree (tree_at ns) es)
  instance_tree m es at =
      ap (λ o. option_case o absent (node_tree (tree_to m ns))) at
      ∙ same_tree (tree_to m ns) (tree_at ns) (of_instance es) (all_of (λ k (low : k < m). deep ns table m (suc k) k low (omega arith)) (types_of es) (table.lower m (of_instance es) at))

  pub open_tree : (x : Item) (es : List (Name × Item)) → exports_of ns x ≡ Some es → item_tree (tree_at ns) x ≡ instance_item (instance (listed_tree (tree_at ns) es))
  open_tree x es e =
      let is = open_instance ns x es e in
      ap (item_tree (tree_at ns)) is ∙ ap instance_item (instance_tree (type_of x) es (open_node ns (type_of x) es (ap (exports_of ns) (sym is) ∙ e)))

  -- instances agree where what both export agrees
  pub agree_open : (x y : Item) (es fs : List (Name × Item)) → exports_of ns x ≡ Some es → exports_of ns y ≡ Some fs
      → ((n : Name) (a b : Item) → find_name es n ≡ Some a → find_name fs n ≡ Some b → ItemsAgree ns a b) → ItemsAgree ns x y
  agree_open x y es fs e f all =
      agree_at (item_tree (tree_at ns) x) (item_tree (tree_at ns) y) (instance_item (instance (listed_tree (tree_at ns) es))) (instance_item (instance (listed_tree (tree_at ns) fs))) (open_tree x es e) (open_tree y fs f)
      (λ n. at n (find_name es n) (find_name fs n) refl refl) where
        at : (n : Name) (o p : Option Item) → find_name es n ≡ o → find_name fs n ≡ p
            → (listed_tree (tree_at ns) es n ≡ absent) ⊎ ((listed_tree (tree_at ns) fs n ≡ absent) ⊎ Agree (listed_tree (tree_at ns) es n) (listed_tree (tree_at ns) fs n))
        at n None p is also = inl (listed_find (tree_at ns) es n ∙ ap (λ o. option_case o absent (item_tree (tree_at ns))) is)
        at n (Some a) None is also = inr (inl (listed_find (tree_at ns) fs n ∙ ap (λ o. option_case o absent (item_tree (tree_at ns))) also))
        at n (Some a) (Some b) is also = inr (inr (
            agree_at (listed_tree (tree_at ns) es n) (listed_tree (tree_at ns) fs n) (item_tree (tree_at ns) a) (item_tree (tree_at ns) b)
            (listed_find (tree_at ns) es n ∙ ap (λ o. option_case o absent (item_tree (tree_at ns))) is)
            (listed_find (tree_at ns) fs n ∙ ap (λ o. option_case o absent (item_tree (tree_at ns))) also)
            (all n a b is also)))

  -- and only there
  pub open_agree : (x y a b : Item) (es fs : List (Name × Item)) (n : Name) → exports_of ns x ≡ Some es → exports_of ns y ≡ Some fs → ItemsAgree ns x y
      → find_name es n ≡ Some a → find_name fs n ≡ Some b → ItemsAgree ns a b
  open_agree x y a b es fs n e f agree is also = at (both n) where
    both : Agree (instance_item (instance (listed_tree (tree_at ns) es))) (instance_item (instance (listed_tree (tree_at ns) fs)))
    both =
        agree_at (instance_item (instance (listed_tree (tree_at ns) es))) (instance_item (instance (listed_tree (tree_at ns) fs))) (item_tree (tree_at ns) x) (item_tree (tree_at ns) y)
        (sym (open_tree x es e)) (sym (open_tree y fs f)) agree

    first : listed_tree (tree_at ns) es n ≡ item_tree (tree_at ns) a
    first = listed_find (tree_at ns) es n ∙ ap (λ o. option_case o absent (item_tree (tree_at ns))) is

    second : listed_tree (tree_at ns) fs n ≡ item_tree (tree_at ns) b
    second = listed_find (tree_at ns) fs n ∙ ap (λ o. option_case o absent (item_tree (tree_at ns))) also

    at : (listed_tree (tree_at ns) es n ≡ absent) ⊎ ((listed_tree (tree_at ns) fs n ≡ absent) ⊎ Agree (listed_tree (tree_at ns) es n) (listed_tree (tree_at ns) fs n)) → ItemsAgree ns a b
    at (inl none) = absurd (item_there (tree_at ns) a (sym first ∙ none))
    at (inr (inl none)) = absurd (item_there (tree_at ns) b (sym second ∙ none))
    at (inr (inr h)) =
        agree_at (item_tree (tree_at ns) a) (item_tree (tree_at ns) b) (listed_tree (tree_at ns) es n) (listed_tree (tree_at ns) fs n) (sym first) (sym second) h

  -- items of equal trees are equal
  pub one_item : (x y : Item) → type_of x < length ns → type_of y < length ns → item_tree (tree_at ns) x ≡ item_tree (tree_at ns) y → x ≡ y
  one_item (a_type n) (a_type m) p q e = ap a_type (one_tree ns table n m p q (inner (tree_at ns n) (tree_at ns m) e)) where
    inner : (t u : TypeTree Called) → type_equal t ≡ type_equal u → t ≡ u
    inner t u e = cc
  one_item (a_func n) (a_func m) p q e = ap a_func (one_tree ns table n m p q (inner (tree_at ns n) (tree_at ns m) e)) where
    inner : (t u : TypeTree Called) → function_item t ≡ function_item u → t ≡ u
    inner t u e = cc
  one_item (an_instance n) (an_instance m) p q e = ap an_instance (one_tree ns table n m p q (inner (tree_at ns n) (tree_at ns m) e)) where
    inner : (t u : TypeTree Called) → instance_item t ≡ instance_item u → t ≡ u
    inner t u e = cc
  one_item (a_component n) (a_component m) p q e = ap a_component (one_tree ns table n m p q (inner (tree_at ns n) (tree_at ns m) e)) where
    inner : (t u : TypeTree Called) → component_item t ≡ component_item u → t ≡ u
    inner t u e = cc
  one_item (a_module n) (a_module m) p q e = ap a_module (one_tree ns table n m p q (inner (tree_at ns n) (tree_at ns m) e)) where
    inner : (t u : TypeTree Called) → module_item t ≡ module_item u → t ≡ u
    inner t u e = cc
  one_item (a_value n) (a_value m) p q e = ap a_value (one_tree ns table n m p q (inner (tree_at ns n) (tree_at ns m) e)) where
    inner : (t u : TypeTree Called) → value_item t ≡ value_item u → t ≡ u
    inner t u e = cc
  one_item _ _ p q e = cc e

  tree_agree : (n m : ℕ) → (IsOpen ns (an_instance n) → IsOpen ns (an_instance m) → ⊥) → Agree (tree_at ns n) (tree_at ns m) → tree_at ns n ≡ tree_at ns m
  tree_agree n m never h = go (slice_get ns n) (slice_get ns m) (λ es e fs f. never (es, e) (fs, f)) h where
    go : (o p : Option Node) → ((es : List (Name × Item)) → option_case o None exports_in ≡ Some es → (fs : List (Name × Item)) → option_case p None exports_in ≡ Some fs → ⊥)
        → Agree (option_case o absent (node_tree (tree_to n ns))) (option_case p absent (node_tree (tree_to m ns))) → option_case o absent (node_tree (tree_to n ns)) ≡ option_case p absent (node_tree (tree_to m ns))
    go None p never h = h
    go (Some (of_instance es)) None never h = h
    go (Some N) None never h = first N h where
      first : (N : Node) → Agree (node_tree (tree_to n ns) N) absent → node_tree (tree_to n ns) N ≡ absent
      first (of_instance es) h = h
      first _ h = h
    go (Some N) (Some M) never h = node_agree (tree_to n ns) (tree_to m ns) N M never h

  -- items that are not both instances agree only where they are equal
  pub agree_closed : (x y : Item) → type_of x < length ns → type_of y < length ns → (IsOpen ns x → IsOpen ns y → ⊥) → ItemsAgree ns x y → x ≡ y
  agree_closed (an_instance n) (an_instance m) p q never h = one_item (an_instance n) (an_instance m) p q (ap instance_item (tree_agree n m never h))
  agree_closed (an_instance n) (a_type m) p q never h = cc h
  agree_closed (an_instance n) (a_func m) p q never h = cc h
  agree_closed (an_instance n) (a_component m) p q never h = cc h
  agree_closed (an_instance n) (a_module m) p q never h = cc h
  agree_closed (an_instance n) (a_value m) p q never h = cc h
  agree_closed (a_type n) y p q never h = one_item (a_type n) y p q h
  agree_closed (a_func n) y p q never h = one_item (a_func n) y p q h
  agree_closed (a_component n) y p q never h = one_item (a_component n) y p q h
  agree_closed (a_module n) y p q never h = one_item (a_module n) y p q h
  agree_closed (a_value n) y p q never h = one_item (a_value n) y p q h

  pub agree_same : (x y : Item) → x ≡ y → ItemsAgree ns x y
  agree_same x y e = agree_equal (item_tree (tree_at ns) x) (item_tree (tree_at ns) y) (ap (item_tree (tree_at ns)) e)

  -- items that do not fit do not agree
  pub unfit_apart : (x y : Item) → type_of x < length ns → type_of y < length ns → (Fits ns x y → ⊥) → ItemsAgree ns x y → ⊥
  unfit_apart x y p q never h = never (inl (agree_closed x y p q (λ a b. never (inr (a, b))) h))

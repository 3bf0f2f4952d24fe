-- What a node reaches is what it names itself and what its parts reach.
use Rattle.std.proofs.Common.{◌≡◌, ℕ, zero, suc, ◌<◌, ◌≤◌, Bool, true, false, if◌then◌else◌, List, [], ◌∷◌, ◌++◌, length, map, Option, Some, None, refl, ap, sym, ◌⊎◌, inl, inr, subst, arith}
use Rattle.std.specs.Prelude.{slice_get, ◌↔◌}
use Rattle.std.specs.List.{All, AllByRecursion}
use Rattle.std.specs.Ordering.{nat_cmp}
use Rattle.std.specs.Cmp.Lexicographic.{slice_cmp}
use Rattle.std.specs.declared.cmp.Ordering.TheVariants.{Less, Equal}
use Rattle.std.proofs.lemmas.Cmp.{tied_itself, nat_list_cmp_total}
use Rattle.wac_types_shapes.proofs.lemmas.shapes.Names.{same_name-true, same_name-refl}
use Rattle.wac_types_shapes.specs.primitives.Name.{Name, same_name, option_case}
use Rattle.wac_types_shapes.specs.primitives.Tree.{TypeTree, absent, resource, own, borrow, record_of, variant_of, list_of, fixed_list_of, tuple_of, option_of, result_of, stream_of, future_of, function, instance, type_equal, function_item, instance_item, component_item, module_item, value_item}
use Rattle.wac_types_collection.specs.subtyping.Called.{Called, of_class, bound_at, itself}
use Rattle.wac_types_collection.specs.collection.Held.{part_at}
use Rattle.wac_merge_tables.specs.private.tables.Nodes.{Node, of_resource, of_primitive, of_own, of_borrow, of_record, of_variant, of_list, of_fixed_list, of_tuple, of_flags, of_enum, of_option, of_result, of_stream, of_future, of_function, of_instance, of_component, of_module, Item, a_type, a_func, an_instance, a_component, a_module, a_value, type_of, types_of, item_tree, listed_tree, Sorted, IsSorted, and_optional, optionals, seconds, mentions, optional_tree, node_tree, tree_to, tree_at, IsTable}
use Rattle.wac_merge_agreement.specs.private.agreement.Reach.{Reaches, as_resource, as_own, as_borrow, in_field, in_case, in_list, in_fixed_list, in_tuple, in_option, in_ok, in_err, in_stream, in_future, in_parameter, in_result, in_instance, in_type_item, in_function_item, in_instance_item, in_component_item, in_module_item, in_value_item, IsOfClass}
use Rattle.wac_merge_agreement.specs.private.agreement.ReachSteps.{class_of, node_class, parts, AreReached}
use Rattle.wac_edges.specs.private.Arranging.{with_all}
use Rattle.wac_edges.specs.private.cycles.Numbers.{Has}
use Rattle.wac_edges.proofs.KeySets.{In, has_all, all_old, all_new, above, above_le, above_last, below_all, below_others}
use Rattle.wac_edges.proofs.lemmas.cycles.Numbers.{has_front, has_last, has_either}
use Rattle.wac_merge_tables.proofs.lemmas.tables.NodeLaws.{deep}

-- ---- what reaching means at each shape
module _ {L : Type 0} (P : L → Type 0) where
  abbrev pub Inside : TypeTree L → Type 0
  Inside (resource l) = P l
  Inside (own l) = P l
  Inside (borrow l) = P l
  Inside (record_of names ts) = (i : ℕ) × Reaches P (ts i)
  Inside (variant_of names ts) = (i : ℕ) × Reaches P (ts i)
  Inside (list_of t) = Reaches P t
  Inside (fixed_list_of n t) = Reaches P t
  Inside (tuple_of n ts) = (i : ℕ) × Reaches P (ts i)
  Inside (option_of t) = Reaches P t
  Inside (result_of t u) = Reaches P t ⊎ Reaches P u
  Inside (stream_of t) = Reaches P t
  Inside (future_of t) = Reaches P t
  Inside (function is_async names ts t) = ((i : ℕ) × Reaches P (ts i)) ⊎ Reaches P t
  Inside (instance exports) = (n : Name) × Reaches P (exports n)
  Inside (type_equal t) = Reaches P t
  Inside (function_item t) = Reaches P t
  Inside (instance_item t) = Reaches P t
  Inside (component_item t) = Reaches P t
  Inside (module_item t) = Reaches P t
  Inside (value_item t) = Reaches P t
  Inside _ = ⊥

  pub inside : (t : TypeTree L) → Reaches P t → Inside t
  inside t (as_resource l p) = p
  inside t (as_own l p) = p
  inside t (as_borrow l p) = p
  inside t (in_field names ts i h) = (i, h)
  inside t (in_case names ts i h) = (i, h)
  inside t (in_list u h) = h
  inside t (in_fixed_list n u h) = h
  inside t (in_tuple n ts i h) = (i, h)
  inside t (in_option u h) = h
  inside t (in_ok u v h) = inl h
  inside t (in_err u v h) = inr h
  inside t (in_stream u h) = h
  inside t (in_future u h) = h
  inside t (in_parameter is_async names ts u i h) = inl (i, h)
  inside t (in_result is_async names ts u h) = inr h
  inside t (in_instance exports n h) = (n, h)
  inside t (in_type_item u h) = h
  inside t (in_function_item u h) = h
  inside t (in_instance_item u h) = h
  inside t (in_component_item u h) = h
  inside t (in_module_item u h) = h
  inside t (in_value_item u h) = h

-- ---- what a node reaches
turned : (a b : Name) → slice_cmp nat_cmp a b ≡ Less → same_name b a ≡ false
turned a b less = split (same_name b a) refl where
  split : (t : Bool) → same_name b a ≡ t → t ≡ false
  split true one =
      let same : slice_cmp nat_cmp a a ≡ Less = subst (λ x. slice_cmp nat_cmp a x ≡ Less) (same_name-true b a one) less in
      let equal : slice_cmp nat_cmp a a ≡ Equal = tied_itself nat_list_cmp_total a in
      absurd (cc (same, equal))
  split false _ = refl

abbrev Among : {V : Type 0} → List (Name × V) → Name → Type 0
Among [] n = ⊥
Among (e ∷ es) n = (n ≡ e.0) ⊎ Among es n

among_all : {V : Type 0} (P : Name → Type 0) (es : List (Name × V)) (n : Name) → AllByRecursion (λ x. P x.0) es → Among es n → P n
among_all P [] n h w = absurd w
among_all P (e ∷ es) n h (inl is) = subst P (sym is) h.0
among_all P (e ∷ es) n h (inr w) = among_all P es n h.1 w

class_is : (b : ℕ) (r : Called) → IsOfClass b r → class_of r ≡ Some b
class_is b (of_class k path n) h = ap Some h
class_is b (bound_at l n) h = absurd h
class_is b (itself r n) h = absurd h

is_class : (b : ℕ) (r : Called) → class_of r ≡ Some b → IsOfClass b r
is_class b (of_class k path n) h = cc
is_class b (bound_at l n) h = cc
is_class b (itself r n) h = cc

module _ (t : ℕ → TypeTree Called) (b : ℕ) where
  abbrev R : TypeTree Called → Type 0
  R u = Reaches (IsOfClass b) u

  abbrev Part : List ℕ → Type 0
  Part ns = (m : ℕ) × In ns m × R (t m)

  nothing : R absent → ⊥
  nothing h = inside (IsOfClass b) absent h

  wider : (n : ℕ) (ns : List ℕ) → Part ns → Part (n ∷ ns)
  wider n ns (m, w, r) = (m, inr w, r)

  in_fields : (es : List (Name × ℕ)) (i : ℕ) → R (part_at (map (λ e. t e.1) es) i) → Part (seconds es)
  in_fields [] i h = absurd (nothing h)
  in_fields (e ∷ es) zero h = (e.1, inl refl, h)
  in_fields (e ∷ es) (suc i) h = wider e.1 (seconds es) (in_fields es i h)

  optional_head : (o : Option ℕ) (rest : List ℕ) → R (optional_tree t o) → Part (and_optional o rest)
  optional_head None rest h = absurd (nothing h)
  optional_head (Some n) rest h = (n, inl refl, h)

  optional_tail : (o : Option ℕ) (rest : List ℕ) → Part rest → Part (and_optional o rest)
  optional_tail None rest w = w
  optional_tail (Some n) rest w = wider n rest w

  in_cases : (es : List (Name × Option ℕ)) (i : ℕ) → R (part_at (map (λ e. optional_tree t e.1) es) i) → Part (optionals es)
  in_cases [] i h = absurd (nothing h)
  in_cases (e ∷ es) zero h = optional_head e.1 (optionals es) h
  in_cases (e ∷ es) (suc i) h = optional_tail e.1 (optionals es) (in_cases es i h)

  in_parts : (ns : List ℕ) (i : ℕ) → R (part_at (map t ns) i) → Part ns
  in_parts [] i h = absurd (nothing h)
  in_parts (n ∷ ns) zero h = (n, inl refl, h)
  in_parts (n ∷ ns) (suc i) h = wider n ns (in_parts ns i h)

  item_in : (x : Item) → R (item_tree t x) → R (t (type_of x))
  item_in (a_type n) h = inside (IsOfClass b) (type_equal (t n)) h
  item_in (a_func n) h = inside (IsOfClass b) (function_item (t n)) h
  item_in (an_instance n) h = inside (IsOfClass b) (instance_item (t n)) h
  item_in (a_component n) h = inside (IsOfClass b) (component_item (t n)) h
  item_in (a_module n) h = inside (IsOfClass b) (module_item (t n)) h
  item_in (a_value n) h = inside (IsOfClass b) (value_item (t n)) h

  item_out : (x : Item) → R (t (type_of x)) → R (item_tree t x)
  item_out (a_type n) h = in_type_item (t n) h
  item_out (a_func n) h = in_function_item (t n) h
  item_out (an_instance n) h = in_instance_item (t n) h
  item_out (a_component n) h = in_component_item (t n) h
  item_out (a_module n) h = in_module_item (t n) h
  item_out (a_value n) h = in_value_item (t n) h

  in_items : (es : List (Name × Item)) (n : Name) → R (listed_tree t es n) → Part (types_of es)
  in_items [] n h = absurd (nothing h)
  in_items (e ∷ es) n h = split (same_name n e.0) h (in_items es n) where
    split : (s : Bool) → R (if s then item_tree t e.1 else listed_tree t es n) → (R (listed_tree t es n) → Part (types_of es)) → Part (types_of (e ∷ es))
    split true g _ = (type_of e.1, inl refl, item_in e.1 g)
    split false g more = wider (type_of e.1) (types_of es) (more g)

  -- the class that a node names, or a part of it
  pub node_in : (n : Node) → R (node_tree t n) → (node_class n ≡ Some b) ⊎ Part (parts n)
  node_in (of_resource r) h = inl (class_is b r (inside (IsOfClass b) (resource r) h))
  node_in (of_own r) h = inl (class_is b r (inside (IsOfClass b) (own r) h))
  node_in (of_borrow r) h = inl (class_is b r (inside (IsOfClass b) (borrow r) h))
  node_in (of_record es) h = let (i, g) = inside (IsOfClass b) (node_tree t (of_record es)) h in inr (in_fields es i g)
  node_in (of_variant es) h = let (i, g) = inside (IsOfClass b) (node_tree t (of_variant es)) h in inr (in_cases es i g)
  node_in (of_tuple ns) h = let (i, g) = inside (IsOfClass b) (node_tree t (of_tuple ns)) h in inr (in_parts ns i g)
  node_in (of_list n) h = inr (n, inl refl, inside (IsOfClass b) (list_of (t n)) h)
  node_in (of_fixed_list k n) h = inr (n, inl refl, inside (IsOfClass b) (fixed_list_of k (t n)) h)
  node_in (of_option n) h = inr (n, inl refl, inside (IsOfClass b) (option_of (t n)) h)
  node_in (of_result ok err) h = inr (split (inside (IsOfClass b) (node_tree t (of_result ok err)) h)) where
    split : R (optional_tree t ok) ⊎ R (optional_tree t err) → Part (and_optional ok (and_optional err []))
    split (inl g) = optional_head ok (and_optional err []) g
    split (inr g) = optional_tail ok (and_optional err []) (optional_head err [] g)
  node_in (of_stream n) h = inr (optional_head n [] (inside (IsOfClass b) (stream_of (optional_tree t n)) h))
  node_in (of_future n) h = inr (optional_head n [] (inside (IsOfClass b) (future_of (optional_tree t n)) h))
  node_in (of_function is_async es result) h = inr (split (inside (IsOfClass b) (node_tree t (of_function is_async es result)) h)) where
    split : ((i : ℕ) × R (part_at (map (λ e. t e.1) es) i)) ⊎ R (optional_tree t result) → Part (and_optional result (seconds es))
    split (inl (i, g)) = optional_tail result (seconds es) (in_fields es i g)
    split (inr g) = optional_head result (seconds es) g
  node_in (of_instance es) h = let (n, g) = inside (IsOfClass b) (node_tree t (of_instance es)) h in inr (in_items es n g)
  node_in (of_primitive p) h = absurd (inside (IsOfClass b) (node_tree t (of_primitive p)) h)
  node_in (of_flags ns) h = absurd (inside (IsOfClass b) (node_tree t (of_flags ns)) h)
  node_in (of_enum ns) h = absurd (inside (IsOfClass b) (node_tree t (of_enum ns)) h)
  node_in (of_component imports exports) h = absurd (inside (IsOfClass b) (node_tree t (of_component imports exports)) h)
  node_in (of_module imports exports) h = absurd (inside (IsOfClass b) (node_tree t (of_module imports exports)) h)

  -- ---- and back
  from : (m n : ℕ) → m ≡ n → R (t m) → R (t n)
  from m n e h = subst (λ k. R (t k)) e h

  at_field : (es : List (Name × ℕ)) (m : ℕ) → In (seconds es) m → R (t m) → (i : ℕ) × R (part_at (map (λ e. t e.1) es) i)
  at_field [] m w h = absurd w
  at_field (e ∷ es) m (inl is) h = (0, from m e.1 is h)
  at_field (e ∷ es) m (inr w) h = let (i, r) = at_field es m w h in (suc i, r)

  at_part : (ns : List ℕ) (m : ℕ) → In ns m → R (t m) → (i : ℕ) × R (part_at (map t ns) i)
  at_part [] m w h = absurd w
  at_part (n ∷ ns) m (inl is) h = (0, from m n is h)
  at_part (n ∷ ns) m (inr w) h = let (i, r) = at_part ns m w h in (suc i, r)

  at_optional : (o : Option ℕ) (rest : List ℕ) (m : ℕ) → In (and_optional o rest) m → R (t m) → R (optional_tree t o) ⊎ In rest m
  at_optional None rest m w h = inr w
  at_optional (Some n) rest m (inl is) h = inl (from m n is h)
  at_optional (Some n) rest m (inr w) h = inr w

  at_case : (es : List (Name × Option ℕ)) (m : ℕ) → In (optionals es) m → R (t m) → (i : ℕ) × R (part_at (map (λ e. optional_tree t e.1) es) i)
  at_case [] m w h = absurd w
  at_case (e ∷ es) m w h = split (at_optional e.1 (optionals es) m w h) (λ v. at_case es m v h) where
    split : R (optional_tree t e.1) ⊎ In (optionals es) m → (In (optionals es) m → (i : ℕ) × R (part_at (map (λ x. optional_tree t x.1) es) i)) → (i : ℕ) × R (part_at (map (λ x. optional_tree t x.1) (e ∷ es)) i)
    split (inl r) _ = (0, r)
    split (inr v) more = let (i, r) = more v in (suc i, r)

  at_item : (es : List (Name × Item)) → Sorted es → (m : ℕ) → In (types_of es) m → R (t m) → (n : Name) × Among es n × R (listed_tree t es n)
  at_item [] s m w h = absurd w
  at_item (e ∷ es) s m (inl is) h =
      (e.0, inl refl, subst (λ g. R (if g then item_tree t e.1 else listed_tree t es e.0)) (sym (same_name-refl e.0)) (item_out e.1 (from m (type_of e.1) is h)))
  at_item (e ∷ es) s m (inr w) h =
      let (n, among, r) = at_item es s.1 m w h in
      let less : slice_cmp nat_cmp e.0 n ≡ Less = among_all (λ x. slice_cmp nat_cmp e.0 x ≡ Less) es n s.0 among in
      (n, inr among, subst (λ g. R (if g then item_tree t e.1 else listed_tree t es n)) (sym (turned e.0 n less)) r)

  pub node_names : (n : Node) → node_class n ≡ Some b → R (node_tree t n)
  node_names (of_resource r) h = as_resource r (is_class b r h)
  node_names (of_own r) h = as_own r (is_class b r h)
  node_names (of_borrow r) h = as_borrow r (is_class b r h)
  node_names _ h = cc h

  pub node_out : (n : Node) → IsSorted n → (m : ℕ) → In (parts n) m → R (t m) → R (node_tree t n)
  node_out (of_record es) s m w h = let (i, r) = at_field es m w h in in_field (map (λ e. e.0) es) (part_at (map (λ e. t e.1) es)) i r
  node_out (of_variant es) s m w h = let (i, r) = at_case es m w h in in_case (map (λ e. e.0) es) (part_at (map (λ e. optional_tree t e.1) es)) i r
  node_out (of_tuple ns) s m w h = let (i, r) = at_part ns m w h in in_tuple (length ns) (part_at (map t ns)) i r
  node_out (of_list n) s m (inl is) h = in_list (t n) (from m n is h)
  node_out (of_list n) s m (inr w) h = absurd w
  node_out (of_fixed_list k n) s m (inl is) h = in_fixed_list k (t n) (from m n is h)
  node_out (of_fixed_list k n) s m (inr w) h = absurd w
  node_out (of_option n) s m (inl is) h = in_option (t n) (from m n is h)
  node_out (of_option n) s m (inr w) h = absurd w
  node_out (of_result ok err) s m w h = split (at_optional ok (and_optional err []) m w h) where
    last : R (optional_tree t err) ⊎ In [] m → R (node_tree t (of_result ok err))
    last (inl r) = in_err (optional_tree t ok) (optional_tree t err) r
    last (inr v) = absurd v

    split : R (optional_tree t ok) ⊎ In (and_optional err []) m → R (node_tree t (of_result ok err))
    split (inl r) = in_ok (optional_tree t ok) (optional_tree t err) r
    split (inr v) = last (at_optional err [] m v h)
  node_out (of_stream n) s m w h = split (at_optional n [] m w h) where
    split : R (optional_tree t n) ⊎ In [] m → R (node_tree t (of_stream n))
    split (inl r) = in_stream (optional_tree t n) r
    split (inr v) = absurd v
  node_out (of_future n) s m w h = split (at_optional n [] m w h) where
    split : R (optional_tree t n) ⊎ In [] m → R (node_tree t (of_future n))
    split (inl r) = in_future (optional_tree t n) r
    split (inr v) = absurd v
  node_out (of_function is_async es result) s m w h = split (at_optional result (seconds es) m w h) where
    split : R (optional_tree t result) ⊎ In (seconds es) m → R (node_tree t (of_function is_async es result))
    split (inl r) = in_result is_async (map (λ e. e.0) es) (part_at (map (λ e. t e.1) es)) (optional_tree t result) r
    split (inr v) = let (i, r) = at_field es m v h in in_parameter is_async (map (λ e. e.0) es) (part_at (map (λ e. t e.1) es)) (optional_tree t result) i r
  node_out (of_instance es) s m w h = let (n, _, r) = at_item es s m w h in in_instance (listed_tree t es) n r
  node_out _ s m w h = absurd w

-- ---- the nodes that are still to be looked at
in_all : (k : ℕ) (ns : List ℕ) (m : ℕ) → AllByRecursion (λ x. x < k) ns → In ns m → m < k
in_all k [] m h w = absurd w
in_all k (n ∷ ns) m h (inl is) = let low : n < k = h.0 in omega (arith, is)
in_all k (n ∷ ns) m h (inr w) = in_all k ns m h.1 w

pub parts_low : (k : ℕ) (n : Node) (m : ℕ) → AllByRecursion (λ x. x < k) (mentions n) → In (parts n) m → m < k
parts_low k (of_component imports exports) m h w = absurd w
parts_low k n m h w = in_all k (mentions n) m h w

the_class : (o : Option ℕ) (b : ℕ) → In (and_optional o []) b → o ≡ Some b
the_class None b w = absurd w
the_class (Some k) b (inl is) = ap Some (sym is)
the_class (Some k) b (inr w) = absurd w

a_class : (o : Option ℕ) (b : ℕ) → o ≡ Some b → In (and_optional o []) b
a_class o b is = rw is (inl refl)

pub first_reached : (ns : List Node) (number : ℕ) → number < length ns → AreReached ns number [] (number ∷ [])
first_reached ns number low = record {
  within = λ i w. split i (has_either [] number i w) (λ e. omega (arith, e));
  found = λ b w. cc;
  onward = λ b i w r. split i (has_either [] number i w) (λ e. subst (λ k. Reaches (IsOfClass b) (tree_at ns k)) e r);
  whole = λ b r. inr (number, has_last [] number, r);
} where
  split : {G : Type 0} (i : ℕ) → Has [] i ⊎ (i ≡ number) → (i ≡ number → G) → G
  split i (inl w) f = cc
  split i (inr e) f = f e

module _ (ns : List Node) (table : IsTable ns) (number next : ℕ) (n : Node) (is : slice_get ns next ≡ Some n) (classes pending rest : List ℕ) (popped : pending ≡ rest ++ next ∷ []) (old : AreReached ns number classes pending) where
  tree_is : tree_at ns next ≡ node_tree (tree_to next ns) n
  tree_is = ap (λ o. option_case o absent (node_tree (tree_to next ns))) is

  low : (m : ℕ) → In (parts n) m → m < next
  low m w = parts_low next n m (table.lower next n is) w

  part_is : (m : ℕ) → m < next → tree_to next ns m ≡ tree_at ns m
  part_is m lower = deep ns table next (suc m) m lower (omega arith)

  old_has : (i : ℕ) → Has rest i → Has pending i
  old_has i w = subst (λ ks. Has ks i) (sym popped) (has_front rest next i w)

  next_has : Has pending next
  next_has = subst (λ ks. Has ks next) (sym popped) (has_last rest next)

  next_reach : (b : ℕ) → Reaches (IsOfClass b) (node_tree (tree_to next ns) n) → Reaches (IsOfClass b) (tree_at ns number)
  next_reach b r = old.onward b next next_has (subst (λ t. Reaches (IsOfClass b) t) (sym tree_is) r)

  part_reach : (b m : ℕ) → In (parts n) m → Reaches (IsOfClass b) (tree_at ns m) → Reaches (IsOfClass b) (tree_at ns number)
  part_reach b m w r = next_reach b (node_out (tree_to next ns) b n (table.sorted next n is) m w (subst (λ t. Reaches (IsOfClass b) t) (sym (part_is m (low m w))) r))

  within : (i : ℕ) → Has rest i ⊎ In (parts n) i → i < length ns
  within i (inl w) = old.within i (old_has i w)
  within i (inr w) = let a = low i w in let c = old.within next next_has in omega (arith, a, c)

  found : (b : ℕ) → Has classes b ⊎ In (and_optional (node_class n) []) b → Reaches (IsOfClass b) (tree_at ns number)
  found b (inl w) = old.found b w
  found b (inr w) = next_reach b (node_names (tree_to next ns) b n (the_class (node_class n) b w))

  onward : (b i : ℕ) → Has rest i ⊎ In (parts n) i → Reaches (IsOfClass b) (tree_at ns i) → Reaches (IsOfClass b) (tree_at ns number)
  onward b i (inl w) r = old.onward b i (old_has i w) r
  onward b i (inr w) r = part_reach b i w r

  abbrev Left : ℕ → Type 0
  Left b = Has (with_all classes (and_optional (node_class n) [])) b ⊎ ((i : ℕ) × Has (with_all rest (parts n)) i × Reaches (IsOfClass b) (tree_at ns i))

  at_next : (b : ℕ) → (node_class n ≡ Some b) ⊎ ((m : ℕ) × In (parts n) m × Reaches (IsOfClass b) (tree_to next ns m)) → Left b
  at_next b (inl e) = inl (all_new (and_optional (node_class n) []) classes b (a_class (node_class n) b e))
  at_next b (inr (m, w, r)) = inr (m, all_new (parts n) rest m w, subst (λ t. Reaches (IsOfClass b) t) (part_is m (low m w)) r)

  at_one : (b i : ℕ) → Has rest i ⊎ (i ≡ next) → Reaches (IsOfClass b) (tree_at ns i) → Left b
  at_one b i (inl w) r = inr (i, all_old (parts n) rest i w, r)
  at_one b i (inr e) r = at_next b (node_in (tree_to next ns) b n (subst (λ t. Reaches (IsOfClass b) t) tree_is (subst (λ k. Reaches (IsOfClass b) (tree_at ns k)) e r)))

  whole : (b : ℕ) → Has classes b ⊎ ((i : ℕ) × Has pending i × Reaches (IsOfClass b) (tree_at ns i)) → Left b
  whole b (inl w) = inl (all_old (and_optional (node_class n) []) classes b w)
  whole b (inr (i, w, r)) = at_one b i (has_either rest next i (subst (λ ks. Has ks i) popped w)) r

  pub next_reached : AreReached ns number (with_all classes (and_optional (node_class n) [])) (with_all rest (parts n))
  next_reached = record {
    within = λ i w. within i (has_all (parts n) rest i w);
    found = λ b w. found b (has_all (and_optional (node_class n) []) classes b w);
    onward = λ b i w r. onward b i (has_all (parts n) rest i w) r;
    whole = λ b r. whole b (old.whole b r);
  }

  pub fewer : All (λ q. nat_cmp q next ≡ Less) rest → above (with_all rest (parts n)) < above pending
  fewer below =
      let most : above (with_all rest (parts n)) ≤ next = above_le (with_all rest (parts n)) next (below_others (parts n) rest next (below_all rest next below) low) in
      let more : next < above (rest ++ next ∷ []) = above_last rest next in
      let same : above pending ≡ above (rest ++ next ∷ []) = ap above popped in
      omega arith

pub none_left : (ks : List ℕ) → (0 < length ks → false ≡ true) → ks ≡ []
none_left [] h = refl
none_left (k ∷ ks) h = let wrong : false ≡ true = h (omega arith) in absurd (cc wrong)

pub all_reached : (ns : List Node) (number : ℕ) (classes : List ℕ) → AreReached ns number classes [] → (b : ℕ) → (Has classes b) ↔ Reaches (IsOfClass b) (tree_at ns number)
all_reached ns number classes h b = (h.found b, λ r. split (h.whole b r)) where
  split : Has classes b ⊎ ((i : ℕ) × Has [] i × Reaches (IsOfClass b) (tree_at ns i)) → Has classes b
  split (inl w) = w
  split (inr (i, w, r)) = cc

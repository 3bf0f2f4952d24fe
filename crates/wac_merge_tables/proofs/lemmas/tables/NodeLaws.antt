-- Laws of tables of nodes.
use Rattle.wac_merge_tables.proofs.lemmas.tables.SortedMaps.{one_map, items_are, found_are, first_under}
use Rattle.std.proofs.Common.{◌≡◌, ℕ, zero, suc, ◌<◌, ◌≤◌, List, [], ◌∷◌, ◌++◌, length, map, Option, Some, None, refl, ap, sym, ◌∙◌, arith}
use Rattle.std.specs.Prelude.{slice_get, ◌≢◌}
use Rattle.std.specs.List.{AllByRecursion}
use Rattle.wac_types_shapes.specs.primitives.Name.{Name, option_case}
use Rattle.wac_types_shapes.specs.primitives.Core.{CoreItem, no_item}
use Rattle.wac_types_shapes.specs.primitives.Tree.{TypeTree, absent}
use Rattle.wac_types_collection.specs.subtyping.Called.{Called}
use Rattle.wac_types_collection.specs.collection.Held.{part_at}
use Rattle.wac_merge_tables.specs.private.tables.Nodes.{Node, of_resource, of_primitive, of_own, of_borrow, of_record, of_variant, of_list, of_fixed_list, of_tuple, of_flags, of_enum, of_option, of_result, of_stream, of_future, of_function, of_instance, of_component, of_module, core_under, core_under_both, AreCoreItems, Item, a_type, a_func, an_instance, a_component, a_module, a_value, type_of, types_of, item_tree, listed_tree, Sorted, IsSorted, and_optional, optionals, seconds, mentions, optional_tree, node_tree, tree_to, tree_at, IsTable}

abbrev listed : (ℕ → TypeTree Called) → List (Name × Item) → List (Name × TypeTree Called)
listed t es = map (λ e. (e.0, item_tree t e.1)) es

-- ---- equal trees of the nodes that are mentioned give one tree
module _ (t u : ℕ → TypeTree Called) where
  SameAt : List ℕ → Type 0
  SameAt ns = AllByRecursion (λ m. t m ≡ u m) ns

  same_optional : (o : Option ℕ) (rest : List ℕ) → AllByRecursion (λ m. t m ≡ u m) (and_optional o rest) → (optional_tree t o ≡ optional_tree u o) × AllByRecursion (λ m. t m ≡ u m) rest
  same_optional None rest h = (refl, h)
  same_optional (Some n) rest h = (h.0, h.1)

  same_seconds : (es : List (Name × ℕ)) → AllByRecursion (λ m. t m ≡ u m) (seconds es) → map (λ e. t e.1) es ≡ map (λ e. u e.1) es
  same_seconds [] h = refl
  same_seconds (e ∷ es) h = rw (h.0, same_seconds es h.1) refl

  same_parts : (ns : List ℕ) → AllByRecursion (λ m. t m ≡ u m) ns → map t ns ≡ map u ns
  same_parts [] h = refl
  same_parts (n ∷ ns) h = rw (h.0, same_parts ns h.1) refl

  same_cases : (es : List (Name × Option ℕ)) → AllByRecursion (λ m. t m ≡ u m) (optionals es) → map (λ e. optional_tree t e.1) es ≡ map (λ e. optional_tree u e.1) es
  same_cases [] h = refl
  same_cases (e ∷ es) h = let (first, rest) = same_optional e.1 (optionals es) h in rw (first, same_cases es rest) refl

  same_listed : (es : List (Name × Item)) → AllByRecursion (λ m. t m ≡ u m) (types_of es) → listed t es ≡ listed u es
  same_listed [] h = refl
  same_listed ((n, a_type k) ∷ es) h = rw (h.0, same_listed es h.1) refl
  same_listed ((n, a_func k) ∷ es) h = rw (h.0, same_listed es h.1) refl
  same_listed ((n, an_instance k) ∷ es) h = rw (h.0, same_listed es h.1) refl
  same_listed ((n, a_component k) ∷ es) h = rw (h.0, same_listed es h.1) refl
  same_listed ((n, a_module k) ∷ es) h = rw (h.0, same_listed es h.1) refl
  same_listed ((n, a_value k) ∷ es) h = rw (h.0, same_listed es h.1) refl

  halves : (ns ms : List ℕ) → AllByRecursion (λ m. t m ≡ u m) (ns ++ ms) → AllByRecursion (λ m. t m ≡ u m) ns × AllByRecursion (λ m. t m ≡ u m) ms
  halves [] ms h = (tt, h)
  halves (n ∷ ns) ms h = let (a, b) = halves ns ms h.1 in ((h.0, a), b)

  pub same_tree : (n : Node) → AllByRecursion (λ m. t m ≡ u m) (mentions n) → node_tree t n ≡ node_tree u n
  same_tree (of_resource r) h = refl
  same_tree (of_primitive p) h = refl
  same_tree (of_own r) h = refl
  same_tree (of_borrow r) h = refl
  same_tree (of_record fields) h = rw (same_seconds fields h) refl
  same_tree (of_variant cases) h = rw (same_cases cases h) refl
  same_tree (of_list n) h = rw (h.0) refl
  same_tree (of_fixed_list k n) h = rw (h.0) refl
  same_tree (of_tuple ns) h = rw (same_parts ns h) refl
  same_tree (of_flags names) h = refl
  same_tree (of_enum names) h = refl
  same_tree (of_option n) h = rw (h.0) refl
  same_tree (of_result ok err) h = let (a, rest) = same_optional ok (and_optional err []) h in let (b, _) = same_optional err [] rest in rw (a, b) refl
  same_tree (of_stream n) h = rw ((same_optional n [] h).0) refl
  same_tree (of_future n) h = rw ((same_optional n [] h).0) refl
  same_tree (of_instance exports) h = rw (same_listed exports h) refl
  same_tree (of_component imports exports) h = let (a, b) = halves (types_of imports) (types_of exports) h in rw (same_listed imports a, same_listed exports b) refl
  same_tree (of_module imports exports) h = refl
  same_tree (of_function is_async params result) h = let (a, rest) = same_optional result (seconds params) h in rw (a, same_seconds params rest) refl

-- ---- deeper than a node's number changes nothing
all_of : {P Q : ℕ → Type 0} → ((m : ℕ) → P m → Q m) → (ns : List ℕ) → AllByRecursion P ns → AllByRecursion Q ns
all_of f [] h = tt
all_of f (n ∷ ns) h = (f n h.0, all_of f ns h.1)

pub deep : (ns : List Node) → IsTable ns → (k l i : ℕ) → i < k → i < l → tree_to k ns i ≡ tree_to l ns i
deep ns table zero l i low _ = absurd (omega arith)
deep ns table (suc k) zero i _ low = absurd (omega arith)
deep ns table (suc k) (suc l) i below below' = at (slice_get ns i) refl (λ m low. deep ns table k l m (omega arith) (omega arith)) where
  at : (o : Option Node) → slice_get ns i ≡ o → ((m : ℕ) → m < i → tree_to k ns m ≡ tree_to l ns m) → option_case o absent (node_tree (tree_to k ns)) ≡ option_case o absent (node_tree (tree_to l ns))
  at None is _ = refl
  at (Some n) is lower = same_tree (tree_to k ns) (tree_to l ns) n (all_of lower (mentions n) (table.lower i n is))

-- ---- more nodes behind change nothing
get_before : (ns ms : List Node) (i : ℕ) → i < length ns → slice_get (ns ++ ms) i ≡ slice_get ns i
get_before [] ms i low = absurd (omega arith)
get_before (n ∷ ns) ms zero low = refl
get_before (n ∷ ns) ms (suc i) low = get_before ns ms i (omega arith)

get_within : (ns : List Node) (i : ℕ) (n : Node) → slice_get ns i ≡ Some n → i < length ns
get_within [] i n is = cc
get_within (m ∷ ns) zero n is = omega arith
get_within (m ∷ ns) (suc i) n is = let h = get_within ns i n is in omega arith

pub grown : (ns ms : List Node) → IsTable ns → (k i : ℕ) → i < length ns → tree_to k (ns ++ ms) i ≡ tree_to k ns i
grown ns ms table zero i low = refl
grown ns ms table (suc k) i low = rw (get_before ns ms i low) (at (slice_get ns i) refl (λ m lower. grown ns ms table k m (omega arith))) where
  at : (o : Option Node) → slice_get ns i ≡ o → ((m : ℕ) → m < i → tree_to k (ns ++ ms) m ≡ tree_to k ns m) → option_case o absent (node_tree (tree_to k (ns ++ ms))) ≡ option_case o absent (node_tree (tree_to k ns))
  at None is _ = refl
  at (Some n) is lower = same_tree (tree_to k (ns ++ ms)) (tree_to k ns) n (all_of lower (mentions n) (table.lower i n is))

-- ---- a node has a tree
node_there : (t : ℕ → TypeTree Called) (n : Node) → node_tree t n ≡ absent → ⊥
node_there t (of_resource r) e = cc
node_there t (of_primitive r) e = cc
node_there t (of_own r) e = cc
node_there t (of_borrow r) e = cc
node_there t (of_record r) e = cc
node_there t (of_variant r) e = cc
node_there t (of_list r) e = cc
node_there t (of_fixed_list k r) e = cc
node_there t (of_tuple r) e = cc
node_there t (of_flags r) e = cc
node_there t (of_enum r) e = cc
node_there t (of_option r) e = cc
node_there t (of_result a b) e = cc
node_there t (of_stream r) e = cc
node_there t (of_future r) e = cc
node_there t (of_function i es a) e = cc
node_there t (of_instance es) e = cc
node_there t (of_component is es) e = cc
node_there t (of_module is es) e = cc

-- ---- core items are told apart by what stands under names
equal_core : (es fs : List (Name × CoreItem)) → AreCoreItems es → AreCoreItems fs → core_under es ≡ core_under fs → es ≡ fs
equal_core es fs (h, p) (g, q) e =
    one_map no_item (λ x. x) (λ x. x ≢ no_item) (λ x there is. there is) (λ x y _ _ same. same) es fs h g p q
    (λ n. sym (found_are no_item (λ x. x) es n) ∙ ap (λ f. f n) e ∙ found_are no_item (λ x. x) fs n)

some_core : (es : List (Name × CoreItem)) → AreCoreItems es → (es ≢ []) → core_under es ≡ (λ n. no_item) → ⊥
some_core [] _ some e = some refl
some_core (x ∷ es) (_, p) some e = p.0 (sym (first_under no_item (λ y. y) x es) ∙ sym (found_are no_item (λ y. y) (x ∷ es) x.0) ∙ ap (λ f. f x.0) e)

equal_modules : (is js : List (Name × List (Name × CoreItem))) → Sorted is → Sorted js → AllByRecursion (λ e. AreCoreItems e.1 × (e.1 ≢ [])) is → AllByRecursion (λ e. AreCoreItems e.1 × (e.1 ≢ [])) js
    → core_under_both is ≡ core_under_both js → is ≡ js
equal_modules is js h g p q e =
    one_map (λ n. no_item) core_under (λ es. AreCoreItems es × (es ≢ [])) (λ es good none. some_core es good.0 good.1 none) (λ es fs a b same. equal_core es fs a.0 b.0 same) is js h g p q
    (λ m. sym (found_are (λ n. no_item) core_under is m) ∙ ap (λ f. f m) e ∙ found_are (λ n. no_item) core_under js m)

-- ---- equal trees are of equal nodes
module _ (k : ℕ) (t : ℕ → TypeTree Called) (apart : (a b : ℕ) → a < k → b < k → t a ≡ t b → a ≡ b) (there : (a : ℕ) → a < k → t a ≡ absent → ⊥) where
  abbrev Below : List ℕ → Type 0
  Below ns = AllByRecursion (λ m. m < k) ns

  below_optional : (o : Option ℕ) (rest : List ℕ) → Below (and_optional o rest) → Below (and_optional o []) × Below rest
  below_optional None rest h = (tt, h)
  below_optional (Some n) rest h = ((h.0, tt), h.1)

  equal_optional : (o p : Option ℕ) → Below (and_optional o []) → Below (and_optional p []) → optional_tree t o ≡ optional_tree t p → o ≡ p
  equal_optional None None _ _ e = refl
  equal_optional None (Some b) _ h e = absurd (there b h.0 (sym e))
  equal_optional (Some a) None h _ e = absurd (there a h.0 e)
  equal_optional (Some a) (Some b) h g e = ap Some (apart a b h.0 g.0 e)

  suc_same : (a b : ℕ) → suc a ≡ suc b → a ≡ b
  suc_same a b e = cc

  equal_parts : (ns ms : List ℕ) → length ns ≡ length ms → Below ns → Below ms → part_at (map t ns) ≡ part_at (map t ms) → ns ≡ ms
  equal_parts [] [] long h g e = refl
  equal_parts [] (m ∷ ms) long h g e = cc
  equal_parts (n ∷ ns) [] long h g e = cc
  equal_parts (n ∷ ns) (m ∷ ms) long h g e =
      rw (apart n m h.0 g.0 (ap (λ f. f 0) e), equal_parts ns ms (suc_same (length ns) (length ms) long) h.1 g.1 (ap (λ f i. f (suc i)) e)) refl

  equal_fields : (es fs : List (Name × ℕ)) → map (λ e. e.0) es ≡ map (λ e. e.0) fs → Below (seconds es) → Below (seconds fs) → part_at (map (λ e. t e.1) es) ≡ part_at (map (λ e. t e.1) fs) → es ≡ fs
  equal_fields [] [] names h g e = refl
  equal_fields [] (f ∷ fs) names h g e = cc
  equal_fields (x ∷ es) [] names h g e = cc
  equal_fields ((x, a) ∷ es) ((y, b) ∷ fs) names h g e =
      rw (heads names, apart a b h.0 g.0 (ap (λ f. f 0) e), equal_fields es fs (tails names) h.1 g.1 (ap (λ f i. f (suc i)) e)) refl where
        heads : x ∷ map (λ e. e.0) es ≡ y ∷ map (λ e. e.0) fs → x ≡ y
        heads e = cc

        tails : x ∷ map (λ e. e.0) es ≡ y ∷ map (λ e. e.0) fs → map (λ e. e.0) es ≡ map (λ e. e.0) fs
        tails e = cc

  equal_cases : (es fs : List (Name × Option ℕ)) → map (λ e. e.0) es ≡ map (λ e. e.0) fs → Below (optionals es) → Below (optionals fs) → part_at (map (λ e. optional_tree t e.1) es) ≡ part_at (map (λ e. optional_tree t e.1) fs) → es ≡ fs
  equal_cases [] [] names h g e = refl
  equal_cases [] (f ∷ fs) names h g e = cc
  equal_cases (x ∷ es) [] names h g e = cc
  equal_cases ((x, a) ∷ es) ((y, b) ∷ fs) names h g e =
      let (ha, hs) = below_optional a (optionals es) h in let (gb, gs) = below_optional b (optionals fs) g in
      rw (heads names, equal_optional a b ha gb (ap (λ f. f 0) e), equal_cases es fs (tails names) hs gs (ap (λ f i. f (suc i)) e)) refl where
        heads : x ∷ map (λ e. e.0) es ≡ y ∷ map (λ e. e.0) fs → x ≡ y
        heads e = cc

        tails : x ∷ map (λ e. e.0) es ≡ y ∷ map (λ e. e.0) fs → map (λ e. e.0) es ≡ map (λ e. e.0) fs
        tails e = cc

  equal_item : (a b : Item) → type_of a < k → type_of b < k → item_tree t a ≡ item_tree t b → a ≡ b
  equal_item (a_type n) (a_type m) p q e = ap a_type (apart n m p q (inner e)) where
    inner : item_tree t (a_type n) ≡ item_tree t (a_type m) → t n ≡ t m
    inner e = cc
  equal_item (a_func n) (a_func m) p q e = ap a_func (apart n m p q (inner e)) where
    inner : item_tree t (a_func n) ≡ item_tree t (a_func m) → t n ≡ t m
    inner e = cc
  equal_item (an_instance n) (an_instance m) p q e = ap an_instance (apart n m p q (inner e)) where
    inner : item_tree t (an_instance n) ≡ item_tree t (an_instance m) → t n ≡ t m
    inner e = cc
  equal_item (a_component n) (a_component m) p q e = ap a_component (apart n m p q (inner e)) where
    inner : item_tree t (a_component n) ≡ item_tree t (a_component m) → t n ≡ t m
    inner e = cc
  equal_item (a_module n) (a_module m) p q e = ap a_module (apart n m p q (inner e)) where
    inner : item_tree t (a_module n) ≡ item_tree t (a_module m) → t n ≡ t m
    inner e = cc
  equal_item (a_value n) (a_value m) p q e = ap a_value (apart n m p q (inner e)) where
    inner : item_tree t (a_value n) ≡ item_tree t (a_value m) → t n ≡ t m
    inner e = cc
  equal_item _ _ p q e = cc e

  item_there : (a : Item) → item_tree t a ≡ absent → ⊥
  item_there (a_type n) e = cc
  item_there (a_func n) e = cc
  item_there (an_instance n) e = cc
  item_there (a_component n) e = cc
  item_there (a_module n) e = cc
  item_there (a_value n) e = cc

  all_low : (es : List (Name × Item)) → Below (types_of es) → AllByRecursion (λ e. type_of e.1 < k) es
  all_low [] h = tt
  all_low (e ∷ es) h = (h.0, all_low es h.1)

  below_halves : (ns ms : List ℕ) → Below (ns ++ ms) → Below ns × Below ms
  below_halves [] ms h = (tt, h)
  below_halves (n ∷ ns) ms h = let (a, b) = below_halves ns ms h.1 in ((h.0, a), b)

  equal_listed : (es fs : List (Name × Item)) → Sorted es → Sorted fs → Below (types_of es) → Below (types_of fs) → listed_tree t es ≡ listed_tree t fs → es ≡ fs
  equal_listed es fs h g p q e =
      one_map absent (item_tree t) (λ a. type_of a < k) (λ a _. item_there a) equal_item es fs h g (all_low es p) (all_low fs q)
      (λ n. sym (items_are (item_tree t) es n) ∙ ap (λ f. f n) e ∙ items_are (item_tree t) fs n)

  equal_node : (n m : Node) → IsSorted n → IsSorted m → Below (mentions n) → Below (mentions m) → node_tree t n ≡ node_tree t m → n ≡ m
  equal_node (of_resource r) (of_resource s) sn sm h g e = cc
  equal_node (of_primitive p) (of_primitive q) sn sm h g e = cc
  equal_node (of_own r) (of_own s) sn sm h g e = cc
  equal_node (of_borrow r) (of_borrow s) sn sm h g e = cc
  equal_node (of_flags r) (of_flags s) sn sm h g e = cc
  equal_node (of_enum r) (of_enum s) sn sm h g e = cc
  equal_node (of_list a) (of_list b) sn sm h g e = ap of_list (apart a b h.0 g.0 (inner e)) where
    inner : node_tree t (of_list a) ≡ node_tree t (of_list b) → t a ≡ t b
    inner e = cc
  equal_node (of_fixed_list i a) (of_fixed_list j b) sn sm h g e = rw (count e, apart a b h.0 g.0 (inner e)) refl where
    count : node_tree t (of_fixed_list i a) ≡ node_tree t (of_fixed_list j b) → i ≡ j
    count e = cc

    inner : node_tree t (of_fixed_list i a) ≡ node_tree t (of_fixed_list j b) → t a ≡ t b
    inner e = cc
  equal_node (of_option a) (of_option b) sn sm h g e = ap of_option (apart a b h.0 g.0 (inner e)) where
    inner : node_tree t (of_option a) ≡ node_tree t (of_option b) → t a ≡ t b
    inner e = cc
  equal_node (of_record es) (of_record fs) sn sm h g e = ap of_record (equal_fields es fs (names e) h g (parts e)) where
    names : node_tree t (of_record es) ≡ node_tree t (of_record fs) → map (λ e. e.0) es ≡ map (λ e. e.0) fs
    names e = cc

    parts : node_tree t (of_record es) ≡ node_tree t (of_record fs) → part_at (map (λ e. t e.1) es) ≡ part_at (map (λ e. t e.1) fs)
    parts e = cc
  equal_node (of_variant es) (of_variant fs) sn sm h g e = ap of_variant (equal_cases es fs (names e) h g (parts e)) where
    names : node_tree t (of_variant es) ≡ node_tree t (of_variant fs) → map (λ e. e.0) es ≡ map (λ e. e.0) fs
    names e = cc

    parts : node_tree t (of_variant es) ≡ node_tree t (of_variant fs) → part_at (map (λ e. optional_tree t e.1) es) ≡ part_at (map (λ e. optional_tree t e.1) fs)
    parts e = cc
  equal_node (of_tuple ns) (of_tuple ms) sn sm h g e = ap of_tuple (equal_parts ns ms (long e) h g (parts e)) where
    long : node_tree t (of_tuple ns) ≡ node_tree t (of_tuple ms) → length ns ≡ length ms
    long e = cc

    parts : node_tree t (of_tuple ns) ≡ node_tree t (of_tuple ms) → part_at (map t ns) ≡ part_at (map t ms)
    parts e = cc
  equal_node (of_result a b) (of_result c d) sn sm h g e =
      let (ha, hb) = below_optional a (and_optional b []) h in let (gc, gd) = below_optional c (and_optional d []) g in
      rw (equal_optional a c ha gc (oks e), equal_optional b d hb gd (errs e)) refl where
        oks : node_tree t (of_result a b) ≡ node_tree t (of_result c d) → optional_tree t a ≡ optional_tree t c
        oks e = cc

        errs : node_tree t (of_result a b) ≡ node_tree t (of_result c d) → optional_tree t b ≡ optional_tree t d
        errs e = cc
  equal_node (of_stream a) (of_stream b) sn sm h g e = ap of_stream (equal_optional a b h g (inner e)) where
    inner : node_tree t (of_stream a) ≡ node_tree t (of_stream b) → optional_tree t a ≡ optional_tree t b
    inner e = cc
  equal_node (of_future a) (of_future b) sn sm h g e = ap of_future (equal_optional a b h g (inner e)) where
    inner : node_tree t (of_future a) ≡ node_tree t (of_future b) → optional_tree t a ≡ optional_tree t b
    inner e = cc
  equal_node (of_function i es a) (of_function j fs b) sn sm h g e =
      let (ha, hes) = below_optional a (seconds es) h in let (gb, gfs) = below_optional b (seconds fs) g in
      rw (sorts e, equal_fields es fs (names e) hes gfs (parts e), equal_optional a b ha gb (results e)) refl where
        sorts : node_tree t (of_function i es a) ≡ node_tree t (of_function j fs b) → i ≡ j
        sorts e = cc

        names : node_tree t (of_function i es a) ≡ node_tree t (of_function j fs b) → map (λ e. e.0) es ≡ map (λ e. e.0) fs
        names e = cc

        parts : node_tree t (of_function i es a) ≡ node_tree t (of_function j fs b) → part_at (map (λ e. t e.1) es) ≡ part_at (map (λ e. t e.1) fs)
        parts e = cc

        results : node_tree t (of_function i es a) ≡ node_tree t (of_function j fs b) → optional_tree t a ≡ optional_tree t b
        results e = cc
  equal_node (of_instance es) (of_instance fs) sn sm h g e = ap of_instance (equal_listed es fs sn sm h g (inner e)) where
    inner : node_tree t (of_instance es) ≡ node_tree t (of_instance fs) → listed_tree t es ≡ listed_tree t fs
    inner e = cc
  equal_node (of_component is es) (of_component js fs) sn sm h g e =
      let (hi, he) = below_halves (types_of is) (types_of es) h in let (gj, gf) = below_halves (types_of js) (types_of fs) g in
      rw (equal_listed is js sn.0 sm.0 hi gj (first e), equal_listed es fs sn.1 sm.1 he gf (second e)) refl where
        first : node_tree t (of_component is es) ≡ node_tree t (of_component js fs) → listed_tree t is ≡ listed_tree t js
        first e = cc

        second : node_tree t (of_component is es) ≡ node_tree t (of_component js fs) → listed_tree t es ≡ listed_tree t fs
        second e = cc
  equal_node (of_module is es) (of_module js fs) sn sm h g e =
      rw (equal_modules is js sn.0.0 sm.0.0 sn.0.1 sm.0.1 (first e), equal_core es fs sn.1 sm.1 (second e)) refl where
        first : node_tree t (of_module is es) ≡ node_tree t (of_module js fs) → core_under_both is ≡ core_under_both js
        first e = cc

        second : node_tree t (of_module is es) ≡ node_tree t (of_module js fs) → core_under es ≡ core_under fs
        second e = cc
  equal_node _ _ sn sm h g e = cc

get_some : (ns : List Node) (i : ℕ) → i < length ns → (n : Node) × (slice_get ns i ≡ Some n)
get_some [] i low = absurd (omega arith)
get_some (n ∷ ns) zero low = (n, refl)
get_some (n ∷ ns) (suc i) low = get_some ns i (omega arith)

module _ (ns : List Node) (table : IsTable ns) where
  at_node : (k i : ℕ) (n : Node) → slice_get ns i ≡ Some n → tree_to (suc k) ns i ≡ node_tree (tree_to k ns) n
  at_node k i n is = ap (λ o. option_case o absent (node_tree (tree_to k ns))) is

  pub has_tree : (k i : ℕ) → i < k → i < length ns → tree_to k ns i ≡ absent → ⊥
  has_tree zero i below within e = absurd (omega arith)
  has_tree (suc k) i below within e = let (n, is) = get_some ns i within in node_there (tree_to k ns) n (sym (at_node k i n is) ∙ e)

  -- nodes of equal trees are one
  pub told_apart : (k i j : ℕ) → k ≤ length ns → i < k → j < k → tree_to k ns i ≡ tree_to k ns j → i ≡ j
  told_apart zero i j within low high e = absurd (omega arith)
  told_apart (suc k) i j within low high e =
      let (n, is) = get_some ns i (omega arith) in
      let (m, also) = get_some ns j (omega arith) in
      let same = equal_node k (tree_to k ns) (λ a b p q. told_apart k a b (omega arith) p q) (λ a p. has_tree k a p (omega arith)) n m (table.sorted i n is) (table.sorted j m also)
      (all_of (λ x (lower : x < i). omega arith) (mentions n) (table.lower i n is))
      (all_of (λ x (lower : x < j). omega arith) (mentions m) (table.lower j m also))
      (sym (at_node k i n is) ∙ (e ∙ at_node k j m also)) in
      table.once i j n is (also ∙ ap Some (sym same))

  -- so are those of equal trees, each as deep as it is
  pub one_tree : (i j : ℕ) → i < length ns → j < length ns → tree_at ns i ≡ tree_at ns j → i ≡ j
  one_tree i j low high e =
      told_apart (length ns) i j (omega arith) low high
      (deep ns table (length ns) (suc i) i low (omega arith) ∙ (e ∙ deep ns table (suc j) (length ns) j (omega arith) high))

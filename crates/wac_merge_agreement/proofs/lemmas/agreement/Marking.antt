-- The marks of nodes: each resource of a node without its mark is bound inside the compared type.
use Rattle.std.proofs.Common.{◌≡◌, ℕ, zero, suc, ◌+◌, ◌<◌, ◌≤◌, Bool, true, false, if◌then◌else◌, ◌||◌, List, [], ◌∷◌, ◌++◌, length, map, Option, Some, None, refl, ap, sym, ◌∙◌, ◌⊎◌, inl, inr, subst, length-append, arith}
use Rattle.std.specs.Prelude.{slice_get}
use Rattle.std.specs.List.{AllByRecursion, list_any}
use Rattle.std.proofs.lemmas.Option.{slice_get_within}
use Rattle.wac_types_shapes.specs.primitives.Name.{Name, same_name}
use Rattle.wac_types_shapes.specs.primitives.Tree.{TypeTree}
use Rattle.wac_types_collection.specs.subtyping.Called.{Called}
use Rattle.wac_types_collection.specs.collection.Held.{part_at}
use Rattle.wac_merge_tables.specs.private.tables.Nodes.{Node, of_resource, of_primitive, of_own, of_borrow, of_record, of_variant, of_list, of_fixed_list, of_tuple, of_flags, of_enum, of_option, of_result, of_stream, of_future, of_function, of_instance, of_component, of_module, Item, a_type, a_func, an_instance, a_component, a_module, a_value, type_of, types_of, item_tree, listed_tree, and_optional, optionals, seconds, mentions, optional_tree, node_tree, tree_at, IsTable}
use Rattle.wac_merge_trees.specs.private.coding.Coding.{IsGrown}
use Rattle.wac_merge_trees.proofs.lemmas.coding.CodingGrowth.{longer, node_at}
use Rattle.wac_merge_agreement.specs.private.agreement.ReachSteps.{flag_of, parts}
use Rattle.wac_merge_agreement.specs.private.agreement.Marks.{IsInner, AreMarks, any_side, is_marked, is_outer_node}
use Rattle.wac_merge_agreement.proofs.lemmas.agreement.Flagging.{flag_before, flag_last}

-- ---- lists of nodes
all_both : (P : ℕ → Type 0) (xs ys : List ℕ) → AllByRecursion P xs → AllByRecursion P ys → AllByRecursion P (xs ++ ys)
all_both P [] ys h k = k
all_both P (x ∷ xs) ys h k = (h.0, all_both P xs ys h.1 k)

all_left : (P : ℕ → Type 0) (xs ys : List ℕ) → AllByRecursion P (xs ++ ys) → AllByRecursion P xs
all_left P [] ys h = tt
all_left P (x ∷ xs) ys h = (h.0, all_left P xs ys h.1)

all_right : (P : ℕ → Type 0) (xs ys : List ℕ) → AllByRecursion P (xs ++ ys) → AllByRecursion P ys
all_right P [] ys h = h
all_right P (x ∷ xs) ys h = all_right P xs ys h.1

all_from : (P Q R : ℕ → Type 0) → ((m : ℕ) → P m → Q m → R m) → (xs : List ℕ) → AllByRecursion P xs → AllByRecursion Q xs → AllByRecursion R xs
all_from P Q R f [] h k = tt
all_from P Q R f (x ∷ xs) h k = (f x h.0 k.0, all_from P Q R f xs h.1 k.1)

neither_left : (a b : Bool) → (a || b) ≡ false → a ≡ false
neither_left true b e = cc
neither_left false b e = refl

neither_right : (a b : Bool) → (a || b) ≡ false → b ≡ false
neither_right true b e = cc
neither_right false b e = e

none_of : (f : ℕ → Bool) (xs : List ℕ) → list_any f xs ≡ false → AllByRecursion (λ m. f m ≡ false) xs
none_of f [] e = tt
none_of f (x ∷ xs) e = (neither_left (f x) (list_any f xs) e, none_of f xs (neither_right (f x) (list_any f xs) e))

-- none of the nodes that a node mentions passes
none_mentioned : (f : ℕ → Bool) (n : Node) → list_any f (parts n) ≡ false → any_side f n ≡ false → AllByRecursion (λ m. f m ≡ false) (mentions n)
none_mentioned f (of_component imports exports) e g =
    all_both (λ m. f m ≡ false) (types_of imports) (types_of exports)
    (none_of f (types_of imports) (neither_left (list_any f (types_of imports)) (list_any f (types_of exports)) g))
    (none_of f (types_of exports) (neither_right (list_any f (types_of imports)) (list_any f (types_of exports)) g))
none_mentioned f (of_resource r) e g = tt
none_mentioned f (of_primitive p) e g = tt
none_mentioned f (of_own r) e g = tt
none_mentioned f (of_borrow r) e g = tt
none_mentioned f (of_record fields) e g = none_of f (seconds fields) e
none_mentioned f (of_variant cases) e g = none_of f (optionals cases) e
none_mentioned f (of_list n) e g = none_of f (n ∷ []) e
none_mentioned f (of_fixed_list k n) e g = none_of f (n ∷ []) e
none_mentioned f (of_tuple ns) e g = none_of f ns e
none_mentioned f (of_flags names) e g = tt
none_mentioned f (of_enum names) e g = tt
none_mentioned f (of_option n) e g = none_of f (n ∷ []) e
none_mentioned f (of_result ok err) e g = none_of f (and_optional ok (and_optional err [])) e
none_mentioned f (of_stream n) e g = none_of f (and_optional n []) e
none_mentioned f (of_future n) e g = none_of f (and_optional n []) e
none_mentioned f (of_function is_async params result) e g = none_of f (and_optional result (seconds params)) e
none_mentioned f (of_instance exports) e g = none_of f (types_of exports) e
none_mentioned f (of_module imports exports) e g = tt

-- ---- the tree of a node
module _ (t : ℕ → TypeTree Called) where
  abbrev In : ℕ → Type 0
  In m = IsInner (t m)

  parts_inner : (ns : List ℕ) → AllByRecursion In ns → (i : ℕ) → IsInner (part_at (map t ns) i)
  parts_inner [] h i = tt
  parts_inner (n ∷ ns) h zero = h.0
  parts_inner (n ∷ ns) h (suc i) = parts_inner ns h.1 i

  fields_inner : (es : List (Name × ℕ)) → AllByRecursion In (seconds es) → (i : ℕ) → IsInner (part_at (map (λ e. t e.1) es) i)
  fields_inner [] h i = tt
  fields_inner (e ∷ es) h zero = h.0
  fields_inner (e ∷ es) h (suc i) = fields_inner es h.1 i

  optional_inner : (o : Option ℕ) (rest : List ℕ) → AllByRecursion In (and_optional o rest) → IsInner (optional_tree t o) × AllByRecursion In rest
  optional_inner None rest h = (tt, h)
  optional_inner (Some n) rest h = (h.0, h.1)

  cases_inner : (es : List (Name × Option ℕ)) → AllByRecursion In (optionals es) → (i : ℕ) → IsInner (part_at (map (λ e. optional_tree t e.1) es) i)
  cases_inner [] h i = tt
  cases_inner (e ∷ es) h zero = (optional_inner e.1 (optionals es) h).0
  cases_inner (e ∷ es) h (suc i) = cases_inner es (optional_inner e.1 (optionals es) h).1 i

  item_inner : (x : Item) → In (type_of x) → IsInner (item_tree t x)
  item_inner (a_type n) h = h
  item_inner (a_func n) h = h
  item_inner (an_instance n) h = h
  item_inner (a_component n) h = h
  item_inner (a_module n) h = h
  item_inner (a_value n) h = h

  items_inner : (es : List (Name × Item)) → AllByRecursion In (types_of es) → (n : Name) → IsInner (listed_tree t es n)
  items_inner [] h n = tt
  items_inner (e ∷ es) h n = split (same_name n e.0) (item_inner e.1 h.0) (items_inner es h.1 n) where
    split : (s : Bool) → IsInner (item_tree t e.1) → IsInner (listed_tree t es n) → IsInner (if s then item_tree t e.1 else listed_tree t es n)
    split true a b = a
    split false a b = b

  node_inner : (n : Node) → is_outer_node n ≡ false → AllByRecursion In (mentions n) → IsInner (node_tree t n)
  node_inner (of_resource r) e h = e
  node_inner (of_primitive p) e h = tt
  node_inner (of_own r) e h = e
  node_inner (of_borrow r) e h = e
  node_inner (of_record fields) e h = fields_inner fields h
  node_inner (of_variant cases) e h = cases_inner cases h
  node_inner (of_list n) e h = h.0
  node_inner (of_fixed_list k n) e h = h.0
  node_inner (of_tuple ns) e h = parts_inner ns h
  node_inner (of_flags names) e h = tt
  node_inner (of_enum names) e h = tt
  node_inner (of_option n) e h = h.0
  node_inner (of_result ok err) e h = let (a, rest) = optional_inner ok (and_optional err []) h in (a, (optional_inner err [] rest).0)
  node_inner (of_stream n) e h = (optional_inner n [] h).0
  node_inner (of_future n) e h = (optional_inner n [] h).0
  node_inner (of_function is_async params result) e h = let (a, rest) = optional_inner result (seconds params) h in (fields_inner params rest, a)
  node_inner (of_instance exports) e h = items_inner exports h
  node_inner (of_component imports exports) e h = (items_inner imports (all_left In (types_of imports) (types_of exports) h), items_inner exports (all_right In (types_of imports) (types_of exports) h))
  node_inner (of_module imports exports) e h = tt

-- ---- a mark more
module _ (ns : List Node) (table : IsTable ns) (marks : List Bool) (old : AreMarks ns marks) (n : Node) (is : slice_get ns (length marks) ≡ Some n) where
  -- a node without its mark
  unmarked : is_marked marks n ≡ false → IsInner (tree_at ns (length marks))
  unmarked e =
      let near : (is_outer_node n || list_any (flag_of marks) (parts n)) ≡ false = neither_left (is_outer_node n || list_any (flag_of marks) (parts n)) (any_side (flag_of marks) n) e in
      let sides : any_side (flag_of marks) n ≡ false = neither_right (is_outer_node n || list_any (flag_of marks) (parts n)) (any_side (flag_of marks) n) e in
      let outer : is_outer_node n ≡ false = neither_left (is_outer_node n) (list_any (flag_of marks) (parts n)) near in
      let inside : list_any (flag_of marks) (parts n) ≡ false = neither_right (is_outer_node n) (list_any (flag_of marks) (parts n)) near in
      let all : AllByRecursion (λ m. IsInner (tree_at ns m)) (mentions n) = all_from (λ m. m < length marks) (λ m. flag_of marks m ≡ false) (λ m. IsInner (tree_at ns m)) old.inner (mentions n) (table.lower (length marks) n is) (none_mentioned (flag_of marks) n inside sides) in
      subst IsInner (sym (node_at ns table (length marks) n is)) (node_inner (tree_at ns) n outer all)

  -- the next node has its mark
  pub marks_next : (x : Bool) → x ≡ is_marked marks n → AreMarks ns (marks ++ x ∷ [])
  marks_next x same =
      let within = slice_get_within ns (length marks) n is in
      record {
        there = omega (arith, within, length-append marks (x ∷ []));
        inner = λ i lower none. by i (order i (length marks) (omega (arith, lower, length-append marks (x ∷ [])))) none;
      }
    where
      order : (i k : ℕ) → i < k + 1 → (i < k) ⊎ (i ≡ k)
      order zero zero l = inr refl
      order zero (suc k) l = inl (omega arith)
      order (suc i) zero l = absurd (omega (arith, l))
      order (suc i) (suc k) l = elim (order i k (omega (arith, l))) [ inl h ↦ inl (omega (arith, h)) | inr e ↦ inr (ap suc e) ]

      by : (i : ℕ) → (i < length marks) ⊎ (i ≡ length marks) → flag_of (marks ++ x ∷ []) i ≡ false → IsInner (tree_at ns i)
      by i (inl less) none = old.inner i less (sym (flag_before marks x i less) ∙ none)
      by i (inr e) none =
          let last : flag_of (marks ++ x ∷ []) (length marks) ≡ false = subst (λ k. flag_of (marks ++ x ∷ []) k ≡ false) e none in
          subst (λ k. IsInner (tree_at ns k)) (sym e) (unmarked (sym same ∙ (sym (flag_last marks x) ∙ last)))

-- where no node was looked at
pub no_marks : (ns : List Node) (marks : List Bool) → marks ≡ [] → AreMarks ns marks
no_marks ns marks none = record { there = omega (arith, ap (λ (l : List Bool). length l) none); inner = λ i low _. absurd (omega (arith, low, ap (λ (l : List Bool). length l) none)) }

-- marks stay while the table grows
pub marks_grown : (old new : List Node) (marks : List Bool) → IsGrown old new → AreMarks old marks → AreMarks new marks
marks_grown old new marks g h = record {
  there = (let l = longer old new g in let t = h.there in omega (arith, l, t));
  inner = λ i low none. (let t = h.there in subst IsInner (sym (g.trees i (omega (arith, low, t)))) (h.inner i low none));
}

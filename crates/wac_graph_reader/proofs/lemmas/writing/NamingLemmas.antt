-- The names of indexes: the lowest of the named nodes at each, in the order of the indexes.
use Rattle.std.proofs.Common.{◌≡◌, ◌↔◌, ℕ, zero, suc, ◌≤◌, ◌+◌, Bool, true, false, cond, List, [], ◌∷◌, ◌++◌, ◌==◌, length, map, Option, Some, None, IsSome, IsSomeAnd, refl, ap, sym, ◌∙◌, subst, arith}
use Rattle.std.specs.Prelude.{slice_get, MatchOption}
use Rattle.std.specs.Ordering.{nat_cmp, eq_by_cmp}
use Rattle.std.specs.declared.cmp.Ordering.TheVariants.{Less}
use Rattle.std.specs.Cmp.{nat_cmp_total}
use Rattle.std.specs.List.{AllByRecursion}
use Rattle.std.specs.List.Sorted.{IsStrictlySortedBy}
use Rattle.std.specs.BTreeMap as tree
use Rattle.std.specs.BTreeMap.{BTreeMap, is_at}
use Rattle.std.specs.Map.{keys_of, lookup}
use Rattle.std.proofs.lemmas.Bool.Decides.{nat_tests}
use Rattle.std.proofs.lemmas.Map.Entries.{place_from_lookup, btree_map_get_place}
use Rattle.std.proofs.lemmas.Map.Keys.{sorted_head, sorted_tail}
use Rattle.std.specs.Borrow.{Bor}
use Rattle.std.specs.Map.Iter.{deref_pair}
use Rattle.std.proofs.lemmas.List.{append-nil, map-append}
use Rattle.wac_types_shapes.specs.primitives.Name.{Name, option_case}
use Rattle.wac_binary.specs.declared.sorts.Sort.{Sort}
use Rattle.wac_binary.specs.declared.sorts.Sort.TheVariants as sort
use Rattle.wac_binary.specs.Customs as custom_section
use Rattle.wac_binary.specs.Customs.{same_sort, of_sort, RiseFrom, Rising, names_bytes}
use Rattle.slab.specs.Slab.{get, ContainsKey}
use Rattle.wac_binary.specs.Views.{names_of}
use Rattle.wac_edges.specs.declared.node.NodeId.{NodeId}
use Rattle.wac_edges.specs.Edge.{node_number}
use Rattle.wac_graph_model.specs.declared.nodes.node.Node.{Node}
use Rattle.wac_graph_fields.specs.private.Fields.{Fields, graph_of}
use Rattle.wac_graph_reader.proofs.lemmas.writing.EncodingLemmas.{node_is, some_and, of_node, has_number}
use Rattle.wac_graph_model.specs.nodes.Graph.{Graph, GraphNode, node_at}
use Rattle.wac_graph_model.specs.nodes.Nodes.{node_of}
use Rattle.wac_graph_model.specs.meaning.Means.{sort_of_kind, IsNameOf, AreNames, name_customs}
use Rattle.wac_graph_reader.specs.private.writing.Naming.{IsNamed, IsNamedAt, AreLowest, AreNamesOf}

module _ (P : ℕ → NodeId → Type 0) where
  abbrev IsLowestAt : ℕ → ℕ → Option NodeId → Type 0
  IsLowestAt k i o = MatchOption o ((n : NodeId) → k ≤ n.0 → P i n → ⊥) (λ n. P i n × ((m : NodeId) → k ≤ m.0 → P i m → n.0 ≤ m.0))

  -- none are looked at yet
  pub lowest_none : (k : ℕ) (m : BTreeMap ℕ NodeId) → m.entries ≡ [] → ((i : ℕ) (n : NodeId) → k ≤ n.0 → P i n → ⊥) → AreLowest P k m
  lowest_none k m empty past i = subst (λ o. IsLowestAt k i o) (ap (lookup (is_at (nat_cmp i))) (sym empty)) (past i)

  above : (k : ℕ) (n : NodeId) (Q : Type 0) → k ≤ n.0 → (n ≡ node_number k → Q) → (k + 1 ≤ n.0 → Q) → Q
  above k n Q le same more = elim (eq_by_cmp nat_cmp n.0 k) as (λ b. eq_by_cmp nat_cmp n.0 k ≡ b → Q) [ true ↦ λ e. same (let at : n.0 ≡ k = grind (arith, nat_tests) in ap node_number at) | false ↦ λ e. more (grind (arith, nat_tests)) ] refl

  -- the node of the number is none of them
  pub lowest_skip : (k : ℕ) (m : BTreeMap ℕ NodeId) → ((i : ℕ) → P i (node_number k) → ⊥) → AreLowest P (k + 1) m → AreLowest P k m
  lowest_skip k m none h i = at (tree.get nat_cmp m i) (h i) where
    at : (o : Option NodeId) → IsLowestAt (k + 1) i o → IsLowestAt k i o
    at None h = λ n le is. above k n ⊥ le (λ same. none i (subst (λ y. P i y) same is)) (λ more. h n more is)
    at (Some n) (here, low) = (here, λ x le is. above k x (n.0 ≤ x.0) le (λ same. absurd (none i (subst (λ y. P i y) same is))) (λ more. low x more is))

  -- the node of the number is one, under this key alone
  pub lowest_put : (k j : ℕ) (m m' : BTreeMap ℕ NodeId) → P j (node_number k) → ((i : ℕ) → P i (node_number k) → i ≡ j) → tree.Updates nat_cmp m m' j (Some (node_number k)) → AreLowest P (k + 1) m → AreLowest P k m'
  lowest_put k j m m' here one put h i = split (is_at (nat_cmp j) i) refl where
    others : (none : P i (node_number k) → ⊥) (o : Option NodeId) → IsLowestAt (k + 1) i o → IsLowestAt k i o
    others none None h = λ n le is. above k n ⊥ le (λ same. none (subst (λ y. P i y) same is)) (λ more. h n more is)
    others none (Some n) (there, low) = (there, λ x le is. above k x (n.0 ≤ x.0) le (λ same. absurd (none (subst (λ y. P i y) same is))) (λ more. low x more is))

    split : (b : Bool) → is_at (nat_cmp j) i ≡ b → IsLowestAt k i (tree.get nat_cmp m' i)
    split true is =
        let same : i ≡ j = grind (arith, nat_tests) in
        subst (λ o. IsLowestAt k i o) (sym (put.0 i ∙ ap (λ b. cond b (Some (node_number k)) (tree.get nat_cmp m i)) is)) (subst (λ y. P y (node_number k)) (sym same) here, λ x le _. le)
    split false is =
        let apart : i ≡ j → ⊥ = λ same. grind (arith, nat_tests) in
        subst (λ o. IsLowestAt k i o) (sym (put.0 i ∙ ap (λ b. cond b (Some (node_number k)) (tree.get nat_cmp m i)) is)) (others (λ p. apart (one i p)) (tree.get nat_cmp m i) (h i))

  -- what is found under a key stands in the list
  pub placed : (m : BTreeMap ℕ NodeId) (i : ℕ) (n : NodeId) → tree.get nat_cmp m i ≡ Some n → (k : ℕ) × (slice_get m.entries k ≡ Some (i, n))
  placed m i n found =
      let (k, key, at, test) = place_from_lookup (is_at (nat_cmp i)) m.entries n found in
      let same : key ≡ i = grind (arith, nat_tests) in
      (k, at ∙ ap (λ (x : ℕ). Some (x, n)) same)

  -- the entries are the keys with the lowest nodes
  pub listed : (m : BTreeMap ℕ NodeId) → tree.IsOrdered nat_cmp m → AreLowest P 0 m → (i : ℕ) (n : NodeId) → ((k : ℕ) × (slice_get m.entries k ≡ Some (i, n))) ↔ (P i n × ((x : NodeId) → P i x → n.0 ≤ x.0))
  listed m ordered h i n = (to, from (tree.get nat_cmp m i) refl (h i)) where
    to : (k : ℕ) × (slice_get m.entries k ≡ Some (i, n)) → P i n × ((x : NodeId) → P i x → n.0 ≤ x.0)
    to (k, at) =
        let found : tree.get nat_cmp m i ≡ Some n = btree_map_get_place nat_cmp_total m k i n ordered at in
        let (here, low) = subst (λ o. IsLowestAt 0 i o) found (h i) in
        (here, λ x is. low x (omega arith) is)

    from : (o : Option NodeId) → tree.get nat_cmp m i ≡ o → IsLowestAt 0 i o → P i n × ((x : NodeId) → P i x → n.0 ≤ x.0) → (k : ℕ) × (slice_get m.entries k ≡ Some (i, n))
    from None is none (here, low) = absurd (none n (omega arith) here)
    from (Some y) is (there, least) (here, low) =
        let down : n.0 ≤ y.0 = low y there in
        let up : y.0 ≤ n.0 = least n (omega arith) here in
        let same : y.0 ≡ n.0 = omega (arith, down, up) in
        placed m i n (is ∙ ap (λ (x : ℕ). Some (node_number x)) same)

-- keys that are in order rise
rise : (f : ℕ × NodeId → Name) (i : ℕ) (es : List (ℕ × NodeId)) → AllByRecursion (λ y. nat_cmp i y ≡ Less) (keys_of es) → IsStrictlySortedBy nat_cmp (keys_of es) → RiseFrom i (map (λ e. (e.0, f e)) es)
rise f i [] all sorted = tt
rise f i (e ∷ es) all sorted = (grind (arith, nat_tests, all.0), rise f e.0 es (sorted_head nat_cmp e.0 (keys_of es) sorted) (sorted_tail nat_cmp e.0 (keys_of es) sorted))

rising : (f : ℕ × NodeId → Name) (es : List (ℕ × NodeId)) → IsStrictlySortedBy nat_cmp (keys_of es) → Rising (map (λ e. (e.0, f e)) es)
rising f [] sorted = tt
rising f (e ∷ es) sorted = rise f e.0 es (sorted_head nat_cmp e.0 (keys_of es) sorted) (sorted_tail nat_cmp e.0 (keys_of es) sorted)

-- ---- of a graph's nodes
-- a node that has a name is there
pub named_there_is : (g : Graph) (t : Sort) (n : NodeId) → IsNamed g t n → IsSome (node_at g n)
named_there_is g t n is = some_of (node_at g n) is where
  some_of : (o : Option GraphNode) → IsSomeAnd o (λ node. IsSome node.name × (sort_of_kind node.item_kind ≡ t)) → IsSome o
  some_of None h = absurd h
  some_of (Some node) h = refl

abbrev pub name_at : Graph → NodeId → Name
name_at g n = option_case (node_at g n) [] (λ node. option_case node.name [] (λ name. name))

-- these indexes with the names of these nodes, of one sort
abbrev pub with_names : Graph → Sort → List (ℕ × NodeId) → List (Sort × ℕ × Name)
with_names g t es = map (λ e. (t, e.0, name_at g e.1)) es

slice_get-map : {A B : Type 0} (f : A → B) (xs : List A) (k : ℕ) (y : B) → slice_get (map f xs) k ≡ Some y → (x : A) × (slice_get xs k ≡ Some x) × (f x ≡ y)
slice_get-map f [] k y is = cc
slice_get-map f (x ∷ xs) zero y is = (x, refl, cc)
slice_get-map f (x ∷ xs) (suc k) y is = slice_get-map f xs k y is

map-slice_get : {A B : Type 0} (f : A → B) (xs : List A) (k : ℕ) (x : A) → slice_get xs k ≡ Some x → slice_get (map f xs) k ≡ Some (f x)
map-slice_get f [] k x is = cc
map-slice_get f (y ∷ xs) zero x is = let same : y ≡ x = cc in ap (λ z. Some (f z)) same
map-slice_get f (y ∷ xs) (suc k) x is = map-slice_get f xs k x is

map-map : {A B C : Type 0} (f : A → B) (h : B → C) (xs : List A) → map h (map f xs) ≡ map (λ x. h (f x)) xs
map-map f h [] = refl
map-map f h (x ∷ xs) = ap (λ ys. h (f x) ∷ ys) (map-map f h xs)

module _ (g : Graph) (index : NodeId → ℕ) (t : Sort) where
  record Named (n : NodeId) : Type 0 where
    node : GraphNode
    name : Name
    there : node_at g n ≡ Some node
    named : node.name ≡ Some name
    sorted : sort_of_kind node.item_kind ≡ t

  -- a node that has a name, with the name
  named_node : (n : NodeId) → IsNamed g t n → Named n
  named_node n is = of_found (node_at g n) refl is where
    of_name : (node : GraphNode) → node_at g n ≡ Some node → sort_of_kind node.item_kind ≡ t → (o : Option Name) → node.name ≡ o → IsSome o → Named n
    of_name node there sorted None is h = cc
    of_name node there sorted (Some name) is h = record { node = node; name = name; there = there; named = is; sorted = sorted }

    of_found : (o : Option GraphNode) → node_at g n ≡ o → IsSomeAnd o (λ node. IsSome node.name × (sort_of_kind node.item_kind ≡ t)) → Named n
    of_found None at h = absurd h
    of_found (Some node) at (some, sorted) = of_name node at sorted node.name refl some

  is_named : (n : NodeId) (node : GraphNode) → node_at g n ≡ Some node → IsSome node.name → sort_of_kind node.item_kind ≡ t → IsNamed g t n
  is_named n node there some sorted = subst (λ o. IsSomeAnd o (λ x. IsSome x.name × (sort_of_kind x.item_kind ≡ t))) (sym there) (some, sorted)

  name_is : (n : NodeId) (node : GraphNode) (name : Name) → node_at g n ≡ Some node → node.name ≡ Some name → name_at g n ≡ name
  name_is n node name there named = ap (λ o. option_case o [] (λ x. option_case x.name [] (λ y. y))) there ∙ ap (λ o. option_case o [] (λ y. y)) named

  -- the lowest named nodes give the names
  pub named_by : (m : BTreeMap ℕ NodeId) → tree.IsOrdered nat_cmp m → AreLowest (IsNamedAt g index t) 0 m → (names : List (Sort × ℕ × Name)) → names ≡ with_names g t m.entries → AreNamesOf g index t names
  named_by m ordered low names same = record {
    pairs = map named_pair m.entries;
    tagged = same ∙ sym (map-map named_pair (λ e. (t, e.0, e.1)) m.entries);
    each = λ i name. (to i name, from i name);
    rising = rising (λ e. name_at g e.1) m.entries ordered;
  } where
    named_pair : ℕ × NodeId → ℕ × Name
    named_pair e = (e.0, name_at g e.1)

    to : (i : ℕ) (name : Name) → (k : ℕ) × (slice_get (map named_pair m.entries) k ≡ Some (i, name)) → IsNameOf g index t i name
    to i name (k, at) =
        let (e, there, is) = slice_get-map named_pair m.entries k (i, name) at in
        let key : e.0 ≡ i = ap (λ x. x.0) is in
        let text : name_at g e.1 ≡ name = ap (λ x. x.1) is in
        let (here, least) = (listed (IsNamedAt g index t) m ordered low e.0 e.1).0 (k, there) in
        let found = named_node e.1 here.0 in
        record {
          n = e.1;
          node = found.node;
          there = found.there;
          named = found.named ∙ ap (λ x. Some x) (sym (name_is e.1 found.node found.name found.there found.named) ∙ text);
          sorted = found.sorted;
          placed = here.1 ∙ key;
          lowest = λ x other other_there some sorted placed. least x (is_named x other other_there some sorted, placed ∙ sym key);
        }

    from : (i : ℕ) (name : Name) → IsNameOf g index t i name → (k : ℕ) × (slice_get (map named_pair m.entries) k ≡ Some (i, name))
    from i name is =
        let some : IsSome is.node.name = subst (λ o. IsSome o) (sym is.named) refl in
        let (k, at) = (listed (IsNamedAt g index t) m ordered low i is.n).1 (
          (is_named is.n is.node is.there some is.sorted, is.placed),
          λ x (h, placed). let other = named_node x h in is.lowest x other.node other.there (subst (λ o. IsSome o) (sym other.named) refl) other.sorted placed,
        ) in
        (k, map-slice_get named_pair m.entries k (i, is.n) at ∙ ap (λ text. Some (i, text)) (name_is is.n is.node name is.there is.named))

-- what is found under an index has a name
pub named_found : (g : Graph) (index : NodeId → ℕ) (t : Sort) (m : BTreeMap ℕ NodeId) (i : ℕ) (n : NodeId) → AreLowest (IsNamedAt g index t) 0 m → tree.get nat_cmp m i ≡ Some n → IsSomeAnd (node_at g n) (λ node. IsSome node.name)
named_found g index t m i n low found = some (node_at g n) (subst (λ o. MatchOption o ((y : NodeId) → 0 ≤ y.0 → IsNamedAt g index t i y → ⊥) (λ y. IsNamedAt g index t i y × ((x : NodeId) → 0 ≤ x.0 → IsNamedAt g index t i x → y.0 ≤ x.0))) found (low i)).0.0 where
  some : (o : Option GraphNode) → IsSomeAnd o (λ node. IsSome node.name × (sort_of_kind node.item_kind ≡ t)) → IsSomeAnd o (λ node. IsSome node.name)
  some None h = h
  some (Some node) h = h.0

-- one name more
pub names_more : (g : Graph) (t : Sort) (items more : List (Sort × ℕ × Bor (List ℕ))) (ys : List (Bor ℕ × Bor NodeId)) (i : Bor ℕ) (n : Bor NodeId) (text : Bor (List ℕ)) → more ≡ items ++ (t, i.now, text) ∷ []
    → IsSomeAnd (node_at g n.now) (λ node. node.name ≡ Some text.now) → names_of items ≡ with_names g t (map deref_pair ys) → names_of more ≡ with_names g t (map deref_pair (ys ++ (i, n) ∷ []))
names_more g t items more ys i n text added named h =
    ap names_of added ∙ map-append name_of_item items ((t, i.now, text) ∷ [])
    ∙ (λ k. h k ++ (t, i.now, called (node_at g n.now) named k) ∷ [])
    ∙ sym (ap (with_names g t) (map-append deref_pair ys ((i, n) ∷ [])) ∙ map-append tag (map deref_pair ys) ((i.now, n.now) ∷ [])) where
      name_of_item : Sort × ℕ × Bor (List ℕ) → Sort × ℕ × Name
      name_of_item e = (e.0, e.1, e.2.now)

      tag : ℕ × NodeId → Sort × ℕ × Name
      tag e = (t, e.0, name_at g e.1)

      called : (o : Option GraphNode) → IsSomeAnd o (λ node. node.name ≡ Some text.now) → text.now ≡ option_case o [] (λ node. option_case node.name [] (λ name. name))
      called None h = absurd h
      called (Some node) h = sym (ap (λ o. option_case o [] (λ name. name)) h)

-- names that are put together one list after another
pub chained : (a b c d e f i j k l m : List (Sort × ℕ × Bor (List ℕ))) → i ≡ a ++ b → j ≡ i ++ c → k ≡ j ++ d → l ≡ k ++ e → m ≡ l ++ f
    → names_of m ≡ ((((names_of a ++ names_of b) ++ names_of c) ++ names_of d) ++ names_of e) ++ names_of f
chained a b c d e f i j k l m one two three four five =
    more l f m five ∙ ap (λ xs. xs ++ names_of f) (more k e l four ∙ ap (λ xs. xs ++ names_of e) (more j d k three ∙ ap (λ xs. xs ++ names_of d) (more i c j two ∙ ap (λ xs. xs ++ names_of c) (more a b i one)))) where
      name_of_item : Sort × ℕ × Bor (List ℕ) → Sort × ℕ × Name
      name_of_item e = (e.0, e.1, e.2.now)

      more : (xs ys zs : List (Sort × ℕ × Bor (List ℕ))) → zs ≡ xs ++ ys → names_of zs ≡ names_of xs ++ names_of ys
      more xs ys zs h = ap names_of h ∙ map-append name_of_item xs ys

-- names that are some
pub not_empty : (names : List (Sort × ℕ × Bor (List ℕ))) → (length names == 0) ≡ false → names_of names ≡ [] → ⊥
not_empty [] h is = cc
not_empty (x ∷ names) h is = cc

-- ---- of the nodes that are kept
module _ (a : Fields) (n : NodeId) (t : Sort) where
  pub none_there : get a.nodes n.0 ≡ None → IsNamed (graph_of a) t n → ⊥
  none_there had h = nothing (node_at (graph_of a) n) (node_is a n.0 None had) h where
    nothing : (o : Option GraphNode) → o ≡ None → IsSomeAnd o (λ node. IsSome node.name × (sort_of_kind node.item_kind ≡ t)) → ⊥
    nothing None _ h = h
    nothing (Some x) e h = cc

  pub named_there : (node : Node) → get a.nodes n.0 ≡ Some node → IsSome (node_of node).name → sort_of_kind node.item_kind ≡ t → IsNamed (graph_of a) t n
  named_there node had some sorted = some_and a n.0 node (λ x. IsSome x.name × (sort_of_kind x.item_kind ≡ t)) had (some, sorted)

  pub name_there : (node : Node) → get a.nodes n.0 ≡ Some node → IsNamed (graph_of a) t n → IsSome (node_of node).name × (sort_of_kind node.item_kind ≡ t)
  name_there node had h = of_node a n.0 node (λ x. IsSome x.name × (sort_of_kind x.item_kind ≡ t)) h had

-- a node that has a name
pub named_number : (a : Fields) (n : NodeId) → IsSomeAnd (node_at (graph_of a) n) (λ node. IsSome node.name) → ContainsKey a.nodes n.0
named_number a n h = has_number a n.0 (some_of (node_at (graph_of a) n) h) where
  some_of : (o : Option GraphNode) → IsSomeAnd o (λ node. IsSome node.name) → IsSome o
  some_of None h = absurd h
  some_of (Some node) h = refl

pub has_name : (a : Fields) (n : NodeId) (node : Node) → get a.nodes n.0 ≡ Some node → IsSomeAnd (node_at (graph_of a) n) (λ x. IsSome x.name) → (node_of node).name ≡ None → ⊥
has_name a n node had h none = nothing (node_of node).name none (of_node a n.0 node (λ x. IsSome x.name) h had) where
  nothing : {A : Type 0} (o : Option A) → o ≡ None → IsSome o → ⊥
  nothing None _ h = cc
  nothing (Some x) h _ = cc

-- ---- of all sorts together
of_sort-append : (t : Sort) (xs ys : List (Sort × ℕ × Name)) → of_sort t (xs ++ ys) ≡ of_sort t xs ++ of_sort t ys
of_sort-append t [] ys = refl
of_sort-append t (x ∷ xs) ys = split (same_sort x.0 t) (of_sort-append t xs ys) where
  split : (b : Bool) → of_sort t (xs ++ ys) ≡ of_sort t xs ++ of_sort t ys → cond b ((x.1, x.2) ∷ of_sort t (xs ++ ys)) (of_sort t (xs ++ ys)) ≡ cond b ((x.1, x.2) ∷ of_sort t xs) (of_sort t xs) ++ of_sort t ys
  split true h = ap (λ zs. (x.1, x.2) ∷ zs) h
  split false h = h

of_sort-tagged : (t u : Sort) (ps : List (ℕ × Name)) → of_sort t (map (λ e. (u, e.0, e.1)) ps) ≡ cond (same_sort u t) ps []
of_sort-tagged t u [] = none (same_sort u t) where
  none : (b : Bool) → ◌≡◌ {A = List (ℕ × Name)} [] (cond b [] [])
  none true = refl
  none false = refl
of_sort-tagged t u (p ∷ ps) = split (same_sort u t) (of_sort-tagged t u ps) where
  split : (b : Bool) → of_sort t (map (λ e. (u, e.0, e.1)) ps) ≡ cond b ps [] → cond b ((p.0, p.1) ∷ of_sort t (map (λ e. (u, e.0, e.1)) ps)) (of_sort t (map (λ e. (u, e.0, e.1)) ps)) ≡ cond b (p ∷ ps) []
  split true h = ap (λ zs. p ∷ zs) h
  split false h = h

module _ (g : Graph) (index : NodeId → ℕ) (a b c d e f : List (Sort × ℕ × Name))
    (types : AreNamesOf g index sort.«Type» a) (funcs : AreNamesOf g index sort.Func b) (instances : AreNamesOf g index sort.Instance c)
    (components : AreNamesOf g index sort.Component d) (modules : AreNamesOf g index sort.CoreModule e) (values : AreNamesOf g index sort.Value f) where
  abbrev whole : List (Sort × ℕ × Name)
  whole = ((((a ++ b) ++ c) ++ d) ++ e) ++ f

  abbrev pairs_of : Sort → List (ℕ × Name)
  pairs_of sort.«Type» = types.pairs
  pairs_of sort.Func = funcs.pairs
  pairs_of sort.Instance = instances.pairs
  pairs_of sort.Component = components.pairs
  pairs_of sort.CoreModule = modules.pairs
  pairs_of sort.Value = values.pairs

  part : (t u : Sort) (names : List (Sort × ℕ × Name)) (n : AreNamesOf g index u names) → of_sort t names ≡ cond (same_sort u t) n.pairs []
  part t u names n = ap (of_sort t) n.tagged ∙ of_sort-tagged t u n.pairs

  split : (t : Sort) → of_sort t whole ≡ ((((of_sort t a ++ of_sort t b) ++ of_sort t c) ++ of_sort t d) ++ of_sort t e) ++ of_sort t f
  split t = of_sort-append t ((((a ++ b) ++ c) ++ d) ++ e) f ∙ ap (λ xs. xs ++ of_sort t f)
      (of_sort-append t (((a ++ b) ++ c) ++ d) e ∙ ap (λ xs. xs ++ of_sort t e)
      (of_sort-append t ((a ++ b) ++ c) d ∙ ap (λ xs. xs ++ of_sort t d)
      (of_sort-append t (a ++ b) c ∙ ap (λ xs. xs ++ of_sort t c) (of_sort-append t a b))))

  parts : (t : Sort) → of_sort t whole
      ≡ ((((cond (same_sort sort.«Type» t) types.pairs [] ++ cond (same_sort sort.Func t) funcs.pairs []) ++ cond (same_sort sort.Instance t) instances.pairs []) ++ cond (same_sort sort.Component t) components.pairs []) ++ cond (same_sort sort.CoreModule t) modules.pairs []) ++ cond (same_sort sort.Value t) values.pairs []
  parts t = split t ∙ (λ i. ((((part t sort.«Type» a types i ++ part t sort.Func b funcs i) ++ part t sort.Instance c instances i) ++ part t sort.Component d components i) ++ part t sort.CoreModule e modules i) ++ part t sort.Value f values i)

  nil : {A : Type 0} (xs : List A) → xs ++ [] ≡ xs
  nil xs = append-nil xs

  of_sort-whole : (t : Sort) → of_sort t whole ≡ pairs_of t
  of_sort-whole sort.«Type» = parts sort.«Type» ∙ (nil ((((types.pairs ++ []) ++ []) ++ []) ++ []) ∙ nil (((types.pairs ++ []) ++ []) ++ []) ∙ nil ((types.pairs ++ []) ++ []) ∙ nil (types.pairs ++ []) ∙ nil types.pairs)
  of_sort-whole sort.Func = parts sort.Func ∙ (nil (((funcs.pairs ++ []) ++ []) ++ []) ∙ nil ((funcs.pairs ++ []) ++ []) ∙ nil (funcs.pairs ++ []) ∙ nil funcs.pairs)
  of_sort-whole sort.Instance = parts sort.Instance ∙ (nil ((instances.pairs ++ []) ++ []) ∙ nil (instances.pairs ++ []) ∙ nil instances.pairs)
  of_sort-whole sort.Component = parts sort.Component ∙ (nil (components.pairs ++ []) ∙ nil components.pairs)
  of_sort-whole sort.CoreModule = parts sort.CoreModule ∙ nil modules.pairs
  of_sort-whole sort.Value = parts sort.Value

  each_of : (t : Sort) (i : ℕ) (name : Name) → ((k : ℕ) × (slice_get (pairs_of t) k ≡ Some (i, name))) ↔ IsNameOf g index t i name
  each_of sort.«Type» = types.each
  each_of sort.Func = funcs.each
  each_of sort.Instance = instances.each
  each_of sort.Component = components.each
  each_of sort.CoreModule = modules.each
  each_of sort.Value = values.each

  rising_of : (t : Sort) → Rising (pairs_of t)
  rising_of sort.«Type» = types.rising
  rising_of sort.Func = funcs.rising
  rising_of sort.Instance = instances.rising
  rising_of sort.Component = components.rising
  rising_of sort.CoreModule = modules.rising
  rising_of sort.Value = values.rising

  rises : (t : Sort) → Rising (of_sort t whole)
  rises t = subst (λ ps. Rising ps) (sym (of_sort-whole t)) (rising_of t)

  -- the names of each sort are those of all
  pub all_names : (names : List (Sort × ℕ × Name)) → names ≡ whole → AreNames g index names
  all_names names same = subst (λ ns. AreNames g index ns) (sym same) (record {
    each = λ t i name. subst (λ ps. ((k : ℕ) × (slice_get ps k ≡ Some (i, name))) ↔ IsNameOf g index t i name) (sym (of_sort-whole t)) (each_of t i name);
    rising = (rises sort.«Type», (rises sort.Func, (rises sort.Instance, (rises sort.Component, (rises sort.CoreModule, (rises sort.Value, tt))))));
  })

-- the custom section of names that are there
pub some_names : (names : List (Sort × ℕ × Name)) → (names ≡ [] → ⊥) → name_customs names ≡ (custom_section.component_name, names_bytes names) ∷ []
some_names [] some = absurd (some refl)
some_names (e ∷ names) some = refl

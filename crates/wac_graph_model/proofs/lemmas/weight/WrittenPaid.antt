-- What is written of a graph, list by list, costs no more than its weight allows.
use Rattle.std.proofs.Common.{ℕ, ◌+◌, ◌*◌, ◌≤◌, ◌<◌, Bool, true, false, not, ◌&&◌, ◌||◌, if◌then◌else◌, List, [], ◌∷◌, length, Contains, ◌++◌, Option, Some, None, ◌≡◌, ◌⊎◌, inl, inr, refl, ap, sym, ◌∙◌, arith, slice_get, eqb, eq-eqb}
use Rattle.std.specs.FinMap as finite
use Rattle.std.specs.List.{sum_by, list_any, AllByRecursion}
use Rattle.std.proofs.lemmas.Bool.{eqb-true}
use Rattle.std.proofs.lemmas.List.Folds.{list_any-append}
use Rattle.std.proofs.lemmas.List.Sums.{sum_by-cons}
use Rattle.wac_types_shapes.specs.primitives.Name.{Name, same_name, option_case}
use Rattle.wac_types_shapes.proofs.lemmas.shapes.Names.{same_name-refl, find_position}
use Rattle.wac_types_collection.specs.collection.Collection.{IsWellFormed}
use Rattle.wac_types_collection.specs.collection.Package.{PackageParts}
use Rattle.wac_types_collection.proofs.lemmas.wide.Members.{in_none, in_parts, in_at, at_in}
use Rattle.wac_types_weight.specs.Weight.{optional_text}
use Rattle.wac_types_weight.proofs.Sums.{sum_in, sum_same, sum_both, sum_filter, term_less, Differ, differ_more}
use Rattle.wac_binary.specs.declared.sorts.Sort.{Sort}
use Rattle.wac_binary.specs.declared.sorts.Sort.TheVariants as sort
use Rattle.wac_binary.specs.Indexes.{space}
use Rattle.wac_binary.specs.Customs.{same_sort, of_sort, sorts_in_order, RiseFrom, Rising}
use Rattle.wac_edges.specs.Edge.{node_number}
use Rattle.wac_edges.specs.Order.{Edges, Writes, without}
use Rattle.wac_edges.specs.declared.node.NodeId.{NodeId}
use Rattle.wac_edges.proofs.EdgeLemmas.{same_node}
use Rattle.wac_edges.proofs.WrittenOrder.{same, same_itself, has, written_left}
use Rattle.wac_graph_model.specs.declared.nodes.options.EncodeOptions.{EncodeOptions}
use Rattle.wac_graph_model.specs.declared.nodes.packages.PackageId.{PackageId}
use Rattle.wac_graph_model.specs.declared.nodes.packages.Slot.{Slot}
use Rattle.wac_graph_model.specs.nodes.Graph.{Graph, GraphNode, node_at, package_in, package_at}
use Rattle.wac_graph_model.specs.nodes.OuterImports.{outer_entries}
use Rattle.wac_graph_model.specs.nodes.Sound.{IsSound}
use Rattle.wac_graph_model.specs.meaning.Means.{is_written, same_package, sort_of_kind, is_first, is_further, further_exports, IsNameOf, AreNames}
use Rattle.wac_graph_model.specs.weight.GraphWeight.{kind_weight, node_weight, bound}
use Rattle.wac_graph_model.specs.private.weight.AskedWeight.{entries_weight}
use Rattle.wac_graph_model.specs.private.weight.Costs.{node_cost, name_cost, written_cost, package_cost, slot_cost, export_cost}
use Rattle.wac_graph_model.specs.private.weight.Written.{first_cost, item_cost, numbered, is_written_slot, components_cost, slots_cost, names_cost, order_cost, OrderFits, NodeIsPart, ComponentsArePart, ComponentIsPaid, indexes_cost, NamesArePart}
use Rattle.wac_graph_model.proofs.lemmas.meaning.AskedMembers.{node_there}
use Rattle.wac_graph_model.proofs.lemmas.weight.AskedPaid.{asked-is-paid}
use Rattle.wac_graph_model.proofs.lemmas.weight.Fitting.{costs-fit}
use Rattle.wac_graph_model.proofs.lemmas.weight.Spreading.{counted, counted_yes, counted_no, one_at_most, swapped, spread, sum_gain, numbered_sum, numbered_in}

-- ---- the order has each node once
or_later : (a b : Bool) → b ≡ true → (a || b) ≡ true
or_later true b h = refl
or_later false b h = h

has_in : (ns : List NodeId) (n : NodeId) → Contains ns n → has ns n ≡ true
has_in [] n h = absurd (in_none n h)
has_in (m ∷ ns) n h = elim (in_parts m n ns h) [
  | inl e ↦ ap (λ z. same n z || has ns n) (sym e) ∙ ap (λ b. b || has ns n) (same_itself n)
  | inr w ↦ or_later (same n m) (has ns n) (has_in ns n w)
]

and_both : (a b : Bool) → (a && b) ≡ true → (a ≡ true) × (b ≡ true)
and_both true b h = (refl, h)
and_both false b h = cc

order_apart : (edges : Edges) (left : NodeId → Bool) (ns : List NodeId) → Writes edges left ns → Differ ns
unfolding Differ
order_apart edges left [] w = λ i j x at also. let no : None ≡ Some x = at in cc
order_apart edges left (n ∷ ns) w = differ_more n ns new (order_apart edges (without left n) ns w.1)
  where
    new : Contains ns n → ⊥
    new h =
        let again = written_left edges (without left n) ns w.1 n (has_in ns n h) in
        let itself : not (same n n) ≡ true = (and_both (left n) (not (same n n)) again).1 in
        let no : not (same n n) ≡ false = ap not (same_itself n) in
        let clash : true ≡ false = sym itself ∙ no in
        cc

in_order : (n : NodeId) (k : ℕ) → Bool
in_order n k = eqb n.0 k

-- ---- parts of what a node costs
only_cost : Graph → EncodeOptions → ℕ → ℕ
only_cost g o k = option_case (node_at g (node_number k)) 0 (λ node. node_cost g o k node node.kind)

begins_cost : Graph → NodeId → ℕ
begins_cost g n = option_case (node_at g n) 0 first_cost

named_cost : Graph → ℕ → ℕ
named_cost g k = option_case (node_at g (node_number k)) 0 name_cost

item_parts : (g : Graph) (o : EncodeOptions) (n : NodeId) → item_cost g o n ≡ only_cost g o n.0 + begins_cost g n
unfolding only_cost begins_cost
item_parts g o n = by (node_at g n)
  where
    by : (x : Option GraphNode) → option_case x 0 (λ node. node_cost g o n.0 node node.kind + first_cost node) ≡ option_case x 0 (λ node. node_cost g o n.0 node node.kind) + option_case x 0 first_cost
    by None = refl
    by (Some node) = refl

written_parts : (g : Graph) (o : EncodeOptions) (k : ℕ) → written_cost g o k ≡ only_cost g o k + named_cost g k
unfolding only_cost named_cost
written_parts g o k = by (node_at g (node_number k))
  where
    by : (x : Option GraphNode) → option_case x 0 (λ node. node_cost g o k node node.kind + name_cost node) ≡ option_case x 0 (λ node. node_cost g o k node node.kind) + option_case x 0 name_cost
    by None = refl
    by (Some node) = refl

key_there : (g : Graph) (n : NodeId) (node : GraphNode) → node_at g n ≡ Some node → Contains (finite.keys g.nodes) n.0
key_there g n node there = let (i, at) = node_there g n node there in at_in (finite.keys g.nodes) i n.0 at

module _ (g : Graph) (o : EncodeOptions) (sound : IsSound g) (order : List NodeId) (writes : Writes g.edges (is_written g) order) where
  apart : Differ order
  apart = order_apart g.edges (is_written g) order writes

  -- the nodes of the order are nodes of the graph
  nodes_paid : sum_by (λ n. only_cost g o n.0) order ≤ sum_by (only_cost g o) (finite.keys g.nodes)
  unfolding only_cost in_order
  nodes_paid = spread (λ n. only_cost g o n.0) (only_cost g o) (λ k n. in_order n k) order (finite.keys g.nodes) (λ n h. pays n (node_at g n) refl) once
    where
      pays : (n : NodeId) (x : Option GraphNode) → node_at g n ≡ x → (only_cost g o n.0 ≡ 0) ⊎ ((k : ℕ) × Contains (finite.keys g.nodes) k × (in_order n k ≡ true) × (only_cost g o n.0 ≤ only_cost g o k))
      pays n None is = inl (ap (λ x. option_case x 0 (λ node. node_cost g o n.0 node node.kind)) is)
      pays n (Some node) is = inr (n.0, key_there g n node is, eq-eqb n.0 n.0 refl, omega arith)

      once : (k : ℕ) → Contains (finite.keys g.nodes) k → sum_by (counted (λ n. in_order n k) (only_cost g o k)) order ≤ only_cost g o k
      once k h = one_at_most (λ n. in_order n k) (only_cost g o k) order apart (λ n m a b. alike n m a b)
        where
          alike : (n m : NodeId) → in_order n k ≡ true → in_order m k ≡ true → n ≡ m
          alike n m a b = same_node n m (eqb-true n.0 k a ∙ sym (eqb-true m.0 k b))

  -- ---- exports: first names and further ones
  first_export_cost : Name × NodeId → ℕ
  first_export_cost e = if is_further g e then 0 else export_cost e

  exports_split : sum_by first_export_cost g.exports + sum_by export_cost (further_exports g) ≡ sum_by export_cost g.exports
  unfolding first_export_cost
  exports_split =
      let kept = sum_filter (is_further g) export_cost g.exports in
      let both = sum_both (λ e. if is_further g e then 0 else export_cost e) (λ e. if is_further g e then export_cost e else 0) g.exports in
      let whole = sum_same (λ e. (if is_further g e then 0 else export_cost e) + (if is_further g e then export_cost e else 0)) export_cost g.exports (λ e h. either (is_further g e) (export_cost e)) in
      omega (arith, kept, both, whole)
    where
      either : (b : Bool) (n : ℕ) → (if b then 0 else n) + (if b then n else 0) ≡ n
      either true n = omega arith
      either false n = omega arith

  exported_at : NodeId → Name × NodeId → Bool
  exported_at n e = eqb n.0 e.1.0

  firsts_paid : sum_by (begins_cost g) order ≤ sum_by first_export_cost g.exports
  unfolding begins_cost first_export_cost exported_at
  firsts_paid = spread (begins_cost g) first_export_cost (λ e n. exported_at n e) order g.exports (λ n h. pays n (node_at g n) refl) once
    where
      named : (n : NodeId) (node : GraphNode) → node_at g n ≡ Some node → (x : Option Name) → node.first_name ≡ x → (begins_cost g n ≡ 0) ⊎ ((e : Name × NodeId) × Contains g.exports e × (exported_at n e ≡ true) × (begins_cost g n ≤ first_export_cost e))
      named n node is None first = inl (ap (λ y. option_case y 0 first_cost) is ∙ ap (λ y. option_case y 0 (λ name. 21 + 2 * length name)) first)
      named n node is (Some name) first =
          let (k, l, at) = find_position g.exports name n (sound.first_names n node name is first).1 in
          let own : is_further g (name, n) ≡ false =
          ap (λ y. not (option_case y false (λ z. is_first z name))) is ∙ ap (λ y. not (option_case y false (same_name name))) first ∙ ap not (same_name-refl name) in
          let cost : begins_cost g n ≡ 21 + 2 * length name = ap (λ y. option_case y 0 first_cost) is ∙ ap (λ y. option_case y 0 (λ z. 21 + 2 * length z)) first in
          let paid : (if is_further g (name, n) then 0 else export_cost (name, n)) ≡ 21 + 2 * length name = ap (λ b. if b then 0 else export_cost (name, n)) own in
          inr ((name, n), at_in g.exports k (name, n) at, eq-eqb n.0 n.0 refl, omega (arith, cost, paid))

      pays : (n : NodeId) (x : Option GraphNode) → node_at g n ≡ x → (begins_cost g n ≡ 0) ⊎ ((e : Name × NodeId) × Contains g.exports e × (exported_at n e ≡ true) × (begins_cost g n ≤ first_export_cost e))
      pays n None is = inl (ap (λ y. option_case y 0 first_cost) is)
      pays n (Some node) is = named n node is node.first_name refl

      once : (e : Name × NodeId) → Contains g.exports e → sum_by (counted (λ n. exported_at n e) (first_export_cost e)) order ≤ first_export_cost e
      once e h = one_at_most (λ n. exported_at n e) (first_export_cost e) order apart alike
        where
          alike : (n m : NodeId) → exported_at n e ≡ true → exported_at m e ≡ true → n ≡ m
          alike n m a b = same_node n m (eqb-true n.0 e.1.0 a ∙ sym (eqb-true m.0 e.1.0 b))

  -- ---- all together
  all_written : IsWellFormed g.types → 8 + 37 * entries_weight g.types (outer_entries g) + order_cost g o order ≤ bound g o
  unfolding only_cost begins_cost named_cost
  all_written wf =
      let asks = asked-is-paid g wf sound in
      let fit = costs-fit g o wf sound in
      let items = sum_same (item_cost g o) (λ n. only_cost g o n.0 + begins_cost g n) order (λ n h. item_parts g o n) in
      let two = sum_both (λ n. only_cost g o n.0) (begins_cost g) order in
      let whole = sum_same (written_cost g o) (λ k. only_cost g o k + named_cost g k) (finite.keys g.nodes) (λ k h. written_parts g o k) in
      let parts = sum_both (only_cost g o) (named_cost g) (finite.keys g.nodes) in
      let nodes = nodes_paid in
      let firsts = firsts_paid in
      let exports = exports_split in
      omega (arith, asks, fit, items, two, whole, parts, nodes, firsts, exports)

pub order-fits : OrderFits
order-fits g o order wf sound writes = all_written g o sound order writes wf

-- ---- packages: each is in a slot of its own
in_slot : ℕ × Slot → PackageId × ℕ → Bool
in_slot p e = (eqb e.0.slot p.0) && (eqb p.1.generation e.0.generation)

components-are-part-of : (g : Graph) (o : EncodeOptions) (components : List (PackageId × ℕ)) → components_cost g o components ≤ slots_cost g o
components-are-part-of g o components =
    let less = sum_in (λ p. if is_written_slot components p then slot_cost o p.1 else 0) (λ p. slot_cost o p.1) (numbered 0 g.slots) (λ p h. at_most (is_written_slot components p) (slot_cost o p.1)) in
    let all = numbered_sum (slot_cost o) 0 g.slots in
    omega (arith, less, all)
  where
    at_most : (b : Bool) (n : ℕ) → (if b then n else 0) ≤ n
    at_most true n = omega arith
    at_most false n = omega arith

pub components-are-part : ComponentsArePart
components-are-part = components-are-part-of

any_last : {A : Type 0} (p : A → Bool) (xs : List A) (x : A) → list_any p (xs ++ x ∷ []) ≡ (list_any p xs || p x)
any_last p xs x = list_any-append p xs (x ∷ []) ∙ ap (λ b. list_any p xs || b) (or_false (p x))
  where
    or_false : (b : Bool) → (b || false) ≡ b
    or_false true = refl
    or_false false = refl

module _ (g : Graph) (o : EncodeOptions) (components : List (PackageId × ℕ)) (id : PackageId) (c : ℕ) (parts : PackageParts) (new : list_any (λ e. same_package id e.0) components ≡ false) where
  more : ℕ × Slot → ℕ
  more p = if is_written_slot (components ++ (id, c) ∷ []) p then slot_cost o p.1 else 0

  before : ℕ × Slot → ℕ
  before p = if is_written_slot components p then slot_cost o p.1 else 0

  grows : (p : ℕ × Slot) → before p ≤ more p
  unfolding before more
  grows p = rw (any_last (λ e. (eqb e.0.slot p.0) && (eqb p.1.generation e.0.generation)) components (id, c)) (by (is_written_slot components p) ((eqb id.slot p.0) && (eqb p.1.generation id.generation)) (slot_cost o p.1))
    where
      by : (a b : Bool) (n : ℕ) → (if a then n else 0) ≤ (if (a || b) then n else 0)
      by true b n = omega arith
      by false b n = omega arith

  -- no other package of the list is in its slot
  alone : (p : ℕ × Slot) → id.slot ≡ p.0 → p.1.generation ≡ id.generation → (es : List (PackageId × ℕ)) → list_any (λ e. same_package id e.0) es ≡ false → is_written_slot es p ≡ false
  alone p slot generation [] none = refl
  alone p slot generation (e ∷ es) none = by (same_package id e.0) refl none (λ h. alone p slot generation es h)
    where
      here : same_package id e.0 ≡ false → ((eqb e.0.slot p.0) && (eqb p.1.generation e.0.generation)) ≡ false
      here other = split ((eqb e.0.slot p.0) && (eqb p.1.generation e.0.generation)) refl
        where
          split : (b : Bool) → ((eqb e.0.slot p.0) && (eqb p.1.generation e.0.generation)) ≡ b → b ≡ false
          split false is = refl
          split true is =
              let (s, q) = and_both (eqb e.0.slot p.0) (eqb p.1.generation e.0.generation) is in
              let slots : id.slot ≡ e.0.slot = slot ∙ sym (eqb-true e.0.slot p.0 s) in
              let generations : id.generation ≡ e.0.generation = sym generation ∙ eqb-true p.1.generation e.0.generation q in
              let equal : same_package id e.0 ≡ true = rw (eq-eqb id.slot e.0.slot slots, eq-eqb id.generation e.0.generation generations) refl in
              let clash : true ≡ false = sym equal ∙ other in
              cc

      by : (b : Bool) → same_package id e.0 ≡ b → (b || list_any (λ x. same_package id x.0) es) ≡ false → (list_any (λ x. same_package id x.0) es ≡ false → is_written_slot es p ≡ false) → is_written_slot (e ∷ es) p ≡ false
      by true is h rest = let clash : true ≡ false = h in cc
      by false is h rest = rw (here is) (rest h)

  in_place : (s : Slot) → slice_get g.slots id.slot ≡ Some s → (b : Bool) → eqb s.generation id.generation ≡ b → (if b then s.«package» else None) ≡ Some parts → components_cost g o components + package_cost o.define_components parts ≤ components_cost g o (components ++ (id, c) ∷ [])
  unfolding before more
  in_place s at false is there = let no : None ≡ Some parts = there in cc
  in_place s at true is there =
      let (j, place, among) = numbered_in 0 g.slots id.slot s at in
      let slot : id.slot ≡ j = omega (arith, place) in
      let generation : s.generation ≡ id.generation = eqb-true s.generation id.generation is in
      let cost : slot_cost o s ≡ package_cost o.define_components parts = ap (λ x. option_case x 0 (package_cost o.define_components)) there in
      let was : (if is_written_slot components (j, s) then slot_cost o s else 0) ≡ 0 = ap (λ b. if b then slot_cost o s else 0) (alone (j, s) slot generation components new) in
      let itself : ((eqb id.slot j) && (eqb s.generation id.generation)) ≡ true = rw (eq-eqb id.slot j slot, is) refl in
      let written : is_written_slot (components ++ (id, c) ∷ []) (j, s) ≡ true = any_last (λ e. (eqb e.0.slot j) && (eqb s.generation e.0.generation)) components (id, c) ∙ or_later (is_written_slot components (j, s)) ((eqb id.slot j) && (eqb s.generation id.generation)) itself in
      let now : (if is_written_slot (components ++ (id, c) ∷ []) (j, s) then slot_cost o s else 0) ≡ slot_cost o s = ap (λ b. if b then slot_cost o s else 0) written in
      sum_gain before more (package_cost o.define_components parts) (j, s) (numbered 0 g.slots) among grows (omega (arith, was, now, cost))

  paid : package_at g id ≡ Some parts → components_cost g o components + package_cost o.define_components parts ≤ components_cost g o (components ++ (id, c) ∷ [])
  paid there = by (slice_get g.slots id.slot) refl there
    where
      by : (x : Option Slot) → slice_get g.slots id.slot ≡ x → package_in x id ≡ Some parts → components_cost g o components + package_cost o.define_components parts ≤ components_cost g o (components ++ (id, c) ∷ [])
      by None at h = let no : None ≡ Some parts = h in cc
      by (Some s) at h = in_place s at (eqb s.generation id.generation) refl h

pub component-is-paid : ComponentIsPaid
component-is-paid g o components id c p there new = paid g o components id c p new there

pub node-is-part : NodeIsPart
node-is-part g o n node there =
    let key = key_there g n node there in
    let term = term_less (node_weight g) (finite.keys g.nodes) n.0 key in
    let own : node_weight g n.0 ≡ 2 + optional_text node.name + kind_weight g n.0 node node.kind = ap (λ x. option_case x 0 (λ z. 2 + optional_text z.name + kind_weight g n.0 z z.kind)) there in
    omega (arith, term, own)

-- ---- names
is_index : ℕ → ℕ × Name → Bool
is_index i e = eqb i e.0

module _ (n i : ℕ) where
  above : (j : ℕ) (es : List (ℕ × Name)) → RiseFrom j es → i ≤ j → sum_by (counted (is_index i) n) es ≡ 0
  unfolding is_index
  above j [] rise less = refl
  above j (e ∷ es) rise less =
      let first = counted_no (is_index i) n e (other e (omega (arith, less, rise.0))) in
      let rest = above e.0 es rise.1 (omega (arith, less, rise.0)) in
      omega (arith, first, rest, sum_by-cons (counted (is_index i) n) e es)
    where
      other : (e : ℕ × Name) → i < e.0 → is_index i e ≡ true → ⊥
      other e less is = let same = eqb-true i e.0 is in absurd (omega (arith, less, same))

  index_once : (es : List (ℕ × Name)) → Rising es → sum_by (counted (is_index i) n) es ≤ n
  unfolding is_index
  index_once [] rise = omega arith
  index_once (e ∷ es) rise = by (is_index i e) refl (index_once es (risen es rise))
    where
      equal : (e : ℕ × Name) → is_index i e ≡ true → i ≡ e.0
      equal e is = eqb-true i e.0 is

      by : (b : Bool) → is_index i e ≡ b → sum_by (counted (is_index i) n) es ≤ n → sum_by (counted (is_index i) n) (e ∷ es) ≤ n
      by true is less =
          let first = counted_yes (is_index i) n e is in
          let same = equal e is in
          let rest = above e.0 es rise (omega (arith, same)) in
          omega (arith, first, rest, sum_by-cons (counted (is_index i) n) e es)
      by false is less =
          let first = counted_no (is_index i) n e (λ also. let wrong : true ≡ false = sym also ∙ is in cc) in
          omega (arith, first, less, sum_by-cons (counted (is_index i) n) e es)

      risen : (es : List (ℕ × Name)) → RiseFrom e.0 es → Rising es
      risen [] rise = tt
      risen (f ∷ es) rise = rise.1

index_cost : ℕ × Name → ℕ
index_cost e = 41 + 2 * length e.1

-- what a node with this number pays among the names of a sort
sort_cost : Graph → Sort → ℕ → ℕ
sort_cost g t k = option_case (node_at g (node_number k)) 0 (λ node. if same_sort (sort_of_kind node.item_kind) t then name_cost node else 0)

module _ (g : Graph) (index : NodeId → ℕ) (names : List (Sort × ℕ × Name)) (are : AreNames g index names) where
  sort_paid : (t : Sort) → Rising (of_sort t names) → sum_by index_cost (of_sort t names) ≤ sum_by (sort_cost g t) (finite.keys g.nodes)
  unfolding is_index index_cost sort_cost
  sort_paid t rise = spread index_cost (sort_cost g t) (λ k e. is_index (index (node_number k)) e) (of_sort t names) (finite.keys g.nodes) pays once
    where
      of_node : (e : ℕ × Name) → IsNameOf g index t e.0 e.1 → (k : ℕ) × Contains (finite.keys g.nodes) k × (is_index (index (node_number k)) e ≡ true) × (index_cost e ≤ sort_cost g t k)
      of_node e x =
          let alike : same_sort (sort_of_kind x.node.item_kind) t ≡ true = eq-eqb (space (sort_of_kind x.node.item_kind)) (space t) (ap space x.sorted) in
          let cost : name_cost x.node ≡ 41 + 2 * length e.1 = ap (λ o. option_case o 0 (λ name. 41 + 2 * length name)) x.named in
          let paid : sort_cost g t x.n.0 ≡ name_cost x.node =
          ap (λ o. option_case o 0 (λ node. if same_sort (sort_of_kind node.item_kind) t then name_cost node else 0)) x.there ∙ ap (λ b. if b then name_cost x.node else 0) alike in
          (x.n.0, key_there g x.n x.node x.there, eq-eqb (index x.n) e.0 x.placed, omega (arith, cost, paid))

      pays : (e : ℕ × Name) → Contains (of_sort t names) e → (index_cost e ≡ 0) ⊎ ((k : ℕ) × Contains (finite.keys g.nodes) k × (is_index (index (node_number k)) e ≡ true) × (index_cost e ≤ sort_cost g t k))
      pays e h = let (k, l, at) = in_at (of_sort t names) e h in inr (of_node e ((are.each t e.0 e.1).0 (k, at)))

      once : (k : ℕ) → Contains (finite.keys g.nodes) k → sum_by (counted (is_index (index (node_number k))) (sort_cost g t k)) (of_sort t names) ≤ sort_cost g t k
      once k h = index_once (sort_cost g t k) (index (node_number k)) (of_sort t names) rise

  sorts_paid : (ts : List Sort) → AllByRecursion (λ t. Rising (of_sort t names)) ts
      → sum_by (λ t. sum_by index_cost (of_sort t names)) ts ≤ sum_by (λ t. sum_by (sort_cost g t) (finite.keys g.nodes)) ts
  sorts_paid [] rise = omega arith
  sorts_paid (t ∷ ts) rise =
      let first = sort_paid t rise.0 in
      let rest = sorts_paid ts rise.1 in
      omega (arith, first, rest, sum_by-cons (λ t. sum_by index_cost (of_sort t names)) t ts, sum_by-cons (λ t. sum_by (sort_cost g t) (finite.keys g.nodes)) t ts)

  -- a node is of one sort
  six : (f : Sort → ℕ) → sum_by f sorts_in_order ≡ f sort.«Type» + f sort.Func + f sort.Instance + f sort.Component + f sort.CoreModule + f sort.Value
  six f = omega arith

  one_sort : (s : Sort) (n : ℕ) → sum_by (λ t. if same_sort s t then n else 0) sorts_in_order ≤ n
  one_sort sort.«Type» n = omega (arith, six (λ t. if same_sort sort.«Type» t then n else 0))
  one_sort sort.Func n = omega (arith, six (λ t. if same_sort sort.Func t then n else 0))
  one_sort sort.Instance n = omega (arith, six (λ t. if same_sort sort.Instance t then n else 0))
  one_sort sort.Component n = omega (arith, six (λ t. if same_sort sort.Component t then n else 0))
  one_sort sort.CoreModule n = omega (arith, six (λ t. if same_sort sort.CoreModule t then n else 0))
  one_sort sort.Value n = omega (arith, six (λ t. if same_sort sort.Value t then n else 0))

  node_once : (k : ℕ) → sum_by (λ t. sort_cost g t k) sorts_in_order ≤ named_cost g k
  unfolding sort_cost named_cost
  node_once k = by (node_at g (node_number k))
    where
      by : (x : Option GraphNode) → sum_by (λ t. option_case x 0 (λ node. if same_sort (sort_of_kind node.item_kind) t then name_cost node else 0)) sorts_in_order ≤ option_case x 0 name_cost
      by None = omega (arith, six (λ t. 0))
      by (Some node) = one_sort (sort_of_kind node.item_kind) (name_cost node)

  all_named : indexes_cost names ≤ names_cost g
  unfolding index_cost named_cost
  all_named =
      let paid = sorts_paid sorts_in_order are.rising in
      let swap = swapped (sort_cost g) sorts_in_order (finite.keys g.nodes) in
      let one = sum_in (λ k. sum_by (λ t. sort_cost g t k) sorts_in_order) (named_cost g) (finite.keys g.nodes) (λ k h. node_once k) in
      omega (arith, paid, swap, one)

pub names-are-part : NamesArePart
names-are-part g index names are = all_named g index names are

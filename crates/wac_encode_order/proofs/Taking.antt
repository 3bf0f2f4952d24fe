-- The order of the nodes is that of the items.
use Rattle.std.specs.Prelude.{ltb, ◌==◌, ◌↔◌, slice_get}
use Rattle.std.proofs.Common.{ℕ, zero, suc, ◌+◌, ◌-◌, ◌*◌, ◌<◌, ◌≤◌, ◌≡◌, ◌⊎◌, inl, inr, Bool, true, false, not, ◌&&◌, if◌then◌else◌, List, [], ◌∷◌, Option, Some, None, length, refl, ap, sym, ◌∙◌, subst, arith}
use Rattle.std.proofs.lemmas.Bool.{eqb-true}
use Rattle.wac_types_shapes.specs.primitives.Name.{Name}
use Rattle.wac_types_shapes.specs.shapes.Kinds.{kind_type}
use Rattle.wac_types_shapes.specs.declared.shapes.component.ItemKind.{ItemKind}
use Rattle.wac_types_shapes.specs.declared.shapes.component.ItemKind.TheVariants as kind
use Rattle.wac_types_shapes.specs.declared.shapes.component.«Type».{«Type» as AnyType}
use Rattle.wac_types_collection.specs.collection.Collection.{Collection, IsWellFormed}
use Rattle.wac_types_collection.specs.collection.Aliases.{type_resolved}
use Rattle.wac_types_collection.specs.reach.Reach.{IsIn}
use Rattle.wac_types_collection.proofs.lemmas.reach.Lists.{in_at, at_in}
use Rattle.wac_edges.specs.declared.node.NodeId.{NodeId}
use Rattle.wac_edges.specs.Edge.{node_number, IsBlocked, IsFree}
use Rattle.wac_edges.specs.Order.{Edges, IsEdge, IsLowestReady, without, Writes, Leads, IsOnCycle}
use Rattle.wac_edges.proofs.EdgeLemmas.{same_node}
use Rattle.wac_encode_order.specs.private.TypeItems.{made_of, IsMadeOf, at_once, further, IsTypeItemAt, Reaches, IsNext, Takes}
use Rattle.wac_encode_order.specs.private.Graph.{AreReached, IsSource, IsPartOf, ComesBefore, items_of}
use Rattle.wac_encode_order.proofs.Lists.{some-is, within, beyond}
use Rattle.wac_encode_order.proofs.Lower.{height, part-lower}
use Rattle.wac_encode_order.proofs.Naming.{names-item, item-one}

both-true : (a b : Bool) → (a && b) ≡ true → (a ≡ true) × (b ≡ true)
both-true true b all = (refl, all)
both-true false b all = let both : false ≡ true = all in cc

and-true : (b : Bool) → (b && true) ≡ b
and-true true = refl
and-true false = refl

shifted : (n q p m : ℕ) → m ≡ n + p → (q == p) ≡ ((n + q) == m)
shifted n q p m is = by_test (q == p) refl ((n + q) == m) refl
  where
    by_test : (a : Bool) → (q == p) ≡ a → (b : Bool) → ((n + q) == m) ≡ b → a ≡ b
    by_test true one true other = refl
    by_test false one false other = refl
    by_test true one false other = let same : q ≡ p = eqb-true q p one in absurd (grind (arith, other, same, is))
    by_test false one true other = let same : n + q ≡ m = eqb-true (n + q) m other in absurd (grind (arith, one, same, is))

-- With a node that is left, the types that come after it are left.
abbrev pub IsClosed : Edges → ℕ → (NodeId → Bool) → Type 0
IsClosed edges n left = (a b : NodeId) → IsEdge edges a b → b.0 < n → left a ≡ true → left b ≡ true

-- The edges are those of the graph.
abbrev pub AreExact : Collection → List (Name × ItemKind) → List AnyType → Edges → Type 0
AreExact c es ts edges = (a b : NodeId) → IsEdge edges a b ↔ ComesBefore c es ts a.0 b.0

module _ (c : Collection) (wf : IsWellFormed c) (es : List (Name × ItemKind)) (ts : List AnyType) (edges : Edges) (exact : AreExact c es ts edges) (reached : AreReached c es ts) where
  item_node : ℕ → NodeId
  item_node p = node_number (length ts + p)

  to-type : (a b : ℕ) (t u : AnyType) → slice_get ts b ≡ Some t → IsIn u (made_of c t) → IsSource c es ts (type_resolved c u) a → IsEdge edges (node_number a) (node_number b)
  to-type a b t u at part source = (exact (node_number a) (node_number b)).1 (inl (t, at, (u, part, source)))

  to-item : (a p : ℕ) (t : AnyType) → IsTypeItemAt es p t → slice_get ts a ≡ Some (type_resolved c t) → IsEdge edges (node_number a) (node_number (length ts + p))
  to-item a p t item at = (exact (node_number a) (node_number (length ts + p))).1 (inr (p, within es p (item.0, kind.TypeItem t) item.1, (t, item, at, refl)))

  -- an edge to a type, and one to an item
  at-type : (a b : ℕ) (t : AnyType) → ComesBefore c es ts a b → slice_get ts b ≡ Some t → IsPartOf c es ts t a
  at-type a b t (inl (s, there, part)) at = subst (λ (x : AnyType). IsPartOf c es ts x a) (some-is s t (sym there ∙ at)) part
  at-type a b t (inr (p, less, (s, item, from, is))) at = let low : b < length ts = within ts b t at in absurd (omega (arith, low, is))

  at-item : (a p : ℕ) → ComesBefore c es ts a (length ts + p) → (t : AnyType) × IsTypeItemAt es p t × (slice_get ts a ≡ Some (type_resolved c t))
  at-item a p (inl (s, there, part)) = let low : length ts + p < length ts = within ts (length ts + p) s there in absurd (omega (arith, low))
  at-item a p (inr (q, less, (t, item, from, is))) = let same : q ≡ p = omega (arith, is) in (t, subst (λ (r : ℕ). IsTypeItemAt es r t) same item, from)

  -- what a type that was found is made of was found
  made-found : (t u : AnyType) → IsMadeOf c t u → IsIn t ts → IsIn u ts
  made-found t _ (at_once u part) h = reached.parts t u h part
  made-found t _ (further w u made part) h = reached.parts w u (made-found t w made h) part

  -- ---- while a source of a type is left, so are the types that are made of it
  module _ (left : NodeId → Bool) (closed : IsClosed edges (length ts) left) where
    type-left : (a k : ℕ) (t u : AnyType) → slice_get ts k ≡ Some t → IsIn u (made_of c t) → IsSource c es ts (type_resolved c u) a → left (node_number a) ≡ true → left (node_number k) ≡ true
    type-left a k t u at part source h = closed (node_number a) (node_number k) (to-type a k t u at part source) (within ts k t at) h

    made-left : (k : ℕ) (t : AnyType) → slice_get ts k ≡ Some t → (u : AnyType) → IsMadeOf c t u → (a : ℕ) → IsSource c es ts u a → left (node_number a) ≡ true → left (node_number k) ≡ true
    made-left k t at _ (at_once u part) a source h = type-left a k t u at part source h
    made-left k t at _ (further w u made part) a source h =
        let there = at_in w ts (made-found t w made (in_at t ts k at)) in
        made-left k t at w made there.0 (inl there.2) (type-left a there.0 w u there.2 part source h)

    -- an item that is ready reaches none of those left
    free-item : (p : ℕ) → IsFree edges left (item_node p) → (q : ℕ) → left (item_node q) ≡ true → Reaches c es p q → ⊥
    unfolding item_node
    free-item p free q h r =
        let own = at_in (type_resolved c r.type) ts (reached.items p r.type r.there) in
        let there : left (node_number own.0) ≡ true = made-left own.0 (type_resolved c r.type) own.2 r.part r.made (length ts + q) (inr (q, r.named, refl)) h in
        let edge = to-item own.0 p r.type r.there own.2 in
        let gone : left edge.0.source ≡ false = free edge.0 edge.1 edge.3 in
        let here : left edge.0.source ≡ true = ap left edge.2 ∙ there in
        cc

  -- ---- a lower item that is left reaches one that is
  module _ (left : NodeId → Bool) (n : NodeId) (behind : length ts ≤ n.0) (lower : (m : NodeId) → m.0 < n.0 → left m ≡ true → IsBlocked edges left m) (q : ℕ) (own : AnyType) (item : IsTypeItemAt es q own) where
    Found : Type 0
    Found = (r : ℕ) × (left (item_node r) ≡ true) × Reaches c es q r

    -- the type of the item, or one of which it is made
    abbrev IsOwn : AnyType → Type 0
    IsOwn t = (t ≡ type_resolved c own) ⊎ IsMadeOf c (type_resolved c own) t

    own-part : (t u : AnyType) → IsOwn t → IsIn u (made_of c t) → IsMadeOf c (type_resolved c own) (type_resolved c u)
    own-part t u (inl same) part = at_once u (subst (λ (x : AnyType). IsIn u (made_of c x)) same part)
    own-part t u (inr made) part = further t u made part

    before-node : (m : NodeId) → IsBlocked edges left m → (a : ℕ) × ComesBefore c es ts a m.0 × (left (node_number a) ≡ true)
    before-node m blocked =
        let source = blocked.0.source in
        (source.0, (exact source m).0 (blocked.0, blocked.1, refl, blocked.2), ap left (same_node (node_number source.0) source refl) ∙ blocked.3)

    down : (fuel k : ℕ) (t : AnyType) → height c t < fuel → slice_get ts k ≡ Some t → left (node_number k) ≡ true → IsOwn t → Found
    unfolding Found item_node
    down zero k t few at h is = absurd (omega (arith, few))
    down (suc fuel) k t few at h is =
        let low : k < length ts = within ts k t at in
        let before = before-node (node_number k) (lower (node_number k) (let less : k < n.0 = omega (arith, low, behind) in less) h) in
        by_part before.0 (at-type before.0 k t before.1 at) before.2 (λ j u less there left_ made. down fuel j u less there left_ made)
      where
        by_part : (a : ℕ) → IsPartOf c es ts t a → left (node_number a) ≡ true → ((j : ℕ) (u : AnyType) → height c u < fuel → slice_get ts j ≡ Some u → left (node_number j) ≡ true → IsOwn u → Found) → Found
        by_part a (u, part, source) h_ rec = by_source source
          where
            less : height c (type_resolved c u) < height c t
            less = part-lower c wf t u part

            made : IsMadeOf c (type_resolved c own) (type_resolved c u)
            made = own-part t u is part

            by_source : IsSource c es ts (type_resolved c u) a → Found
            by_source (inl there) = rec a (type_resolved c u) (omega (arith, few, less)) there h_ (inr made)
            by_source (inr (r, named, far)) = (r, subst (λ (k_ : ℕ). left (node_number k_) ≡ true) far h_, record { type = own; there = item; part = type_resolved c u; made = made; named = named })

    item-reaches : left (item_node q) ≡ true → length ts + q < n.0 → Found
    unfolding Found item_node
    item-reaches h less =
        let before = before-node (node_number (length ts + q)) (lower (node_number (length ts + q)) less h) in
        let from = at-item before.0 q before.1 in
        let same : from.0 ≡ own = item-one es q own from.0 item from.1 in
        down (suc (height c (type_resolved c own))) before.0 (type_resolved c own) (omega arith) (from.2 ∙ ap (λ (t : AnyType). Some (type_resolved c t)) same) before.2 (inl refl)

  -- ---- the item of the node that is ready is the next
  next-item : (left : NodeId → Bool) → IsClosed edges (length ts) left → (lp : ℕ → Bool) → ((q : ℕ) → lp q ≡ left (item_node q)) → (p : ℕ) → IsLowestReady edges left (item_node p) → IsNext (Reaches c es) lp p
  unfolding item_node Found
  next-item left closed lp same p ready = record {
    here = same p ∙ ready.here;
    free = λ q h r. free-item left closed p ready.free q (sym (same q) ∙ h) r;
    before = λ q less h. before q less (sym (same q) ∙ h);
  }
    where
      before : (q : ℕ) → q < p → left (node_number (length ts + q)) ≡ true → (r : ℕ) × (lp r ≡ true) × Reaches c es q r
      before q less h =
          let low : length ts + q < length ts + p = omega (arith, less) in
          let blocked = ready.lower (node_number (length ts + q)) low h in
          let source = blocked.0.source in
          let own = at-item source.0 q ((exact source (node_number (length ts + q))).0 (blocked.0, blocked.1, refl, blocked.2)) in
          let found = item-reaches left (item_node p) (let far : length ts ≤ length ts + p = omega arith in far) ready.lower q own.0 own.1 h low in
          (found.0, same found.0 ∙ found.1, found.2)

  closed-next : (left : NodeId → Bool) → IsClosed edges (length ts) left → (n : NodeId) → IsFree edges left n → IsClosed edges (length ts) (without left n)
  closed-next left closed n free a b edge low h =
      let parts_ = both-true (left a) (not (a.0 == n.0)) h in
      by_test (b.0 == n.0) refl (closed a b edge low parts_.0) parts_.0
    where
      by_test : (t : Bool) → (b.0 == n.0) ≡ t → left b ≡ true → left a ≡ true → (left b && not t) ≡ true
      by_test true is there before =
          let gone : left edge.0.source ≡ false = free edge.0 edge.1 (edge.3 ∙ same_node b n (eqb-true b.0 n.0 is)) in
          let is_there : left edge.0.source ≡ true = ap left edge.2 ∙ before in
          cc
      by_test false is there before = ap (λ (t : Bool). t && true) there

  pub takes : (ns : List NodeId) (left : NodeId → Bool) → IsClosed edges (length ts) left → (lp : ℕ → Bool) → ((q : ℕ) → lp q ≡ left (node_number (length ts + q))) → Writes edges left ns → Takes (Reaches c es) lp (items_of (length ts) ns)
  unfolding item_node
  takes [] left closed lp same done = λ p. same p ∙ done (item_node p)
  takes (n ∷ ns) left closed lp same writes = by_side (ltb n.0 (length ts)) refl (takes ns (without left n) (closed-next left closed n writes.0.free))
    where
      by_side : (b : Bool) → ltb n.0 (length ts) ≡ b → ((lq : ℕ → Bool) → ((q : ℕ) → lq q ≡ without left n (node_number (length ts + q))) → Writes edges (without left n) ns → Takes (Reaches c es) lq (items_of (length ts) ns))
          → Takes (Reaches c es) lp (if b then items_of (length ts) ns else ((n.0 - length ts) ∷ items_of (length ts) ns))
      by_side true is next = next lp (λ q. same q ∙ sym (kept q)) writes.1
        where
          kept : (q : ℕ) → without left n (node_number (length ts + q)) ≡ left (node_number (length ts + q))
          kept q = let other : ((length ts + q) == n.0) ≡ false = grind (arith, is) in ap (λ (t : Bool). left (node_number (length ts + q)) && not t) other ∙ and-true (left (node_number (length ts + q)))
      by_side false is next = (next-item left closed lp same (n.0 - length ts) (subst (λ (m : NodeId). IsLowestReady edges left m) node writes.0), next (λ q. lp q && not (q == (n.0 - length ts))) rest writes.1)
        where
          whole : n.0 ≡ length ts + (n.0 - length ts)
          whole = grind (arith, is)

          node : n ≡ item_node (n.0 - length ts)
          node = same_node n (node_number (length ts + (n.0 - length ts))) whole

          rest : (q : ℕ) → (lp q && not (q == (n.0 - length ts))) ≡ without left n (node_number (length ts + q))
          rest q = ap (λ (t : Bool). t && not (q == (n.0 - length ts))) (same q) ∙ ap (λ (t : Bool). left (node_number (length ts + q)) && not t) (shifted (length ts) q (n.0 - length ts) n.0 whole)

  -- ---- no node comes before itself
  item_level : Option (Name × ItemKind) → ℕ
  item_level None = 0
  item_level (Some e) = suc (2 * height c (type_resolved c (kind_type e.1)))

  level_by : Option AnyType → ℕ → ℕ
  level_by None o = o
  level_by (Some t) o = 2 * height c t

  level : ℕ → ℕ
  level a = level_by (slice_get ts a) (item_level (slice_get es (a - length ts)))

  type-level : (k : ℕ) (t : AnyType) → slice_get ts k ≡ Some t → level k ≡ 2 * height c t
  unfolding level level_by
  type-level k t at = ap (λ (o : Option AnyType). level_by o (item_level (slice_get es (k - length ts)))) at

  item-level : (a p : ℕ) (t : AnyType) → IsTypeItemAt es p t → a ≡ length ts + p → level a ≡ suc (2 * height c (type_resolved c t))
  unfolding level level_by item_level
  item-level a p t item is =
      let back : a - length ts ≡ p = omega (arith, is) in
      ap (λ (o : Option AnyType). level_by o (item_level (slice_get es (a - length ts)))) (ap (slice_get ts) is ∙ beyond ts p)
      ∙ ap (λ (k : ℕ). item_level (slice_get es k)) back
      ∙ ap item_level item.1

  rises : (a b : ℕ) → ComesBefore c es ts a b → level a < level b
  rises a b (inr (p, less, (t, item, at, is))) = let low = type-level a (type_resolved c t) at in let high = item-level b p t item is in omega (arith, low, high)
  rises a b (inl (t, there, (u, part, source))) = by_source source
    where
      less : height c (type_resolved c u) < height c t
      less = part-lower c wf t u part

      by_source : IsSource c es ts (type_resolved c u) a → level a < level b
      by_source (inl at) = let low = type-level a (type_resolved c u) at in let high = type-level b t there in omega (arith, low, high, less)
      by_source (inr (q, named, far)) =
          let item = names-item c es q (type_resolved c u) named.names in
          let low = item-level a q item.0 item.1 far in
          let same : height c (type_resolved c item.0) ≡ height c (type_resolved c u) = ap (height c) item.2 in
          let high = type-level b t there in
          omega (arith, low, high, less, same)

  leads-up : (ns : List NodeId) (a b : NodeId) → Leads edges a ns b → level a.0 < level b.0
  leads-up [] a b edge = rises a.0 b.0 ((exact a b).0 edge)
  leads-up (m ∷ ns) a b leads = let first = rises a.0 m.0 ((exact a m).0 leads.0) in let rest = leads-up ns m b leads.1 in omega (arith, first, rest)

  pub no-cycle : (n : NodeId) → IsOnCycle edges n → ⊥
  no-cycle n cycle = let up = leads-up cycle.0 n n cycle.1 in omega (arith, up)

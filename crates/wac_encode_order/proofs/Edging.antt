-- What edges are added.
use Rattle.std.specs.Prelude.{◌↔◌, slice_get}
use Rattle.std.proofs.Common.{ℕ, ◌+◌, ◌<◌, ◌≡◌, ◌⊎◌, inl, inr, Bool, true, false, ◌||◌, List, Option, Some, None, length, refl, ap, sym, ◌∙◌, subst, arith, Result, Ok, Err, OnOk}
use Rattle.std.specs.Cmp.{tied_itself}
use Rattle.std.specs.FinSet as set
use Rattle.std.specs.Ordering.{eq_by_cmp, is_eq}
use Rattle.wac_types_shapes.specs.primitives.Name.{Name}
use Rattle.wac_types_shapes.specs.declared.shapes.component.ItemKind.{ItemKind}
use Rattle.wac_types_shapes.specs.declared.shapes.component.«Type».{«Type» as AnyType}
use Rattle.wac_types_collection.specs.collection.Collection.{Collection}
use Rattle.wac_types_collection.specs.collection.Aliases.{type_resolved}
use Rattle.wac_types_collection.specs.reach.Reach.{IsIn}
use Rattle.wac_types_collection.proofs.lemmas.reach.Lists.{in_at, at_in}
use Rattle.wac_edges.specs.declared.edges.Edge.{Edge}
use Rattle.wac_edges.specs.declared.node.NodeId.{NodeId}
use Rattle.wac_edges.specs.Edge.{edge_cmp}
use Rattle.wac_edges.specs.Order.{Edges, IsEdge}
use Rattle.wac_edges.proofs.EdgeLemmas.{edge_cmp_total, exact_edges, same_node}
use Rattle.wac_encode_order.specs.private.TypeItems.{made_of, NamesAt, IsFirstName, IsTypeItemAt}
use Rattle.wac_encode_order.specs.private.Graph.{Adds, Below, IsFirst, IsSource, IsPartOf, TypeComesAfter, ItemComesAfter, ComesBefore}
use Rattle.wac_encode_order.proofs.Lists.{some-is, within, below-or-last}

-- ---- steps of adding
pub adds-none : (edges : Edges) (P : ℕ → ℕ → ℕ → Type 0) → Adds edges edges (λ a b. Below 0 (λ i. P i a b))
adds-none edges P a b = (λ e. inl e, from)
  where
    from : IsEdge edges a b ⊎ Below 0 (λ i. P i a.0 b.0) → IsEdge edges a b
    from (inl e) = e
    from (inr (i, less, p)) = absurd (omega (arith, less))

pub adds-next : (old now new : Edges) (P : ℕ → ℕ → ℕ → Type 0) (n : ℕ) → Adds old now (λ a b. Below n (λ i. P i a b)) → Adds now new (P n) → Adds old new (λ a b. Below (n + 1) (λ i. P i a b))
adds-next old now new P n before step a b = (to, from)
  where
    earlier : IsEdge old a b ⊎ Below n (λ i. P i a.0 b.0) → IsEdge old a b ⊎ Below (n + 1) (λ i. P i a.0 b.0)
    earlier (inl e) = inl e
    earlier (inr (i, less, p)) = inr (i, (let more : i < n + 1 = omega (arith, less) in more), p)

    to : IsEdge new a b → IsEdge old a b ⊎ Below (n + 1) (λ i. P i a.0 b.0)
    to e = elim ((step a b).0 e) [ inl f ↦ earlier ((before a b).0 f) | inr p ↦ inr (n, (let last : n < n + 1 = omega arith in last), p) ]

    from : IsEdge old a b ⊎ Below (n + 1) (λ i. P i a.0 b.0) → IsEdge new a b
    from (inl e) = (step a b).1 (inl ((before a b).1 (inl e)))
    from (inr (i, less, p)) = elim (below-or-last i n less) [
      | inl low ↦ (step a b).1 (inl ((before a b).1 (inr (i, low, p))))
      | inr same ↦ (step a b).1 (inr (subst (λ (k : ℕ). P k a.0 b.0) same p))
    ]

pub adds-alike : (old new : Edges) (P Q : ℕ → ℕ → Type 0) → ((a b : ℕ) → P a b ↔ Q a b) → Adds old new P → Adds old new Q
adds-alike old new P Q same adds a b = (to, from)
  where
    to : IsEdge new a b → IsEdge old a b ⊎ Q a.0 b.0
    to e = elim ((adds a b).0 e) [ inl f ↦ inl f | inr p ↦ inr ((same a.0 b.0).0 p) ]

    from : IsEdge old a b ⊎ Q a.0 b.0 → IsEdge new a b
    from (inl f) = (adds a b).1 (inl f)
    from (inr q) = (adds a b).1 (inr ((same a.0 b.0).1 q))

pub adds-both : (old mid new : Edges) (P Q : ℕ → ℕ → Type 0) → Adds old mid P → Adds mid new Q → Adds old new (λ a b. P a b ⊎ Q a b)
adds-both old mid new P Q first second a b = (to, from)
  where
    earlier : IsEdge old a b ⊎ P a.0 b.0 → IsEdge old a b ⊎ (P a.0 b.0 ⊎ Q a.0 b.0)
    earlier (inl e) = inl e
    earlier (inr p) = inr (inl p)

    to : IsEdge new a b → IsEdge old a b ⊎ (P a.0 b.0 ⊎ Q a.0 b.0)
    to e = elim ((second a b).0 e) [ inl f ↦ earlier ((first a b).0 f) | inr q ↦ inr (inr q) ]

    from : IsEdge old a b ⊎ (P a.0 b.0 ⊎ Q a.0 b.0) → IsEdge new a b
    from (inl e) = (second a b).1 (inl ((first a b).1 (inl e)))
    from (inr (inl p)) = (second a b).1 (inl ((first a b).1 (inr p)))
    from (inr (inr q)) = (second a b).1 (inr q)

pub adds-nothing : (edges : Edges) (P : ℕ → ℕ → Type 0) → ((a b : ℕ) → P a b → ⊥) → Adds edges edges P
adds-nothing edges P none a b = (λ e. inl e, from)
  where
    from : IsEdge edges a b ⊎ P a.0 b.0 → IsEdge edges a b
    from (inl e) = e
    from (inr p) = absurd (none a.0 b.0 p)

-- ---- one edge
or-true : (b : Bool) → (b || true) ≡ true
or-true true = refl
or-true false = refl

module _ (old new : Edges) (x : Edge) (is : new ≡ set.insert old x) where
  kept-edge : (e : Edge) → set.contains old e ≡ true → set.contains new e ≡ true
  kept-edge e h = ap (λ (s : Edges). set.contains s e) is ∙ set.contains-insert edge_cmp_total old x e ∙ (rw h (or-true (eq_by_cmp edge_cmp e x)))

  new-edge : set.contains new x ≡ true
  new-edge = ap (λ (s : Edges). set.contains s x) is ∙ set.contains-insert edge_cmp_total old x x ∙ ap (λ b. b || set.contains old x) (ap is_eq (tied_itself edge_cmp_total x))

  added-edge : (e : Edge) → set.contains new e ≡ true → (set.contains old e ≡ true) ⊎ (e ≡ x)
  added-edge e h = split (eq_by_cmp edge_cmp e x) refl (sym (set.contains-insert edge_cmp_total old x e) ∙ sym (ap (λ (s : Edges). set.contains s e) is) ∙ h)
    where
      split : (b : Bool) → eq_by_cmp edge_cmp e x ≡ b → (b || set.contains old e) ≡ true → (set.contains old e ≡ true) ⊎ (e ≡ x)
      split true at there = inr (exact_edges e x at)
      split false at there = inl there

  pub edge-adds : Adds old new (λ a b. (a ≡ x.source.0) × (b ≡ x.target.0))
  edge-adds a b = (to, from)
    where
      to : IsEdge new a b → IsEdge old a b ⊎ ((a.0 ≡ x.source.0) × (b.0 ≡ x.target.0))
      to w = by_edge (added-edge w.0 w.1)
        where
          by_edge : (set.contains old w.0 ≡ true) ⊎ (w.0 ≡ x) → IsEdge old a b ⊎ ((a.0 ≡ x.source.0) × (b.0 ≡ x.target.0))
          by_edge (inl there) = inl (w.0, there, w.2, w.3)
          by_edge (inr same) = inr (ap (λ (n : NodeId). n.0) (sym w.2 ∙ ap (λ (e : Edge). e.source) same), ap (λ (n : NodeId). n.0) (sym w.3 ∙ ap (λ (e : Edge). e.target) same))

      from : IsEdge old a b ⊎ ((a.0 ≡ x.source.0) × (b.0 ≡ x.target.0)) → IsEdge new a b
      from (inl w) = (w.0, kept-edge w.0 w.1, w.2, w.3)
      from (inr ends) = (x, new-edge, same_node x.source a (sym ends.0), same_node x.target b (sym ends.1))

pub on-ok : {A B : Type 0} {P Q : Type 0} (r : Result A B) → (P → Q) → OnOk r P → OnOk r Q
on-ok (Ok x) f p = f p
on-ok (Err e) f p = tt

-- ---- the edges to a type from one part
module _ (c : Collection) (es : List (Name × ItemKind)) (ts : List AnyType) where
  first-within : (q : ℕ) (t : AnyType) → NamesAt c es q t → q < length es
  first-within q t names = within es q names.0 names.1

  one-name : (q r : ℕ) (t : AnyType) → IsFirstName c es q t → IsFirstName c es r t → q ≡ r
  one-name q r t one other = side q r refl
    where
      side : (p s : ℕ) → p ≡ q → q ≡ r
      side p s is = elim (apart q r) [ inl (inl less) ↦ absurd (other.first q less one.names) | inl (inr more) ↦ absurd (one.first r more other.names) | inr same ↦ same ]
        where
          apart : (p s : ℕ) → ((p < s) ⊎ (s < p)) ⊎ (p ≡ s)
          apart p s = grind arith

  pub first-low : (q : ℕ) (t : AnyType) (o : Option ℕ) → IsFirst c es (length es) t o → o ≡ Some q → q < length es
  first-low q t o first some = let is : IsFirstName c es q t = subst (IsFirst c es (length es) t) some first in first-within q t is.names

  module _ (t : AnyType) (k : ℕ) (at : slice_get ts k ≡ Some t) (alone : (j : ℕ) → slice_get ts j ≡ Some t → j ≡ k) (o : Option ℕ) (first : IsFirst c es (length es) t o) (place : ℕ) where
    unnamed-source : o ≡ None → (a b : ℕ) → ((a ≡ k) × (b ≡ place)) ↔ ((b ≡ place) × IsSource c es ts t a)
    unnamed-source none a b = (λ e. (e.1, inl (subst (λ (i : ℕ). slice_get ts i ≡ Some t) (sym e.0) at)), from)
      where
        from : (b ≡ place) × IsSource c es ts t a → (a ≡ k) × (b ≡ place)
        from (e, inl there) = (alone a there, e)
        from (e, inr (q, named, far)) =
            let absent : IsFirst c es (length es) t None = subst (IsFirst c es (length es) t) none first in
            absurd (absent q (first-within q t named.names) named.names)

    pub unnamed-adds : (old new : Edges) → o ≡ None → Adds old new (λ a b. (a ≡ k) × (b ≡ place)) → Adds old new (λ a b. (b ≡ place) × IsSource c es ts t a)
    unnamed-adds old new none adds = adds-alike old new (λ a b. (a ≡ k) × (b ≡ place)) (λ a b. (b ≡ place) × IsSource c es ts t a) (unnamed-source none) adds

    module _ (q n : ℕ) (some : o ≡ Some q) (node : n ≡ length ts + q) where
      named-source : (a b : ℕ) → (((a ≡ k) × (b ≡ place)) ⊎ ((a ≡ n) × (b ≡ place))) ↔ ((b ≡ place) × IsSource c es ts t a)
      named-source a b = (to, from)
        where
          names : IsFirstName c es q t
          names = let is : IsFirst c es (length es) t (Some q) = subst (IsFirst c es (length es) t) some first in is

          to : ((a ≡ k) × (b ≡ place)) ⊎ ((a ≡ n) × (b ≡ place)) → (b ≡ place) × IsSource c es ts t a
          to (inl e) = (e.1, inl (subst (λ (i : ℕ). slice_get ts i ≡ Some t) (sym e.0) at))
          to (inr e) = (e.1, inr (q, names, e.0 ∙ node))

          from : (b ≡ place) × IsSource c es ts t a → ((a ≡ k) × (b ≡ place)) ⊎ ((a ≡ n) × (b ≡ place))
          from (e, inl there) = inl (alone a there, e)
          from (e, inr (r, named, far)) = inr (far ∙ ap (λ (i : ℕ). length ts + i) (one-name r q t named names) ∙ sym node, e)

      pub named-adds : (old mid new : Edges) → Adds old mid (λ a b. (a ≡ k) × (b ≡ place)) → Adds mid new (λ a b. (a ≡ n) × (b ≡ place)) → Adds old new (λ a b. (b ≡ place) × IsSource c es ts t a)
      named-adds old mid new one two =
          adds-alike old new (λ a b. ((a ≡ k) × (b ≡ place)) ⊎ ((a ≡ n) × (b ≡ place))) (λ a b. (b ≡ place) × IsSource c es ts t a) named-source
          (adds-both old mid new (λ a b. (a ≡ k) × (b ≡ place)) (λ a b. (a ≡ n) × (b ≡ place)) one two)

  -- ---- the edges to a type from all its parts
  abbrev pub FromPart : List AnyType → ℕ → ℕ → ℕ → ℕ → Type 0
  FromPart us place i a b = (b ≡ place) × (u : AnyType) × (slice_get us i ≡ Some u) × IsSource c es ts (type_resolved c u) a

  pub part-adds : (us : List AnyType) (place i : ℕ) (u : AnyType) (old new : Edges) → slice_get us i ≡ Some u → Adds old new (λ a b. (b ≡ place) × IsSource c es ts (type_resolved c u) a) → Adds old new (FromPart us place i)
  part-adds us place i u old new at adds = adds-alike old new (λ a b. (b ≡ place) × IsSource c es ts (type_resolved c u) a) (FromPart us place i) same adds
    where
      same : (a b : ℕ) → ((b ≡ place) × IsSource c es ts (type_resolved c u) a) ↔ FromPart us place i a b
      same a b = (λ h. (h.0, u, at, h.1), λ h. (h.0, subst (λ (v : AnyType). IsSource c es ts (type_resolved c v) a) (some-is h.1 u (sym h.2 ∙ at)) h.3))

  pub parts-add : (t : AnyType) (us : List AnyType) (place n : ℕ) (old new : Edges) → slice_get ts place ≡ Some t → us ≡ made_of c t → n ≡ length us → Adds old new (λ a b. Below n (λ i. FromPart us place i a b))
      → Adds old new (λ a b. (b ≡ place) × (s : AnyType) × (slice_get ts place ≡ Some s) × IsPartOf c es ts s a)
  parts-add t us place n old new at is long adds = adds-alike old new (λ a b. Below n (λ i. FromPart us place i a b)) (λ a b. (b ≡ place) × (s : AnyType) × (slice_get ts place ≡ Some s) × IsPartOf c es ts s a) same adds
    where
      same : (a b : ℕ) → Below n (λ i. FromPart us place i a b) ↔ ((b ≡ place) × (s : AnyType) × (slice_get ts place ≡ Some s) × IsPartOf c es ts s a)
      same a b = (to, from)
        where
          to : Below n (λ i. FromPart us place i a b) → (b ≡ place) × (s : AnyType) × (slice_get ts place ≡ Some s) × IsPartOf c es ts s a
          to (i, less, (e, u, there, source)) = (e, t, at, (u, subst (IsIn u) is (in_at u us i there), source))

          from : (b ≡ place) × (s : AnyType) × (slice_get ts place ≡ Some s) × IsPartOf c es ts s a → Below n (λ i. FromPart us place i a b)
          from (e, s, there, (u, among, source)) =
              let one : made_of c s ≡ us = ap (made_of c) (some-is s t (sym there ∙ at)) ∙ sym is in
              let found = at_in u us (subst (IsIn u) one among) in
              (found.0, subst (λ (k : ℕ). found.0 < k) (sym long) found.1, (e, u, found.2, source))

  -- ---- the edges to all types
  abbrev pub ToType : ℕ → ℕ → ℕ → Type 0
  ToType place a b = (b ≡ place) × (s : AnyType) × (slice_get ts place ≡ Some s) × IsPartOf c es ts s a

  pub types-add : (n : ℕ) (old new : Edges) → n ≡ length ts → Adds old new (λ a b. Below n (λ i. ToType i a b)) → Adds old new (TypeComesAfter c es ts)
  types-add n old new long adds = adds-alike old new (λ a b. Below n (λ i. ToType i a b)) (TypeComesAfter c es ts) same adds
    where
      same : (a b : ℕ) → Below n (λ i. ToType i a b) ↔ TypeComesAfter c es ts a b
      same a b = (to, from)
        where
          to : Below n (λ i. ToType i a b) → TypeComesAfter c es ts a b
          to (i, less, (e, s, there, part)) = (s, subst (λ (k : ℕ). slice_get ts k ≡ Some s) (sym e) there, part)

          from : TypeComesAfter c es ts a b → Below n (λ i. ToType i a b)
          from (s, there, part) = (b, subst (λ (k : ℕ). b < k) (sym long) (within ts b s there), (refl, s, there, part))

  -- ---- the edge to a type item
  pub item-none : (edges : Edges) (p : ℕ) → ((t : AnyType) → IsTypeItemAt es p t → ⊥) → Adds edges edges (ItemComesAfter c es ts p)
  item-none edges p none = adds-nothing edges (ItemComesAfter c es ts p) (λ a b h. none h.0 h.1)

  pub item-adds : (p k n : ℕ) (t : AnyType) (old new : Edges) → IsTypeItemAt es p t → ((s : AnyType) → IsTypeItemAt es p s → s ≡ t) → slice_get ts k ≡ Some (type_resolved c t) → ((j : ℕ) → slice_get ts j ≡ Some (type_resolved c t) → j ≡ k) → n ≡ length ts + p
      → Adds old new (λ a b. (a ≡ k) × (b ≡ n)) → Adds old new (ItemComesAfter c es ts p)
  item-adds p k n t old new there one at alone node adds = adds-alike old new (λ a b. (a ≡ k) × (b ≡ n)) (ItemComesAfter c es ts p) same adds
    where
      same : (a b : ℕ) → ((a ≡ k) × (b ≡ n)) ↔ ItemComesAfter c es ts p a b
      same a b = (
        λ e. (t, there, subst (λ (i : ℕ). slice_get ts i ≡ Some (type_resolved c t)) (sym e.0) at, e.1 ∙ node),
        λ h. (alone a (h.2 ∙ ap (λ (s : AnyType). Some (type_resolved c s)) (one h.0 h.1)), h.3 ∙ sym node),
      )

  -- ---- all edges
  pub none-there : (edges : Edges) → edges ≡ set.empty → (a b : NodeId) → IsEdge edges a b → ⊥
  none-there edges is a b edge = let none : set.contains edges edge.0 ≡ false = ap (λ (s : Edges). set.contains s edge.0) is ∙ set.contains-empty edge_cmp edge.0 in let there = edge.1 in cc

  pub are-exact : (old mid new : Edges) → old ≡ set.empty → Adds old mid (TypeComesAfter c es ts) → Adds mid new (λ a b. Below (length es) (λ p. ItemComesAfter c es ts p a b)) → (a b : NodeId) → IsEdge new a b ↔ ComesBefore c es ts a.0 b.0
  are-exact old mid new is types items a b = (to, λ h. (all a b).1 (inr h))
    where
      all : Adds old new (ComesBefore c es ts)
      all = adds-both old mid new (TypeComesAfter c es ts) (λ a b. Below (length es) (λ p. ItemComesAfter c es ts p a b)) types items

      to : IsEdge new a b → ComesBefore c es ts a.0 b.0
      to e = elim ((all a b).0 e) [ inl f ↦ absurd (none-there old is a b f) | inr h ↦ h ]

-- The edges that a new definition brings, node by node.
use Rattle.std.proofs.Common.{◌≡◌, ℕ, ◌+◌, ◌<◌, ◌≤◌, true, List, [], ◌∷◌, ◌++◌, length, refl, ap, ◌∙◌, sym, subst, arith, Some, ◌⊎◌, inl, inr}
use Rattle.std.specs.Prelude.{◌↔◌, Contains}
use Rattle.std.proofs.lemmas.List.Elements.{Contains-append_left, Contains-push, Contains-push_cases}
use Rattle.std.specs.FinSet as set
use Rattle.slab.specs.Slab.{Slab}
use Rattle.wac_types_shapes.specs.declared.shapes.component.«Type».{«Type» as AnyType}
use Rattle.wac_types_collection.specs.collection.Collection.{Collection, IsWellFormed}
use Rattle.wac_types_collection.specs.reach.Reach.{Reaches}
use Rattle.wac_edges.specs.declared.edges.Edge.{Edge}
use Rattle.wac_edges.specs.declared.edges.Label.TheVariants.{Alias, Dependency}
use Rattle.wac_edges.specs.declared.node.NodeId.{NodeId}
use Rattle.wac_edges.specs.Edge.{node_number, AreOnce, IsAlias}
use Rattle.wac_edges.specs.Order.{Edges}
use Rattle.wac_graph_model.specs.declared.nodes.node.Node.{Node}
use Rattle.wac_graph_model.specs.nodes.Definitions.{IsDefinedValue, dependency_edge}
use Rattle.wac_graph_model.proofs.lemmas.nodes.Added.{by_eq}
use Rattle.wac_graph_fields.specs.private.Stored.{DefinesAt, IsBetween, Brings}
use Rattle.wac_edges.proofs.AddingLemmas.{once_push}
use Rattle.wac_graph_fields.proofs.ReachedLemmas.{one_way}
use Rattle.wac_graph_fields.proofs.StoredLemmas.{defines_within}

-- a list with one edge more
pub contains_push : (xs : List Edge) (x e : Edge) → Contains (xs ++ x ∷ []) e ↔ (Contains xs e ⊎ (e ≡ x))
contains_push xs x e = (λ h. turned (Contains-push_cases xs x e h), back) where
  turned : Contains xs e ⊎ (x ≡ e) → Contains xs e ⊎ (e ≡ x)
  turned (inl h) = inl h
  turned (inr is) = inr (sym is)

  back : Contains xs e ⊎ (e ≡ x) → Contains (xs ++ x ∷ []) e
  back (inl h) = Contains-append_left xs (x ∷ []) e h
  back (inr is) = subst (Contains (xs ++ x ∷ [])) (sym is) (Contains-push xs x)

-- pushed where this holds
pub pushed : (P : Type 0) (xs ys : List Edge) (x : Edge) → (P × (ys ≡ xs ++ x ∷ [])) ⊎ ((P → ⊥) × (ys ≡ xs)) → (e : Edge) → Contains ys e ↔ (Contains xs e ⊎ (P × (e ≡ x)))
pushed P xs ys x (inl (p, is)) e = (λ h. onward ((contains_push xs x e).0 (subst (λ l. Contains l e) is h)), λ h. subst (λ l. Contains l e) (sym is) ((contains_push xs x e).1 (back h))) where
  onward : Contains xs e ⊎ (e ≡ x) → Contains xs e ⊎ (P × (e ≡ x))
  onward (inl h) = inl h
  onward (inr same) = inr (p, same)

  back : Contains xs e ⊎ (P × (e ≡ x)) → Contains xs e ⊎ (e ≡ x)
  back (inl h) = inl h
  back (inr (_, same)) = inr same
pushed P xs ys x (inr (other, is)) e = (λ h. inl (subst (λ l. Contains l e) is h), back) where
  back : Contains xs e ⊎ (P × (e ≡ x)) → Contains ys e
  back (inl h) = subst (λ l. Contains l e) (sym is) h
  back (inr (p, _)) = absurd (other p)

-- and no edge is there twice if the one that is pushed is not there yet
pub once_pushed : (P : Type 0) (xs ys : List Edge) (x : Edge) → (P × (ys ≡ xs ++ x ∷ [])) ⊎ ((P → ⊥) × (ys ≡ xs)) → (P → Contains xs x → ⊥) → AreOnce xs → AreOnce ys
once_pushed P xs ys x (inl (p, is)) out once = subst AreOnce (sym is) (once_push xs x once (out p))
once_pushed P xs ys x (inr (_, is)) out once = subst AreOnce (sym is) once

module _ (c : Collection) (nodes : Slab Node) (t : AnyType) (n : NodeId) where
  -- a definition with a number below this one brings the edge
  abbrev pub BringsBelow : ℕ → Edge → Type 0
  BringsBelow k e = (q : ℕ) × (q < k) × (u : AnyType) × DefinesAt nodes u q × IsBetween c t n u (node_number q) e

  pub brings_none : (e : Edge) → Contains [] e ↔ BringsBelow 0 e
  brings_none e = (λ (i, small, _). absurd (omega (arith, small)), λ (q, small, _, _, _). absurd (omega (arith, small)))

  pub brings_more : (k : ℕ) (e : Edge) → BringsBelow k e → BringsBelow (k + 1) e
  brings_more k e (q, small, u, defined, between) = (q, omega (arith, small), u, defined, between)

  pub past_none : (k : ℕ) → ((u : AnyType) → DefinesAt nodes u k → ⊥) → (e : Edge) → BringsBelow (k + 1) e → BringsBelow k e
  past_none k none e (q, small, u, defined, between) = by_eq q k
      (λ same. absurd (none u (subst (DefinesAt nodes u) same defined)))
      (λ differ. (q, omega (arith, small, differ), u, defined, between))

  pub past_one : (k : ℕ) (other : AnyType) → ((u : AnyType) → (Some other ≡ Some u) ↔ DefinesAt nodes u k) → (e : Edge) → BringsBelow (k + 1) e ↔ (BringsBelow k e ⊎ IsBetween c t n other (node_number k) e)
  past_one k other here e = (
    λ (q, small, u, defined, between). by_eq q k
        (λ same.
        let is : other ≡ u = the_same ((here u).1 (subst (DefinesAt nodes u) same defined)) in
        inr (subst (λ v. IsBetween c t n v (node_number k) e) (sym is) (subst (λ j. IsBetween c t n u (node_number j) e) same between)))
        (λ differ. inl (q, omega (arith, small, differ), u, defined, between)),
    back,
  ) where
    the_same : {u : AnyType} → Some other ≡ Some u → other ≡ u
    the_same h = cc

    back : BringsBelow k e ⊎ IsBetween c t n other (node_number k) e → BringsBelow (k + 1) e
    back (inl h) = brings_more k e h
    back (inr between) = (k, omega arith, other, (here other).0 refl, between)

  -- nothing is pushed where the node of a number defines nothing; else what stands between the two definitions
  pub none_pushed : (k : ℕ) (xs : List Edge) → ((u : AnyType) → DefinesAt nodes u k → ⊥) → ((e : Edge) → Contains xs e ↔ BringsBelow k e) → (e : Edge) → Contains xs e ↔ BringsBelow (k + 1) e
  none_pushed k xs none so e = (λ h. brings_more k e ((so e).0 h), λ h. (so e).1 (past_none k none e h))

  pub one_pushed : (k : ℕ) (other : AnyType) (xs ys zs : List Edge) → ((u : AnyType) → (Some other ≡ Some u) ↔ DefinesAt nodes u k) → ((e : Edge) → Contains xs e ↔ BringsBelow k e)
      → ((e : Edge) → Contains ys e ↔ (Contains xs e ⊎ ((IsDefinedValue other × Reaches c t other) × (e ≡ dependency_edge (node_number k) n))))
      → ((e : Edge) → Contains zs e ↔ (Contains ys e ⊎ ((IsDefinedValue t × Reaches c other t) × (e ≡ dependency_edge n (node_number k)))))
      → (e : Edge) → Contains zs e ↔ BringsBelow (k + 1) e
  one_pushed k other xs ys zs here so first second e = (λ h. (past_one k other here e).1 (by_second ((second e).0 h)), λ h. back ((past_one k other here e).0 h)) where
    by_first : Contains xs e ⊎ ((IsDefinedValue other × Reaches c t other) × (e ≡ dependency_edge (node_number k) n)) → BringsBelow k e ⊎ IsBetween c t n other (node_number k) e
    by_first (inl h) = inl ((so e).0 h)
    by_first (inr between) = inr (inl between)

    by_second : Contains ys e ⊎ ((IsDefinedValue t × Reaches c other t) × (e ≡ dependency_edge n (node_number k))) → BringsBelow k e ⊎ IsBetween c t n other (node_number k) e
    by_second (inl h) = by_first ((first e).0 h)
    by_second (inr between) = inr (inr between)

    back : BringsBelow k e ⊎ IsBetween c t n other (node_number k) e → Contains zs e
    back (inl h) = (second e).1 (inl ((first e).1 (inl ((so e).1 h))))
    back (inr (inl between)) = (second e).1 (inl ((first e).1 (inr between)))
    back (inr (inr between)) = (second e).1 (inr between)

  -- what is pushed is not there yet
  none_to : (k : ℕ) → BringsBelow k (dependency_edge (node_number k) n) → ⊥
  none_to k (q, small, u, defined, inl (_, is)) = let same : k ≡ q = ap (λ (e : Edge). e.source.0) is in omega (arith, small, same)
  none_to k (q, small, u, defined, inr (_, is)) =
      let from : k ≡ n.0 = ap (λ (e : Edge). e.source.0) is in
      let to : n.0 ≡ q = ap (λ (e : Edge). e.target.0) is in
      omega (arith, small, from, to)

  none_from : (k : ℕ) → BringsBelow k (dependency_edge n (node_number k)) → ⊥
  none_from k (q, small, u, defined, inr (_, is)) = let same : k ≡ q = ap (λ (e : Edge). e.target.0) is in omega (arith, small, same)
  none_from k (q, small, u, defined, inl (_, is)) =
      let from : n.0 ≡ q = ap (λ (e : Edge). e.source.0) is in
      let to : k ≡ n.0 = ap (λ (e : Edge). e.target.0) is in
      omega (arith, small, from, to)

  pub once_more : IsWellFormed c → (k : ℕ) (other : AnyType) (xs ys zs : List Edge) → ((e : Edge) → Contains xs e ↔ BringsBelow k e) → AreOnce xs
      → ((IsDefinedValue other × Reaches c t other) × (ys ≡ xs ++ dependency_edge (node_number k) n ∷ [])) ⊎ ((IsDefinedValue other × Reaches c t other → ⊥) × (ys ≡ xs))
      → ((IsDefinedValue t × Reaches c other t) × (zs ≡ ys ++ dependency_edge n (node_number k) ∷ [])) ⊎ ((IsDefinedValue t × Reaches c other t → ⊥) × (zs ≡ ys))
      → AreOnce zs
  once_more wf k other xs ys zs so once first second =
      once_pushed (IsDefinedValue t × Reaches c other t) ys zs (dependency_edge n (node_number k)) second (λ back h. either back ((pushed (IsDefinedValue other × Reaches c t other) xs ys (dependency_edge (node_number k) n) first (dependency_edge n (node_number k))).0 h))
      (once_pushed (IsDefinedValue other × Reaches c t other) xs ys (dependency_edge (node_number k) n) first (λ _ h. none_to k ((so (dependency_edge (node_number k) n)).0 h)) once)
    where
      either : IsDefinedValue t × Reaches c other t → Contains xs (dependency_edge n (node_number k)) ⊎ ((IsDefinedValue other × Reaches c t other) × (dependency_edge n (node_number k) ≡ dependency_edge (node_number k) n)) → ⊥
      either back (inl h) = none_from k ((so (dependency_edge n (node_number k))).0 h)
      either (_, back) (inr ((defined, there), _)) = one_way c wf other t defined back there

  pub brings_all : (k : ℕ) (xs : List Edge) → ((e : Edge) → Contains xs e ↔ BringsBelow k e) → length nodes.slots ≤ k → (e : Edge) → Contains xs e ↔ Brings c nodes t n e
  brings_all k xs so all e = (λ h. let (q, _, u, defined, between) = (so e).0 h in (q, u, defined, between), λ (q, u, defined, between). let small = defines_within nodes u q defined in (so e).1 (q, omega (arith, small, all), u, defined, between))

  -- each of them is an edge of the new node
  pub brings_ends : (e : Edge) → Brings c nodes t n e → (e.source ≡ n) ⊎ (e.target ≡ n)
  brings_ends e (q, u, defined, inl (_, is)) = inr (ap (λ (x : Edge). x.target) is)
  brings_ends e (q, u, defined, inr (_, is)) = inl (ap (λ (x : Edge). x.source) is)

  -- none of them is an alias
  pub brings_no_alias : (e : Edge) → Brings c nodes t n e → IsAlias e → ⊥
  brings_no_alias e (q, u, defined, inl (_, is)) (i, alias) = let wrong : Dependency ≡ Alias i = sym (ap (λ (x : Edge). x.label) is) ∙ alias in cc
  brings_no_alias e (q, u, defined, inr (_, is)) (i, alias) = let wrong : Dependency ≡ Alias i = sym (ap (λ (x : Edge). x.label) is) ∙ alias in cc

  -- and they were added
  pub brought_added : (old new : Edges) (xs ys : List Edge) → ys ≡ xs → ((e : Edge) → Contains xs e ↔ Brings c nodes t n e) → (e : Edge) → (set.contains new e ≡ true) ↔ (Contains ys e ⊎ (set.contains old e ≡ true))
      → (set.contains new e ≡ true) ↔ (Brings c nodes t n e ⊎ (set.contains old e ≡ true))
  brought_added old new xs ys is so e added = (λ h. onward (added.0 h), λ h. added.1 (back h)) where
    onward : Contains ys e ⊎ (set.contains old e ≡ true) → Brings c nodes t n e ⊎ (set.contains old e ≡ true)
    onward (inl h) = inl ((so e).0 (subst (λ l. Contains l e) is h))
    onward (inr was) = inr was

    back : Brings c nodes t n e ⊎ (set.contains old e ≡ true) → Contains ys e ⊎ (set.contains old e ≡ true)
    back (inl h) = inl (subst (λ l. Contains l e) (sym is) ((so e).1 h))
    back (inr was) = inr was

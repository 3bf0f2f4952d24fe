-- A part of a graph keeps its law where what it needs stays: the ends of its edges, the nodes that it exports, its aliases' edges
-- and its instances' packages. So do calls that take something away.
use Rattle.std.proofs.Common.{◌≡◌, ℕ, true, List, refl, ap, ◌∙◌, sym, subst, Option, Some, None, IsSome}
use Rattle.std.specs.Prelude.{slice_get, IsSomeAnd}
use Rattle.std.specs.Ordering.{nat_cmp}
use Rattle.std.specs.FinMap as map
use Rattle.std.specs.FinSet as set
use Rattle.wac_types_shapes.specs.primitives.Name.{Name}
use Rattle.wac_types_collection.specs.collection.Collection.{holds_type}
use Rattle.wac_types_shapes.specs.shapes.Kinds.{kind_type}
use Rattle.wac_types_collection.specs.collection.Package.{PackageParts}
use Rattle.wac_types_collection.specs.subtyping.Subtype.{IsSubtype}
use Rattle.wac_types_shapes.specs.declared.shapes.component.ItemKind.{ItemKind}
use Rattle.wac_edges.specs.declared.edges.Edge.{Edge}
use Rattle.wac_edges.specs.Edge.{edge_cmp, alias_edge, argument_edge}
use Rattle.wac_edges.specs.declared.node.NodeId.{NodeId}
use Rattle.wac_graph_model.specs.declared.nodes.packages.PackageId.{PackageId}
use Rattle.wac_graph_model.specs.declared.nodes.packages.Slot.{Slot}
use Rattle.wac_graph_model.specs.nodes.Graph as graph
use Rattle.wac_graph_model.specs.nodes.Graph.{Graph, GraphNode, node_at, package_at, exports_of, imports_of, IsAliasOf, export_at}
use Rattle.wac_graph_model.specs.nodes.Sound.{IsSound, IsInstance, IsAlias, IsTypeUnderName, Joins}
use Rattle.wac_graph_model.proofs.lemmas.nodes.JoinLemmas.{AreAlike, alike_exports, joins_kept, imports_of_instance}

-- of the same types, and with nothing that is not in the graph: nodes may lose their names, and exports stand elsewhere
pub record IsPart (g h : Graph) : Type 0 where
  pub nodes : (n : NodeId) (node : GraphNode) → node_at h n ≡ Some node → (was : GraphNode) × (node_at g n ≡ Some was) × AreAlike node was
  pub edges : (e : Edge) → set.contains h.edges e ≡ true → set.contains g.edges e ≡ true
  pub place : ℕ → ℕ
  pub exports : (i : ℕ) (e : Name × NodeId) → slice_get h.exports i ≡ Some e → slice_get g.exports (place i) ≡ Some e
  pub apart : (i j : ℕ) → place i ≡ place j → i ≡ j
  pub packages : (id : PackageId) (p : PackageParts) → package_at h id ≡ Some p → package_at g id ≡ Some p

-- what the part needs
pub record IsClosed (g h : Graph) : Type 0 where
  pub ends : (e : Edge) → set.contains h.edges e ≡ true → IsSome (node_at h e.source) × IsSome (node_at h e.target)
  pub exported : (i : ℕ) (name : Name) (n : NodeId) → slice_get h.exports i ≡ Some (name, n) → IsSome (node_at h n)
  pub aliases : (n : NodeId) (node : GraphNode) → node_at h n ≡ Some node → node.kind ≡ graph.alias → (instance : NodeId) (i : ℕ) → IsAliasOf g instance i n → IsAliasOf h instance i n
  pub instances : (n : NodeId) (node : GraphNode) → node_at h n ≡ Some node → node.kind ≡ graph.instantiation → (id : PackageId) (p : PackageParts) → node.owner ≡ Some id → package_at g id ≡ Some p → package_at h id ≡ Some p
  pub first_names : (n : NodeId) (node : GraphNode) (name : Name) → node_at h n ≡ Some node → node.first_name ≡ Some name → (node.kind ≡ graph.definition) × (export_at h name ≡ Some n)
  pub definitions : (n : NodeId) (node : GraphNode) → node_at h n ≡ Some node → node.kind ≡ graph.definition → IsTypeUnderName node
  pub vacant : (i s : ℕ) → slice_get h.vacant i ≡ Some s → IsSomeAnd (slice_get h.slots s) (λ slot. slot.«package» ≡ None)
  pub vacant_once : (i j s : ℕ) → slice_get h.vacant i ≡ Some s → slice_get h.vacant j ≡ Some s → i ≡ j

the_some : (o : Option GraphNode) → IsSome o → (x : GraphNode) × (o ≡ Some x)
the_some None h = cc
the_some (Some x) h = (x, refl)

some_and : (o : Option GraphNode) (P : GraphNode → Type 0) (x : GraphNode) → o ≡ Some x → P x → IsSomeAnd o P
some_and o P x is h = subst (λ y. IsSomeAnd y P) (sym is) h

some_is : (o : Option GraphNode) (P : GraphNode → Type 0) → IsSomeAnd o P → (x : GraphNode) × (o ≡ Some x) × P x
some_is None P h = absurd h
some_is (Some x) P h = (x, refl, h)

some_same : (o : Option GraphNode) (a b : GraphNode) → o ≡ Some a → o ≡ Some b → a ≡ b
some_same o a b p q = cc

module _ (g : Graph) (s : IsSound g) (nodes : map.FinMap nat_cmp GraphNode) (next : ℕ) (edges : set.FinSet edge_cmp) (exports : List (Name × NodeId)) (slots : List Slot) (vacant : List ℕ) where
  abbrev part : Graph
  part = record { types = g.types; nodes = nodes; next = next; edges = edges; exports = exports; slots = slots; vacant = vacant }

  module _ (p : IsPart g part) (c : IsClosed g part) where
    -- what is so of a node of a kind, item and owner was so
    was : (P : GraphNode → Type 0) → ((a b : GraphNode) → AreAlike a b → P a → P b) → (n : NodeId) → IsSomeAnd (node_at part n) P → IsSomeAnd (node_at g n) P
    was P same n h =
        let (x, at, holds) = some_is (node_at part n) P h in
        let (y, had, like) = p.nodes n x at in
        some_and (node_at g n) P y had (same x y like holds)

    instance : (n : NodeId) (node : GraphNode) → node_at part n ≡ Some node → node.kind ≡ graph.instantiation → IsInstance part node
    instance n node at is =
        let (x, had, like) = p.nodes n node at in
        let i = s.instances n x had (sym like.kind ∙ is) in
        let owned : node.owner ≡ Some i.id = like.owner ∙ i.owned in
        record { id = i.id; parts = i.parts; owned = owned; registered = c.instances n node at is i.id i.parts owned i.registered; typed = like.item ∙ i.typed }

    same_imports : (n : NodeId) (node was : GraphNode) → node_at part n ≡ Some node → node_at g n ≡ Some was → AreAlike node was → was.kind ≡ graph.instantiation → imports_of part node ≡ imports_of g was
    same_imports n node before at had like is =
        let old = s.instances n before had is in
        let owned : node.owner ≡ Some old.id = like.owner ∙ old.owned in
        let kept : IsInstance part node = record { id = old.id; parts = old.parts; owned = owned; registered = c.instances n node at (like.kind ∙ is) old.id old.parts owned old.registered; typed = like.item ∙ old.typed } in
        imports_of_instance part node kept ∙ sym (imports_of_instance g before old)

    joins : (e : Edge) (a b : GraphNode) → set.contains edges e ≡ true → map.get nodes e.source.0 ≡ Some a → map.get nodes e.target.0 ≡ Some b → Joins part e.label a b
    joins e a b stands from to =
        let (a_was, a_had, a_like) = p.nodes e.source a from in
        let (b_was, b_had, b_like) = p.nodes e.target b to in
        joins_kept g part e.label a_was b_was a b a_like b_like (alike_exports g a a_was a_like) (same_imports e.target b b_was to b_had b_like)
        (λ i x _ fits. subst (λ k. IsSubtype g.types k g.types x.1) (sym a_like.item) fits) (s.joins e a_was b_was (p.edges e stands) a_had b_had)

    alias : (n : NodeId) (node : GraphNode) → node_at part n ≡ Some node → node.kind ≡ graph.alias → IsAlias part n node
    alias n node at is =
        let (x, had, like) = p.nodes n node at in
        let a = s.aliases n x had (sym like.kind ∙ is) in
        let aliased : IsAliasOf part a.instance a.position n = c.aliases n node at is a.instance a.position a.aliased in
        let (source, there) = the_some (node_at part a.instance) (c.ends (alias_edge (a.instance) n a.position) aliased).0 in
        let (source_was, source_had, source_like) = p.nodes a.instance source there in
        let exported : slice_get (exports_of g a.source) a.position ≡ Some (a.name, node.item_kind) = a.exported ∙ ap (λ k. Some (a.name, k)) (sym like.item) in
        let same : source_was ≡ a.source = some_same (node_at g a.instance) source_was a.source source_had a.there in
        record {
          instance = a.instance;
          source = source;
          position = a.position;
          name = a.name;
          aliased = aliased;
          there = there;
          exported = ap (λ es. slice_get es a.position) (alike_exports g source source_was source_like ∙ ap (exports_of g) same) ∙ exported;
          owned = like.owner ∙ a.owned ∙ ap (λ (y : GraphNode). y.owner) (sym same) ∙ sym source_like.owner;
        }

    pub sound_part : IsSound part
    sound_part = record {
      ends = c.ends;
      joins = joins;
      exported = c.exported;
      held = λ n node at. let (x, had, like) = p.nodes n node at in ap (λ k. holds_type g.types (kind_type k)) like.item ∙ s.held n x had;
      packages = λ id parts at. s.packages id parts (p.packages id parts at);
      instances = instance;
      aliases = alias;
      one_argument = λ consumer i n m a b. s.one_argument consumer i n m (p.edges (argument_edge n consumer i) a) (p.edges (argument_edge m consumer i) b);
      one_alias = λ x i n m a b. s.one_alias x i n m (p.edges (alias_edge x n i) a) (p.edges (alias_edge x m i) b);
      one_source = λ n x y i j a b. s.one_source n x y i j (p.edges (alias_edge x n i) a) (p.edges (alias_edge y n j) b);
      one_import = λ name n m a b. s.one_import name n m (imported name n a) (imported name m b);
      one_definition = λ kind n m a b. s.one_definition kind n m (defined kind n a) (defined kind m b);
      one_export = λ name i j n m a b. p.apart i j (s.one_export name (p.place i) (p.place j) n m (p.exports i (name, n) a) (p.exports j (name, m) b));
      one_package = λ key id other (x, a, is) (y, b, same). s.one_package key id other (x, p.packages id x a, is) (y, p.packages other y b, same);
      first_names = c.first_names;
      definitions = c.definitions;
      vacant = c.vacant;
      vacant_once = c.vacant_once;
    } where
      imported : (name : Name) (n : NodeId) → IsSomeAnd (map.get nodes n.0) (λ x. x.kind ≡ graph.import name) → IsSomeAnd (map.get g.nodes n.0) (λ x. x.kind ≡ graph.import name)
      imported name n h = was (λ x. x.kind ≡ graph.import name) (λ a b like is. sym like.kind ∙ is) n h

      defined : (kind : ItemKind) (n : NodeId) → IsSomeAnd (map.get nodes n.0) (λ x. (x.kind ≡ graph.definition) × (x.item_kind ≡ kind)) → IsSomeAnd (map.get g.nodes n.0) (λ x. (x.kind ≡ graph.definition) × (x.item_kind ≡ kind))
      defined kind n h = was (λ x. (x.kind ≡ graph.definition) × (x.item_kind ≡ kind)) (λ a b like is. (sym like.kind ∙ is.0, sym like.item ∙ is.1)) n h

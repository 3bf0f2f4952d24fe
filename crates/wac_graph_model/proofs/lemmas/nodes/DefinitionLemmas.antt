-- The law of graphs holds after a type is defined.
use Rattle.std.proofs.Common.{◌≡◌, ◌≢◌, ℕ, true, [], ◌∷◌, ◌++◌, length, refl, ap, ◌∙◌, sym, subst, Option, Some, None, Ok, IsSome, is_some, ◌⊎◌, inl, inr}
use Rattle.std.specs.Prelude.{slice_get, IsSomeAnd}
use Rattle.std.specs.Ordering.{nat_cmp}
use Rattle.std.specs.FinMap as map
use Rattle.std.specs.FinSet as set
use Rattle.wac_types_shapes.specs.primitives.Name.{Name, find_name}
use Rattle.wac_types_shapes.specs.shapes.Kinds.{kind_type}
use Rattle.wac_types_shapes.specs.declared.shapes.component.ItemKind.{ItemKind}
use Rattle.wac_types_shapes.specs.declared.shapes.component.ItemKind.TheVariants.{TypeItem}
use Rattle.wac_types_shapes.specs.declared.shapes.component.«Type».{«Type» as AnyType}
use Rattle.wac_types_collection.specs.collection.Collection.{holds_type}
use Rattle.wac_types_collection.proofs.lemmas.collection.Growth.{get_where}
use Rattle.wac_edges.specs.declared.edges.Edge.{Edge}
use Rattle.wac_edges.specs.declared.edges.Label.TheVariants as label
use Rattle.wac_edges.specs.declared.node.NodeId.{NodeId}
use Rattle.wac_edges.specs.Edge.{edge_cmp, alias_edge, argument_edge}
use Rattle.wac_graph_model.specs.nodes.Graph as graph
use Rattle.wac_graph_model.specs.nodes.Graph.{Graph, GraphNode, node_at, export_at, IsDefinitionOf}
use Rattle.wac_graph_model.specs.nodes.Sound.{IsSound, IsInstance, IsAlias, IsTypeUnderName, Joins}
use Rattle.wac_graph_model.specs.nodes.Steps.{Defines}
use Rattle.wac_graph_model.specs.nodes.Definitions.{definition_node, IsUndefined, IsResource, IsDependency, reached, reaching, WithDependencies}
use Rattle.wac_graph_model.proofs.lemmas.nodes.Added.{by_eq, same_id, insert_same, insert_other, some_either, ImportIn, import_before, one_more, one_name}
use Rattle.wac_graph_model.proofs.lemmas.nodes.JoinLemmas.{alike_itself, joins_kept}
use Rattle.wac_graph_model.proofs.lemmas.nodes.NodeLemmas.{find_kept, find_new}

abbrev entry : Name → NodeId → Name × NodeId
entry name n = (name, n)

there_or_not : (o : Option GraphNode) → o ≡ None → IsSome o → ⊥
there_or_not None is h = cc
there_or_not (Some n) is h = cc

some_is : (o : Option GraphNode) (n : GraphNode) → o ≡ Some n → IsSome o
some_is o n is = ap is_some is

some_same : (o : Option GraphNode) (a b : GraphNode) → o ≡ Some a → o ≡ Some b → a ≡ b
some_same o a b p q = cc

the_some : (o : Option GraphNode) (P : GraphNode → Type 0) → IsSomeAnd o P → (x : GraphNode) × (o ≡ Some x) × P x
the_some None P h = absurd h
the_some (Some x) P h = (x, refl, h)

name_is : (name other : Name) → Some name ≡ Some other → name ≡ other
name_is name other h = cc

module _ (g : Graph) (s : IsSound g) (name : Name) (t : AnyType) (n : NodeId) (next : ℕ) (edges : set.FinSet edge_cmp)
    (free : IsUndefined g t) (no_resource : IsResource t → ⊥) (absent : export_at g name ≡ None) (vacant : node_at g n ≡ None) (held : holds_type g.types t ≡ true) (with : WithDependencies g t n edges) where
  node : GraphNode
  node = definition_node name t

  abbrev nodes : map.FinMap nat_cmp GraphNode
  nodes = map.insert g.nodes n.0 (definition_node name t)

  abbrev more : Graph
  more = record g { nodes = map.insert g.nodes n.0 (definition_node name t); next = next; edges = edges; exports = g.exports ++ (name, n) ∷ [] }

  is_other : (m : NodeId) → IsSome (node_at g m) → m.0 ≢ n.0
  is_other m there same = there_or_not (node_at g m) (ap (λ k. map.get g.nodes k) same ∙ vacant) there

  still_is : (m : NodeId) (x : GraphNode) → node_at g m ≡ Some x → map.get nodes m.0 ≡ Some x
  still_is m x at = insert_other g.nodes n.0 m.0 (definition_node name t) (is_other m (some_is (node_at g m) x at)) ∙ at

  still_there : (m : NodeId) → IsSome (node_at g m) → IsSome (map.get nodes m.0)
  still_there m there = ap is_some (insert_other g.nodes n.0 m.0 (definition_node name t) (is_other m there)) ∙ there

  here : map.get nodes n.0 ≡ Some (definition_node name t)
  here = insert_same g.nodes n.0 (definition_node name t)

  -- facts of all nodes
  each_node : (P : NodeId → GraphNode → Type 0) → P n (definition_node name t) → ((m : NodeId) (other : GraphNode) → node_at g m ≡ Some other → P m other)
      → (m : NodeId) (other : GraphNode) → map.get nodes m.0 ≡ Some other → P m other
  each_node P new old m other there = by_eq m.0 n.0
      (λ same.
      let is : definition_node name t ≡ other = some_same (map.get nodes n.0) (definition_node name t) other here (ap (map.get nodes) (sym same) ∙ there) in
      subst (λ k. P k other) (sym (same_id m n same)) (subst (λ x. P n x) is new))
      (λ differ. old m other (sym (insert_other g.nodes n.0 m.0 (definition_node name t) differ) ∙ there))

  -- an edge that is no dependency was there
  was_edge : (e : Edge) → (e.label ≡ label.Dependency → ⊥) → set.contains edges e ≡ true → set.contains g.edges e ≡ true
  was_edge e other stands = split ((with e).0 stands) where
    split : IsDependency g t n e ⊎ (set.contains g.edges e ≡ true) → set.contains g.edges e ≡ true
    split (inl (reached m u _ _ _ is)) = absurd (other (ap (λ (x : Edge). x.label) is))
    split (inl (reaching m u _ _ _ is)) = absurd (other (ap (λ (x : Edge). x.label) is))
    split (inr was) = was

  no_alias : (i : ℕ) → label.Alias i ≡ label.Dependency → ⊥
  no_alias i h = cc

  no_argument : (i : ℕ) → label.Argument i ≡ label.Dependency → ⊥
  no_argument i h = cc

  was_alias : (x m : NodeId) (i : ℕ) → set.contains edges (alias_edge x m i) ≡ true → set.contains g.edges (alias_edge x m i) ≡ true
  was_alias x m i = was_edge (alias_edge x m i) (no_alias i)

  was_argument : (x m : NodeId) (i : ℕ) → set.contains edges (argument_edge x m i) ≡ true → set.contains g.edges (argument_edge x m i) ≡ true
  was_argument x m i = was_edge (argument_edge x m i) (no_argument i)

  -- a definition that was there
  defined_there : (m : NodeId) (u : AnyType) → IsDefinitionOf g (TypeItem u) m → (x : GraphNode) × (node_at g m ≡ Some x) × (x.kind ≡ graph.definition)
  defined_there m u h = let (x, at, both) = the_some (node_at g m) (λ y. (y.kind ≡ graph.definition) × (y.item_kind ≡ TypeItem u)) h in (x, at, both.0)

  abbrev AreDefinitions : Edge → Type 0
  AreDefinitions e = (a : GraphNode) × (b : GraphNode) × (map.get nodes e.source.0 ≡ Some a) × (map.get nodes e.target.0 ≡ Some b) × (a.kind ≡ graph.definition) × (b.kind ≡ graph.definition)

  -- what the definition brings leads from a definition to another
  dependent : (e : Edge) → IsDependency g t n e → (e.label ≡ label.Dependency) × AreDefinitions e
  dependent e (reached m u defined _ _ is) =
      let (x, at, kind) = defined_there m u defined in
      (ap (λ (y : Edge). y.label) is, subst AreDefinitions (sym is) (x, definition_node name t, still_is m x at, here, kind, refl))
  dependent e (reaching m u defined _ _ is) =
      let (x, at, kind) = defined_there m u defined in
      (ap (λ (y : Edge). y.label) is, subst AreDefinitions (sym is) (definition_node name t, x, here, still_is m x at, refl, kind))

  ends : (e : Edge) → IsDependency g t n e ⊎ (set.contains g.edges e ≡ true) → IsSome (map.get nodes e.source.0) × IsSome (map.get nodes e.target.0)
  ends e (inl new) = let (_, (a, b, from, to, _, _)) = dependent e new in (ap is_some from, ap is_some to)
  ends e (inr was) = let h = s.ends e was in (still_there e.source h.0, still_there e.target h.1)

  old_node : (m : NodeId) (other : GraphNode) → IsSome (node_at g m) → map.get nodes m.0 ≡ Some other → node_at g m ≡ Some other
  old_node m other there at = sym (insert_other g.nodes n.0 m.0 (definition_node name t) (is_other m there)) ∙ at

  joins : (e : Edge) (a b : GraphNode) → map.get nodes e.source.0 ≡ Some a → map.get nodes e.target.0 ≡ Some b → IsDependency g t n e ⊎ (set.contains g.edges e ≡ true) → Joins more e.label a b
  joins e a b from to (inl new) =
      let (is, (x, y, x_at, y_at, x_kind, y_kind)) = dependent e new in
      subst (λ l. Joins more l a b) (sym is) (
        ap (λ (z : GraphNode). z.kind) (some_same (map.get nodes e.source.0) a x from x_at) ∙ x_kind,
        ap (λ (z : GraphNode). z.kind) (some_same (map.get nodes e.target.0) b y to y_at) ∙ y_kind,
      )
  joins e a b from to (inr was) =
      let h = s.ends e was in
      joins_kept g more e.label a b a b (alike_itself a) (alike_itself b) refl (λ _. refl) (λ i x _ fits. fits) (s.joins e a b was (old_node e.source a h.0 from) (old_node e.target b h.1 to))

  listed : (other : Name) (m : NodeId) {i : ℕ} → (slice_get g.exports i ≡ Some (other, m)) ⊎ ((i ≡ length g.exports) × (entry name n ≡ entry other m)) → IsSome (map.get nodes m.0)
  listed other m {i} (inl was) = still_there m (s.exported i other m was)
  listed other m (inr (_, is)) = ap (λ (x : Name × NodeId). is_some (map.get nodes x.1.0)) (sym is) ∙ ap is_some here

  old_alias : (m : NodeId) (other : GraphNode) → IsAlias g m other → IsAlias more m other
  old_alias m other a = record {
    instance = a.instance;
    source = a.source;
    position = a.position;
    name = a.name;
    aliased = (with (alias_edge (a.instance) m a.position)).1 (inr a.aliased);
    there = still_is a.instance a.source a.there;
    exported = a.exported;
    owned = a.owned;
  }

  no_instance : graph.definition ≡ graph.instantiation → ⊥
  no_instance h = cc

  no_alias_kind : graph.definition ≡ graph.alias → ⊥
  no_alias_kind h = cc

  no_import : {other : Name} → graph.definition ≡ graph.import other → ⊥
  no_import h = cc

  was_import : (other : Name) (m : NodeId) → ImportIn nodes other m → ImportIn g.nodes other m
  was_import other m h = import_before g.nodes n (definition_node name t) other m (λ is. absurd (no_import is)) h

  abbrev Defined : map.FinMap nat_cmp GraphNode → ItemKind → NodeId → Type 0
  Defined ns kind m = IsSomeAnd (map.get ns m.0) (λ x. (x.kind ≡ graph.definition) × (x.item_kind ≡ kind))

  defined : (kind : ItemKind) (m : NodeId) → Defined nodes kind m → Defined g.nodes kind m ⊎ ((m ≡ n) × ((o : NodeId) → Defined g.nodes kind o → ⊥))
  defined kind m h = split (some_either (λ x. (x.kind ≡ graph.definition) × (x.item_kind ≡ kind)) g.nodes n (definition_node name t) m h) where
    split : Defined g.nodes kind m ⊎ ((m ≡ n) × ((graph.definition ≡ graph.definition) × (TypeItem t ≡ kind))) → Defined g.nodes kind m ⊎ ((m ≡ n) × ((o : NodeId) → Defined g.nodes kind o → ⊥))
    split (inl was) = inl was
    split (inr (same, both)) = inr (same, λ o was. free o (subst (λ k. Defined g.nodes k o) (sym both.1) was))

  pub sound_definition : IsSound (record g { nodes = map.insert g.nodes n.0 (definition_node name t); next = next; edges = edges; exports = g.exports ++ (name, n) ∷ [] })
  sound_definition = record {
    ends = λ e stands. ends e ((with e).0 stands);
    joins = λ e a b stands from to. joins e a b from to ((with e).0 stands);
    exported = λ i other m at. listed other m (get_where g.exports (name, n) i (other, m) at);
    held = each_node (λ _ other. holds_type g.types (kind_type other.item_kind) ≡ true) held s.held;
    packages = s.packages;
    instances = each_node (λ _ other. other.kind ≡ graph.instantiation → IsInstance more other) (λ wrong. absurd (no_instance wrong))
        (λ m other at is. let i = s.instances m other at is in record { id = i.id; parts = i.parts; owned = i.owned; registered = i.registered; typed = i.typed });
    aliases = each_node (λ m other. other.kind ≡ graph.alias → IsAlias more m other) (λ wrong. absurd (no_alias_kind wrong)) (λ m other at is. old_alias m other (s.aliases m other at is));
    one_argument = λ consumer i x y p q. s.one_argument consumer i x y (was_argument x consumer i p) (was_argument y consumer i q);
    one_alias = λ instance i x y p q. s.one_alias instance i x y (was_alias instance x i p) (was_alias instance y i q);
    one_source = λ m x y i j p q. s.one_source m x y i j (was_alias x m i p) (was_alias y m j q);
    one_import = λ other m o p q. s.one_import other m o (was_import other m p) (was_import other o q);
    one_definition = λ kind x y p q. one_more (Defined g.nodes kind) (Defined nodes kind) n (defined kind) (s.one_definition kind) x y p q;
    one_export = one_name g.exports name n absent s.one_export;
    one_package = s.one_package;
    first_names = λ m other text at is.
        each_node (λ k x. x.first_name ≡ Some text → (x.kind ≡ graph.definition) × (find_name (g.exports ++ (name, n) ∷ []) text ≡ Some k))
        (λ first. (refl, ap (find_name (g.exports ++ (name, n) ∷ [])) (sym (name_is name text first)) ∙ find_new g.exports name n absent))
        (λ k x was first. let (kind, exported) = s.first_names k x text was first in (kind, find_kept g.exports (name, n) text k exported))
        m other at is;
    definitions = each_node (λ _ x. x.kind ≡ graph.definition → IsTypeUnderName x) (λ _. record { defined = t; name = name; typed = refl; no_resource = no_resource; named = refl }) s.definitions;
    vacant = s.vacant;
    vacant_once = s.vacant_once;
  }

-- so after the step
pub sound_defines : (old new : Graph) → IsSound old → (name : Name) (t : AnyType) (n : NodeId) → holds_type old.types t ≡ true → Defines old name t (Ok n) new → IsSound new
sound_defines old new s name t n held (free, no_resource, absent, _, _, vacant, with, is) = subst IsSound (sym is) (sound_definition old s name t n new.next new.edges free no_resource absent vacant held with)

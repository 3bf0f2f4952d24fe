-- What the fields say of aliases and exports that are written.
use Rattle.std.proofs.Common.{refl, ◌≡◌, ℕ, zero, suc, ◌<◌, true, false, List, [], ◌∷◌, ◌++◌, length, take, ap, ◌∙◌, sym, Some, None, Option, IfSome, IsSome, IsSomeAnd, is_some, String, Global, string_bytes}
use Rattle.std.specs.Prelude.{slice_get}
use Rattle.std.specs.Option.{option_map}
use Rattle.std.specs.FinSet as set
use Rattle.std.proofs.lemmas.Option.{slice_get-map, slice_get_within}
use Rattle.slab.specs.Slab.{get, ContainsKey}
use Rattle.wac_types_shapes.specs.primitives.Name.{Name}
use Rattle.wac_types_collection.specs.collection.Collection.{item_at}
use Rattle.wac_types_shapes.specs.declared.shapes.component.Interface.{Interface}
use Rattle.wac_types_shapes.specs.declared.shapes.component.InterfaceId.{InterfaceId}
use Rattle.wac_types_shapes.specs.declared.shapes.component.ItemKind.{ItemKind}
use Rattle.wac_types_shapes.specs.declared.shapes.component.ItemKind.TheVariants as item
use Rattle.wac_binary.specs.declared.sorts.Sort.{Sort}
use Rattle.wac_binary.specs.Items.{Item, alias_item, export_alias}
use Rattle.wac_binary.specs.Indexes.{space, indexes}
use Rattle.wac_graph_model.specs.declared.nodes.node.Node.{Node}
use Rattle.wac_edges.specs.declared.node.NodeId.{NodeId}
use Rattle.wac_graph_model.specs.declared.nodes.packages.PackageId.{PackageId}
use Rattle.wac_edges.specs.Edge.{alias_edge}
use Rattle.wac_graph_model.specs.nodes.Graph as graph
use Rattle.wac_edges.specs.Edge.{node_number}
use Rattle.wac_graph_model.specs.nodes.Graph.{GraphNode, node_at, exports_of, IsSourceOf}
use Rattle.wac_graph_model.specs.nodes.Nodes.{node_of, kind_of}
use Rattle.wac_graph_fields.specs.private.Fields.{Fields, graph_of, Invariant}
use Rattle.wac_graph_model.specs.meaning.Means.{sort_of_kind}
use Rattle.wac_graph_model.specs.private.meaning.Beginning.{Places}
use Rattle.wac_graph_model.specs.private.meaning.Writing.{WritesNode, writes_alias}
use Rattle.wac_graph_model.specs.declared.nodes.options.EncodeOptions.{EncodeOptions}
use Rattle.wac_types_collection.specs.collection.Bound.{Bindings}
use Rattle.wac_graph_model.proofs.lemmas.nodes.NodeLemmas.{there, text_pair}
use Rattle.wac_graph_reader.proofs.lemmas.writing.EncodingLemmas.{node_is, some_node, if_node}
use Rattle.wac_graph_fields.proofs.AliasLemmas.{exports_are}

pub take_at : {A : Type 0} (xs : List A) (i : ℕ) (x : A) → slice_get xs i ≡ Some x → take (suc i) xs ≡ take i xs ++ x ∷ []
take_at [] i x h = cc
take_at (y ∷ ys) zero x h = let e : y ≡ x = cc in ap (λ z. z ∷ []) e
take_at (y ∷ ys) (suc i) x h = ap (λ r. y ∷ r) (take_at ys i x h)

-- an entry of the exports is one of the graph's
pub entry_at : (a : Fields) (i : ℕ) (name : String Global) (id : NodeId) → Some (name, id) ≡ slice_get a.exports.entries i → slice_get (graph_of a).exports i ≡ Some (string_bytes name, id)
entry_at a i name id h = slice_get-map (λ e. text_pair e) a.exports.entries i ∙ ap (option_map (λ e. text_pair e)) (sym h)

-- a node that is an alias
module _ (a : Fields) (v : Invariant a) (n : ℕ) (h : IsSomeAnd (node_at (graph_of a) (node_number n)) (λ x. x.kind ≡ graph.alias)) where
  -- an alias has a source
  pub alias_sourced : ((source : NodeId) (position : ℕ) → set.contains a.edges (alias_edge source (node_number n) position) ≡ false) → ⊥
  alias_sourced none =
      let (m, had, is) = some_node a n (λ x. x.kind ≡ graph.alias) h in
      let it = (v.sound).aliases (node_number n) (node_of m) (node_is a n (Some m) had) is in
      clash (sym (none it.instance it.position) ∙ it.aliased) where
        clash : false ≡ true → ⊥
        clash h = cc

  module _ (source position : ℕ) (stands : set.contains a.edges (alias_edge (node_number source) (node_number n) position) ≡ true) where
    pub source_there : ContainsKey a.nodes source
    source_there = there a.nodes.slots source ((v.sound).ends (alias_edge (node_number source) (node_number n) position) stands).0

    -- what is aliased is an export of the source
    pub source_exports : (s m : Node) → get a.nodes source ≡ Some s → get a.nodes n ≡ Some m → (name : Name) × (slice_get (exports_of (graph_of a) (node_of s)) position ≡ Some (name, m.item_kind))
    source_exports s m had at =
        let (other, found, is) = some_node a n (λ x. x.kind ≡ graph.alias) h in
        let it = (v.sound).aliases (node_number n) (node_of other) (node_is a n (Some other) found) is in
        let (same, place) = (v.sound).one_source (node_number n) it.instance (node_number source) it.position position it.aliased stands in
        let found_there : node_at (graph_of a) it.instance ≡ Some (node_of s) = ap (node_at (graph_of a)) same ∙ node_is a source (Some s) had in
        let e : it.source ≡ node_of s = one (sym it.there ∙ found_there) in
        let k : other ≡ m = one_node (sym found ∙ at) in
        (it.name, (λ j. slice_get (exports_of (graph_of a) (sym e j)) (sym place j)) ∙ it.exported ∙ ap (λ (x : Node). Some (it.name, x.item_kind)) k) where
          one : {x y : GraphNode} → Some x ≡ Some y → x ≡ y
          one p = cc

          one_node : {x y : Node} → Some x ≡ Some y → x ≡ y
          one_node p = cc

    pub source_is_instance : (s : Node) → get a.nodes source ≡ Some s → ((i : InterfaceId) → s.item_kind ≡ item.Instance i → ⊥) → ⊥
    source_is_instance s had other =
        let (m, at, _) = some_node a n (λ x. x.kind ≡ graph.alias) h in
        let (name, exported) = source_exports s m had at in
        nothing (sym (ap (λ (es : List (Name × ItemKind)). slice_get es position) (no_exports s.item_kind other)) ∙ exported) where
          no_exports : (k : ItemKind) → ((i : InterfaceId) → k ≡ item.Instance i → ⊥) → exports_of (graph_of a) (record (node_of s) { item_kind = k }) ≡ []
          no_exports (item.TypeItem t) not = refl
          no_exports (item.Func f) not = refl
          no_exports (item.Instance i) not = absurd (not i refl)
          no_exports (item.Component w) not = refl
          no_exports (item.Module m) not = refl
          no_exports (item.Value v) not = refl

          nothing : {e : Name × ItemKind} → slice_get [] position ≡ Some e → ⊥
          nothing p = cc

    -- the position is one of the interface's exports
    module _ (s : Node) (i : InterfaceId) (it : Interface) (had : get a.nodes source ≡ Some s) (is : s.item_kind ≡ item.Instance i) (held : item_at (a.types).interfaces i.0 ≡ Some it) where
      pub exported_at : (m : Node) → get a.nodes n ≡ Some m → (name : Name) × (slice_get it.exports position ≡ Some (name, m.item_kind))
      exported_at m at =
          let (name, exported) = source_exports s m had at in
          (name, ap (λ es. slice_get es position) (sym (exports_are a s i it is held)) ∙ exported)

      pub position_there : position < length it.exports
      position_there =
          let (m, at, _) = some_node a n (λ x. x.kind ≡ graph.alias) h in
          let (name, exported) = exported_at m at in
          slice_get_within it.exports position (name, m.item_kind) exported

      pub alias_there : ContainsKey a.nodes n
      alias_there = let (m, at, _) = some_node a n (λ x. x.kind ≡ graph.alias) h in ap is_some at

      pub alias_added : (o : EncodeOptions) (b : Bindings) (places : Places) (m : Node) → get a.nodes n ≡ Some m → (text : Name) → option_map (λ e. e.0) (slice_get it.exports position) ≡ Some text
          → (t : Sort) → t ≡ sort_of_kind m.item_kind → (f : NodeId → ℕ) (index : ℕ) → index ≡ f (node_number source)
          → (components components' : List (PackageId × ℕ)) → components' ≡ components
          → (items items' : List Item) → items' ≡ items ++ alias_item (export_alias t index text) ∷ [] → (place : ℕ) → place ≡ indexes (space t) items
          → IfSome (node_at (graph_of a) (node_number n)) (λ x. WritesNode (graph_of a) o b places (node_number n) x f components components' items items' place)
      alias_added o b places m at text named t sorted f index placed components components' kept items items' added place counted =
          let (other, found, kind) = some_node a n (λ x. x.kind ≡ graph.alias) h in
          let k : other ≡ m = one (sym found ∙ at) in
          let (name, here) = exported_at m at in
          let same_name : name ≡ text = text_is (sym (ap (option_map (λ e. e.0)) here) ∙ named) in
          let first : exports_of (graph_of a) (node_of s) ≡ it.exports = exports_are a s i it is held in
          if_node a n m (λ x. WritesNode (graph_of a) o b places (node_number n) x f components components' items items' place) at
          (writes_alias (node_number source) (node_of s) position text
          (ap (λ x. kind_of x.kind) (sym k) ∙ kind) stands (node_is a source (Some s) had)
          (ap (λ es. slice_get es position) first ∙ here ∙ ap (λ (x : Name). Some (x, m.item_kind)) same_name)
          kept
          (added ∙ (λ j. items ++ alias_item (export_alias (sorted j) (placed j) text) ∷ []))
          (counted ∙ ap (λ x. indexes (space x) items) sorted)) where
            one : {x y : Node} → Some x ≡ Some y → x ≡ y
            one p = cc

            text_is : {x y : Name} → Some x ≡ Some y → x ≡ y
            text_is p = cc

      -- so the node is the alias of an export of this name
      pub alias_of : (text : Name) → option_map (λ e. e.0) (slice_get it.exports position) ≡ Some text → IsSourceOf (graph_of a) (node_number n) (node_number source) text
      alias_of text named =
          let (m, at, _) = some_node a n (λ x. x.kind ≡ graph.alias) h in
          let (name, here) = exported_at m at in
          let same_name : name ≡ text = text_is (sym (ap (option_map (λ e. e.0)) here) ∙ named) in
          let first : exports_of (graph_of a) (node_of s) ≡ it.exports = exports_are a s i it is held in (
            node_of s,
            position,
            m.item_kind,
            node_is a source (Some s) had,
            ap (λ es. slice_get es position) first ∙ here ∙ ap (λ (x : Name). Some (x, m.item_kind)) same_name,
            stands,
          ) where
            text_is : {x y : Name} → Some x ≡ Some y → x ≡ y
            text_is p = cc

-- what an alias's edge leads to is an alias
pub alias_target : (a : Fields) → Invariant a → (n source position : ℕ) → set.contains a.edges (alias_edge (node_number source) (node_number n) position) ≡ true → IsSomeAnd (node_at (graph_of a) (node_number n)) (λ x. x.kind ≡ graph.alias)
alias_target a v n source position stands = by_nodes (node_at (graph_of a) (node_number source)) (node_at (graph_of a) (node_number n)) refl refl ((v.sound).ends (alias_edge (node_number source) (node_number n) position) stands) where
  by_nodes : (o r : Option GraphNode) → node_at (graph_of a) (node_number source) ≡ o → node_at (graph_of a) (node_number n) ≡ r → IsSome o × IsSome r → IsSomeAnd r (λ x. x.kind ≡ graph.alias)
  by_nodes None r from to h = absurd (none_some h.0)
    where
      none_some : IsSome {T = GraphNode} None → ⊥
      none_some h = cc
  by_nodes (Some s) None from to h = absurd (none_some h.1)
    where
      none_some : IsSome {T = GraphNode} None → ⊥
      none_some h = cc
  by_nodes (Some s) (Some t) from to h = ((v.sound).joins (alias_edge (node_number source) (node_number n) position) s t stands from to).0

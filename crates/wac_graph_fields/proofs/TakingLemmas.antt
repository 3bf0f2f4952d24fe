-- What is always true of a graph's fields stays true where an argument is taken away, and where a node is named.
use Rattle.std.proofs.Common.{◌≡◌, ◌≢◌, ℕ, Bool, true, false, not, ◌&&◌, ◌==◌, refl, ap, ◌∙◌, sym, subst, Option, Some, None, IfSome, IsSome, is_some, Ok, Err, String, Global, string_bytes, List, arith}
use Rattle.std.specs.Prelude.{slice_get, IsSomeAnd, swap_remove, if◌then◌else◌}
use Rattle.std.specs.HashMap.{HashMap}
use Rattle.std.specs.declared.hash.FoldHasher.{FoldHasher}
use Rattle.std.specs.declared.hash.BuildHasherDefault.{BuildHasherDefault}
use Rattle.std.proofs.lemmas.Option.{slice_get-map}
use Rattle.std.specs.Option.{option_map}
use Rattle.std.specs.Ordering.{eq_by_cmp, is_eq}
use Rattle.std.specs.Cmp.{tied_itself}
use Rattle.std.specs.FinMap as map
use Rattle.std.specs.FinSet as set
use Rattle.std.proofs.lemmas.Bool.{eqb-true}
use Rattle.std.proofs.lemmas.Bool.Decides.{nat_tests}
use Rattle.slab.specs.Slab.{Slab, get, Updates}
use Rattle.wac_types_shapes.specs.primitives.Name.{Name}
use Rattle.wac_edges.specs.declared.edges.Edge.{Edge}
use Rattle.wac_edges.specs.declared.edges.Label.TheVariants as label
use Rattle.wac_edges.specs.Edge.{edge_cmp, alias_edge, argument_edge, node_number}
use Rattle.wac_edges.proofs.EdgeLemmas.{edge_cmp_total, exact_edges, edge_cmp-IsAntisymmetric}
use Rattle.wac_graph_model.specs.declared.nodes.node.Node.{Node}
use Rattle.wac_edges.specs.declared.node.NodeId.{NodeId}
use Rattle.wac_graph_model.specs.nodes.Graph as graph
use Rattle.wac_graph_model.specs.nodes.Graph.{Graph, GraphNode, node_at}
use Rattle.wac_graph_model.specs.nodes.Nodes.{node_of, nodes_of, names_of, kind_of, satisfied, satisfied_at}
use Rattle.wac_graph_fields.specs.private.Told.{tells}
use Rattle.wac_graph_fields.specs.private.Lost.{is_again, AreTold}
use Rattle.wac_graph_fields.specs.private.Slots.{vacant_of}
use Rattle.wac_graph_fields.specs.declared.lost.Lost.{Lost}
use Rattle.wac_graph_model.specs.nodes.Steps.{SetsName, Unexports}
use Rattle.wac_graph_model.specs.nodes.TakenOut.{taken_at, without}
use Rattle.wac_graph_model.specs.declared.nodes.errors.UnexportError.TheVariants.{MustExportDefinition}
use Rattle.wac_graph_model.specs.declared.nodes.node.NodeKind.{NodeKind}
use Rattle.wac_graph_model.specs.declared.nodes.node.NodeKind.TheVariants as code
use Rattle.wac_graph_model.specs.nodes.Sound.{IsSound}
use Rattle.wac_edges.proofs.WrittenOrder.{eqb_same}
use Rattle.wac_graph_model.proofs.lemmas.nodes.Added.{by_eq, ImportIn}
use Rattle.wac_graph_model.proofs.lemmas.nodes.JoinLemmas.{AreAlike, alike_itself}
use Rattle.wac_graph_model.proofs.lemmas.nodes.NodeLemmas.{get-nodes_of, nodes_of-insert, nodes_of-same}
use Rattle.wac_graph_model.proofs.lemmas.nodes.TakenOut.{found_left, Left, left_itself, left_without, none_without}
use Rattle.wac_graph_model.proofs.lemmas.nodes.PartLemmas.{IsPart, IsClosed, sound_part}
use Rattle.wac_graph_fields.proofs.LostLemmas.{names_taken}
use Rattle.wac_graph_fields.specs.private.Fields.{Fields, graph_of, Invariant}
use Rattle.wac_graph_fields.specs.private.Renamed.{Renames, with_name, with_export_name}
use Rattle.wac_graph_fields.proofs.InvariantLemmas.{invariant_lost}
use Rattle.wac_graph_fields.proofs.RenamedLemmas.{IsRewritten, rewritten}

clash : (b : Bool) → b ≡ true → b ≡ false → ⊥
clash true _ h = cc
clash false h _ = cc

both_true : (x y : Bool) → (x && y) ≡ true → (x ≡ true) × (y ≡ true)
both_true true y h = (refl, h)
both_true false y h = cc

not_true : (b : Bool) → not b ≡ true → b ≡ false
not_true true h = cc
not_true false h = refl

not_false : (b : Bool) → (b ≡ true → ⊥) → not b ≡ true
not_false true h = absurd (h refl)
not_false false h = refl

-- an edge of a set without one of its edges, and the other way round
removed_edge : (s : set.FinSet edge_cmp) (x e : Edge) → set.contains (set.remove s x) e ≡ true → (set.contains s e ≡ true) × (e ≡ x → ⊥)
removed_edge s x e h =
    let parts = both_true (not (eq_by_cmp edge_cmp e x)) (set.contains s e) (sym (set.contains-remove edge_cmp_total s x e) ∙ h) in
    (parts.1, λ same. clash (eq_by_cmp edge_cmp e x) (ap (λ y. eq_by_cmp edge_cmp y x) same ∙ ap is_eq (tied_itself edge_cmp_total x)) (not_true (eq_by_cmp edge_cmp e x) parts.0))

left_edge : (s : set.FinSet edge_cmp) (x e : Edge) → set.contains s e ≡ true → (e ≡ x → ⊥) → set.contains (set.remove s x) e ≡ true
left_edge s x e h other = set.contains-remove edge_cmp_total s x e ∙ ap (λ b. b && set.contains s e) (not_false (eq_by_cmp edge_cmp e x) (λ is. other (exact_edges e x is))) ∙ h

-- taking away an edge that is not there
pub nothing_removed : (s : set.FinSet edge_cmp) (e : Edge) → set.contains s e ≡ false → s ≡ set.remove s e
nothing_removed s e absent = sym (set.same_set edge_cmp_total edge_cmp-IsAntisymmetric (set.remove s e) s (λ q.
    set.contains-remove edge_cmp_total s e q ∙ at q (eq_by_cmp edge_cmp q e) refl)) where
      at : (q : Edge) (b : Bool) → eq_by_cmp edge_cmp q e ≡ b → (not b && set.contains s q) ≡ set.contains s q
      at q true is = sym (ap (λ x. set.contains s x) (exact_edges q e is) ∙ absent)
      at q false is = refl

module _ (a : Fields) (v : Invariant a) where
  -- the same nodes but for the satisfied positions, of which one is less, and without its edge
  pub invariant_taken : (nodes : Slab Node) (edges : set.FinSet edge_cmp) (source target : NodeId) (position : ℕ) → nodes.vacant_key ≡ a.nodes.vacant_key
      → ((q : ℕ) → option_map node_of (get nodes q) ≡ option_map node_of (get a.nodes q)) → ((q i : ℕ) → satisfied_at (get nodes q) i ≡ (satisfied_at (get a.nodes q) i && not (q == target.0 && i == position)))
      → set.contains a.edges (argument_edge source target position) ≡ true → edges ≡ set.remove a.edges (argument_edge source target position)
      → Invariant (record a { nodes = nodes; edges = edges })
  invariant_taken nodes edges source target position next same satisfied_now stood taken =
      let shown : nodes_of nodes.slots ≡ nodes_of a.nodes.slots = nodes_of-same a.nodes.slots nodes.slots same in
      let less = sound_part (graph_of a) v.sound (nodes_of a.nodes.slots) a.nodes.vacant_key (set.remove a.edges gone) (graph_of a).exports a.slots.items (vacant_of a.vacant) is_part is_closed in
      record {
        sound = subst IsSound (λ i. record (graph_of a) { nodes = sym shown i; next = sym next i; edges = sym taken i }) less;
        marked = λ s t i stands. satisfied_now t.0 i ∙ marked s t i (removed_edge a.edges gone (argument_edge s t i) (ap (λ es. set.contains es (argument_edge s t i)) (sym taken) ∙ stands));
        edged = λ t i is. edged t i (both_true (satisfied_at (get a.nodes t.0) i) (not (t.0 == target.0 && i == position)) (sym (satisfied_now t.0 i) ∙ is));
        keyed = v.keyed;
        room = v.room;
        named = λ name n h. v.named name n (subst (λ ns. ImportIn ns name n) shown h);
        importing = λ name n at. subst (λ ns. ImportIn ns name n) (sym shown) (v.importing name n at);
        told = λ i name n at. ap (λ o. tells (is_again a.lost n.0) o name) (same n.0) ∙ v.told i name n at;
      } where
        gone : Edge
        gone = argument_edge source target position

        without : Graph
        without = record (graph_of a) { edges = set.remove a.edges gone }

        is_part : IsPart (graph_of a) without
        is_part = record {
          nodes = λ n node at. (node, at, alike_itself node);
          edges = λ e h. (removed_edge a.edges gone e h).0;
          place = λ i. i;
          exports = λ i e at. at;
          apart = λ i j h. h;
          packages = λ id p at. at;
        }

        no_alias : (s t : NodeId) (i : ℕ) → alias_edge s t i ≡ gone → ⊥
        no_alias s t i wrong = let labels : label.Alias i ≡ label.Argument position = ap (λ (e : Edge). e.label) wrong in cc

        is_closed : IsClosed (graph_of a) without
        is_closed = record {
          ends = λ e h. v.sound.ends e (removed_edge a.edges gone e h).0;
          exported = v.sound.exported;
          aliases = λ n node at is instance i stands. left_edge a.edges gone (alias_edge instance n i) stands (no_alias instance n i);
          instances = λ n node at is id p owned registered. registered;
          first_names = v.sound.first_names;
          definitions = v.sound.definitions;
          vacant = v.sound.vacant;
          vacant_once = v.sound.vacant_once;
        }

        marked : (s t : NodeId) (i : ℕ) → (set.contains a.edges (argument_edge s t i) ≡ true) × (argument_edge s t i ≡ gone → ⊥) → (satisfied_at (get a.nodes t.0) i && not (t.0 == target.0 && i == position)) ≡ true
        marked s t i (stands, other) = ap (λ b. b && not (t.0 == target.0 && i == position)) (v.marked s t i stands) ∙ not_false (t.0 == target.0 && i == position) (λ here.
            let (t_is, i_is) = both_true (t.0 == target.0) (i == position) here in
            let at : argument_edge s t i ≡ argument_edge s target position = λ d. argument_edge s (node_number (eqb-true t.0 target.0 t_is d)) (eqb-true i position i_is d) in
            let one : s ≡ source = v.sound.one_argument target position s source (ap (set.contains a.edges) (sym at) ∙ stands) stood in
            other (at ∙ ap (λ (n : NodeId). argument_edge n target position) one))

        edged : (t : NodeId) (i : ℕ) → (satisfied_at (get a.nodes t.0) i ≡ true) × (not (t.0 == target.0 && i == position) ≡ true) → (s : NodeId) × (set.contains edges (argument_edge s t i) ≡ true)
        edged t i (is, other) =
            let (s, stands) = v.edged t i is in (
              s,
              ap (λ es. set.contains es (argument_edge s t i)) taken ∙ left_edge a.edges gone (argument_edge s t i) stands (λ same.
                  clash (t.0 == target.0 && i == position) (here s t i same) (not_true (t.0 == target.0 && i == position) other)),
            ) where
              here : (s t : NodeId) (i : ℕ) → argument_edge s t i ≡ gone → (t.0 == target.0 && i == position) ≡ true
              here s t i same =
                  let t_is : t.0 ≡ target.0 = ap (λ (e : Edge). e.target.0) same in
                  let i_is : i ≡ position = let labels : label.Argument i ≡ label.Argument position = ap (λ (e : Edge). e.label) same in cc in
                  rw (t_is, i_is, eqb_same target.0) (eqb_same position)

pub the_node : (o : Option Node) → IsSome o → (n : Node) × (o ≡ Some n)
the_node None h = cc
the_node (Some n) h = (n, refl)

-- a node is written again, the same but for its names, and some exports are taken out
module _ (a : Fields) (id : NodeId) (nodes : Slab Node) (before after : Node) (had : get a.nodes id.0 ≡ Some before) (updates : Updates a.nodes nodes id.0 (Some after)) (like : AreAlike (node_of after) (node_of before)) (kind : after.kind ≡ before.kind) where
  -- a node was there, and is the same but for its names
  was : (m : NodeId) (x : GraphNode) → map.get (nodes_of nodes.slots) m.0 ≡ Some x → (y : GraphNode) × (map.get (nodes_of a.nodes.slots) m.0 ≡ Some y) × AreAlike x y
  was m x at = by_eq m.0 id.0
      (λ same.
      let now : Some (node_of after) ≡ Some x = sym (ap (option_map node_of) updates.changed) ∙ sym (get-nodes_of nodes.slots id.0) ∙ ap (map.get (nodes_of nodes.slots)) (sym same) ∙ at in
      let x_is : node_of after ≡ x = cc in
      (node_of before, ap (map.get (nodes_of a.nodes.slots)) same ∙ get-nodes_of a.nodes.slots id.0 ∙ ap (option_map node_of) had, subst (λ y. AreAlike y (node_of before)) x_is like))
      (λ differ. (x, get-nodes_of a.nodes.slots m.0 ∙ ap (option_map node_of) (sym (updates.others m.0 differ)) ∙ sym (get-nodes_of nodes.slots m.0) ∙ at, alike_itself x))

  -- and is there still
  still : (m : NodeId) → IsSome (map.get (nodes_of a.nodes.slots) m.0) → IsSome (map.get (nodes_of nodes.slots) m.0)
  still m h = by_eq m.0 id.0
      (λ same. ap is_some (ap (map.get (nodes_of nodes.slots)) same ∙ get-nodes_of nodes.slots id.0 ∙ ap (option_map node_of) updates.changed))
      (λ differ. ap is_some (get-nodes_of nodes.slots m.0 ∙ ap (option_map node_of) (updates.others m.0 differ) ∙ sym (get-nodes_of a.nodes.slots m.0)) ∙ h)

  satisfied_same : (q i : ℕ) → satisfied_at (get nodes q) i ≡ satisfied_at (get a.nodes q) i
  satisfied_same q i = by_eq q id.0
      (λ same. ap (λ k. satisfied_at (get nodes k) i) same ∙ ap (λ o. satisfied_at o i) updates.changed ∙ ap (λ k. satisfied k i) kind ∙ sym (ap (λ k. satisfied_at (get a.nodes k) i) same ∙ ap (λ o. satisfied_at o i) had))
      (λ differ. ap (λ o. satisfied_at o i) (updates.others q differ))

  abbrev kind_at : Option GraphNode → Option graph.Kind
  kind_at = option_map (λ (y : GraphNode). y.kind)

  kinds : (q : ℕ) → kind_at (map.get (nodes_of nodes.slots) q) ≡ kind_at (map.get (nodes_of a.nodes.slots) q)
  kinds q = by_eq q id.0
      (λ same.
      ap (λ k. kind_at (map.get (nodes_of nodes.slots) k)) same
      ∙ ap kind_at (get-nodes_of nodes.slots id.0 ∙ ap (option_map node_of) updates.changed)
      ∙ ap Some like.kind
      ∙ sym (ap (λ k. kind_at (map.get (nodes_of a.nodes.slots) k)) same
      ∙ ap kind_at (get-nodes_of a.nodes.slots id.0 ∙ ap (option_map node_of) had)))
      (λ differ. ap kind_at (get-nodes_of nodes.slots q ∙ ap (option_map node_of) (updates.others q differ) ∙ sym (get-nodes_of a.nodes.slots q)))

  imports_as : (o p : Option GraphNode) (other : Name) → kind_at o ≡ kind_at p → IsSomeAnd p (λ x. x.kind ≡ graph.import other) → IsSomeAnd o (λ x. x.kind ≡ graph.import other)
  imports_as o None other same h = absurd h
  imports_as None (Some y) other same h = absurd (none_some same) where
    none_some : {x : graph.Kind} → None ≡ Some x → ⊥
    none_some h = cc
  imports_as (Some x) (Some y) other same h = let k : x.kind ≡ y.kind = cc in k ∙ h

  -- its first name is what it was
  was_first : (node_of after).first_name ≡ (node_of before).first_name → (m : NodeId) (x : GraphNode) → map.get (nodes_of nodes.slots) m.0 ≡ Some x → (y : GraphNode) × (map.get (nodes_of a.nodes.slots) m.0 ≡ Some y) × (x.kind ≡ y.kind) × (x.first_name ≡ y.first_name) × (x.item_kind ≡ y.item_kind)
  was_first first m x at = by_eq m.0 id.0
      (λ same.
      let now : Some (node_of after) ≡ Some x = sym (ap (option_map node_of) updates.changed) ∙ sym (get-nodes_of nodes.slots id.0) ∙ ap (map.get (nodes_of nodes.slots)) (sym same) ∙ at in
      let x_is : node_of after ≡ x = cc in (
        node_of before,
        ap (map.get (nodes_of a.nodes.slots)) same ∙ get-nodes_of a.nodes.slots id.0 ∙ ap (option_map node_of) had,
        ap (λ (z : GraphNode). z.kind) (sym x_is) ∙ like.kind,
        ap (λ (z : GraphNode). z.first_name) (sym x_is) ∙ first,
        ap (λ (z : GraphNode). z.item_kind) (sym x_is) ∙ like.item,
      ))
      (λ differ. (x, get-nodes_of a.nodes.slots m.0 ∙ ap (option_map node_of) (sym (updates.others m.0 differ)) ∙ sym (get-nodes_of nodes.slots m.0) ∙ at, refl, refl, refl))

  pub invariant_rewritten : Invariant a → (names : HashMap (String Global) NodeId (BuildHasherDefault FoldHasher)) (gone : NodeId → Bool) → Left gone (names_of a.exports.entries) (names_of names.entries) → AreTold a.lost nodes names.entries
      → (node_of after).first_name ≡ (node_of before).first_name → ((n : NodeId) (x : GraphNode) → node_at (graph_of a) n ≡ Some x → x.kind ≡ graph.definition → gone n ≡ false) → Invariant (record a { nodes = nodes; exports = names })
  invariant_rewritten v names gone left told first stays =
      record {
        sound = sound_part (graph_of a) v.sound (nodes_of nodes.slots) nodes.vacant_key a.edges (names_of names.entries) a.slots.items (vacant_of a.vacant) is_part is_closed;
        marked = λ s t i stands. satisfied_same t.0 i ∙ v.marked s t i stands;
        edged = λ t i is. v.edged t i (sym (satisfied_same t.0 i) ∙ is);
        keyed = v.keyed;
        room = v.room;
        named = λ other n h. v.named other n (imports_as (map.get (nodes_of a.nodes.slots) n.0) (map.get (nodes_of nodes.slots) n.0) other (sym (kinds n.0)) h);
        importing = λ other n at. imports_as (map.get (nodes_of nodes.slots) n.0) (map.get (nodes_of a.nodes.slots) n.0) other (kinds n.0) (v.importing other n at);
        told = told;
      } where
        now : Graph
        now = graph_of (record a { nodes = nodes; exports = names })

        is_part : IsPart (graph_of a) now
        is_part = record { nodes = was; edges = λ e h. h; place = left.place; exports = left.was; apart = left.apart; packages = λ id p at. at }

        is_closed : IsClosed (graph_of a) now
        is_closed = record {
          ends = λ e h. let both = v.sound.ends e h in (still e.source both.0, still e.target both.1);
          exported = λ i other n at. still n (v.sound.exported (left.place i) other n (left.was i (other, n) at));
          aliases = λ n node at is instance i stands. stands;
          instances = λ n node at is id p owned registered. registered;
          first_names = λ n node other at is.
              let (y, had_y, same_kind, same_first, _) = was_first first n node at in
              let (kind, found) = v.sound.first_names n y other had_y (sym same_first ∙ is) in
              (same_kind ∙ kind, found_left gone (names_of a.exports.entries) (names_of names.entries) left v.sound.one_export other n found (stays n y had_y kind));
          definitions = λ n node at is.
              let (y, had_y, same_kind, same_first, same_item) = was_first first n node at in
              let d = v.sound.definitions n y had_y (sym same_kind ∙ is) in
              record { defined = d.defined; name = d.name; typed = same_item ∙ d.typed; no_resource = d.no_resource; named = same_first ∙ d.named };
          vacant = v.sound.vacant;
          vacant_once = v.sound.vacant_once;
        }

-- what `set_name` changes
module _ (a : Fields) (id : NodeId) (name : Name) (nodes : Slab Node) (titled_node : Node) (titled_had : get a.nodes id.0 ≡ Some titled_node) (titled : Renames (with_name name) a.nodes nodes id.0) where
  titled_is : IsRewritten (with_name name) a.nodes nodes id.0 titled_node
  titled_is = rewritten (with_name name) a.nodes nodes id.0 titled_node titled_had titled

  pub named_node : SetsName (graph_of a) id name (Ok tt) (graph_of (record a { nodes = nodes }))
  named_node =
      let at : node_at (graph_of a) id ≡ Some (node_of titled_node) = get-nodes_of a.nodes.slots id.0 ∙ ap (option_map node_of) titled_had in
      let shown : nodes_of nodes.slots ≡ map.insert (nodes_of a.nodes.slots) id.0 (record (node_of titled_node) { name = Some name }) =
      nodes_of-insert a.nodes nodes id.0 titled_is.node titled_is.updates ∙ ap (map.insert (nodes_of a.nodes.slots) id.0) titled_is.shape in
      rw at (λ i. record (graph_of a) { nodes = shown i; next = titled_is.next i })

  titled_told : Invariant a → AreTold a.lost nodes a.exports.entries
  titled_told v i other n at = by_eq n.0 id.0
      (λ same.
      ap (λ k. tells (is_again a.lost k) (option_map node_of (get nodes k)) other) same ∙ ap (λ o. tells (is_again a.lost id.0) (option_map node_of o) other) titled_is.updates.changed
      ∙ ap (λ x. tells (is_again a.lost id.0) (Some x) other) titled_is.shape
      ∙ sym (ap (λ o. tells (is_again a.lost id.0) (option_map node_of o) other) titled_had) ∙ ap (λ k. tells (is_again a.lost k) (option_map node_of (get a.nodes k)) other) (sym same) ∙ v.told i other n at)
      (λ differ. ap (λ o. tells (is_again a.lost n.0) (option_map node_of o) other) (titled_is.updates.others n.0 differ) ∙ v.told i other n at)

  pub invariant_named : Invariant a → Invariant (record a { nodes = nodes })
  invariant_named v = invariant_rewritten a id nodes titled_node titled_is.node titled_had titled_is.updates (subst (λ y. AreAlike y (node_of titled_node)) (sym titled_is.shape) (record { kind = refl; item = refl; owner = refl })) titled_is.kind v a.exports (λ _. false) (left_itself (λ _. false) (names_of a.exports.entries)) (titled_told v) (ap (λ (x : GraphNode). x.first_name) titled_is.shape) (λ n x at is. refl)

abbrev pub is_same : NodeId → NodeId → Bool
is_same id m = m.0 == id.0

module _ (a : Fields) (id : NodeId) (nodes : Slab Node) (names : HashMap (String Global) NodeId (BuildHasherDefault FoldHasher)) (node : Node) (had : get a.nodes id.0 ≡ Some node) (cleared : Renames (with_export_name None) a.nodes nodes id.0) (taken : names_of names.entries ≡ without (is_same id) (names_of a.exports.entries)) where
  cleared_is : IsRewritten (with_export_name None) a.nodes nodes id.0 node
  cleared_is = rewritten (with_export_name None) a.nodes nodes id.0 node had cleared

  pub unexported : (kind_of node.kind ≡ graph.definition → ⊥) → Unexports (graph_of a) id (Ok tt) (graph_of (record a { nodes = nodes; exports = names }))
  unexported other =
      let at : node_at (graph_of a) id ≡ Some (node_of node) = get-nodes_of a.nodes.slots id.0 ∙ ap (option_map node_of) had in
      let shown : nodes_of nodes.slots ≡ map.insert (nodes_of a.nodes.slots) id.0 (record (node_of node) { export_name = None }) = nodes_of-insert a.nodes nodes id.0 cleared_is.node cleared_is.updates ∙ ap (map.insert (nodes_of a.nodes.slots) id.0) cleared_is.shape in
      rw at (other, λ i. record (graph_of a) { nodes = shown i; next = cleared_is.next i; exports = taken i })

  pub cleared_told : Invariant a → AreTold a.lost nodes names.entries
  cleared_told v i other n at = by_eq n.0 id.0
      (λ same. absurd (clash (is_same id n) (ap (λ k. k == id.0) same ∙ eqb_same id.0) (none_without (is_same id) (names_of a.exports.entries) i (other, n) (ap (λ es. slice_get es i) (sym taken) ∙ at))))
      (λ differ. ap (λ o. tells (is_again a.lost n.0) (option_map node_of o) other) (cleared_is.updates.others n.0 differ) ∙ v.told (kept.place i) other n (kept.was i (other, n) at)) where
        kept : Left (is_same id) (names_of a.exports.entries) (names_of names.entries)
        kept = subst (Left (is_same id) (names_of a.exports.entries)) (sym taken) (left_without (is_same id) (names_of a.exports.entries))

  pub invariant_unexported : Invariant a → (kind_of node.kind ≡ graph.definition → ⊥) → Invariant (record a { nodes = nodes; exports = names })
  invariant_unexported v other =
      invariant_rewritten a id nodes node cleared_is.node had cleared_is.updates (subst (λ y. AreAlike y (node_of node)) (sym cleared_is.shape) (record { kind = refl; item = refl; owner = refl })) cleared_is.kind v names (is_same id)
      (subst (Left (is_same id) (names_of a.exports.entries)) (sym taken) (left_without (is_same id) (names_of a.exports.entries))) (cleared_told v) (ap (λ (x : GraphNode). x.first_name) cleared_is.shape)
      (λ n x at is. by_eq n.0 id.0
      (λ same. absurd (other (ap (λ (y : GraphNode). y.kind) (same_node (node_at (graph_of a) n) (node_of node) x (ap (map.get (nodes_of a.nodes.slots)) same ∙ get-nodes_of a.nodes.slots id.0 ∙ ap (option_map node_of) had) at) ∙ is)))
      (λ differ. let e : (n.0 == id.0) ≡ false = grind (arith, nat_tests) in e))
    where
      same_node : (o : Option GraphNode) (x y : GraphNode) → o ≡ Some x → o ≡ Some y → x ≡ y
      same_node o x y p q = cc

  -- the node has no further names then
  pub invariant_forgotten : (v : Invariant a) → (kind_of node.kind ≡ graph.definition → ⊥) → (lost : Lost) → ((q : ℕ) → q ≢ id.0 → is_again lost q ≡ is_again a.lost q) → Invariant (record a { nodes = nodes; exports = names; lost = lost })
  invariant_forgotten v definition lost same = invariant_lost (record a { nodes = nodes; exports = names }) (invariant_unexported v definition) lost (λ i other n at. by_eq n.0 id.0
      (λ here. absurd (clash (is_same id n) (ap (λ k. k == id.0) here ∙ eqb_same id.0) (none_without (is_same id) (names_of a.exports.entries) i (other, n) (ap (λ es. slice_get es i) (sym taken) ∙ at))))
      (λ differ. ap (λ b. tells b (option_map node_of (get nodes n.0)) other) (same n.0 differ) ∙ cleared_told v i other n at))

pub still_definition : (a : Fields) (id : NodeId) (node : Node) → get a.nodes id.0 ≡ Some node → kind_of node.kind ≡ graph.definition → Unexports (graph_of a) id (Err MustExportDefinition) (graph_of a)
still_definition a id node had is =
    let at : node_at (graph_of a) id ≡ Some (node_of node) = get-nodes_of a.nodes.slots id.0 ∙ ap (option_map node_of) had in
    (refl, subst (λ o. IfSome o (λ n. n.kind ≡ graph.definition)) (sym at) is)

pub no_definition : (k : NodeKind) → (k ≡ code.Definition → ⊥) → kind_of k ≡ graph.definition → ⊥
no_definition code.Definition h e = h refl
no_definition (code.Import name) h e = cc
no_definition (code.Instantiation s) h e = cc
no_definition code.Alias h e = cc

-- one entry of a map, where it is of the node and where it is not
pub entry_taken : (id : NodeId) (entries now : List (String Global × NodeId)) (k : ℕ) (e : String Global × NodeId) → slice_get entries k ≡ Some e → ((e.1).0 == id.0) ≡ true → now ≡ swap_remove entries k e
    → names_of now ≡ taken_at (is_same id) k (slice_get (names_of entries) k) (names_of entries)
entry_taken id entries now k e at same is =
    ap names_of is ∙ names_taken entries k e
    ∙ sym (ap (λ o. taken_at (is_same id) k o (names_of entries)) (slice_get-map (λ x. (string_bytes x.0, x.1)) entries k ∙ ap (option_map (λ x. (string_bytes x.0, x.1))) at) ∙ ap (λ b. if b then swap_remove (names_of entries) k (string_bytes e.0, e.1) else names_of entries) same)

pub entry_left : (id : NodeId) (entries : List (String Global × NodeId)) (k : ℕ) (e : String Global × NodeId) → slice_get entries k ≡ Some e → ((e.1).0 == id.0) ≡ false → names_of entries ≡ taken_at (is_same id) k (slice_get (names_of entries) k) (names_of entries)
entry_left id entries k e at other =
    sym (ap (λ o. taken_at (is_same id) k o (names_of entries)) (slice_get-map (λ x. (string_bytes x.0, x.1)) entries k ∙ ap (option_map (λ x. (string_bytes x.0, x.1))) at) ∙ ap (λ b. if b then swap_remove (names_of entries) k (string_bytes e.0, e.1) else names_of entries) other)

pub no_entry : (id : NodeId) (entries : List (String Global × NodeId)) (k : ℕ) → slice_get entries k ≡ None → names_of entries ≡ taken_at (is_same id) k (slice_get (names_of entries) k) (names_of entries)
no_entry id entries k at = sym (ap (λ o. taken_at (is_same id) k o (names_of entries)) (slice_get-map (λ x. (string_bytes x.0, x.1)) entries k ∙ ap (option_map (λ x. (string_bytes x.0, x.1))) at))

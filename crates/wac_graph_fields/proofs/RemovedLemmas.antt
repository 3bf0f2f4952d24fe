-- A graph is still one where nodes were taken out with all that goes with them, and it is the graph without them.
use Rattle.std.proofs.Common.{◌≡◌, ℕ, Bool, true, false, cond, not, ◌&&◌, List, refl, ap, ◌∙◌, sym, subst, ◌⊎◌, inl, inr, Option, Some, None, IsSome, is_some, String, Global, string_bytes}
use Rattle.std.specs.Prelude.{slice_get, IsSomeAnd}
use Rattle.std.specs.Option.{option_map}
use Rattle.std.specs.Map.{lookup, KeepsOthers}
use Rattle.std.specs.Str.{bytes_eq}
use Rattle.std.specs.String.{string_eq}
use Rattle.std.specs.FinMap as map
use Rattle.std.specs.HashMap.{HashMap}
use Rattle.std.specs.declared.hash.FoldHasher.{FoldHasher}
use Rattle.std.specs.declared.hash.BuildHasherDefault.{BuildHasherDefault}
use Rattle.slab.specs.Slab.{Slab, get}
use Rattle.wac_types_shapes.specs.primitives.Name.{Name, same_name, find_name}
use Rattle.wac_types_shapes.proofs.lemmas.shapes.Names.{same_name-true, same_name-from, same_name-bytes_eq}
use Rattle.wac_edges.specs.declared.edges.Label.{Label}
use Rattle.wac_edges.specs.declared.edges.Label.TheVariants as label
use Rattle.wac_edges.specs.declared.node.NodeId.{NodeId}
use Rattle.wac_edges.specs.Edge.{alias_edge, argument_edge}
use Rattle.wac_edges.specs.Order.{Edges}
use Rattle.wac_graph_model.specs.declared.nodes.node.Node.{Node}
use Rattle.wac_graph_model.specs.declared.nodes.node.NodeKind.{NodeKind}
use Rattle.wac_graph_model.specs.declared.nodes.node.NodeKind.TheVariants as code
use Rattle.wac_graph_model.specs.nodes.Graph as graph
use Rattle.wac_graph_model.specs.nodes.Graph.{GraphNode, node_at, IsImportOf}
use Rattle.wac_graph_model.specs.nodes.Nodes.{node_of, nodes_of, names_of, kind_of, IsInstantiationAt}
use Rattle.wac_graph_model.specs.nodes.Sound.{Joins}
use Rattle.wac_graph_model.specs.nodes.TakenOut.{without}
use Rattle.wac_graph_model.proofs.lemmas.nodes.NodeLemmas.{get-nodes_of, is_some-node_of, lookup_text}
use Rattle.wac_graph_model.proofs.lemmas.nodes.TakenOut.{Left, left_without, none_without}
use Rattle.wac_graph_fields.specs.private.Fields.{Fields, graph_of, Invariant}
use Rattle.wac_graph_fields.specs.Removal.{Follows, GoesWith, itself, behind, IsWithout, Removes}
use Rattle.wac_graph_fields.specs.private.Removing.{AreTied, AreTaken}
use Rattle.wac_graph_fields.specs.private.Taking.{imports, AreLeft}
use Rattle.wac_graph_fields.proofs.WayLemmas.{IsIn}
use Rattle.wac_graph_fields.proofs.TiedLemmas.{clash, none_some}
use Rattle.wac_graph_fields.specs.declared.lost.Lost.{Lost}
use Rattle.wac_graph_fields.specs.private.Lost.{is_again, AreNoted}
use Rattle.wac_graph_fields.specs.private.Slots.{vacant_of}
use Rattle.wac_graph_fields.specs.private.Told.{tells}
use Rattle.wac_graph_fields.proofs.LostLemmas.{told_there, alike_without}
use Rattle.wac_graph_fields.proofs.WithoutLemmas.{nodes_left, edges_left, still_there, sound_without}

-- ---- names of imports
abbrev Names : Type 0
Names = HashMap (String Global) NodeId (BuildHasherDefault FoldHasher)

imports_is : (k : NodeKind) (other : Name) → imports k other ≡ true → kind_of k ≡ graph.import other
imports_is (code.Import name) other h = ap graph.import (sym (same_name-true other (string_bytes name) h))
imports_is code.Definition other h = cc
imports_is (code.Instantiation s) other h = cc
imports_is code.Alias other h = cc

is_imports : (k : NodeKind) (other : Name) → kind_of k ≡ graph.import other → imports k other ≡ true
is_imports (code.Import name) other h = let same : string_bytes name ≡ other = cc in same_name-from other (string_bytes name) (sym same)
is_imports code.Definition other h = cc
is_imports (code.Instantiation s) other h = cc
is_imports code.Alias other h = cc

pub left_all : (k : NodeKind) (es : List (String Global × NodeId)) → ((name : String Global) → k ≡ code.Import name → ⊥) → AreLeft k es es
left_all (code.Import name) es other = absurd (other name refl)
left_all code.Definition es other = λ q. refl
left_all (code.Instantiation s) es other = λ q. refl
left_all code.Alias es other = λ q. refl

pub left_others : (name : String Global) (old new : List (String Global × NodeId)) → lookup (λ k. bytes_eq (string_bytes name) (string_bytes k)) new ≡ None → KeepsOthers string_eq (λ k. bytes_eq (string_bytes name) (string_bytes k)) old new → AreLeft (code.Import name) old new
unfolding KeepsOthers
left_others name old new absent kept other = split (same_name other (string_bytes name)) refl where
  split : (b : Bool) → same_name other (string_bytes name) ≡ b → find_name (names_of new) other ≡ cond b None (find_name (names_of old) other)
  split true is = lookup_text new other ∙ ap (λ q. lookup (λ k. bytes_eq q (string_bytes k)) new) (same_name-true other (string_bytes name) is) ∙ absent
  split false is = lookup_text new other ∙ kept (λ k. bytes_eq other (string_bytes k))
      (λ x y h. ap (λ q. bytes_eq q (string_bytes y)) (same_name-true other (string_bytes x) (sym (same_name-bytes_eq other (string_bytes x)) ∙ h)))
      (λ k h. apart k (same_name-true (string_bytes name) (string_bytes k) (sym (same_name-bytes_eq (string_bytes name) (string_bytes k)) ∙ h)))
      ∙ sym (lookup_text old other) where
        apart : (k : String Global) → string_bytes name ≡ string_bytes k → bytes_eq other (string_bytes k) ≡ false
        apart k same = same_name-bytes_eq other (string_bytes k) ∙ ap (same_name other) (sym same) ∙ is

pub left_named : (k : NodeKind) (name : String Global) (key : Name) (old new : List (String Global × NodeId)) → k ≡ code.Import name → key ≡ string_bytes name → lookup (λ s. bytes_eq key (string_bytes s)) new ≡ None → KeepsOthers string_eq (λ s. bytes_eq key (string_bytes s)) old new → AreLeft k old new
left_named k name key old new is key_is absent kept =
    subst (λ x. AreLeft x old new) (sym is) (left_others name old new (subst (λ q. lookup (λ s. bytes_eq q (string_bytes s)) new ≡ None) key_is absent) (subst (λ q. KeepsOthers string_eq (λ s. bytes_eq q (string_bytes s)) old new) key_is kept))

no_some : {A : Type 0} {x : A} → None ≡ Some x → ⊥
no_some h = cc

-- ---- a node is taken out of a graph
module _ (a : Fields) (v : Invariant a) where
  -- the fields of a graph agree
  pub tied_inside : AreTied a.nodes a.edges
  tied_inside = record {
    ends = λ e h. let both = v.sound.ends e h in (stored e.source both.0, stored e.target both.1);
    consumers = consumer;
    one_argument = λ s o t i h k. v.sound.one_argument t i s o h k;
    marked = v.marked;
    edged = v.edged;
  } where
    stored : (n : NodeId) → IsSome (map.get (nodes_of a.nodes.slots) n.0) → IsSome (get a.nodes n.0)
    stored n h = sym (is_some-node_of (get a.nodes n.0)) ∙ ap is_some (sym (get-nodes_of a.nodes.slots n.0)) ∙ h

    by_stored : (s t : NodeId) (i : ℕ) → IsIn a.edges (argument_edge s t i) → (x y : Option Node) → get a.nodes s.0 ≡ x → get a.nodes t.0 ≡ y → IsSome x → IsSome y → IsInstantiationAt y
    by_stored s t i h None y is_x is_y p q = absurd (none_some {A = Node} None refl p)
    by_stored s t i h (Some x) None is_x is_y p q = absurd (none_some {A = Node} None refl q)
    by_stored s t i h (Some x) (Some y) is_x is_y p q = (v.sound.joins (argument_edge s t i) (node_of x) (node_of y) h (get-nodes_of a.nodes.slots s.0 ∙ ap (option_map node_of) is_x) (get-nodes_of a.nodes.slots t.0 ∙ ap (option_map node_of) is_y)).0

    consumer : (s t : NodeId) (i : ℕ) → IsIn a.edges (argument_edge s t i) → IsInstantiationAt (get a.nodes t.0)
    consumer s t i h = let both = v.sound.ends (argument_edge s t i) h in by_stored s t i h (get a.nodes s.0) (get a.nodes t.0) refl refl (stored s both.0) (stored t both.1)

  module _ (id : NodeId) (removed : Node) (had : option_map node_of (get a.nodes id.0) ≡ Some (node_of removed)) (nodes : Slab Node) (edges : Edges) (next : nodes.vacant_key ≡ id.0) (t : AreTaken (GoesWith a.edges id) a.nodes a.edges nodes edges) (tied : AreTied nodes edges)
      (names exports : Names) (left : AreLeft removed.kind a.imports.entries names.entries) (lost : names_of exports.entries ≡ without (λ m. not (is_some (get nodes m.0))) (names_of a.exports.entries)) (places : Lost) (noted : AreNoted nodes places a.exports.entries) (after : Lost) (kept_marks : (q : ℕ) → is_again after q ≡ is_again places q) where
    gone : NodeId → Bool
    gone n = is_some (get a.nodes n.0) && not (is_some (get nodes n.0))

    abbrev Was : NodeId → Type 0
    Was n = (option_map node_of (get nodes n.0) ≡ option_map node_of (get a.nodes n.0)) ⊎ ((get nodes n.0 ≡ None) × GoesWith a.edges id n)

    goes_there : (n : NodeId) → GoesWith a.edges id n → IsSome (get a.nodes n.0)
    goes_there n itself = sym (is_some-node_of (get a.nodes n.0)) ∙ ap is_some had
    goes_there n (behind e from stands follows) = (tied_inside.ends e stands).1

    same_stays : (n : NodeId) → option_map node_of (get nodes n.0) ≡ option_map node_of (get a.nodes n.0) → gone n ≡ false
    unfolding gone
    same_stays n same = stays (is_some (get a.nodes n.0)) (is_some (get nodes n.0)) (sym (is_some-node_of (get a.nodes n.0)) ∙ ap is_some (sym same) ∙ is_some-node_of (get nodes n.0)) where
      stays : (x y : Bool) → x ≡ y → (x && not y) ≡ false
      stays true y h = ap not (sym h)
      stays false y h = refl

    goes_gone : (n : NodeId) → GoesWith a.edges id n → gone n ≡ true
    unfolding gone
    goes_gone n goes = ap (λ b. b && not (is_some (get nodes n.0))) (goes_there n goes) ∙ ap (λ o. not (is_some o)) (t.gone n goes)

    gone_goes : (n : NodeId) → gone n ≡ true → GoesWith a.edges id n
    gone_goes n h = split (t.others n) where
      split : Was n → GoesWith a.edges id n
      split (inl same) = absurd (clash (gone n) h (same_stays n same))
      split (inr both) = both.1

    exports_left : names_of exports.entries ≡ without gone (names_of a.exports.entries)
    unfolding gone
    exports_left = lost ∙ alike_without (λ m. not (is_some (get nodes m.0))) gone (names_of a.exports.entries)
        (λ i e h. ap (λ b. b && not (is_some (get nodes e.1.0))) (sym (stored e.1 (v.sound.exported i e.0 e.1 h)))) where
          stored : (n : NodeId) → IsSome (map.get (nodes_of a.nodes.slots) n.0) → IsSome (get a.nodes n.0)
          stored n h = sym (is_some-node_of (get a.nodes n.0)) ∙ ap is_some (sym (get-nodes_of a.nodes.slots n.0)) ∙ h

    abbrev now : Fields
    now = record a { nodes = nodes; edges = edges; imports = names; exports = exports; lost = after }

    without_gone : IsWithout gone (graph_of a) (graph_of now)
    without_gone = record {
      types = refl;
      nodes = nodes_left (GoesWith a.edges id) gone a.nodes a.edges nodes edges (λ n. (goes_gone n, gone_goes n)) t tied;
      edges = edges_left (GoesWith a.edges id) gone a.nodes a.edges nodes edges (λ n. (goes_gone n, gone_goes n)) t tied;
    }

    pub removes : Removes (graph_of a) id (graph_of now)
    removes = record {
      gone = gone;
      goes = λ n. (gone_goes n, goes_gone n);
      rest = without_gone;
      exports = exports_left;
      slots = refl;
      vacant = refl;
      next = next;
    }

    goes_behind : (instance n : NodeId) (i : ℕ) → IsIn a.edges (alias_edge instance n i) → gone instance ≡ true → gone n ≡ true
    goes_behind instance n i stands h = goes_gone n (behind (alias_edge instance n i) (gone_goes instance h) stands tt)

    kept : Left gone (names_of a.exports.entries) (names_of exports.entries)
    kept = subst (Left gone (names_of a.exports.entries)) (sym exports_left) (left_without gone (names_of a.exports.entries))

    none_left : (i : ℕ) (e : Name × NodeId) → slice_get (names_of exports.entries) i ≡ Some e → gone e.1 ≡ false
    none_left i e at = none_without gone (names_of a.exports.entries) i e (ap (λ es. slice_get es i) (sym exports_left) ∙ at)

    stays : (n : NodeId) → gone n ≡ false → node_at (graph_of now) n ≡ node_at (graph_of a) n
    stays = still_there (graph_of a) v.sound gone (nodes_of nodes.slots) nodes.vacant_key edges (names_of exports.entries) a.slots.items (vacant_of a.vacant) without_gone

    -- of what goes with the node only the node itself can be an import
    imported : (n : NodeId) (name : Name) → IsImportOf (graph_of a) name n → GoesWith a.edges id n → imports removed.kind name ≡ true
    imported n name is itself = is_imports removed.kind name (subst (λ o. IsSomeAnd o (λ x. x.kind ≡ graph.import name)) (get-nodes_of a.nodes.slots n.0 ∙ had) is)
    imported n name is (behind e from stands follows) = by_nodes (map.get (nodes_of a.nodes.slots) e.source.0) (map.get (nodes_of a.nodes.slots) e.target.0) refl refl (v.sound.ends e stands).0 is where
      no_import : (l : Label) (x y : GraphNode) → Follows l → Joins (graph_of a) l x y → y.kind ≡ graph.import name → ⊥
      no_import (label.Alias i) x y follows j k = let wrong : graph.alias ≡ graph.import name = sym j.0 ∙ k in cc
      no_import (label.Argument i) x y follows j k = follows
      no_import label.Dependency x y follows j k = let wrong : graph.definition ≡ graph.import name = sym j.1 ∙ k in cc

      by_nodes : (o p : Option GraphNode) → map.get (nodes_of a.nodes.slots) e.source.0 ≡ o → map.get (nodes_of a.nodes.slots) e.target.0 ≡ p → IsSome o → IsSomeAnd p (λ x. x.kind ≡ graph.import name) → imports removed.kind name ≡ true
      by_nodes None p at_o at_p h k = absurd (none_some {A = GraphNode} None refl h)
      by_nodes (Some x) None at_o at_p h k = absurd k
      by_nodes (Some x) (Some y) at_o at_p h k = absurd (no_import e.label x y follows (v.sound.joins e x y stands at_o at_p) k)

    removed_imports : (name : Name) → imports removed.kind name ≡ true → IsImportOf (graph_of a) name id
    removed_imports name h = subst (λ o. IsSomeAnd o (λ x. x.kind ≡ graph.import name)) (sym (get-nodes_of a.nodes.slots id.0 ∙ had)) (imports_is removed.kind name h)

    pub invariant_removed : Invariant now
    invariant_removed = record {
      sound = sound_without (graph_of a) v.sound gone (nodes_of nodes.slots) nodes.vacant_key edges (names_of exports.entries) a.slots.items (vacant_of a.vacant) without_gone kept none_left goes_behind
          (λ p parts at. at) (λ n node at is p parts owned registered. registered) v.sound.vacant v.sound.vacant_once;
      marked = tied.marked;
      edged = tied.edged;
      keyed = v.keyed;
      room = v.room;
      named = λ name n h. named name n h (gone n) refl;
      importing = λ name n at. importing name n (imports removed.kind name) refl (sym (left name) ∙ at);
      told = λ i name n at. ap (λ b. tells b (option_map node_of (get nodes n.0)) name) (kept_marks n.0) ∙ told_there places (kept.place i) name n (option_map node_of (get nodes n.0)) (noted (kept.place i) name n (kept.was i (name, n) at)) (exported_there i name n at);
    } where
      exported_there : (i : ℕ) (name : Name) (n : NodeId) → slice_get (names_of exports.entries) i ≡ Some (name, n) → IsSome (option_map node_of (get nodes n.0))
      exported_there i name n at = ap is_some (sym (get-nodes_of nodes.slots n.0) ∙ stays n (none_left i (name, n) at)) ∙ v.sound.exported (kept.place i) name n (kept.was i (name, n) at)

      named : (name : Name) (n : NodeId) → IsImportOf (graph_of now) name n → (b : Bool) → gone n ≡ b → find_name (names_of names.entries) name ≡ Some n
      named name n h true is = absurd (subst (λ o. IsSomeAnd o (λ x. x.kind ≡ graph.import name)) (without_gone.nodes n ∙ ap (λ b. cond b None (map.get (nodes_of a.nodes.slots) n.0)) is) h)
      named name n h false is = left name ∙ other (imports removed.kind name) refl where
        before : IsImportOf (graph_of a) name n
        before = subst (λ o. IsSomeAnd o (λ x. x.kind ≡ graph.import name)) (stays n is) h

        other : (b : Bool) → imports removed.kind name ≡ b → cond b None (find_name (names_of a.imports.entries) name) ≡ Some n
        other false _ = v.named name n before
        other true does =
            let same : n ≡ id = v.sound.one_import name n id before (removed_imports name does) in
            absurd (clash (gone n) (goes_gone n (subst (GoesWith a.edges id) (sym same) itself)) is)

      importing : (name : Name) (n : NodeId) (b : Bool) → imports removed.kind name ≡ b → cond b None (find_name (names_of a.imports.entries) name) ≡ Some n → IsImportOf (graph_of now) name n
      importing name n true does at = absurd (no_some at)
      importing name n false does_not at = still (gone n) refl where
        before : IsImportOf (graph_of a) name n
        before = v.importing name n at

        still : (b : Bool) → gone n ≡ b → IsImportOf (graph_of now) name n
        still true is = absurd (clash (imports removed.kind name) (imported n name before (gone_goes n is)) does_not)
        still false is = subst (λ o. IsSomeAnd o (λ x. x.kind ≡ graph.import name)) (sym (stays n is)) before

-- A graph is still one where a package was taken out with its nodes, and it is the graph without them.
use Rattle.std.proofs.Common.{◌≡◌, ℕ, ◌<◌, ◌≤◌, Bool, true, false, cond, not, length, filter, refl, ap, ◌∙◌, sym, subst, arith, Some, None, IsSome, String, Global, Vec}
use Rattle.std.specs.Prelude.{slice_get, IsSomeAnd, vec_len, vec_capacity}
use Rattle.std.specs.Option.{option_map}
use Rattle.std.proofs.lemmas.List.{length-reverse}
use Rattle.std.specs.HashMap.{HashMap}
use Rattle.std.specs.declared.hash.FoldHasher.{FoldHasher}
use Rattle.std.specs.declared.hash.BuildHasherDefault.{BuildHasherDefault}
use Rattle.slab.specs.Slab.{Slab, get}
use Rattle.wac_types_shapes.specs.primitives.Name.{Name}
use Rattle.wac_types_shapes.specs.keys.Key.{Key}
use Rattle.wac_edges.specs.declared.node.NodeId.{NodeId}
use Rattle.wac_edges.specs.Edge.{node_number}
use Rattle.wac_edges.specs.Order.{Edges}
use Rattle.wac_graph_model.specs.declared.nodes.node.Node.{Node}
use Rattle.wac_graph_model.specs.declared.nodes.packages.PackageId.{PackageId}
use Rattle.wac_graph_model.specs.declared.nodes.packages.Slot.{Slot}
use Rattle.wac_graph_model.specs.nodes.Graph as graph
use Rattle.wac_graph_model.specs.nodes.Graph.{node_at, package_at, IsImportOf}
use Rattle.wac_graph_model.specs.nodes.Nodes.{node_of, nodes_of, names_of}
use Rattle.wac_graph_model.proofs.lemmas.nodes.NodeLemmas.{get-nodes_of}
use Rattle.wac_graph_model.proofs.lemmas.nodes.TakenOut.{Left}
use Rattle.wac_graph_fields.specs.Removal.{IsWithout}
use Rattle.wac_graph_fields.specs.private.Removing.{AreTied, AreTaken}
use Rattle.wac_graph_fields.specs.private.Owned.{is_of_at}
use Rattle.wac_graph_fields.specs.Unregistering.{is_of, FreesSlot, Unregisters}
use Rattle.wac_graph_fields.specs.private.Slots.{AreKeyed, vacant_of}
use Rattle.wac_graph_fields.specs.private.Told.{tells}
use Rattle.wac_graph_fields.specs.private.Lost.{is_again}
use Rattle.wac_graph_fields.specs.declared.lost.Lost.{Lost}
use Rattle.wac_graph_fields.proofs.SlotLemmas.{vacant_fewer}
use Rattle.wac_graph_fields.proofs.WithoutLemmas.{nodes_left, edges_left}
use Rattle.wac_graph_fields.proofs.UnregisteringLemmas.{import_of_none, kept_exports, none_exports, sound_unregistered, length_freed}
use Rattle.wac_graph_fields.specs.private.Fields.{Fields, graph_of, Invariant}

abbrev Names : Type 0
Names = HashMap (String Global) NodeId (BuildHasherDefault FoldHasher)

module _ (a : Fields) (v : Invariant a) (id : PackageId) (held : IsSome (package_at (graph_of a) id)) where
  -- there is room to note the slot as vacant
  pub noted_room : vec_len a.vacant ≡ length a.vacant.items → vec_len a.vacant < vec_capacity a.vacant
  noted_room counted =
      let few = vacant_fewer a.slots.items (vacant_of a.vacant) id held v.sound.vacant v.sound.vacant_once in
      let count : length (vacant_of a.vacant) ≡ length a.vacant.items = length-reverse a.vacant.items in
      let room = v.room in omega (arith, few, count, room, counted)

  module _ (nodes : Slab Node) (edges : Edges) (lost : Lost) (exports : Names) (keys : HashMap Key PackageId (BuildHasherDefault FoldHasher)) (slots : Vec Slot Global) (vacant : Vec ℕ Global)
      (taken : AreTaken (λ n. is_of_at id a.nodes n.0 ≡ true) a.nodes a.edges nodes edges) (tied : AreTied nodes edges) (marks : (q : ℕ) → is_of_at id a.nodes q ≡ false → is_again lost q ≡ is_again a.lost q)
      (left : names_of exports.entries ≡ filter (λ e. not (is_of_at id a.nodes (e.1).0)) (names_of a.exports.entries))
      (freed : FreesSlot a.slots.items (vacant_of a.vacant) id slots.items (vacant_of vacant)) (keyed : AreKeyed slots.items keys.entries) (grown : vec_capacity a.vacant ≤ vec_capacity vacant) where
    abbrev now : Fields
    now = record a { nodes = nodes; edges = edges; exports = exports; package_map = keys; slots = slots; vacant = vacant; lost = lost }

    stored : (n : NodeId) → is_of id (node_at (graph_of a) n) ≡ is_of_at id a.nodes n.0
    stored n = ap (is_of id) (get-nodes_of a.nodes.slots n.0)

    without_owned : IsWithout (λ n. is_of id (node_at (graph_of a) n)) (graph_of a) (graph_of now)
    without_owned = record {
      types = refl;
      nodes = nodes_left (λ n. is_of_at id a.nodes n.0 ≡ true) (λ n. is_of id (node_at (graph_of a) n)) a.nodes a.edges nodes edges (λ n. (λ h. stored n ∙ h, λ h. sym (stored n) ∙ h)) taken tied;
      edges = edges_left (λ n. is_of_at id a.nodes n.0 ≡ true) (λ n. is_of id (node_at (graph_of a) n)) a.nodes a.edges nodes edges (λ n. (λ h. stored n ∙ h, λ h. sym (stored n) ∙ h)) taken tied;
    }

    exports_stay : names_of exports.entries ≡ filter (λ e. not (is_of id (node_at (graph_of a) e.1))) (names_of a.exports.entries)
    exports_stay = left ∙ (λ j. filter (λ e. not (sym (stored e.1) j)) (names_of a.exports.entries))

    pub unregisters : ((q : ℕ) → is_of_at id a.nodes q ≡ true → (is_of_at id a.nodes nodes.vacant_key ≡ true) × (q ≤ nodes.vacant_key)) → (((q : ℕ) → is_of_at id a.nodes q ≡ true → ⊥) → nodes.vacant_key ≡ a.nodes.vacant_key) → Unregisters (graph_of a) id (graph_of now)
    unregisters highest same = record {
      rest = without_owned;
      exports = exports_stay;
      slot = freed;
      highest = λ n is. let h = highest n.0 (sym (stored n) ∙ is) in (stored (node_number nodes.vacant_key) ∙ h.0, h.1);
      same = λ none. same (λ q is. none (node_number q) (stored (node_number q) ∙ is));
    }

    still : (n : NodeId) → is_of id (node_at (graph_of a) n) ≡ false → node_at (graph_of now) n ≡ node_at (graph_of a) n
    still n other = without_owned.nodes n ∙ ap (λ b. cond b None (node_at (graph_of a) n)) other

    pub invariant_unregistered : Invariant now
    invariant_unregistered = record {
      sound = sound_unregistered (graph_of a) v.sound id held (nodes_of nodes.slots) nodes.vacant_key edges (names_of exports.entries) slots.items (vacant_of vacant) without_owned exports_stay freed;
      marked = tied.marked;
      edged = tied.edged;
      keyed = keyed;
      room = let count = length_freed a.slots.items (vacant_of a.vacant) id slots.items (vacant_of vacant) freed in let room = v.room in omega (arith, count, room, grown);
      named = λ name n h. v.named name n (was name n h (is_of id (node_at (graph_of a) n)) refl);
      importing = λ name n at. subst (λ o. IsSomeAnd o (λ x. x.kind ≡ graph.import name)) (sym (still n (import_of_none (graph_of a) id name n (v.importing name n at)))) (v.importing name n at);
      told = told;
    } where
      was : (name : Name) (n : NodeId) → IsImportOf (graph_of now) name n → (b : Bool) → is_of id (node_at (graph_of a) n) ≡ b → IsImportOf (graph_of a) name n
      was name n h true is = absurd (subst (λ o. IsSomeAnd o (λ x. x.kind ≡ graph.import name)) (without_owned.nodes n ∙ ap (λ b. cond b None (node_at (graph_of a) n)) is) h)
      was name n h false is = subst (λ o. IsSomeAnd o (λ x. x.kind ≡ graph.import name)) (still n is) h

      kept : Left (λ n. is_of id (node_at (graph_of a) n)) (names_of a.exports.entries) (names_of exports.entries)
      kept = kept_exports (graph_of a) v.sound id held (nodes_of nodes.slots) nodes.vacant_key edges (names_of exports.entries) slots.items (vacant_of vacant) without_owned exports_stay freed

      told : (i : ℕ) (name : Name) (n : NodeId) → slice_get (names_of exports.entries) i ≡ Some (name, n) → tells (is_again lost n.0) (option_map node_of (get nodes n.0)) name ≡ true
      told i name n at =
          let other : is_of id (node_at (graph_of a) n) ≡ false = none_exports (graph_of a) v.sound id held (nodes_of nodes.slots) nodes.vacant_key edges (names_of exports.entries) slots.items (vacant_of vacant) without_owned exports_stay freed i (name, n) at in
          let same : option_map node_of (get nodes n.0) ≡ option_map node_of (get a.nodes n.0) = sym (get-nodes_of nodes.slots n.0) ∙ still n other ∙ get-nodes_of a.nodes.slots n.0 in
          (λ j. tells (marks n.0 (sym (stored n) ∙ other) j) (same j) name) ∙ v.told (kept.place i) name n (kept.was i (name, n) at)

-- What is always true of a graph's fields stays true after each call.
use Rattle.std.proofs.Common.{◌≡◌, ◌≢◌, ℕ, Bool, true, false, ◌||◌, ◌&&◌, List, [], ◌∷◌, ◌++◌, length, reverse, map as map_list, refl, ap, ◌∙◌, sym, subst, ◌==◌, Option, Some, None, IsSome, is_some, ◌⊎◌, inl, inr, get_or, Ok, String, Global, string_bytes, Vec, ◌<◌, ◌≤◌, arith}
use Rattle.std.specs.Prelude.{slice_get, IsSomeAnd, vec_capacity}
use Rattle.std.specs.Option.{option_map}
use Rattle.std.specs.Map.{lookup}
use Rattle.std.specs.FinMap as map
use Rattle.std.specs.FinSet as set
use Rattle.std.specs.HashMap.{HashMap}
use Rattle.std.specs.declared.hash.FoldHasher.{FoldHasher}
use Rattle.std.specs.declared.hash.BuildHasherDefault.{BuildHasherDefault}
use Rattle.slab.specs.Slab.{Slab, get, Updates}
use Rattle.wac_types_shapes.specs.primitives.Name.{Name, find_name}
use Rattle.wac_types_collection.specs.collection.Collection.{Collection, holds_type, IsWellFormed}
use Rattle.wac_types_shapes.specs.shapes.Kinds.{kind_type}
use Rattle.wac_types_collection.specs.collection.Package.{PackageParts, HoldsPackage}
use Rattle.wac_types_shapes.specs.keys.Key.{Key, same_key}
use Rattle.wac_types_shapes.specs.declared.shapes.component.ItemKind.{ItemKind}
use Rattle.wac_types_shapes.specs.declared.shapes.component.«Type».{«Type» as AnyType}
use Rattle.wac_edges.specs.declared.edges.Edge.{Edge}
use Rattle.wac_edges.specs.declared.edges.Label.TheVariants as label
use Rattle.wac_graph_model.specs.declared.nodes.node.Node.{Node}
use Rattle.wac_edges.specs.declared.node.NodeId.{NodeId}
use Rattle.wac_graph_model.specs.declared.nodes.packages.PackageId.{PackageId}
use Rattle.wac_graph_model.specs.declared.nodes.packages.Slot.{Slot}
use Rattle.wac_edges.specs.Edge.{edge_cmp, alias_edge, argument_edge}
use Rattle.wac_edges.specs.Edge.{node_number}
use Rattle.wac_graph_model.specs.nodes.Graph as graph
use Rattle.wac_graph_model.specs.nodes.Graph.{GraphNode, node_at, package_at, package_in, exports_of, IsAliasOf}
use Rattle.wac_graph_fields.specs.private.Arguments.{CanBeGiven}
use Rattle.wac_graph_model.specs.nodes.Sound.{IsSound}
use Rattle.wac_graph_model.specs.nodes.Nodes.{node_of, nodes_of, names_of, satisfied, satisfied_at}
use Rattle.wac_graph_fields.specs.private.Told.{tells}
use Rattle.wac_graph_fields.specs.private.Lost.{is_again, AreTold}
use Rattle.wac_graph_fields.specs.declared.lost.Lost.{Lost}
use Rattle.wac_graph_fields.proofs.ToldLemmas.{tells_there, keeps_name, tells_more, tells_kept, listed_before}
use Rattle.wac_graph_fields.specs.private.Slots.{key_of, AreKeyed, vacant_of}
use Rattle.wac_graph_fields.proofs.SlotLemmas.{put_takes, sound_takes, room_takes, free_key, keyed_put}
use Rattle.wac_graph_fields.specs.private.Fields.{Fields, Names, graph_of, Invariant}
use Rattle.wac_graph_model.specs.nodes.Steps.{instance_node, import_node, alias_node, TakesSlot, Defines}
use Rattle.wac_graph_model.specs.nodes.Definitions.{definition_node, IsDependency, reached, reaching}
use Rattle.wac_graph_model.proofs.lemmas.nodes.DefinitionLemmas.{sound_defines}
use Rattle.wac_graph_model.proofs.lemmas.nodes.Added.{by_eq, insert_same, insert_other, ImportIn, import_before, import_after, added_edge, kept_edge, new_edge}
use Rattle.wac_graph_model.proofs.lemmas.nodes.JoinLemmas.{Extends}
use Rattle.wac_graph_model.proofs.lemmas.nodes.SoundLemmas.{sound_import, sound_types, sound_node, sound_alias, sound_argument, sound_export}
use Rattle.indexmap.specs.IndexMap.{insert_entry}
use Rattle.wac_edges.proofs.WrittenOrder.{eqb_same}
use Rattle.std.proofs.lemmas.Bool.{eqb-true}
use Rattle.std.proofs.lemmas.List.{reverse-reverse}
use Rattle.wac_graph_model.proofs.lemmas.nodes.NodeLemmas.{get-nodes_of, nodes_of-insert, nodes_of-same, is_some-node_of, find_kept, find_new, find_either}

abbrev number : ℕ → NodeId
number k = record { 0 = k }

clash : (b : Bool) → b ≡ true → b ≡ false → ⊥
clash true _ h = cc
clash false h _ = cc

no_package : (slots : List Slot) (id : PackageId) (p : PackageParts) → slots ≡ [] → package_in (slice_get slots id.slot) id ≡ Some p → ⊥
no_package slots id p none at = let e : package_in (slice_get [] id.slot) id ≡ Some p = ap (λ (xs : List Slot). package_in (slice_get xs id.slot) id) (sym none) ∙ at in wrong e where
  wrong : package_in (slice_get [] id.slot) id ≡ Some p → ⊥
  wrong e = cc

no_entry : {A : Type 0} (xs : List A) (i : ℕ) (x : A) → xs ≡ [] → slice_get xs i ≡ Some x → ⊥
no_entry [] i x none at = cc
no_entry (y ∷ xs) i x none at = cc

-- nothing is in the empty graph
pub invariant_empty : (a : Fields) → a.nodes.slots ≡ [] → a.edges ≡ set.empty → a.imports.entries ≡ [] → a.exports.entries ≡ [] → a.package_map.entries ≡ [] → a.slots.items ≡ [] → a.vacant.items ≡ [] → Invariant a
invariant_empty a nodes edges imports exports keys slots noted = record {
  sound = record {
    ends = λ e stands. absurd (no_edge e stands);
    joins = λ e x y stands _ _. absurd (no_edge e stands);
    exported = λ i name n at. absurd (no_export i name n at);
    held = λ n node there. absurd (no_node n node there);
    instances = λ n node there _. absurd (no_node n node there);
    aliases = λ n node there _. absurd (no_node n node there);
    one_argument = λ n i x y p _. absurd (no_edge (argument_edge x n i) p);
    one_alias = λ x i n m p _. absurd (no_edge (alias_edge x n i) p);
    one_source = λ n x y i j p q. absurd (no_edge (alias_edge x n i) p);
    one_import = λ name n x p _. absurd (no_import name n p);
    one_definition = λ kind n x p _. absurd (no_definition kind n p);
    one_export = λ name i j n m p _. absurd (no_export i name n p);
    one_package = λ key id other (p, at, _) _. absurd (no_package a.slots.items id p slots at);
    first_names = λ n node name there _. absurd (no_node n node there);
    definitions = λ n node there _. absurd (no_node n node there);
    vacant = λ i k at. absurd (no_number i k at);
    vacant_once = λ i j k at _. absurd (no_number i k at);
    packages = λ id p at. absurd (no_package a.slots.items id p slots at);
  };
  marked = λ source target position stands. absurd (no_edge (argument_edge source target position) stands);
  edged = λ target position is. absurd (clash (satisfied_at (get a.nodes target.0) position) is (ap (λ (xs : List (Option Node)). satisfied_at (get_or xs target.0 None) position) nodes));
  keyed = record {
    keyed = λ id p at. absurd (no_package a.slots.items id p slots at);
    found = λ k id at. absurd (let e : None ≡ Some id = ap (lookup (same_key k)) (sym keys) ∙ at in nothing id e);
  };
  room = let none : length a.slots.items ≡ 0 = ap length slots in omega (arith, none);
  named = λ name n h. absurd (no_import name n h);
  importing = λ name n at. absurd (let e : None ≡ Some n = ap (λ es. find_name (names_of es) name) (sym imports) ∙ at in no_name n e);
  told = λ i name n at. absurd (no_export i name n at);
} where
  no_edge : (e : Edge) → set.contains a.edges e ≡ true → ⊥
  no_edge e stands = clash (set.contains a.edges e) stands (ap (λ s. set.contains s e) edges ∙ set.contains-empty edge_cmp e)

  no_node : (n : NodeId) (node : GraphNode) → map.get (nodes_of a.nodes.slots) n.0 ≡ Some node → ⊥
  no_node n node at = wrong (sym (ap (λ (xs : List (Option Node)). option_map node_of (get_or xs n.0 None)) nodes) ∙ sym (get-nodes_of a.nodes.slots n.0) ∙ at) where
    wrong : None ≡ Some node → ⊥
    wrong h = cc

  vacant : (n : NodeId) → map.get (nodes_of a.nodes.slots) n.0 ≡ None
  vacant n = get-nodes_of a.nodes.slots n.0 ∙ ap (λ (xs : List (Option Node)). option_map node_of (get_or xs n.0 None)) nodes

  no_export : (i : ℕ) (name : Name) (n : NodeId) → slice_get {X = Name × NodeId} (map_list (λ e. (string_bytes e.0, e.1)) a.exports.entries) i ≡ Some (name, n) → ⊥
  no_export i name n at = no_entry (map_list (λ e. (string_bytes e.0, e.1)) a.exports.entries) i (name, n) (ap (map_list (λ e. (string_bytes e.0, e.1))) exports) at

  no_definition : (kind : ItemKind) (n : NodeId) → IsSomeAnd (map.get (nodes_of a.nodes.slots) n.0) (λ x. (x.kind ≡ graph.definition) × (x.item_kind ≡ kind)) → ⊥
  no_definition kind n h = subst (λ o. IsSomeAnd o (λ x. (x.kind ≡ graph.definition) × (x.item_kind ≡ kind))) (vacant n) h

  no_import : (name : Name) (n : NodeId) → ImportIn (nodes_of a.nodes.slots) name n → ⊥
  no_import name n h = subst (λ o. IsSomeAnd o (λ x. x.kind ≡ graph.import name)) (vacant n) h

  no_name : (n : NodeId) → None ≡ Some n → ⊥
  no_name n h = cc

  no_number : (i k : ℕ) → slice_get (vacant_of a.vacant) i ≡ Some k → ⊥
  no_number i k at = no_entry (vacant_of a.vacant) i k (ap reverse noted) at

  nothing : (id : PackageId) → None ≡ Some id → ⊥
  nothing id h = cc

abbrev entry : Name → NodeId → Name × NodeId
entry name n = (name, n)

module _ (a : Fields) (v : Invariant a) where
  -- types more
  pub invariant_types : (c : Collection) → IsWellFormed a.types → Extends a.types c → Invariant (record a { types = c })
  invariant_types c well more = record { sound = sound_types (graph_of a) v.sound c well more; marked = v.marked; edged = v.edged; keyed = v.keyed; room = v.room; named = v.named; importing = v.importing; told = v.told }

  -- exports that were written again as they were
  pub invariant_exports : (names : HashMap (String Global) NodeId (BuildHasherDefault FoldHasher)) → names.entries ≡ a.exports.entries → Invariant (record a { exports = names })
  invariant_exports names same = record {
    sound = subst (λ es. IsSound (record (graph_of a) { exports = es })) (ap names_of (sym same)) v.sound;
    marked = v.marked;
    edged = v.edged;
    keyed = v.keyed;
    room = v.room;
    named = v.named;
    importing = v.importing;
    told = λ i name n at. v.told i name n (ap (λ es. slice_get (names_of es) i) (sym same) ∙ at);
  }

  -- what a removal knows of exports
  pub invariant_lost : (lost : Lost) → AreTold lost a.nodes a.exports.entries → Invariant (record a { lost = lost })
  invariant_lost lost told = record { sound = v.sound; marked = v.marked; edged = v.edged; keyed = v.keyed; room = v.room; named = v.named; importing = v.importing; told = told }

  -- where no fewer nodes may have further names
  pub invariant_more : (lost : Lost) → ((q : ℕ) → is_again a.lost q ≡ true → is_again lost q ≡ true) → Invariant (record a { lost = lost })
  invariant_more lost more = invariant_lost lost (λ i name n at. tells_more (is_again a.lost n.0) (is_again lost n.0) (option_map node_of (get a.nodes n.0)) name (more n.0) (v.told i name n at))

  still_told : (nodes : Slab Node) → ((q : ℕ) → option_map node_of (get nodes q) ≡ option_map node_of (get a.nodes q)) → AreTold a.lost nodes a.exports.entries
  still_told nodes same i name n at = ap (λ o. tells (is_again a.lost n.0) o name) (same n.0) ∙ v.told i name n at

  -- the same nodes, positions and edges
  pub invariant_back : (nodes : Slab Node) (edges : set.FinSet edge_cmp) → nodes.vacant_key ≡ a.nodes.vacant_key → ((q : ℕ) → option_map node_of (get nodes q) ≡ option_map node_of (get a.nodes q)) → ((q i : ℕ) → satisfied_at (get nodes q) i ≡ satisfied_at (get a.nodes q) i) → edges ≡ a.edges
      → Invariant (record a { nodes = nodes; edges = edges })
  invariant_back nodes edges next same marks is =
      let shown : nodes_of nodes.slots ≡ nodes_of a.nodes.slots = nodes_of-same a.nodes.slots nodes.slots same in
      record {
        sound = subst IsSound (λ i. record (graph_of a) { nodes = sym shown i; next = sym next i; edges = sym is i }) v.sound;
        marked = λ s t i stands. marks t.0 i ∙ v.marked s t i (ap (λ es. set.contains es (argument_edge s t i)) (sym is) ∙ stands);
        edged = λ t i h. let (s, stands) = v.edged t i (sym (marks t.0 i) ∙ h) in (s, ap (λ es. set.contains es (argument_edge s t i)) is ∙ stands);
        keyed = v.keyed;
        room = v.room;
        named = λ name n h. v.named name n (subst (λ ns. ImportIn ns name n) shown h);
        importing = λ name n at. subst (λ ns. ImportIn ns name n) (sym shown) (v.importing name n at);
        told = still_told nodes same;
      }

  -- a node is where an edge leads
  target_there : (e : Edge) → set.contains a.edges e ≡ true → IsSome (get a.nodes e.target.0)
  target_there e stands = sym (is_some-node_of (get a.nodes e.target.0)) ∙ ap is_some (sym (get-nodes_of a.nodes.slots e.target.0)) ∙ (v.sound.ends e stands).1

  vacant_or_there : (o : Option Node) → o ≡ None → IsSome o → ⊥
  vacant_or_there None is h = cc
  vacant_or_there (Some n) is h = cc

  -- a node more, without arguments
  module _ (nodes : Slab Node) (n : ℕ) (node : Node) (vacant : get a.nodes n ≡ None) (u : Updates a.nodes nodes n (Some node)) (bare : (i : ℕ) → satisfied node.kind i ≡ false) where
    other_node : (q : ℕ) → IsSome (get a.nodes q) → q ≢ n
    other_node q h same = vacant_or_there (get a.nodes q) (ap (λ k. get a.nodes k) same ∙ vacant) h

    still_marked : (source target : NodeId) (position : ℕ) → set.contains a.edges (argument_edge source target position) ≡ true → satisfied_at (get nodes target.0) position ≡ true
    still_marked source target position stands =
        ap (λ o. satisfied_at o position) (u.others target.0 (other_node target.0 (target_there (argument_edge source target position) stands))) ∙ v.marked source target position stands

    still_edged : (target : NodeId) (position : ℕ) → satisfied_at (get nodes target.0) position ≡ true → (source : NodeId) × (set.contains a.edges (argument_edge source target position) ≡ true)
    still_edged target position is = by_eq target.0 n
        (λ same. absurd (clash (satisfied_at (get nodes target.0) position) is (ap (λ k. satisfied_at (get nodes k) position) same ∙ ap (λ o. satisfied_at o position) u.changed ∙ bare position)))
        (λ differ. v.edged target position (ap (λ o. satisfied_at o position) (sym (u.others target.0 differ)) ∙ is))

    told_before : AreTold a.lost nodes a.exports.entries
    told_before i name m at =
        let there : IsSome (get a.nodes m.0) = sym (is_some-node_of (get a.nodes m.0)) ∙ tells_there (is_again a.lost m.0) (option_map node_of (get a.nodes m.0)) name (v.told i name m at) in
        ap (λ o. tells (is_again a.lost m.0) (option_map node_of o) name) (u.others m.0 (other_node m.0 there)) ∙ v.told i name m at

    pub vacant_in_graph : map.get (nodes_of a.nodes.slots) n ≡ None
    vacant_in_graph = get-nodes_of a.nodes.slots n ∙ ap (option_map node_of) vacant

    -- a node that is no import imports nothing
    still_named : (now : GraphNode) → nodes_of nodes.slots ≡ map.insert (nodes_of a.nodes.slots) n now → ((name : Name) → now.kind ≡ graph.import name → ⊥) → (name : Name) (m : NodeId) → ImportIn (nodes_of nodes.slots) name m → find_name (names_of a.imports.entries) name ≡ Some m
    still_named now shown other name m h = v.named name m (import_before (nodes_of a.nodes.slots) (record { 0 = n }) now name m (λ is. absurd (other name is)) (subst (λ ns. ImportIn ns name m) shown h))

    was_no_import : (name : Name) → ImportIn (nodes_of a.nodes.slots) name (record { 0 = n }) → ⊥
    was_no_import name h = subst (λ o. IsSomeAnd o (λ x. x.kind ≡ graph.import name)) vacant_in_graph h

    still_importing : (now : GraphNode) → nodes_of nodes.slots ≡ map.insert (nodes_of a.nodes.slots) n now → (name : Name) (m : NodeId) → find_name (names_of a.imports.entries) name ≡ Some m → ImportIn (nodes_of nodes.slots) name m
    still_importing now shown name m at = subst (λ ns. ImportIn ns name m) (sym shown) (import_after (nodes_of a.nodes.slots) (record { 0 = n }) now name m (λ was. absurd (was_no_import name was)) (v.importing name m at))

    -- a new import, under a name that was not there
    pub invariant_import : (name : Name) (kind : ItemKind) (names : HashMap (String Global) NodeId (BuildHasherDefault FoldHasher)) → node_of node ≡ import_node name kind → holds_type a.types (kind_type kind) ≡ true → find_name (names_of a.imports.entries) name ≡ None
        → names_of names.entries ≡ names_of a.imports.entries ++ (name, record { 0 = n }) ∷ [] → Invariant (record a { nodes = nodes; imports = names })
    invariant_import name kind names shape held absent listed =
        let more = sound_import (graph_of a) v.sound (record { 0 = n }) (import_node name kind) nodes.vacant_key vacant_in_graph held refl name refl free in
        let shown : nodes_of nodes.slots ≡ map.insert (nodes_of a.nodes.slots) n (import_node name kind) = nodes_of-insert a.nodes nodes n node u ∙ ap (map.insert (nodes_of a.nodes.slots) n) shape in
        record {
          sound = subst (λ ns. IsSound (record (graph_of a) { nodes = ns; next = nodes.vacant_key })) (sym shown) more;
          marked = still_marked;
          edged = still_edged;
          keyed = v.keyed;
          room = v.room;
          named = λ other m h. ap (λ es. find_name es other) listed ∙ named other m (subst (λ ns. ImportIn ns other m) shown h);
          importing = λ other m at. subst (λ ns. ImportIn ns other m) (sym shown) (importing other m (find_either (names_of a.imports.entries) name other (record { 0 = n }) m (ap (λ es. find_name es other) (sym listed) ∙ at)));
          told = told_before;
        } where
          some_none : (o : Option NodeId) (x : NodeId) → o ≡ None → o ≡ Some x → ⊥
          some_none o x p q = cc

          free : (m : NodeId) → ImportIn (nodes_of a.nodes.slots) name m → ⊥
          free m h = some_none (find_name (names_of a.imports.entries) name) m absent (v.named name m h)

          same_import : (other : Name) → graph.import name ≡ graph.import other → name ≡ other
          same_import other e = cc

          named : (other : Name) (m : NodeId) → ImportIn (map.insert (nodes_of a.nodes.slots) n (import_node name kind)) other m → find_name (names_of a.imports.entries ++ (name, record { 0 = n }) ∷ []) other ≡ Some m
          named other m h = by_eq m.0 n
              (λ same.
              let is : name ≡ other = same_import other (subst (λ o. IsSomeAnd o (λ x. x.kind ≡ graph.import other)) (ap (map.get (map.insert (nodes_of a.nodes.slots) n (import_node name kind))) same ∙ insert_same (nodes_of a.nodes.slots) n (import_node name kind)) h) in
              ap (λ k. find_name (names_of a.imports.entries ++ (name, record { 0 = n }) ∷ []) k) (sym is) ∙ find_new (names_of a.imports.entries) name (record { 0 = n }) absent ∙ ap (λ k. let x : NodeId = record { 0 = k } in Some x) (sym same))
              (λ differ. find_kept (names_of a.imports.entries) (name, record { 0 = n }) other m
              (v.named other m (subst (λ o. IsSomeAnd o (λ x. x.kind ≡ graph.import other)) (insert_other (nodes_of a.nodes.slots) n m.0 (import_node name kind) differ) h)))

          importing : (other : Name) (m : NodeId) → (find_name (names_of a.imports.entries) other ≡ Some m) ⊎ ((other ≡ name) × (number n ≡ m)) → ImportIn (map.insert (nodes_of a.nodes.slots) n (import_node name kind)) other m
          importing other m (inl was) = import_after (nodes_of a.nodes.slots) (record { 0 = n }) (import_node name kind) other m (λ h. absurd (was_no_import other h)) (v.importing other m was)
          importing other m (inr (is, here)) = subst (ImportIn (map.insert (nodes_of a.nodes.slots) n (import_node name kind)) other) here
              (subst (λ o. IsSomeAnd o (λ x. x.kind ≡ graph.import other)) (sym (insert_same (nodes_of a.nodes.slots) n (import_node name kind))) (ap graph.import (sym is)))

    pub invariant_instance : (id : PackageId) (p : PackageParts) → node_of node ≡ instance_node id p → package_at (graph_of a) id ≡ Some p → Invariant (record a { nodes = nodes })
    invariant_instance id p shape registered =
        let holds = v.sound.packages id p registered in
        let more = sound_node (graph_of a) v.sound (record { 0 = n }) (instance_node id p) nodes.vacant_key vacant_in_graph holds.1 refl refl
        (record { id = id; parts = p; owned = refl; registered = registered; typed = refl }) in
        let shown : nodes_of nodes.slots ≡ map.insert (nodes_of a.nodes.slots) n (instance_node id p) = nodes_of-insert a.nodes nodes n node u ∙ ap (map.insert (nodes_of a.nodes.slots) n) shape in
        record {
          sound = subst (λ ns. IsSound (record (graph_of a) { nodes = ns; next = nodes.vacant_key })) (sym shown) more;
          marked = still_marked;
          edged = still_edged;
          keyed = v.keyed;
          room = v.room;
          named = still_named (instance_node id p) shown (λ name wrong. cc);
          importing = still_importing (instance_node id p) shown;
          told = told_before;
        }

    -- a new definition, with the edges that it brings, and its export
    pub invariant_definition : (edges : set.FinSet edge_cmp) (names : Names) (lost : Lost) (name : Name) (t : AnyType) → node_of node ≡ definition_node name t → holds_type a.types t ≡ true → ((q : ℕ) → is_again a.lost q ≡ true → is_again lost q ≡ true)
        → Defines (graph_of a) name t (Ok (record { 0 = n })) (graph_of (record a { nodes = nodes; edges = edges; exports = names; lost = lost })) → Invariant (record a { nodes = nodes; edges = edges; exports = names; lost = lost })
    invariant_definition edges names lost name t shape held more step =
        let with = step.6 in
        let is = step.7 in
        let shown : nodes_of nodes.slots ≡ map.insert (nodes_of a.nodes.slots) n (definition_node name t) = ap (λ (g : graph.Graph). g.nodes) is in
        record {
          sound = sound_defines (graph_of a) (graph_of (record a { nodes = nodes; edges = edges; exports = names; lost = lost })) v.sound name t (record { 0 = n }) held step;
          marked = λ s u i stands. still_marked s u i (was_argument s u i ((with (argument_edge s u i)).0 stands));
          edged = λ u i h. let (s, stands) = still_edged u i h in (s, (with (argument_edge s u i)).1 (inr stands));
          keyed = v.keyed;
          room = v.room;
          named = still_named (definition_node name t) shown (λ other wrong. cc);
          importing = still_importing (definition_node name t) shown;
          told = λ i other m at. told i other m (listed_before (names_of a.exports.entries) (name, number n) i (other, m) (ap (λ es. slice_get es i) (sym (ap (λ (g : graph.Graph). g.exports) is)) ∙ at));
        } where
          no_dependency : {i : ℕ} → label.Argument i ≡ label.Dependency → ⊥
          no_dependency h = cc

          was_argument : (s u : NodeId) (i : ℕ) → IsDependency (graph_of a) t (record { 0 = n }) (argument_edge s u i) ⊎ (set.contains a.edges (argument_edge s u i) ≡ true) → set.contains a.edges (argument_edge s u i) ≡ true
          was_argument s u i (inl (reached m k _ _ _ is)) = absurd (no_dependency (ap (λ (e : Edge). e.label) is))
          was_argument s u i (inl (reaching m k _ _ _ is)) = absurd (no_dependency (ap (λ (e : Edge). e.label) is))
          was_argument s u i (inr was) = was

          told : (i : ℕ) (other : Name) (m : NodeId) → (slice_get (names_of a.exports.entries) i ≡ Some (other, m)) ⊎ (entry name (number n) ≡ entry other m) → tells (is_again lost m.0) (option_map node_of (get nodes m.0)) other ≡ true
          told i other m (inl was) = tells_more (is_again a.lost m.0) (is_again lost m.0) (option_map node_of (get nodes m.0)) other (more m.0) (told_before i other m was)
          told i other m (inr new) =
              ap (λ (e : Name × NodeId). tells (is_again lost e.1.0) (option_map node_of (get nodes e.1.0)) e.0) (sym new) ∙ ap (λ o. tells (is_again lost n) (option_map node_of o) name) u.changed
              ∙ keeps_name (is_again lost n) (node_of node) name (ap (λ (x : GraphNode). x.export_name) shape)

    pub invariant_alias : (edges : set.FinSet edge_cmp) (instance : NodeId) (source : GraphNode) (position : ℕ) (name : Name) (kind : ItemKind) → node_of node ≡ alias_node source kind
        → node_at (graph_of a) instance ≡ Some source → slice_get (exports_of (graph_of a) source) position ≡ Some (name, kind) → holds_type a.types (kind_type kind) ≡ true → ((other : NodeId) → IsAliasOf (graph_of a) instance position other → ⊥) → edges ≡ set.insert a.edges (alias_edge instance (node_number n) position)
        → Invariant (record a { nodes = nodes; edges = edges })
    invariant_alias edges instance source position name kind shape there exported held free added =
        let more = sound_alias (graph_of a) v.sound (record { 0 = n }) (alias_node source kind) nodes.vacant_key vacant_in_graph held refl instance source position name refl refl there exported free in
        let shown : nodes_of nodes.slots ≡ map.insert (nodes_of a.nodes.slots) n (alias_node source kind) = nodes_of-insert a.nodes nodes n node u ∙ ap (map.insert (nodes_of a.nodes.slots) n) shape in
        record {
          sound = subst (λ ns. IsSound (record (graph_of a) { nodes = ns; next = nodes.vacant_key; edges = edges })) (sym shown)
              (subst (λ es. IsSound (record (graph_of a) { nodes = map.insert (nodes_of a.nodes.slots) n (alias_node source kind); next = nodes.vacant_key; edges = es })) (sym added) more);
          marked = λ s t i stands. still_marked s t i (old_argument s t i (added_edge a.edges (alias_edge instance (node_number n) position) (argument_edge s t i) (ap (λ es. set.contains es (argument_edge s t i)) (sym added) ∙ stands)));
          edged = λ t i is. let (s, stands) = still_edged t i is in (s, ap (λ es. set.contains es (argument_edge s t i)) added ∙ kept_edge a.edges (alias_edge instance (node_number n) position) (argument_edge s t i) stands);
          keyed = v.keyed;
          room = v.room;
          named = still_named (alias_node source kind) shown (λ name wrong. cc);
          importing = still_importing (alias_node source kind) shown;
          told = told_before;
        } where
          old_argument : (s t : NodeId) (i : ℕ) → (argument_edge s t i ≡ alias_edge instance (node_number n) position) ⊎ (set.contains a.edges (argument_edge s t i) ≡ true) → set.contains a.edges (argument_edge s t i) ≡ true
          old_argument s t i (inl wrong) = absurd (let labels : label.Argument i ≡ label.Alias position = ap (λ (e : Edge). e.label) wrong in cc)
          old_argument s t i (inr was) = was

  -- the same nodes but for the satisfied positions, of which one is more, with its edge
  pub invariant_argument : (nodes : Slab Node) (edges : set.FinSet edge_cmp) (source target : NodeId) (position : ℕ) → nodes.vacant_key ≡ a.nodes.vacant_key
      → ((q : ℕ) → option_map node_of (get nodes q) ≡ option_map node_of (get a.nodes q)) → ((q i : ℕ) → satisfied_at (get nodes q) i ≡ (satisfied_at (get a.nodes q) i || (q == target.0 && i == position)))
      → CanBeGiven (graph_of a) target position source → edges ≡ set.insert a.edges (argument_edge source target position)
      → Invariant (record a { nodes = nodes; edges = edges })
  invariant_argument nodes edges source target position next same satisfied_now can added =
      let shown : nodes_of nodes.slots ≡ nodes_of a.nodes.slots = nodes_of-same a.nodes.slots nodes.slots same in
      let more = sound_argument (graph_of a) v.sound source target position can.given can.consumer can.there can.here can.joins can.unset in
      record {
        sound = subst (λ k. IsSound (record (graph_of a) { nodes = nodes_of nodes.slots; next = k; edges = edges })) (sym next)
            (subst (λ ns. IsSound (record (graph_of a) { nodes = ns; edges = edges })) (sym shown)
            (subst (λ es. IsSound (record (graph_of a) { edges = es })) (sym added) more));
        marked = λ s t i stands. satisfied_now t.0 i ∙ marked s t i (added_edge a.edges (argument_edge source target position) (argument_edge s t i) (ap (λ es. set.contains es (argument_edge s t i)) (sym added) ∙ stands));
        edged = λ t i is. edged t i (satisfied_at (get a.nodes t.0) i) refl (sym (satisfied_now t.0 i) ∙ is);
        keyed = v.keyed;
        room = v.room;
        named = λ name n h. v.named name n (subst (λ ns. ImportIn ns name n) shown h);
        importing = λ name n at. subst (λ ns. ImportIn ns name n) (sym shown) (v.importing name n at);
        told = still_told nodes same;
      } where
        or_yes : (b : Bool) → (b || true) ≡ true
        or_yes true = refl
        or_yes false = refl

        marked : (s t : NodeId) (i : ℕ) → (argument_edge s t i ≡ argument_edge source target position) ⊎ (set.contains a.edges (argument_edge s t i) ≡ true) → (satisfied_at (get a.nodes t.0) i || (t.0 == target.0 && i == position)) ≡ true
        marked s t i (inl is) =
            let t_is : t.0 ≡ target.0 = ap (λ (e : Edge). e.target.0) is in
            let i_is : i ≡ position = let labels : label.Argument i ≡ label.Argument position = ap (λ (e : Edge). e.label) is in cc in
            ap (λ b. satisfied_at (get a.nodes t.0) i || b) (rw (t_is, i_is, eqb_same target.0) (eqb_same position)) ∙ or_yes (satisfied_at (get a.nodes t.0) i)
        marked s t i (inr was) = ap (λ b. b || (t.0 == target.0 && i == position)) (v.marked s t i was)

        edged : (t : NodeId) (i : ℕ) (b : Bool) → satisfied_at (get a.nodes t.0) i ≡ b → (b || (t.0 == target.0 && i == position)) ≡ true → (s : NodeId) × (set.contains edges (argument_edge s t i) ≡ true)
        edged t i true is _ = let (s, stands) = v.edged t i is in (s, ap (λ es. set.contains es (argument_edge s t i)) added ∙ kept_edge a.edges (argument_edge source target position) (argument_edge s t i) stands)
        edged t i false is both =
            let (t_is, i_is) = both_true (t.0 == target.0) (i == position) both in
            let same : argument_edge source t i ≡ argument_edge source target position = λ d. argument_edge source (node_number (eqb-true t.0 target.0 t_is d)) (eqb-true i position i_is d) in
            (source, ap (λ es. set.contains es (argument_edge source t i)) added ∙ ap (set.contains (set.insert a.edges (argument_edge source target position))) same ∙ new_edge a.edges (argument_edge source target position)) where
              both_true : (x y : Bool) → (x && y) ≡ true → (x ≡ true) × (y ≡ true)
              both_true true y h = (refl, h)
              both_true false y h = cc

  -- a node is exported by a further name
  pub invariant_export : (nodes : Slab Node) (exports : List (Name × NodeId)) (id : NodeId) (before after : Node) (name : Name) → get a.nodes id.0 ≡ Some before → Updates a.nodes nodes id.0 (Some after) → node_of after ≡ record (node_of before) { export_name = Some name } → after.kind ≡ before.kind → (IsSome (node_of before).export_name → is_again a.lost id.0 ≡ true)
      → nodes.vacant_key ≡ a.nodes.vacant_key → find_name (names_of a.exports.entries) name ≡ None → exports ≡ (graph_of a).exports ++ (name, id) ∷ [] → (names : HashMap (String Global) NodeId (BuildHasherDefault FoldHasher)) → map_list (λ e. (string_bytes e.0, e.1)) names.entries ≡ exports
      → Invariant (record a { nodes = nodes; exports = names })
  invariant_export nodes exports id before after name had u shape kept again next absent added names listed =
      let there : node_at (graph_of a) id ≡ Some (node_of before) = get-nodes_of a.nodes.slots id.0 ∙ ap (option_map node_of) had in
      let more = sound_export (graph_of a) v.sound id (node_of before) name there absent in
      let shown : nodes_of nodes.slots ≡ map.insert (nodes_of a.nodes.slots) id.0 (record (node_of before) { export_name = Some name }) = nodes_of-insert a.nodes nodes id.0 after u ∙ ap (map.insert (nodes_of a.nodes.slots) id.0) shape in
      record {
        sound = subst (λ es. IsSound (record (graph_of a) { nodes = nodes_of nodes.slots; next = nodes.vacant_key; exports = es })) (sym (listed ∙ added))
            (subst (λ k. IsSound (record (graph_of a) { nodes = nodes_of nodes.slots; next = k; exports = (graph_of a).exports ++ (name, id) ∷ [] })) (sym next)
            (subst (λ ns. IsSound (record (graph_of a) { nodes = ns; exports = (graph_of a).exports ++ (name, id) ∷ [] })) (sym shown) more));
        marked = λ s t i stands. satisfied_same t.0 i ∙ v.marked s t i stands;
        edged = λ t i is. v.edged t i (sym (satisfied_same t.0 i) ∙ is);
        keyed = v.keyed;
        room = v.room;
        named = λ other n h. v.named other n (import_before (nodes_of a.nodes.slots) id (record (node_of before) { export_name = Some name }) other n (λ is. was other is) (subst (λ ns. ImportIn ns other n) shown h));
        importing = λ other n at. subst (λ ns. ImportIn ns other n) (sym shown) (import_after (nodes_of a.nodes.slots) id (record (node_of before) { export_name = Some name }) other n (λ h. is_so other h) (v.importing other n at));
        told = λ i other n at. told i other n (listed_before (names_of a.exports.entries) (name, id) i (other, n) (ap (λ es. slice_get es i) (sym (listed ∙ added)) ∙ at));
      } where
        told : (i : ℕ) (other : Name) (n : NodeId) → (slice_get (names_of a.exports.entries) i ≡ Some (other, n)) ⊎ (entry name id ≡ entry other n) → tells (is_again a.lost n.0) (option_map node_of (get nodes n.0)) other ≡ true
        told i other n (inr new) =
            ap (λ (e : Name × NodeId). tells (is_again a.lost e.1.0) (option_map node_of (get nodes e.1.0)) e.0) (sym new) ∙ ap (λ o. tells (is_again a.lost id.0) (option_map node_of o) name) u.changed
            ∙ keeps_name (is_again a.lost id.0) (node_of after) name (ap (λ (x : GraphNode). x.export_name) shape)
        told i other n (inl was_listed) = by_eq n.0 id.0
            (λ same.
            ap (λ k. tells (is_again a.lost k) (option_map node_of (get nodes k)) other) same ∙ ap (λ o. tells (is_again a.lost id.0) (option_map node_of o) other) u.changed
            ∙ told_again other (is_again a.lost id.0) refl (sym (ap (λ o. tells (is_again a.lost id.0) (option_map node_of o) other) had) ∙ ap (λ k. tells (is_again a.lost k) (option_map node_of (get a.nodes k)) other) (sym same) ∙ v.told i other n was_listed))
            (λ differ. ap (λ o. tells (is_again a.lost n.0) (option_map node_of o) other) (u.others n.0 differ) ∙ v.told i other n was_listed)
          where
            told_again : (other : Name) (b : Bool) → is_again a.lost id.0 ≡ b → tells b (Some (node_of before)) other ≡ true → tells b (Some (node_of after)) other ≡ true
            told_again other true is h = refl
            told_again other false is h = absurd (clash (is_again a.lost id.0) (again (tells_kept (node_of before) other h)) is)

        was : (other : Name) → (node_of before).kind ≡ graph.import other → ImportIn (nodes_of a.nodes.slots) other id
        was other is = subst (λ o. IsSomeAnd o (λ x. x.kind ≡ graph.import other)) (sym (get-nodes_of a.nodes.slots id.0 ∙ ap (option_map node_of) had)) is

        is_so : (other : Name) → ImportIn (nodes_of a.nodes.slots) other id → (node_of before).kind ≡ graph.import other
        is_so other h = subst (λ o. IsSomeAnd o (λ x. x.kind ≡ graph.import other)) (get-nodes_of a.nodes.slots id.0 ∙ ap (option_map node_of) had) h

        satisfied_same : (q i : ℕ) → satisfied_at (get nodes q) i ≡ satisfied_at (get a.nodes q) i
        satisfied_same q i = by_eq q id.0
            (λ same. ap (λ k. satisfied_at (get nodes k) i) same ∙ ap (λ o. satisfied_at o i) u.changed ∙ ap (λ k. satisfied k i) kept ∙ sym (ap (λ k. satisfied_at (get a.nodes k) i) same ∙ ap (λ o. satisfied_at o i) had))
            (λ differ. ap (λ o. satisfied_at o i) (u.others q differ))

  -- the room that was made is room for one slot more
  pub room_put : (p : PackageParts) (id : PackageId) (grown slots : Vec Slot Global) (more vacant : Vec ℕ Global) → TakesSlot (graph_of a) p id (record (graph_of a) { slots = slots.items; vacant = vacant_of vacant }) → grown.items ≡ a.slots.items → more.items ≡ a.vacant.items → vec_capacity a.vacant ≤ vec_capacity more
      → (more.items ≡ [] → length grown.items < vec_capacity more) → vec_capacity vacant ≡ vec_capacity more → length slots.items ≤ vec_capacity vacant
  room_put p id grown slots more vacant taken same noted wide link kept =
      let room = room_takes (graph_of a) (record (graph_of a) { slots = slots.items; vacant = vacant_of vacant }) p id (vec_capacity a.vacant) (vec_capacity more) taken v.room wide
      (λ none. let count : length grown.items ≡ length a.slots.items = ap length same in let free = link (noted ∙ sym (reverse-reverse a.vacant.items) ∙ ap reverse none) in omega (arith, count, free)) in
      omega (arith, room, kept)

  -- a package more
  pub invariant_register : (p : PackageParts) (id : PackageId) (slots : Vec Slot Global) (vacant : Vec ℕ Global) (names : HashMap Key PackageId (BuildHasherDefault FoldHasher)) → lookup (same_key (key_of p)) a.package_map.entries ≡ None → names.entries ≡ insert_entry same_key a.package_map.entries (key_of p) id
      → TakesSlot (graph_of a) p id (record (graph_of a) { slots = slots.items; vacant = vacant_of vacant }) → HoldsPackage a.types p → length slots.items ≤ vec_capacity vacant
      → Invariant (record a { package_map = names; slots = slots; vacant = vacant })
  invariant_register p id slots vacant names absent inserted taken holds room =
      let put = put_takes (graph_of a) (record (graph_of a) { slots = slots.items; vacant = vacant_of vacant }) p id taken in
      record {
        sound = sound_takes (graph_of a) v.sound id p holds (λ other (q, at, same). free_key a.slots.items id p slots.items put a.package_map.entries v.keyed absent other q at same) (record (graph_of a) { slots = slots.items; vacant = vacant_of vacant }) taken;
        marked = v.marked;
        edged = v.edged;
        keyed = subst (AreKeyed slots.items) (sym inserted) (keyed_put a.slots.items id p slots.items put a.package_map.entries v.keyed absent);
        room = room;
        named = v.named;
        importing = v.importing;
        told = v.told;
      }

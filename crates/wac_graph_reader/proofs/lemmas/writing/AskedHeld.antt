-- All that a graph asks for is held, and is asked for by instantiations and import nodes.
use Rattle.std.proofs.Common.{◌≡◌, ℕ, zero, suc, ◌⊎◌, inl, inr, Bool, true, false, not, cond, List, [], ◌∷◌, ◌++◌, length, map, Option, Some, None, refl, sym, subst}
use Rattle.std.specs.Prelude.{filter, slice_get}
use Rattle.std.specs.List.{AllByRecursion, flat_map}
use Rattle.std.specs.FinMap as finite
use Rattle.std.specs.Option.{option_and_then}
use Rattle.std.proofs.lemmas.Bool.{lt-ltb}
use Rattle.std.proofs.lemmas.Option.{slice_get_within}
use Rattle.wac_types_shapes.specs.primitives.Name.{Name, option_case}
use Rattle.wac_types_collection.specs.collection.Collection.{Collection, IsWellFormed, item_of}
use Rattle.wac_types_collection.specs.collection.Package.{PackageParts}
use Rattle.wac_types_collection.specs.declared.collection.collection.Held.{Held}
use Rattle.wac_types_collection.specs.wide.Wide.{wide_uses}
use Rattle.wac_types_shapes.specs.declared.shapes.component.Interface.{Interface}
use Rattle.wac_types_shapes.specs.declared.shapes.component.InterfaceId.{InterfaceId}
use Rattle.wac_types_shapes.specs.declared.shapes.component.ItemKind.{ItemKind}
use Rattle.wac_types_shapes.specs.declared.shapes.component.ItemKind.TheVariants as kind
use Rattle.wac_graph_model.specs.declared.nodes.packages.PackageId.{PackageId}
use Rattle.wac_graph_model.specs.nodes.Graph as graph
use Rattle.wac_edges.specs.Edge.{node_number}
use Rattle.wac_graph_model.specs.nodes.Graph.{Graph, GraphNode, Kind, node_at, package_at, package_of}
use Rattle.wac_graph_model.specs.nodes.Asked.{Entry, asked_by, imported_by, asked}
use Rattle.wac_graph_model.specs.nodes.Sound.{IsSound}
use Rattle.wac_graph_model.specs.causes.Cause.{AsksImplicitly, AsksExplicitly}
use Rattle.wac_graph_fields.specs.private.ImportsLeft.{node_left}
use Rattle.wac_graph_model.specs.nodes.Entries.{under_id, used_to, used_by, with_used, asks_again, once, asked_entries}
use Rattle.wac_graph_fields.specs.private.EntriesLeft.{IsHeldKind, by_node, row_entry, asked_at, imported_at}
use Rattle.wac_graph_fields.proofs.EntryLists.{all_joined}
use Rattle.wac_graph_model.specs.causes.TypeFaults.{imported_package, wanted_by, wanted_at, wanted_entries}
use Rattle.wac_graph_reader.proofs.lemmas.writing.AskingWalk.{first_entries, first_held, wanted_asked}

-- ---- lists
all_of : {A : Type 0} (P : A → Type 0) → ((x : A) → P x) → (xs : List A) → AllByRecursion P xs
all_of P f [] = tt
all_of P f (x ∷ xs) = (f x, all_of P f xs)

all_mapped : {A B : Type 0} (P : B → Type 0) (f : A → B) (xs : List A) → AllByRecursion (λ x. P (f x)) xs → AllByRecursion P (map f xs)
all_mapped P f [] h = tt
all_mapped P f (x ∷ xs) h = (h.0, all_mapped P f xs h.1)

all_flat : {A B : Type 0} (P : B → Type 0) (f : A → List B) (xs : List A) → AllByRecursion (λ x. AllByRecursion P (f x)) xs → AllByRecursion P (flat_map f xs)
all_flat P f [] h = tt
all_flat P f (x ∷ xs) h = all_joined P (f x) (flat_map f xs) h.0 (all_flat P f xs h.1)

all_filtered : {A : Type 0} (P : A → Type 0) (p : A → Bool) (xs : List A) → AllByRecursion P xs → AllByRecursion P (filter p xs)
all_filtered P p [] h = tt
all_filtered P p (x ∷ xs) h = split (p x) (all_filtered P p xs h.1) where
  split : (b : Bool) → AllByRecursion P (filter p xs) → AllByRecursion P (cond b (x ∷ filter p xs) (filter p xs))
  split true r = (h.0, r)
  split false r = r

all_once : (P : Entry → Type 0) (es : List Entry) → AllByRecursion P es → AllByRecursion P (once es)
all_once P [] h = tt
all_once P (e ∷ es) h = (h.0, all_filtered P (λ x. not (asks_again e x)) (once es) (all_once P es h.1))

-- ---- what holds of the instances of held interfaces holds of what is used
module _ (c : Collection) (P : Name × ItemKind → Type 0) (each : (name : Name) (i : InterfaceId) → IsHeldKind c (kind.Instance i) → P (name, kind.Instance i)) where
  all_under : (i : InterfaceId) → AllByRecursion P (under_id c i)
  all_under i = split (slice_get c.interfaces i.0) refl where
    named : IsHeldKind c (kind.Instance i) → (o : Option Name) → AllByRecursion P (option_case o [] (λ id. (id, kind.Instance i) ∷ []))
    named held None = tt
    named held (Some id) = (each id i held, tt)

    split : (o : Option (Held Interface)) → slice_get c.interfaces i.0 ≡ o → AllByRecursion P (option_case (item_of o) [] (λ it. option_case it.id [] (λ id. (id, kind.Instance i) ∷ [])))
    split None _ = tt
    split (Some h) at = named (lt-ltb i.0 (length c.interfaces) (slice_get_within c.interfaces i.0 h at)) h.item.id

  all_used_to : (k : ℕ) (i : InterfaceId) → AllByRecursion P (used_to k c i)
  all_used_to zero i = tt
  all_used_to (suc k) i =
      all_flat P (λ j. used_to k c j ++ under_id c j) (wide_uses c i)
      (all_of (λ j. AllByRecursion P (used_to k c j ++ under_id c j)) (λ j. all_joined P (used_to k c j) (under_id c j) (all_used_to k j) (all_under j)) (wide_uses c i))

  all_used : (k : ItemKind) → AllByRecursion P (used_by c k)
  all_used (kind.Instance i) = all_used_to (length c.interfaces) i
  all_used (kind.TypeItem t) = tt
  all_used (kind.Func f) = tt
  all_used (kind.Component w) = tt
  all_used (kind.Module m) = tt
  all_used (kind.Value v) = tt

-- ---- from what each node asks for to all that is asked for
module _ (g : Graph) (P : Entry → Type 0) (each : (e : Entry) → P e → (name : Name) (i : InterfaceId) → IsHeldKind g.types (kind.Instance i) → P (by_node e.node (name, kind.Instance i))) where
  with_all_used : (e : Entry) → P e → AllByRecursion P (with_used g.types e)
  with_all_used e h =
      all_joined P (map (by_node e.node) (used_by g.types e.kind)) (e ∷ [])
      (all_mapped P (by_node e.node) (used_by g.types e.kind) (all_used g.types (λ u. P (by_node e.node u)) (each e h) e.kind)) (h, tt)

  each_with_used : (es : List Entry) → AllByRecursion P es → AllByRecursion (λ e. AllByRecursion P (with_used g.types e)) es
  each_with_used [] h = tt
  each_with_used (e ∷ es) h = (with_all_used e h.0, each_with_used es h.1)

  all_asked : ((n : ℕ) → AllByRecursion P (asked_at g n)) → ((n : ℕ) → AllByRecursion P (imported_at g n)) → AllByRecursion P (asked g)
  all_asked by imported =
      let ns = finite.keys g.nodes in
      all_joined P (flat_map (asked_at g) ns) (flat_map (imported_at g) ns)
      (all_flat P (asked_at g) ns (all_of (λ n. AllByRecursion P (asked_at g n)) by ns))
      (all_flat P (imported_at g) ns (all_of (λ n. AllByRecursion P (imported_at g n)) imported ns))

  all_entries : ((n : ℕ) → AllByRecursion P (asked_at g n)) → ((n : ℕ) → AllByRecursion P (imported_at g n)) → AllByRecursion P (asked_entries g)
  all_entries by imported =
      all_once P (flat_map (with_used g.types) (asked g))
      (all_flat P (with_used g.types) (asked g) (each_with_used (asked g) (all_asked by imported)))

-- ---- what a node asks for is held
module _ (g : Graph) (n : ℕ) where
  asked_held : IsWellFormed g.types → AllByRecursion (λ e. IsHeldKind g.types e.kind) (asked_at g n)
  asked_held wf =
      let o = node_at g (node_number n) in
      subst (AllByRecursion (λ e. IsHeldKind g.types e.kind)) (sym (first_entries g n o))
      (all_mapped (λ e. IsHeldKind g.types e.kind) (row_entry n) (node_left g n 0 o) (first_held g n wf o))

  imported_held : IsSound g → AllByRecursion (λ e. IsHeldKind g.types e.kind) (imported_at g n)
  imported_held sound = split (node_at g (node_number n)) refl where
    split : (o : Option GraphNode) → node_at g (node_number n) ≡ o → AllByRecursion (λ e. IsHeldKind g.types e.kind) (imported_by n o)
    split None _ = tt
    split (Some node) at = by_kind node.kind refl where
      by_kind : (k : Kind) → node.kind ≡ k → AllByRecursion (λ e. IsHeldKind g.types e.kind) (imported_by n (Some node))
      by_kind graph.instantiation is = rw is tt
      by_kind graph.definition is = rw is tt
      by_kind (graph.import name) is = rw is (sound.held (node_number n) node at, tt)
      by_kind graph.alias is = rw is tt

  world_held : IsSound g → (o : Option PackageId) (p : PackageParts) → option_and_then (package_at g) o ≡ Some p → IsHeldKind g.types (kind.Component p.world)
  world_held sound None p there = cc
  world_held sound (Some id) p there = (sound.packages id p there).0

  abbrev package_entry : PackageParts → Entry
  package_entry p = record { name = []; kind = kind.Component p.world; node = n }

  package_held : IsSound g → (d : Bool) (node : GraphNode) → AllByRecursion (λ e. IsHeldKind g.types e.kind) (imported_package g d n node)
  package_held sound true node = tt
  package_held sound false node = split (package_of g node) refl where
    split : (o : Option PackageParts) → package_of g node ≡ o → AllByRecursion (λ (e : Entry). IsHeldKind g.types e.kind) (option_case o [] (λ p. package_entry p ∷ []))
    split None _ = tt
    split (Some p) there = (world_held sound node.owner p there, tt)

  wanted_held_at : IsSound g → IsWellFormed g.types → (d : Bool) → AllByRecursion (λ e. IsHeldKind g.types e.kind) (wanted_at g d n)
  wanted_held_at sound wf d = split (node_at g (node_number n)) refl where
    split : (o : Option GraphNode) → node_at g (node_number n) ≡ o → AllByRecursion (λ e. IsHeldKind g.types e.kind) (wanted_by g d n o)
    split None _ = tt
    split (Some node) at = by_kind node.kind refl where
      by_kind : (k : Kind) → node.kind ≡ k → AllByRecursion (λ e. IsHeldKind g.types e.kind) (wanted_by g d n (Some node))
      by_kind graph.instantiation is =
          subst (AllByRecursion (λ e. IsHeldKind g.types e.kind)) (sym (wanted_asked g d n (Some node) node refl is))
          (all_joined (λ (e : Entry). IsHeldKind g.types e.kind) (asked_by g n (Some node)) (imported_package g d n node)
          (subst (λ o. AllByRecursion (λ e. IsHeldKind g.types e.kind) (asked_by g n o)) at (asked_held wf)) (package_held sound d node))
      by_kind graph.definition is = rw is (sound.held (node_number n) node at, tt)
      by_kind (graph.import name) is = rw is (sound.held (node_number n) node at, tt)
      by_kind graph.alias is = rw is tt

-- ---- who asks for it
module _ (g : Graph) where
  abbrev IsAskedByNode : Entry → Type 0
  IsAskedByNode e = AsksImplicitly g (node_number e.node) ⊎ AsksExplicitly g (node_number e.node)

  asked_by_node : (n : ℕ) → AllByRecursion IsAskedByNode (asked_at g n)
  asked_by_node n = split (node_at g (node_number n)) refl where
    split : (o : Option GraphNode) → node_at g (node_number n) ≡ o → AllByRecursion IsAskedByNode (asked_by g n o)
    split None _ = tt
    split (Some node) at = by_kind node.kind refl where
      by_kind : (k : Kind) → node.kind ≡ k → AllByRecursion IsAskedByNode (asked_by g n (Some node))
      by_kind graph.instantiation is =
          subst (AllByRecursion IsAskedByNode) (sym (first_entries g n (Some node)))
          (all_mapped IsAskedByNode (row_entry n) (node_left g n 0 (Some node))
          (all_of (λ r. IsAskedByNode (row_entry n r)) (λ r. inl (record { node = node; there = at; instantiated = is })) (node_left g n 0 (Some node))))
      by_kind graph.definition is = rw is tt
      by_kind (graph.import name) is = rw is tt
      by_kind graph.alias is = rw is tt

  imported_by_node : (n : ℕ) → AllByRecursion IsAskedByNode (imported_at g n)
  imported_by_node n = split (node_at g (node_number n)) refl where
    split : (o : Option GraphNode) → node_at g (node_number n) ≡ o → AllByRecursion IsAskedByNode (imported_by n o)
    split None _ = tt
    split (Some node) at = by_kind node.kind refl where
      by_kind : (k : Kind) → node.kind ≡ k → AllByRecursion IsAskedByNode (imported_by n (Some node))
      by_kind graph.instantiation is = rw is tt
      by_kind graph.definition is = rw is tt
      by_kind (graph.import name) is = rw is (inr (record { node = node; name = name; there = at; imported = is }), tt)
      by_kind graph.alias is = rw is tt

pub held_entries : (g : Graph) → IsSound g → IsWellFormed g.types → AllByRecursion (λ e. IsHeldKind g.types e.kind) (asked_entries g)
held_entries g sound wf = all_entries g (λ e. IsHeldKind g.types e.kind) (λ e h name i held. held) (λ n. asked_held g n wf) (λ n. imported_held g n sound)

pub asking_nodes : (g : Graph) → AllByRecursion (λ e. AsksImplicitly g (node_number e.node) ⊎ AsksExplicitly g (node_number e.node)) (asked_entries g)
asking_nodes g = all_entries g (IsAskedByNode g) (λ e h name i held. h) (asked_by_node g) (imported_by_node g)

pub held_wanted : (g : Graph) → IsSound g → IsWellFormed g.types → (d : Bool) → AllByRecursion (λ e. IsHeldKind g.types e.kind) (wanted_entries g d)
held_wanted g sound wf d =
    let P : Entry → Type 0 = λ e. IsHeldKind g.types e.kind in
    let ns = finite.keys g.nodes in
    let each = all_flat P (wanted_at g d) ns (all_of (λ n. AllByRecursion P (wanted_at g d n)) (λ n. wanted_held_at g n sound wf d) ns) in
    all_once P (flat_map (with_used g.types) (flat_map (wanted_at g d) ns))
    (all_flat P (with_used g.types) (flat_map (wanted_at g d) ns) (each_with_used g P (λ e h name i held. held) (flat_map (wanted_at g d) ns) each))

-- A graph keeps its law where a package is taken out with its nodes.
use Rattle.std.proofs.Common.{◌≡◌, ℕ, zero, suc, ◌+◌, Bool, true, false, cond, not, ◌&&◌, ◌==◌, List, [], ◌∷◌, length, filter, refl, ap, ◌∙◌, sym, subst, arith, Option, Some, None, IsSome}
use Rattle.std.specs.Prelude.{slice_get, IsSomeAnd}
use Rattle.std.specs.Ordering.{nat_cmp}
use Rattle.std.specs.FinMap as map
use Rattle.std.specs.FinSet as set
use Rattle.std.proofs.lemmas.List.{length-set}
use Rattle.wac_types_shapes.specs.primitives.Name.{Name}
use Rattle.wac_edges.specs.declared.node.NodeId.{NodeId}
use Rattle.wac_edges.specs.Edge.{edge_cmp, alias_edge}
use Rattle.wac_edges.proofs.WrittenOrder.{eqb_same}
use Rattle.wac_graph_model.specs.declared.nodes.packages.PackageId.{PackageId}
use Rattle.wac_graph_model.specs.declared.nodes.packages.Slot.{Slot}
use Rattle.wac_graph_model.specs.nodes.Graph as graph
use Rattle.wac_graph_model.specs.nodes.Graph.{Graph, GraphNode, node_at, package_at, IsAliasOf, IsImportOf}
use Rattle.wac_graph_model.specs.nodes.Sound.{IsSound}
use Rattle.wac_graph_model.proofs.lemmas.nodes.TakenOut.{Left}
use Rattle.wac_graph_fields.specs.Removal.{IsWithout}
use Rattle.wac_graph_fields.specs.Unregistering.{is_id, is_owner, has_owner, is_of, FreesSlot, freed, spent}
use Rattle.wac_graph_fields.proofs.TiedLemmas.{clash}
use Rattle.wac_graph_fields.proofs.WithoutLemmas.{was_there, sound_without}
use Rattle.wac_graph_fields.proofs.SlotLemmas.{freed_was, freed_still, vacancy_freed}

-- ---- exports that keep their order
module _ (gone : NodeId → Bool) where
  abbrev Exports : Type 0
  Exports = List (Name × NodeId)

  abbrev pub stay : Exports → Exports
  stay es = filter (λ e. not (gone e.1)) es

  same_entry : {x y : Name × NodeId} → Some x ≡ Some y → x ≡ y
  same_entry h = cc

  after_first : (e : Name × NodeId) (es rest : Exports) → gone e.1 ≡ false → Left gone es rest → Left gone (e ∷ es) (e ∷ rest)
  after_first e es rest is l = record { place = place; apart = apart; was = was; still = still } where
    place : ℕ → ℕ
    place zero = zero
    place (suc i) = suc (l.place i)

    apart : (i j : ℕ) → place i ≡ place j → i ≡ j
    apart zero zero h = refl
    apart zero (suc j) h = absurd (omega (arith, h))
    apart (suc i) zero h = absurd (omega (arith, h))
    apart (suc i) (suc j) h = ap suc (l.apart i j (omega (arith, h)))

    was : (i : ℕ) (x : Name × NodeId) → slice_get (e ∷ rest) i ≡ Some x → slice_get (e ∷ es) (place i) ≡ Some x
    was zero x h = h
    was (suc i) x h = l.was i x h

    still : (j : ℕ) (x : Name × NodeId) → slice_get (e ∷ es) j ≡ Some x → gone x.1 ≡ false → (i : ℕ) × (slice_get (e ∷ rest) i ≡ Some x)
    still zero x h stays = (0, h)
    still (suc j) x h stays = let (i, at) = l.still j x h stays in (suc i, at)

  past_first : (e : Name × NodeId) (es rest : Exports) → gone e.1 ≡ true → Left gone es rest → Left gone (e ∷ es) rest
  past_first e es rest is l = record { place = λ i. suc (l.place i); apart = λ i j h. l.apart i j (omega (arith, h)); was = λ i x h. l.was i x h; still = still } where
    still : (j : ℕ) (x : Name × NodeId) → slice_get (e ∷ es) j ≡ Some x → gone x.1 ≡ false → (i : ℕ) × (slice_get rest i ≡ Some x)
    still zero x h stays = absurd (clash (gone e.1) is (ap (λ (y : Name × NodeId). gone y.1) (same_entry h) ∙ stays))
    still (suc j) x h stays = l.still j x h stays

  pub left_stay : (es : Exports) → Left gone es (stay es)
  left_stay [] = record { place = λ i. i; apart = λ i j h. h; was = λ i e h. h; still = λ j e h _. (j, h) }
  left_stay (e ∷ es) = split (gone e.1) refl (left_stay es) where
    split : (b : Bool) → gone e.1 ≡ b → Left gone es (filter (λ x. not (gone x.1)) es) → Left gone (e ∷ es) (cond (not b) (e ∷ filter (λ x. not (gone x.1)) es) (filter (λ x. not (gone x.1)) es))
    split true is l = past_first e es (filter (λ x. not (gone x.1)) es) is l
    split false is l = after_first e es (filter (λ x. not (gone x.1)) es) is l

  pub none_stay : (es : Exports) (i : ℕ) (x : Name × NodeId) → slice_get (stay es) i ≡ Some x → gone x.1 ≡ false
  none_stay [] i x h = cc
  none_stay (e ∷ es) i x h = split (gone e.1) refl i h (none_stay es) where
    split : (b : Bool) → gone e.1 ≡ b → (i : ℕ) → slice_get (cond (not b) (e ∷ filter (λ y. not (gone y.1)) es) (filter (λ y. not (gone y.1)) es)) i ≡ Some x
        → ((j : ℕ) (y : Name × NodeId) → slice_get (filter (λ z. not (gone z.1)) es) j ≡ Some y → gone y.1 ≡ false) → gone x.1 ≡ false
    split true is i h more = more i x h
    split false is zero h more = ap (λ (y : Name × NodeId). gone y.1) (sym (same_entry h)) ∙ is
    split false is (suc i) h more = more i x h

-- ---- the nodes of a package
of_node : (id : PackageId) (o : Option GraphNode) (x : GraphNode) → o ≡ Some x → is_of id o ≡ (has_owner x.kind && is_owner id x.owner)
of_node id o x at = ap (is_of id) at

second_of : (a b : Bool) → (a && b) ≡ true → b ≡ true
second_of true b h = h
second_of false b h = cc

-- an import is of no package
pub import_of_none : (g : Graph) (id : PackageId) (name : Name) (n : NodeId) → IsImportOf g name n → is_of id (node_at g n) ≡ false
import_of_none g id name n h = by_node (node_at g n) h where
  by_node : (o : Option GraphNode) → IsSomeAnd o (λ x. x.kind ≡ graph.import name) → is_of id o ≡ false
  by_node None k = refl
  by_node (Some x) k = ap (λ y. has_owner y && is_owner id x.owner) k

the_node : (o : Option GraphNode) → IsSome o → (x : GraphNode) × (o ≡ Some x)
the_node None h = cc
the_node (Some x) h = (x, refl)

some_same : (o : Option GraphNode) (a b : GraphNode) → o ≡ Some a → o ≡ Some b → a ≡ b
some_same o a b p q = cc

module _ (g : Graph) (s : IsSound g) (id : PackageId) where
  -- an alias of an export of a package's node is of the package
  pub behind_of : (instance n : NodeId) (i : ℕ) → IsAliasOf g instance i n → is_of id (node_at g instance) ≡ true → is_of id (node_at g n) ≡ true
  behind_of instance n i stands is =
      let both = s.ends (alias_edge instance n i) stands in
      let (source, from) = the_node (node_at g instance) both.0 in
      let (target, to) = the_node (node_at g n) both.1 in
      let joined = s.joins (alias_edge instance n i) source target stands from to in
      let a = s.aliases n target to joined.0 in
      let same : instance ≡ a.instance = (s.one_source n instance a.instance i a.position stands a.aliased).0 in
      let alike : source ≡ a.source = some_same (node_at g instance) source a.source from (ap (node_at g) same ∙ a.there) in
      of_node id (node_at g n) target to
      ∙ ap (λ k. has_owner k && is_owner id target.owner) joined.0
      ∙ ap (is_owner id) (a.owned ∙ ap (λ (x : GraphNode). x.owner) (sym alike))
      ∙ second_of (has_owner source.kind) (is_owner id source.owner) (sym (of_node id (node_at g instance) source from) ∙ is)

  -- an instance that stays is of another package
  other_owner : (n : NodeId) (node : GraphNode) (other : PackageId) → is_of id (node_at g n) ≡ false → node_at g n ≡ Some node → node.kind ≡ graph.instantiation → node.owner ≡ Some other → other ≡ id → ⊥
  other_owner n node other stays at kind owned same = clash (is_of id (node_at g n))
      (of_node id (node_at g n) node at ∙ ap (λ k. has_owner k && is_owner id node.owner) kind ∙ ap (is_owner id) owned ∙ ap (λ x. is_id x id) same ∙ ap (λ b. b && (id.generation == id.generation)) (eqb_same id.slot) ∙ eqb_same id.generation)
      stays

  module _ (held : IsSome (package_at g id)) (nodes : map.FinMap nat_cmp GraphNode) (next : ℕ) (edges : set.FinSet edge_cmp) (exports : List (Name × NodeId)) (slots : List Slot) (vacant : List ℕ)
      (w : IsWithout (λ n. is_of id (node_at g n)) g (record { types = g.types; nodes = nodes; next = next; edges = edges; exports = exports; slots = slots; vacant = vacant }))
      (left : exports ≡ filter (λ e. not (is_of id (node_at g e.1))) g.exports) (f : FreesSlot g.slots g.vacant id slots vacant) where
    pub kept_exports : Left (λ n. is_of id (node_at g n)) g.exports exports
    kept_exports = subst (Left (λ n. is_of id (node_at g n)) g.exports) (sym left) (left_stay (λ n. is_of id (node_at g n)) g.exports)

    pub none_exports : (i : ℕ) (e : Name × NodeId) → slice_get exports i ≡ Some e → is_of id (node_at g e.1) ≡ false
    none_exports i e at = none_stay (λ n. is_of id (node_at g n)) g.exports i e (ap (λ es. slice_get es i) (sym left) ∙ at)

    pub sound_unregistered : IsSound (record { types = g.types; nodes = nodes; next = next; edges = edges; exports = exports; slots = slots; vacant = vacant })
    sound_unregistered =
        let vacancy = vacancy_freed g.slots g.vacant id slots vacant held f s.vacant s.vacant_once in
        sound_without g s (λ n. is_of id (node_at g n)) nodes next edges exports slots vacant w kept_exports none_exports behind_of
        (λ other p at. (freed_was g.slots g.vacant id slots vacant held f other p at).0)
        (λ n node at kind other p owned registered. let (stays, was) = was_there g s (λ m. is_of id (node_at g m)) nodes next edges exports slots vacant w n node at in
        freed_still g.slots g.vacant id slots vacant held f other p (λ same. other_owner n node other stays was kind owned same) registered)
        vacancy.0 vacancy.1

-- the slots are as many
pub length_freed : (slots : List Slot) (vacant : List ℕ) (id : PackageId) (now : List Slot) (free : List ℕ) → FreesSlot slots vacant id now free → length now ≡ length slots
length_freed slots vacant id now free (freed small is noted) = ap length is ∙ length-set slots id.slot (record { generation = id.generation + 1; «package» = None })
length_freed slots vacant id now free (spent none is noted) = ap length is ∙ length-set slots id.slot (record { generation = id.generation; «package» = None })

-- A type is defined in a graph whose fields have room for it.
use Rattle.std.proofs.Common.{◌≡◌, ℕ, true, ap, ◌∙◌, sym, subst, None, Ok, Err, Result, OnOk, ◌⊎◌}
use Rattle.std.specs.Result.{IsOk}
use Rattle.std.specs.FinMap as map
use Rattle.std.specs.FinSet as set
use Rattle.std.specs.Option.{option_map}
use Rattle.slab.specs.Slab.{Slab, get}
use Rattle.wac_types_shapes.specs.declared.shapes.component.«Type».{«Type» as AnyType}
use Rattle.wac_types_shapes.specs.declared.shapes.component.«Type».TheVariants as ty
use Rattle.wac_types_shapes.specs.declared.shapes.component.ResourceId.{ResourceId}
use Rattle.wac_edges.specs.declared.edges.Edge.{Edge}
use Rattle.wac_edges.specs.Order.{Edges}
use Rattle.wac_graph_model.specs.declared.nodes.node.Node.{Node}
use Rattle.wac_graph_model.specs.nodes.Nodes.{node_of, nodes_of}
use Rattle.wac_graph_model.specs.nodes.Definitions.{IsResource}
use Rattle.wac_graph_model.proofs.lemmas.nodes.NodeLemmas.{get-nodes_of}
use Rattle.wac_graph_fields.specs.private.Lost.{is_again}
use Rattle.wac_graph_fields.specs.declared.lost.Lost.{Lost}
use Rattle.wac_graph_fields.specs.private.Stored.{AreHeld}
use Rattle.wac_graph_fields.proofs.GraphLemmas.{defined_held, vacant_bare}
use Rattle.wac_graph_fields.specs.private.Fields.{Fields, Names, graph_of, Invariant}
use Rattle.wac_graph_fields.proofs.InvariantLemmas.{invariant_exports, invariant_more}

-- a type that is no resource
pub no_resource : (t : AnyType) → ((r : ResourceId) → t ≡ ty.Resource r → ⊥) → IsResource t → ⊥
no_resource (ty.Resource r) other h = other r (λ i. ty.Resource r)
no_resource (ty.Func f) other h = h
no_resource (ty.Value x) other h = h
no_resource (ty.Interface x) other h = h
no_resource (ty.World w) other h = h
no_resource (ty.Module m) other h = h

-- what is so of a call that answers `Ok`
pub of_ok : {T E P : Type 0} (r : Result T E) → IsOk r → OnOk r P → P
of_ok (Ok x) is h = h
of_ok (Err e) is h = cc

module _ (a : Fields) (v : Invariant a) (roomy : Slab Node) (kept : roomy ≡ record a.nodes { capacity = roomy.capacity }) where
  pub same_nodes : (graph_of a).nodes ≡ nodes_of roomy.slots
  same_nodes = ap (λ (s : Slab Node). nodes_of s.slots) (sym kept)

  pub roomy_held : AreHeld a.types roomy
  roomy_held = defined_held (graph_of a) roomy same_nodes v.sound

  pub roomy_bare : (number : ℕ) → get roomy number ≡ None → (e : Edge) → set.contains a.edges e ≡ true → (e.source ≡ record { 0 = number }) ⊎ (e.target ≡ record { 0 = number }) → ⊥
  roomy_bare number vacant = vacant_bare (graph_of a) roomy same_nodes v.sound (record { 0 = number }) (ap (λ m. map.get m number) same_nodes ∙ get-nodes_of roomy.slots number ∙ ap (option_map node_of) vacant)

  -- room alone changes nothing
  pub roomy_invariant : (names : Names) (lost : Lost) (edges : Edges) → names.entries ≡ a.exports.entries → ((q : ℕ) → is_again a.lost q ≡ true → is_again lost q ≡ true) → edges ≡ a.edges → Invariant (record a { nodes = roomy; edges = edges; exports = names; lost = lost })
  roomy_invariant names lost edges same more unchanged =
      subst (λ es. Invariant (record a { nodes = roomy; edges = es; exports = names; lost = lost })) (sym unchanged)
      (invariant_more (record a { nodes = roomy; exports = names }) (invariant_exports (record a { nodes = roomy }) roomy_alone names same) lost more)
    where
      capacity_alone : (k : ℕ) → Invariant (record a { nodes = record a.nodes { capacity = k } })
      capacity_alone k = record { sound = v.sound; marked = v.marked; edged = v.edged; keyed = v.keyed; room = v.room; named = v.named; importing = v.importing; told = v.told }

      roomy_alone : Invariant (record a { nodes = roomy })
      roomy_alone = subst (λ s. Invariant (record a { nodes = s })) (sym kept) (capacity_alone roomy.capacity)

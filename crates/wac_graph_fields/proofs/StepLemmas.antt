-- What a call leaves in the fields is a step of the graph.
use Rattle.std.proofs.Common.{◌≡◌, ◌↔◌, ℕ, ap, refl, ◌∙◌, sym, subst, Option, Some, None, IfSome, IsSome, Ok, Global, Vec}
use Rattle.std.specs.Option.{option_map}
use Rattle.std.specs.Map.{lookup}
use Rattle.std.specs.HashMap.{HashMap}
use Rattle.std.specs.declared.hash.FoldHasher.{FoldHasher}
use Rattle.std.specs.declared.hash.BuildHasherDefault.{BuildHasherDefault}
use Rattle.slab.specs.Slab.{Slab, get, Updates}
use Rattle.wac_types_collection.specs.collection.Package.{PackageParts}
use Rattle.wac_types_shapes.specs.keys.Key.{Key, same_key}
use Rattle.wac_types_shapes.specs.private.keys.KeyLaws.{same_key-true}
use Rattle.wac_types_shapes.specs.declared.shapes.component.ItemKind.TheVariants.{Instance}
use Rattle.wac_types_shapes.specs.declared.shapes.component.InterfaceId.{InterfaceId}
use Rattle.wac_graph_model.specs.declared.nodes.node.Node.{Node}
use Rattle.wac_graph_model.specs.declared.nodes.packages.PackageId.{PackageId}
use Rattle.wac_graph_model.specs.declared.nodes.packages.Slot.{Slot}
use Rattle.wac_graph_model.specs.nodes.Graph as graph
use Rattle.wac_graph_model.specs.nodes.Graph.{GraphNode, package_at, IsRegistered}
use Rattle.wac_graph_model.specs.nodes.Nodes.{node_of}
use Rattle.wac_graph_fields.specs.private.Fields.{Fields, graph_of, Invariant}
use Rattle.wac_graph_fields.specs.private.Slots.{key_of, vacant_of}
use Rattle.wac_graph_model.specs.nodes.Steps.{AddsNode, Instantiates, instance_node, Registers, TakesSlot}
use Rattle.wac_graph_model.proofs.lemmas.nodes.NodeLemmas.{get-nodes_of, nodes_of-insert}

-- a slab with one node more is a graph with one node more
pub adds_node : (a : Fields) (nodes : Slab Node) (n : ℕ) (node : Node) → n ≡ a.nodes.vacant_key → get a.nodes n ≡ None → Updates a.nodes nodes n (Some node)
    → AddsNode (graph_of a) (record { 0 = n }) (node_of node) (graph_of (record a { nodes = nodes }))
adds_node a nodes n node next vacant u = (
  next,
  get-nodes_of a.nodes.slots n ∙ ap (option_map node_of) vacant,
  ap (λ ns. record (graph_of a) { nodes = ns; next = nodes.vacant_key }) (nodes_of-insert a.nodes nodes n node u),
)

abbrev pub instance_with : PackageId → InterfaceId → GraphNode
instance_with id i = record { kind = graph.instantiation; item_kind = Instance i; owner = Some id; name = None; export_name = None; first_name = None }

pub instance_shape : (id : PackageId) (i : InterfaceId) (p : PackageParts) → i ≡ p.instance_type → instance_with id i ≡ instance_node id p
instance_shape id i p is = ap (instance_with id) is

pub instantiated : (a : Fields) (nodes : Slab Node) (n : ℕ) (id : PackageId) (p : PackageParts) (node : Node) → node_of node ≡ instance_node id p → Some p ≡ package_at (graph_of a) id
    → n ≡ a.nodes.vacant_key → get a.nodes n ≡ None → Updates a.nodes nodes n (Some node)
    → Instantiates (graph_of a) id (Ok (record { 0 = n })) (graph_of (record a { nodes = nodes }))
instantiated a nodes n id p node shape at next vacant u =
    subst (λ o. IfSome o (λ q. AddsNode (graph_of a) (record { 0 = n }) (instance_node id q) (graph_of (record a { nodes = nodes })))) at
    (subst (λ x. AddsNode (graph_of a) (record { 0 = n }) x (graph_of (record a { nodes = nodes }))) shape (adds_node a nodes n node next vacant u))

-- a package of a key that was not there has a slot
pub registered : (a : Fields) (v : Invariant a) (p : PackageParts) (names : HashMap Key PackageId (BuildHasherDefault FoldHasher)) (slots : Vec Slot Global) (vacant : Vec ℕ Global) (id : PackageId) → lookup (same_key (key_of p)) a.package_map.entries ≡ None
    → TakesSlot (graph_of a) p id (record (graph_of a) { slots = slots.items; vacant = vacant_of vacant }) → Registers (graph_of a) p (Ok id) (graph_of (record a { package_map = names; slots = slots; vacant = vacant }))
registered a v p names slots vacant id absent taken = (
  λ other (q, at, same). none_some (lookup (same_key (key_of p)) a.package_map.entries) other absent (ap (λ (k : Key). lookup (same_key k) a.package_map.entries) (sym same) ∙ v.keyed.keyed other q at),
  taken,
) where
  none_some : (o : Option PackageId) (x : PackageId) → o ≡ None → o ≡ Some x → ⊥
  none_some o x p q = cc

pub there_already : (a : Fields) (v : Invariant a) (key : Key) (id : PackageId) → Some id ≡ lookup (same_key key) a.package_map.entries → (other : PackageId) × IsRegistered (graph_of a) key other
there_already a v key id at = let (p, there, same) = v.keyed.found key id (sym at) in (id, (p, there, sym (same_key-true key (key_of p) same)))

-- what is found under a key is what is registered under it
pub found_registered : (a : Fields) (v : Invariant a) (key : Key) (o : Option PackageId) → o ≡ lookup (same_key key) a.package_map.entries → (id : PackageId) → (o ≡ Some id) ↔ IsRegistered (graph_of a) key id
found_registered a v key o at id = (
  λ e. let (p, there, same) = v.keyed.found key id (sym at ∙ e) in (p, there, sym (same_key-true key (key_of p) same)),
  λ (p, there, same). at ∙ ap (λ (k : Key). lookup (same_key k) a.package_map.entries) (sym same) ∙ v.keyed.keyed id p there,
)

-- and is there
pub found_package : (a : Fields) (v : Invariant a) (key : Key) (id : PackageId) → Some id ≡ lookup (same_key key) a.package_map.entries → IsSome (package_at (graph_of a) id)
found_package a v key id at = let (p, there, same) = v.keyed.found key id (sym at) in subst (λ o. IsSome o) (sym there) refl

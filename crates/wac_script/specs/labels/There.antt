-- Labels of what a graph has.
use Rattle.std.specs.Prelude.{◌≡◌, List, true, IsSome}
use Rattle.std.specs.List.{AllZip}
use Rattle.wac_types_shapes.specs.primitives.Name.{Name}
use Rattle.wac_types_shapes.specs.shapes.Kinds.{kind_type}
use Rattle.wac_types_shapes.specs.declared.shapes.component.ItemKind.{ItemKind}
use Rattle.wac_types_shapes.specs.declared.shapes.component.«Type».TheVariants as ty
use Rattle.wac_types_shapes.specs.declared.shapes.component.WorldId.{WorldId}
use Rattle.wac_types_collection.specs.collection.Collection.{holds_type}
use Rattle.wac_edges.specs.declared.node.NodeId.{NodeId}
use Rattle.wac_graph_model.specs.declared.nodes.packages.PackageId.{PackageId}
use Rattle.wac_graph_model.specs.nodes.Graph.{Graph, node_at, package_at}
use Rattle.wac_script.specs.lines.Words.{Word}
use Rattle.wac_script.specs.declared.labels.things.Thing.TheVariants as thing
use Rattle.wac_script.specs.labels.Things.{Labelling, IsThing}
use Rattle.wac_script.specs.labels.Items.{IsItem}

-- The label stands for this node of the graph.
abbrev pub IsNode : Labelling → Graph → Name → NodeId → Type 0
IsNode labels g label n = IsThing labels label (thing.Node n) × IsSome (node_at g n)

-- The label stands for this package of the graph.
abbrev pub IsPackage : Labelling → Graph → Name → PackageId → Type 0
IsPackage labels g label p = IsThing labels label (thing.Package p) × IsSome (package_at g p)

-- The labels are those of these packages of the graph, in order.
abbrev pub ArePackages : Labelling → Graph → List Word → List PackageId → Type 0
ArePackages labels g words ids = AllZip (λ word id. IsPackage labels g word id) words ids

-- The label stands for this world of the graph's collection.
abbrev pub IsWorldThere : Labelling → Graph → Name → WorldId → Type 0
IsWorldThere labels g label w = IsThing labels label (thing.World w) × (holds_type g.types (ty.World w) ≡ true)

-- The item's type is of the graph's collection.
abbrev pub IsHeld : Graph → ItemKind → Type 0
IsHeld g item = holds_type g.types (kind_type item) ≡ true

-- The word is this item, whose type is of the graph's collection.
abbrev pub IsItemThere : Labelling → Graph → Word → ItemKind → Type 0
IsItemThere labels g word item = IsItem labels word item × IsHeld g item

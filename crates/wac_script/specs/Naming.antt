-- Nodes that are named by their labels.
use Rattle.std.specs.Prelude.{◌≡◌, ◌⊎◌, ◌++◌, [], ◌∷◌, None, Ok}
use Rattle.wac_types_shapes.specs.primitives.Name.{Name}
use Rattle.wac_graph_model.specs.nodes.Graph.{Graph, node_at}
use Rattle.wac_graph_model.specs.nodes.Steps.{SetsName}
use Rattle.wac_script.specs.declared.labels.things.Thing.{Thing}
use Rattle.wac_script.specs.declared.labels.things.Thing.TheVariants as thing
use Rattle.wac_script.specs.labels.Things.{Labelling}

-- A node is named by its label, if the label is that of a node.
abbrev pub NamesThing : Name → Thing → Graph → Graph → Type 0
NamesThing label (thing.Node n) old new = SetsName old n label (Ok tt) new ⊎ ((node_at old n ≡ None) × (new ≡ old))
NamesThing label _ old new = new ≡ old

-- Each node is named by its label, in the order of the labels.
abbrev pub AreNamed : Labelling → Graph → Graph → Type 0
AreNamed [] old new = new ≡ old
AreNamed (l ∷ labels) old new = (mid : Graph) × NamesThing l.0 l.1.thing old mid × AreNamed labels mid new

-- The nodes of the labels up to one of them are named.
abbrev pub AreSomeNamed : Labelling → Graph → Graph → Type 0
AreSomeNamed labels old new = (before : Labelling) × (after : Labelling) × (labels ≡ before ++ after) × AreNamed before old new

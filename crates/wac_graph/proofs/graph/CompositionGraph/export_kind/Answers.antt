use Rattle.std.proofs.Common.{◌∙◌, sym}
use Rattle.wac_graph_model.proofs.lemmas.nodes.NodeLemmas.{there}
use Rattle.wac_graph_fields.proofs.AliasLemmas.{interface_there}
use Rattle.wac_graph.specs.private.Inside.{fields_of}
use Rattle.wac_graph.proofs.CheckedLemmas.{found_export}
use Rattle.wac_graph.proofs.PositionLemmas.{listed_at, value_is, within}
use Rattle.wac_graph.proofs.graph.CompositionGraph.export_kind.Goals as goal

pub index-requires : goal.index-requires
index-requires c = there c.self.inside.nodes.slots c.args.instance.0 (rw (← c.self.view_is) at c.requires.instance)

pub unreachable-requires : goal.unreachable-requires
unreachable-requires c =
    let f = found_export (fields_of c.self.inside) c.self.invariant c.args.instance c.index.result.now c.requires.export.0 c.args.position c.requires.export.1 c.index.ensures (rw (← c.self.view_is) at c.requires.export.2) in
    c.in_default.not-Instance f.i (c.item_kind.ensures ∙ f.is)

pub index-requires-2 : goal.index-requires-2
index-requires-2 c = interface_there (fields_of c.self.inside) c.self.invariant c.args.instance c.index.result.now c.in-Instance.interface c.index.ensures (sym c.item_kind.ensures ∙ c.in-Instance.is)

pub value_at-requires : goal.value_at-requires
value_at-requires c =
    within (c.index-2.result.now).exports c.args.position (c.requires.export.0, c.requires.export.1)
    (listed_at (fields_of c.self.inside) c.args.instance c.index.result.now c.in-Instance.interface c.index-2.result.now c.requires.export.0 c.args.position c.requires.export.1 c.index.ensures (sym c.item_kind.ensures ∙ c.in-Instance.is) c.index-2.ensures (rw (← c.self.view_is) at c.requires.export.2))

pub returns : goal.returns
returns c =
    rw (← c.self.view_is)
    (λ name kind has. value_is (c.index-2.result.now).exports c.args.position name kind c.value_at.result.now
    (listed_at (fields_of c.self.inside) c.args.instance c.index.result.now c.in-Instance.interface c.index-2.result.now name c.args.position kind c.index.ensures (sym c.item_kind.ensures ∙ c.in-Instance.is) c.index-2.ensures has) c.value_at.ensures)

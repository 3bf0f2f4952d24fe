use Rattle.std.proofs.Common.{ap, sym, ◌∙◌}
use Rattle.wac_types_shapes.specs.shapes.Words.{kind_text}
use Rattle.wac_graph_model.proofs.lemmas.nodes.NodeLemmas.{there}
use Rattle.wac_graph_fields.proofs.AliasLemmas.{not_instance, missing, interface_there}
use Rattle.wac_graph.specs.private.Inside.{fields_of}
use Rattle.wac_graph.proofs.CheckedLemmas.{export_there}
use Rattle.wac_graph.proofs.graph.CompositionGraph.export_of.Goals as goal

pub index-requires : goal.index-requires
index-requires c = there c.self.inside.nodes.slots c.args.instance.0 (rw (← c.self.view_is) at c.requires)

pub index-requires-2 : goal.index-requires-2
index-requires-2 c = interface_there (fields_of c.self.inside) c.self.invariant c.args.instance c.index.result.now c.in-Instance.interface c.index.ensures (sym c.item_kind-item_kind.ensures ∙ c.in-Instance.is)

pub returns-in_default-clause-refused : goal.returns-in_default-clause-refused
returns-in_default-clause-refused c = rw (← c.self.view_is) (not_instance (fields_of c.self.inside) c.args.instance c.index.result.now c.args.export.now c.desc-kind.result c.index.ensures (λ i is. c.in_default.not-Instance i (c.item_kind-item_kind.ensures ∙ is)) (c.desc-kind.ensures ∙ ap kind_text c.item_kind-item_kind.ensures))

pub returns-in_default-get_full-clause-refused : goal.returns-in_default-get_full-clause-refused
returns-in_default-get_full-clause-refused c =
    rw (← c.self.view_is) (missing (fields_of c.self.inside) c.args.instance c.index.result.now c.in-Instance.interface c.index-2.result.now c.args.export.now c.in_ok-export.export c.index.ensures (sym c.item_kind-item_kind.ensures ∙ c.in-Instance.is) c.index-2.ensures c.in_default-get_full.ensures c.in_ok-export.ensures.ok)

pub returns-clause-found : goal.returns-clause-found
returns-clause-found c = rw (← c.self.view_is) (export_there (fields_of c.self.inside) c.args.instance c.index.result.now c.in-Instance.interface c.index-2.result.now c.args.export.now _ c.index.ensures (sym c.item_kind-item_kind.ensures ∙ c.in-Instance.is) c.index-2.ensures c.in-Some.ensures)

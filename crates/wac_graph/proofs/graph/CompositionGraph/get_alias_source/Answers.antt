use Rattle.std.proofs.Common.{◌∙◌, sym}
use Rattle.wac_edges.specs.Edge.{node_number}
use Rattle.wac_graph_fields.proofs.AliasLemmas.{interface_there}
use Rattle.wac_graph_reader.proofs.lemmas.writing.WriteAliasLemmas.{alias_target, source_there, source_is_instance, position_there, alias_of}
use Rattle.wac_graph.specs.private.Inside.{fields_of}
use Rattle.wac_graph.proofs.graph.CompositionGraph.get_alias_source.Goals as goal

pub index-requires : goal.index-requires
index-requires c = source_there (fields_of c.self.inside) c.self.invariant c.args.id.0 (alias_target (fields_of c.self.inside) c.self.invariant c.args.id.0 c.in_ok-source.source.0 c.in_ok-source.position c.in_ok-source.ensures.some) c.in_ok-source.source.0 c.in_ok-source.position c.in_ok-source.ensures.some

pub unreachable-requires : goal.unreachable-requires
unreachable-requires c =
    source_is_instance (fields_of c.self.inside) c.self.invariant c.args.id.0 (alias_target (fields_of c.self.inside) c.self.invariant c.args.id.0 c.in_ok-source.source.0 c.in_ok-source.position c.in_ok-source.ensures.some) c.in_ok-source.source.0 c.in_ok-source.position c.in_ok-source.ensures.some
    c.index.result.now c.index.ensures (λ i is. c.in_default.not-Instance i (c.item_kind.ensures ∙ is))

pub index-requires-2 : goal.index-requires-2
index-requires-2 c = interface_there (fields_of c.self.inside) c.self.invariant (node_number c.in_ok-source.source.0) c.index.result.now c.in-Instance.interface c.index.ensures (sym c.item_kind.ensures ∙ c.in-Instance.is)

pub name_at-name-requires : goal.name_at-name-requires
name_at-name-requires c =
    position_there (fields_of c.self.inside) c.self.invariant c.args.id.0 (alias_target (fields_of c.self.inside) c.self.invariant c.args.id.0 c.in_ok-source.source.0 c.in_ok-source.position c.in_ok-source.ensures.some) c.in_ok-source.source.0 c.in_ok-source.position c.in_ok-source.ensures.some
    c.index.result.now c.in-Instance.interface c.index-2.result.now c.index.ensures (sym c.item_kind.ensures ∙ c.in-Instance.is) c.index-2.ensures

pub returns-clause-source : goal.returns-clause-source
returns-clause-source c =
    rw (← c.self.view_is)
    (alias_of (fields_of c.self.inside) c.self.invariant c.args.id.0 (alias_target (fields_of c.self.inside) c.self.invariant c.args.id.0 c.in_ok-source.source.0 c.in_ok-source.position c.in_ok-source.ensures.some) c.in_ok-source.source.0 c.in_ok-source.position c.in_ok-source.ensures.some
    c.index.result.now c.in-Instance.interface c.index-2.result.now c.index.ensures (sym c.item_kind.ensures ∙ c.in-Instance.is) c.index-2.ensures c.name_at-name.result.now c.name_at-name.ensures)

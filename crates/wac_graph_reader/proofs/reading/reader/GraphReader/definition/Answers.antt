use Rattle.std.proofs.Common.{◌≡◌, ◌∙◌, sym, Some}
use Rattle.wac_types_shapes.specs.declared.shapes.component.ItemKind.TheVariants.{TypeItem}
use Rattle.wac_graph_reader.proofs.lemmas.writing.EncodingLemmas.{contains_node, if_node}
use Rattle.wac_graph_reader.proofs.lemmas.writing.WriteDefinitionLemmas.{is_type, is_named, type_held}
use Rattle.wac_graph_reader.specs.private.reading.Inside.{fields_of}
use Rattle.wac_graph_reader.proofs.reading.reader.GraphReader.definition.Goals as goal

pub index-node-requires : goal.index-node-requires
index-node-requires c = contains_node (fields_of c.self.inside) c.args.n.0 _ (rw (← c.self.view_is) at c.requires)

pub unreachable-requires : goal.unreachable-requires
unreachable-requires c = is_type (fields_of c.self.inside) c.self.invariant c.args.n.0 c.index-node.result.now c.index-node.ensures (rw (← c.self.view_is) at c.requires) (λ t is. c.in_default.not-TypeItem t (c.item_kind.ensures ∙ is))

pub unreachable-requires-in_default-first_name : goal.unreachable-requires-in_default-first_name
unreachable-requires-in_default-first_name c = is_named (fields_of c.self.inside) c.self.invariant c.args.n.0 c.index-node.result.now c.index-node.ensures (rw (← c.self.view_is) at c.requires) (sym c.in_default-first_name.ensures)

pub returns-clause-held : goal.returns-clause-held
returns-clause-held c =
    rw (← c.self.view_is) (type_held (fields_of c.self.inside) c.self.invariant c.args.n.0 c.index-node.result.now c.index-node.ensures (rw (← c.self.view_is) at c.requires) c.in-TypeItem.ty (sym c.item_kind.ensures ∙ c.in-TypeItem.is))

pub returns-clause-defined : goal.returns-clause-defined
returns-clause-defined c =
    rw (← c.self.view_is) (if_node (fields_of c.self.inside) c.args.n.0 c.index-node.result.now (λ node. (node.item_kind ≡ TypeItem c.in-TypeItem.ty) × (node.first_name ≡ Some c.in-Some.name.now)) c.index-node.ensures
    (sym c.item_kind.ensures ∙ c.in-TypeItem.is, sym c.in-Some.ensures))

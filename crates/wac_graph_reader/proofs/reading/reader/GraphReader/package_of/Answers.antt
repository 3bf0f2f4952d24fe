use Rattle.std.proofs.Common.{◌≡◌, sym, Some}
use Rattle.wac_graph_model.specs.nodes.Graph.{instantiation}
use Rattle.wac_graph_reader.proofs.lemmas.writing.EncodingLemmas.{contains_node, owned_at, registered_at, if_node}
use Rattle.wac_graph_reader.specs.private.reading.Inside.{fields_of}
use Rattle.wac_graph_reader.proofs.reading.reader.GraphReader.package_of.Goals as goal

pub index-requires : goal.index-requires
index-requires c = contains_node (fields_of c.self.inside) c.args.n (λ node. node.kind ≡ instantiation) (rw (← c.self.view_is) at c.requires)

pub unreachable-requires : goal.unreachable-requires
unreachable-requires c = owned_at (fields_of c.self.inside) c.self.invariant c.args.n c.index.result.now c.index.ensures (rw (← c.self.view_is) at c.requires) (sym c.in_default.ensures)

pub unreachable-requires-in-None : goal.unreachable-requires-in-None
unreachable-requires-in-None c = registered_at (fields_of c.self.inside) c.self.invariant c.args.n c.index.result.now c.index.ensures (rw (← c.self.view_is) at c.requires) c.in-Some.id (sym c.in-Some.ensures) (rw c.deref.ensures.value at c.in-None.ensures)

pub returns-clause-owner : goal.returns-clause-owner
returns-clause-owner c = rw (← c.self.view_is) (if_node (fields_of c.self.inside) c.args.n c.index.result.now (λ node. node.owner ≡ Some c.in-Some.id) c.index.ensures (sym c.in-Some.ensures))

pub returns-clause-registered : goal.returns-clause-registered
returns-clause-registered c = rw (← c.self.view_is) (sym (rw c.deref.ensures.value at c.in-Some-package_in_slots.ensures))

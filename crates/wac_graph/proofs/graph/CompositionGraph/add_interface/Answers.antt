use Rattle.std.proofs.Common.{length}
use Rattle.wac_graph_model.proofs.lemmas.nodes.ExtendsLemmas.{extends_interface, extends_result}
use Rattle.wac_graph_fields.proofs.InvariantLemmas.{invariant_types}
use Rattle.wac_graph.specs.private.Inside.{fields_of}
use Rattle.wac_types_shapes.specs.declared.shapes.component.InterfaceId.{InterfaceId}
use Rattle.wac_types_shapes.specs.declared.shapes.component.«Type».TheVariants as ty
use Rattle.wac_types_collection.specs.collection.Collection.{with_interface}
use Rattle.wac_graph_fields.specs.private.Fields.{graph_of}
use Rattle.wac_graph_model.proofs.lemmas.nodes.ValidLemmas.{added_is_there, last_is_there, valid_types}
use Rattle.wac_graph.proofs.graph.CompositionGraph.add_interface.Goals as goal

pub invariant_of-self : goal.invariant_of-self
invariant_of-self c = invariant_types (fields_of c.self.inside) c.self.invariant c.add_interface.new.self c.growth_law.ensures.formed (extends_result _ c.add_interface.result c.self.inside.types c.add_interface.new.self _ (extends_interface c.self.inside.types c.growth_law.ensures.trees c.args.interface) c.add_interface.ensures.added c.add_interface.ensures.refused)

pub returns-clause-fault : goal.returns-clause-fault
returns-clause-fault c = rw (← c.self.view_is) c.add_interface.ensures.fault

pub returns-clause-there : goal.returns-clause-there
returns-clause-there c = added_is_there c.add_interface.result c.add_interface.new.self (with_interface c.self.inside.types c.args.interface) (λ (id : InterfaceId). id.0) (length (c.self.inside.types).interfaces) (λ id. ty.Interface id) (λ id is. last_is_there (c.self.inside.types).interfaces _ id.0 is) c.add_interface.ensures.added

pub returns-clause-valid : goal.returns-clause-valid
returns-clause-valid c = rw (← c.self.view_is) (valid_types (graph_of (fields_of c.self.inside)) c.add_interface.new.self (extends_result _ c.add_interface.result c.self.inside.types c.add_interface.new.self _ (extends_interface c.self.inside.types c.growth_law.ensures.trees c.args.interface) c.add_interface.ensures.added c.add_interface.ensures.refused))

use Rattle.std.proofs.Common.{length}
use Rattle.wac_graph_model.proofs.lemmas.nodes.ExtendsLemmas.{extends_resource, extends_result}
use Rattle.wac_graph_fields.proofs.InvariantLemmas.{invariant_types}
use Rattle.wac_graph.specs.private.Inside.{fields_of}
use Rattle.wac_types_shapes.specs.declared.shapes.component.ResourceId.{ResourceId}
use Rattle.wac_types_shapes.specs.declared.shapes.component.«Type».TheVariants as ty
use Rattle.wac_types_collection.specs.collection.Collection.{with_resource}
use Rattle.wac_graph_fields.specs.private.Fields.{graph_of}
use Rattle.wac_graph_model.proofs.lemmas.nodes.ValidLemmas.{added_is_there, last_is_there, valid_types}
use Rattle.wac_graph.proofs.graph.CompositionGraph.add_resource.Goals as goal

pub invariant_of-self : goal.invariant_of-self
invariant_of-self c = invariant_types (fields_of c.self.inside) c.self.invariant c.add_resource.new.self c.growth_law.ensures.formed (extends_result _ c.add_resource.result c.self.inside.types c.add_resource.new.self _ (extends_resource c.self.inside.types c.growth_law.ensures.trees c.args.resource) c.add_resource.ensures.added c.add_resource.ensures.refused)

pub returns-clause-there : goal.returns-clause-there
returns-clause-there c = added_is_there c.add_resource.result c.add_resource.new.self (with_resource c.self.inside.types c.args.resource) (λ (id : ResourceId). id.0) (length (c.self.inside.types).resources) (λ id. ty.Resource id) (λ id is. last_is_there (c.self.inside.types).resources _ id.0 is) c.add_resource.ensures.added

pub returns-clause-valid : goal.returns-clause-valid
returns-clause-valid c = rw (← c.self.view_is) (valid_types (graph_of (fields_of c.self.inside)) c.add_resource.new.self (extends_result _ c.add_resource.result c.self.inside.types c.add_resource.new.self _ (extends_resource c.self.inside.types c.growth_law.ensures.trees c.args.resource) c.add_resource.ensures.added c.add_resource.ensures.refused))

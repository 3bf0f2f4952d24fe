use Rattle.std.proofs.Common.{length}
use Rattle.wac_graph_model.proofs.lemmas.nodes.ExtendsLemmas.{extends_world, extends_result}
use Rattle.wac_graph_fields.proofs.InvariantLemmas.{invariant_types}
use Rattle.wac_graph.specs.private.Inside.{fields_of}
use Rattle.wac_types_shapes.specs.declared.shapes.component.WorldId.{WorldId}
use Rattle.wac_types_shapes.specs.declared.shapes.component.«Type».TheVariants as ty
use Rattle.wac_types_collection.specs.collection.Collection.{with_world}
use Rattle.wac_graph_fields.specs.private.Fields.{graph_of}
use Rattle.wac_graph_model.proofs.lemmas.nodes.ValidLemmas.{added_is_there, last_is_there, valid_types}
use Rattle.wac_graph.proofs.graph.CompositionGraph.add_world.Goals as goal

pub invariant_of-self : goal.invariant_of-self
invariant_of-self c = invariant_types (fields_of c.self.inside) c.self.invariant c.add_world.new.self c.growth_law.ensures.formed (extends_result _ c.add_world.result c.self.inside.types c.add_world.new.self _ (extends_world c.self.inside.types c.growth_law.ensures.trees c.args.world) c.add_world.ensures.added c.add_world.ensures.refused)

pub returns-clause-fault : goal.returns-clause-fault
returns-clause-fault c = rw (← c.self.view_is) c.add_world.ensures.fault

pub returns-clause-there : goal.returns-clause-there
returns-clause-there c = added_is_there c.add_world.result c.add_world.new.self (with_world c.self.inside.types c.args.world) (λ (id : WorldId). id.0) (length (c.self.inside.types).worlds) (λ id. ty.World id) (λ id is. last_is_there (c.self.inside.types).worlds _ id.0 is) c.add_world.ensures.added

pub returns-clause-valid : goal.returns-clause-valid
returns-clause-valid c = rw (← c.self.view_is) (valid_types (graph_of (fields_of c.self.inside)) c.add_world.new.self (extends_result _ c.add_world.result c.self.inside.types c.add_world.new.self _ (extends_world c.self.inside.types c.growth_law.ensures.trees c.args.world) c.add_world.ensures.added c.add_world.ensures.refused))

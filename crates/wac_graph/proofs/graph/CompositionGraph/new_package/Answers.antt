use Rattle.wac_graph_model.proofs.lemmas.nodes.ExtendsLemmas.{extends_interface, extends_made, holds_made}
use Rattle.wac_graph_fields.proofs.InvariantLemmas.{invariant_types}
use Rattle.wac_graph.specs.private.Inside.{fields_of}
use Rattle.wac_graph_fields.specs.private.Fields.{graph_of}
use Rattle.wac_graph_model.proofs.lemmas.nodes.ValidLemmas.{valid_types}
use Rattle.wac_graph.proofs.graph.CompositionGraph.new_package.Goals as goal

pub invariant_of-self : goal.invariant_of-self
invariant_of-self c = invariant_types (fields_of c.self.inside) c.self.invariant c.new.new.types c.growth_law.ensures.formed (extends_made c.new.result c.self.inside.types c.new.new.types _ (extends_interface c.self.inside.types c.growth_law.ensures.trees _) c.new.ensures.added c.new.ensures.refused)

pub returns-clause-held : goal.returns-clause-held
returns-clause-held c = holds_made c.new.result c.self.inside.types c.new.new.types _ _ _ c.args.world (rw (← c.self.view_is) at c.requires) c.new.ensures.built c.new.ensures.added

pub returns-clause-valid : goal.returns-clause-valid
returns-clause-valid c = rw (← c.self.view_is) (valid_types (graph_of (fields_of c.self.inside)) c.new.new.types (extends_made c.new.result c.self.inside.types c.new.new.types _ (extends_interface c.self.inside.types c.growth_law.ensures.trees _) c.new.ensures.added c.new.ensures.refused))

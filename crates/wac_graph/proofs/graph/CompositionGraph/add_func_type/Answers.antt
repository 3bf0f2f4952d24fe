use Rattle.std.proofs.Common.{length}
use Rattle.wac_graph_model.proofs.lemmas.nodes.ExtendsLemmas.{extends_func, extends_result}
use Rattle.wac_graph_fields.proofs.InvariantLemmas.{invariant_types}
use Rattle.wac_graph.specs.private.Inside.{fields_of}
use Rattle.wac_types_shapes.specs.declared.shapes.component.FuncTypeId.{FuncTypeId}
use Rattle.wac_types_shapes.specs.declared.shapes.component.«Type».TheVariants as ty
use Rattle.wac_types_collection.specs.collection.Collection.{with_func}
use Rattle.wac_graph_fields.specs.private.Fields.{graph_of}
use Rattle.wac_graph_model.proofs.lemmas.nodes.ValidLemmas.{added_is_there, last_is_there, valid_types}
use Rattle.wac_graph.proofs.graph.CompositionGraph.add_func_type.Goals as goal

pub invariant_of-self : goal.invariant_of-self
invariant_of-self c = invariant_types (fields_of c.self.inside) c.self.invariant c.add_func_type.new.self c.growth_law.ensures.formed (extends_result _ c.add_func_type.result c.self.inside.types c.add_func_type.new.self _ (extends_func c.self.inside.types c.growth_law.ensures.trees c.args.func) c.add_func_type.ensures.added c.add_func_type.ensures.refused)

pub returns-clause-there : goal.returns-clause-there
returns-clause-there c = added_is_there c.add_func_type.result c.add_func_type.new.self (with_func c.self.inside.types c.args.func) (λ (id : FuncTypeId). id.0) (length (c.self.inside.types).funcs) (λ id. ty.Func id) (λ id is. last_is_there (c.self.inside.types).funcs _ id.0 is) c.add_func_type.ensures.added

pub returns-clause-valid : goal.returns-clause-valid
returns-clause-valid c = rw (← c.self.view_is) (valid_types (graph_of (fields_of c.self.inside)) c.add_func_type.new.self (extends_result _ c.add_func_type.result c.self.inside.types c.add_func_type.new.self _ (extends_func c.self.inside.types c.growth_law.ensures.trees c.args.func) c.add_func_type.ensures.added c.add_func_type.ensures.refused))

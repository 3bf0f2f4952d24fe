use Rattle.std.proofs.Common.{◌||◌, ◌&&◌, ◌==◌, Bool, ap, refl, ◌∙◌}
use Rattle.std.specs.FinSet as set
use Rattle.wac_graph_fields.proofs.InvariantLemmas.{invariant_argument, invariant_back}
use Rattle.wac_graph_fields.proofs.ArgumentLemmas.{is_instantiation, given_instantiation, unset_edge, same_graph}
use Rattle.wac_graph_fields.specs.private.Fields.{graph_of}
use Rattle.wac_graph_model.proofs.lemmas.nodes.SatisfyLemmas.{OnErr-from}
use Rattle.wac_graph.specs.private.Inside.{fields_of}
use Rattle.wac_graph.proofs.graph.CompositionGraph.give_argument.Goals as goal

pub reserve_mark-requires : goal.reserve_mark-requires
reserve_mark-requires c = is_instantiation (fields_of c.self.inside) c.args.instantiation (given_instantiation (graph_of (fields_of c.self.inside)) c.args.instantiation c.args.argument c.args.position (rw (← c.self.view_is) at c.requires))

pub invariant_of-self : goal.invariant_of-self
invariant_of-self c = invariant_back (fields_of c.self.inside) c.self.invariant c.reserve_mark.new.nodes c.self.inside.edges c.reserve_mark.ensures.next c.reserve_mark.ensures.same c.reserve_mark.ensures.marks refl

pub returns-in_err-reserve_mark-clause-kept : goal.returns-in_err-reserve_mark-clause-kept
returns-in_err-reserve_mark-clause-kept c =
    OnErr-from c.from_residual.result (rw (← c.self.view_is) (same_graph (fields_of c.self.inside) c.reserve_mark.new.nodes c.self.inside.edges _ c.reserve_mark.ensures.same c.reserve_mark.ensures.next refl))

pub add_new-requires : goal.add_new-requires
add_new-requires c =
    ap (set.contains c.self.inside.edges) c.argument_edge-edge.ensures
    ∙ unset_edge (fields_of c.self.inside) c.args.instantiation c.args.argument c.args.position (rw (← c.self.view_is) at c.requires)

pub invariant_of-self-in_err-add_new : goal.invariant_of-self-in_err-add_new
invariant_of-self-in_err-add_new c =
    invariant_back (fields_of c.self.inside) c.self.invariant c.reserve_mark.new.nodes c.add_new.new.self c.reserve_mark.ensures.next c.reserve_mark.ensures.same c.reserve_mark.ensures.marks c.in_err-add_new.ensures.err

pub returns-in_err-add_new-clause-kept : goal.returns-in_err-add_new-clause-kept
returns-in_err-add_new-clause-kept c =
    OnErr-from c.from_residual-in_err-add_new.result
    (rw (← c.self.view_is) (same_graph (fields_of c.self.inside) c.reserve_mark.new.nodes c.add_new.new.self _ c.reserve_mark.ensures.same c.reserve_mark.ensures.next c.in_err-add_new.ensures.err))

pub satisfy-requires : goal.satisfy-requires
satisfy-requires c = c.in_ok-reserve_mark.ensures.room

pub invariant_of-self-2 : goal.invariant_of-self-2
invariant_of-self-2 c =
    invariant_argument (fields_of c.self.inside) c.self.invariant c.satisfy.new.nodes c.add_new.new.self c.args.argument c.args.instantiation c.args.position
    (c.satisfy.ensures.next ∙ c.reserve_mark.ensures.next) (λ q. c.satisfy.ensures.same q ∙ c.reserve_mark.ensures.same q)
    (λ q i. c.satisfy.ensures.marks q i ∙ ap (λ (b : Bool). b || (q == c.args.instantiation.0 && i == c.args.position)) (c.reserve_mark.ensures.marks q i))
    (rw (← c.self.view_is) at c.requires)
    (c.in_ok-add_new.ensures.ok ∙ ap (set.insert c.self.inside.edges) c.argument_edge-edge.ensures)

pub returns-clause-given : goal.returns-clause-given
returns-clause-given c =
    rw (← c.self.view_is) (same_graph (fields_of c.self.inside) c.satisfy.new.nodes c.add_new.new.self _ (λ q. c.satisfy.ensures.same q ∙ c.reserve_mark.ensures.same q) (c.satisfy.ensures.next ∙ c.reserve_mark.ensures.next)
    (c.in_ok-add_new.ensures.ok ∙ ap (set.insert c.self.inside.edges) c.argument_edge-edge.ensures))

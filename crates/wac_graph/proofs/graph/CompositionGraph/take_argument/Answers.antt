use Rattle.std.proofs.Common.{ap, ◌∙◌, sym, subst}
use Rattle.std.specs.FinSet as set
use Rattle.wac_edges.specs.Edge.{argument_edge}
use Rattle.wac_graph_model.specs.nodes.Graph.{Graph}
use Rattle.wac_graph_fields.specs.private.Fields.{graph_of, Invariant}
use Rattle.wac_graph_fields.proofs.ArgumentLemmas.{is_instantiation, same_graph}
use Rattle.wac_graph_fields.proofs.TakingLemmas.{invariant_taken, nothing_removed}
use Rattle.wac_graph.specs.private.Inside.{fields_of}
use Rattle.wac_graph.proofs.graph.CompositionGraph.take_argument.Goals as goal

pub unsatisfy-requires : goal.unsatisfy-requires
unsatisfy-requires c = is_instantiation (fields_of c.self.inside) c.args.instantiation (rw (← c.self.view_is) at c.requires)

pub invariant_of-self : goal.invariant_of-self
invariant_of-self c =
    invariant_taken (fields_of c.self.inside) c.self.invariant c.unsatisfy.new.nodes c.take.new.self c.args.argument c.args.instantiation c.args.position c.unsatisfy.ensures.next c.unsatisfy.ensures.same c.unsatisfy.ensures.marks
    (ap (set.contains c.self.inside.edges) (sym c.argument_edge-edge.ensures) ∙ sym c.take.ensures.was ∙ c.if-take.true) (c.take.ensures.taken ∙ ap (set.remove c.self.inside.edges) c.argument_edge-edge.ensures)

pub invariant_of-self-else-take : goal.invariant_of-self-else-take
invariant_of-self-else-take c =
    subst (λ es. Invariant (record (fields_of c.self.inside) { edges = es }))
    (nothing_removed c.self.inside.edges (argument_edge c.args.argument c.args.instantiation c.args.position) (ap (set.contains c.self.inside.edges) (sym c.argument_edge-edge.ensures) ∙ sym c.take.ensures.was ∙ c.if-take.false) ∙ sym (c.take.ensures.taken ∙ ap (set.remove c.self.inside.edges) c.argument_edge-edge.ensures))
    c.self.invariant

pub returns-then-take : goal.returns-then-take
returns-then-take c = rw (← c.self.view_is) (same_graph (fields_of c.self.inside) c.unsatisfy.new.nodes c.take.new.self _ c.unsatisfy.ensures.same c.unsatisfy.ensures.next (c.take.ensures.taken ∙ ap (set.remove c.self.inside.edges) c.argument_edge-edge.ensures))

pub returns-else-take : goal.returns-else-take
returns-else-take c =
    rw (← c.self.view_is)
    (ap (λ es. let g : Graph = record (graph_of (fields_of c.self.inside)) { edges = es } in g) (c.take.ensures.taken ∙ ap (set.remove c.self.inside.edges) c.argument_edge-edge.ensures))

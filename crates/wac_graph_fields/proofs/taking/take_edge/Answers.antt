use Rattle.std.proofs.Common.{ap, subst, sym, refl}
use Rattle.wac_edges.specs.declared.edges.Edge.{Edge}
use Rattle.wac_graph_fields.specs.private.Removing.{AreTied}
use Rattle.wac_graph_fields.proofs.TiedLemmas.{tied_but, tied_without, consumer_of}
use Rattle.wac_graph_fields.proofs.taking.take_edge.Goals as goal

pub unsatisfy-requires : goal.unsatisfy-requires
unsatisfy-requires c = consumer_of c.args.nodes.now c.args.edges.now c.requires.tied c.args.edge c.requires.stands c.in-Argument.position c.in-Argument.is

pub returns-in-Argument-clause-tied : goal.returns-in-Argument-clause-tied
returns-in-Argument-clause-tied c =
    subst (AreTied c.unsatisfy.new.nodes) (sym c.remove.ensures)
    (tied_without c.args.nodes.now c.unsatisfy.new.nodes c.args.edges.now c.requires.tied c.unsatisfy.ensures.same c.args.edge c.requires.stands c.in-Argument.position c.in-Argument.is c.unsatisfy.ensures.marks)

pub returns-in_default : goal.returns-in_default
returns-in_default c = record {
  edges = c.remove.ensures;
  same = λ q. refl;
  tied = subst (AreTied c.args.nodes.now) (sym c.remove.ensures)
      (tied_but c.args.nodes.now c.args.nodes.now c.args.edges.now c.requires.tied (λ q. refl) c.args.edge c.requires.stands (λ q i. refl)
      (λ s t i same. c.in_default.not-Argument i (sym (ap (λ (e : Edge). e.label) same))));
}

use Rattle.std.proofs.Common.{ap, sym, ◌∙◌}
use Rattle.wac_graph_reader.proofs.lemmas.writing.WantedLemmas.{none_role, node_role}
use Rattle.wac_graph_model.specs.causes.TypeFaults.{role_of_kind}
use Rattle.wac_graph_model.specs.nodes.Nodes.{kind_of}
use Rattle.wac_graph.specs.private.Inside.{fields_of}
use Rattle.wac_graph.proofs.graph.CompositionGraph.role_at.Goals as goal

pub returns-in-Some : goal.returns-in-Some
returns-in-Some c = rw (← c.self.view_is) (c.role.ensures ∙ ap (λ k. role_of_kind (kind_of k)) c.kind.ensures ∙ sym (node_role (fields_of c.self.inside) c.args.n c.in-Some.node.now (sym c.in-Some.ensures)))

pub returns-in-None : goal.returns-in-None
returns-in-None c = rw (← c.self.view_is) (sym (none_role (fields_of c.self.inside) c.args.n (sym c.in-None.ensures)))

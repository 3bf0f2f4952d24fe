use Rattle.std.proofs.Common.{◌≡◌, ◌∙◌, ap, sym}
use Rattle.wac_graph_model.specs.nodes.Nodes.{kind_of}
use Rattle.wac_graph_model.specs.nodes.Graph.{instantiation, imports_of}
use Rattle.wac_graph_fields.specs.private.Fields.{graph_of}
use Rattle.wac_graph_fields.proofs.ArgumentLemmas.{no_instantiation}
use Rattle.wac_graph_reader.proofs.lemmas.writing.EncodingLemmas.{some_and, of_if}
use Rattle.wac_graph.proofs.ListedLemmas.{nothing_there, not_imported, imports_are}
use Rattle.wac_graph.specs.private.Inside.{fields_of}
use Rattle.wac_graph.proofs.graph.CompositionGraph.imports_of_node.Goals as goal

pub returns-in_err-node : goal.returns-in_err-node
returns-in_err-node c = rw (c.from_residual.ensures, ← c.self.view_is) (sym (nothing_there (fields_of c.self.inside) c.args.id (sym c.in_err-node.ensures)))

pub returns-in_default : goal.returns-in_default
returns-in_default c = rw (← c.self.view_is) (sym (not_imported (fields_of c.self.inside) c.args.id c.in_ok-node.node.now (sym c.in_ok-node.ensures) (no_instantiation c.in_ok-node.node.now.kind (λ s is. c.in_default.not-Instantiation s (c.kind.ensures ∙ is)))))

pub imports_at-requires : goal.imports_at-requires
imports_at-requires c = rw (← c.self.view_is) (some_and (fields_of c.self.inside) c.args.id.0 c.in_ok-node.node.now (λ node. node.kind ≡ instantiation) (sym c.in_ok-node.ensures) (ap kind_of (sym c.kind.ensures ∙ c.in-Instantiation.is)))

pub returns : goal.returns
returns c =
    rw (← c.self.view_is)
    (imports_are (fields_of c.self.inside) c.args.id c.in_ok-node.node.now (sym c.in_ok-node.ensures) c.imports_at.result.now (ap kind_of (sym c.kind.ensures ∙ c.in-Instantiation.is))
    (of_if (fields_of c.self.inside) c.args.id.0 c.in_ok-node.node.now (λ x. c.imports_at.result.now ≡ imports_of (graph_of (fields_of c.self.inside)) x) (rw (← c.self.view_is) at c.imports_at.ensures) (sym c.in_ok-node.ensures)))

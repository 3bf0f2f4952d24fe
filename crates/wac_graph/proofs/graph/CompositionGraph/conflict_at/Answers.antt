use Rattle.std.proofs.Common.{◌≡◌, ◌∙◌, ap, sym}
use Rattle.wac_graph_model.specs.nodes.Nodes.{kind_of, node_of}
use Rattle.wac_graph_fields.specs.private.Fields.{graph_of}
use Rattle.wac_graph_model.specs.nodes.Graph.{instantiation, imports_of}
use Rattle.wac_graph_fields.proofs.ArgumentLemmas.{no_instantiation}
use Rattle.wac_graph_reader.proofs.lemmas.writing.EncodingLemmas.{some_and, of_if}
use Rattle.wac_graph_reader.proofs.lemmas.writing.ConflictLemmas.{no_node, other_kind, first_at, none_at}
use Rattle.wac_graph.specs.private.Inside.{fields_of}
use Rattle.wac_graph.proofs.graph.CompositionGraph.conflict_at.Goals as goal

pub returns-in_err-node-clause-none : goal.returns-in_err-node-clause-none
returns-in_err-node-clause-none c = rw (c.from_residual.ensures, ← c.self.view_is) (no_node (fields_of c.self.inside) c.args.n (sym c.in_err-node.ensures))

pub returns-in_default : goal.returns-in_default
returns-in_default c = record {
  some = tt;
  none = rw (← c.self.view_is) (other_kind (fields_of c.self.inside) c.self.invariant c.args.n c.in_ok-node.node.now (sym c.in_ok-node.ensures) (no_instantiation c.in_ok-node.node.now.kind (λ s is. c.in_default.not-Instantiation s (c.kind.ensures ∙ is))));
}

pub imports_at-requires : goal.imports_at-requires
imports_at-requires c = rw (← c.self.view_is) (some_and (fields_of c.self.inside) c.args.n c.in_ok-node.node.now (λ node. node.kind ≡ instantiation) (sym c.in_ok-node.ensures) (ap kind_of (sym c.kind.ensures ∙ c.in-Instantiation.is)))

imports_are : (c : goal.After-first_clash) → c.imports_at.result.now ≡ imports_of (graph_of (fields_of c.self.inside)) (node_of c.in_ok-node.node.now)
imports_are c = of_if (fields_of c.self.inside) c.args.n c.in_ok-node.node.now (λ x. c.imports_at.result.now ≡ imports_of (graph_of (fields_of c.self.inside)) x) (rw (← c.self.view_is) at c.imports_at.ensures) (sym c.in_ok-node.ensures)

pub returns-clause-some : goal.returns-clause-some
returns-clause-some c = rw (← c.self.view_is) (first_at (fields_of c.self.inside) c.self.invariant c.args.n c.in_ok-node.node.now (sym c.in_ok-node.ensures) c.in-Instantiation.satisfied (sym c.kind.ensures ∙ c.in-Instantiation.is) c.imports_at.result.now (imports_are c) c.first_clash.result c.first_clash.ensures.some c.first_clash.ensures.first)

pub returns-clause-none : goal.returns-clause-none
returns-clause-none c = rw (← c.self.view_is) (none_at (fields_of c.self.inside) c.self.invariant c.args.n c.in_ok-node.node.now (sym c.in_ok-node.ensures) c.in-Instantiation.satisfied (sym c.kind.ensures ∙ c.in-Instantiation.is) c.imports_at.result.now (imports_are c) c.first_clash.result c.first_clash.ensures.none)

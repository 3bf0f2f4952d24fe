use Rattle.std.proofs.Common.{◌∙◌, sym, Err}
use Rattle.wac_graph_model.proofs.lemmas.nodes.NodeLemmas.{there}
use Rattle.wac_graph_fields.proofs.ArgumentLemmas.{has_no_import, import_there, out_of_memory, passed_already, unsatisfied}
use Rattle.wac_graph.specs.private.Inside.{fields_of}
use Rattle.wac_edges.specs.declared.node.NodeId.{NodeId}
use Rattle.wac_graph_model.specs.declared.nodes.errors.InstantiationArgumentError.TheVariants.{OutOfMemory}
use Rattle.wac_graph_model.specs.nodes.Graph.{IsArgumentOf}
use Rattle.wac_graph_model.specs.nodes.Steps.{SetsArgument}
use Rattle.wac_graph_reader.proofs.lemmas.writing.CauseLemmas.{exit_cause}
use Rattle.wac_graph.proofs.graph.CompositionGraph.check_unset.Goals as goal

pub index-requires : goal.index-requires
index-requires c = there c.self.inside.nodes.slots c.args.instantiation.0 (rw (← c.self.view_is) at (import_there c.args.self.now c.args.instantiation c.args.name.now c.args.position c.requires.0 c.requires.1))

pub unreachable-requires : goal.unreachable-requires
unreachable-requires c = has_no_import (fields_of c.self.inside) c.args.instantiation c.index.result.now c.args.name.now c.args.position c.requires.0 c.index.ensures (rw (← c.self.view_is) at c.requires.1) (λ s is. c.in_default.not-Instantiation s (c.kind.ensures ∙ is))

pub returns-then-contains-clause-refused : goal.returns-then-contains-clause-refused
returns-then-contains-clause-refused c =
    rw (← c.self.view_is) (λ argument other. passed_already (fields_of c.self.inside) c.self.invariant c.args.instantiation c.index.result.now c.in-Instantiation.satisfied c.args.name.now c.args.position c.requires.0 c.index.ensures (sym c.kind.ensures ∙ c.in-Instantiation.is) (rw (← c.self.view_is) at c.requires.1) argument c.in_ok-name.name
    c.in_ok-name.ensures.ok other (sym c.if-contains.ensures))

pub returns-clause-unset : goal.returns-clause-unset
returns-clause-unset c =
    rw (← c.self.view_is) (unsatisfied (fields_of c.self.inside) c.self.invariant c.args.instantiation c.index.result.now c.in-Instantiation.satisfied c.args.name.now c.args.position c.requires.0 c.index.ensures (sym c.kind.ensures ∙ c.in-Instantiation.is) (rw (← c.self.view_is) at c.requires.1) (sym c.if-contains.ensures))

pub returns-in_err-name-clause-refused : goal.returns-in_err-name-clause-refused
returns-in_err-name-clause-refused c =
    exit_cause (λ e. (argument : NodeId) → (IsArgumentOf c.args.self.now c.args.instantiation c.args.position argument → ⊥) → SetsArgument c.args.self.now c.args.instantiation c.args.name.now argument (Err e) c.args.self.now) c.from_residual.result OutOfMemory c.from_residual.ensures.1
    (λ argument other. out_of_memory c.args.self.now c.args.instantiation argument c.args.name.now c.args.position c.requires.0 c.requires.1 other)

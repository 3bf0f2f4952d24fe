use Rattle.std.proofs.Common.{◌≡◌, ap, ◌∙◌, sym, Some, Err}
use Rattle.wac_types_collection.specs.collection.Collection.{item_at}
use Rattle.wac_graph_model.specs.nodes.Graph.{instantiation}
use Rattle.wac_graph_model.specs.nodes.Nodes.{kind_of}
use Rattle.wac_graph_model.specs.nodes.Steps.{SetsArgument, UnsetsArgument}
use Rattle.wac_edges.specs.declared.node.NodeId.{NodeId}
use Rattle.wac_graph_model.specs.declared.nodes.errors.InstantiationArgumentError.TheVariants.{OutOfMemory}
use Rattle.wac_graph_reader.proofs.lemmas.writing.CauseLemmas.{exit_cause}
use Rattle.wac_graph_model.proofs.lemmas.nodes.NodeLemmas.{there}
use Rattle.wac_graph_reader.proofs.lemmas.writing.EncodingLemmas.{some_and, of_if}
use Rattle.wac_graph_fields.proofs.ArgumentLemmas.{not_instantiation, not_instantiation_unset, world_there, invalid_name, invalid_name_unset, no_memory, no_memory_unset, import_held, has_import}
use Rattle.wac_graph.specs.private.Inside.{fields_of}
use Rattle.wac_graph.proofs.graph.CompositionGraph.import_of.Goals as goal

pub index-node-requires : goal.index-node-requires
index-node-requires c = there c.self.inside.nodes.slots c.args.instantiation.0 (rw (← c.self.view_is) at c.requires)

pub returns-in_default-clause-refused : goal.returns-in_default-clause-refused
returns-in_default-clause-refused c = λ argument. rw (← c.self.view_is) (not_instantiation (fields_of c.self.inside) c.args.instantiation argument c.index-node.result.now c.args.name.now c.index-node.ensures (λ s is. c.in_default.not-Instantiation s (c.kind.ensures ∙ is)))

pub package_of-requires : goal.package_of-requires
package_of-requires c = rw (← c.self.view_is) (some_and (fields_of c.self.inside) c.args.instantiation.0 c.index-node.result.now (λ node. node.kind ≡ instantiation) c.index-node.ensures (ap kind_of (sym c.kind.ensures ∙ c.in-Instantiation.is)))

pub index-world-requires : goal.index-world-requires
index-world-requires c = rw c.ty.ensures (world_there (fields_of c.self.inside) c.self.invariant c.args.instantiation c.index-node.result.now c.in-Instantiation.field-0 c.args.name.now c.index-node.ensures (sym c.kind.ensures ∙ c.in-Instantiation.is) c.package_of.result.0 c.package_of.result.1.now (of_if (fields_of c.self.inside) c.args.instantiation.0 c.index-node.result.now (λ node. node.owner ≡ Some c.package_of.result.0) (rw (← c.self.view_is) at c.package_of.ensures.owner) c.index-node.ensures) (sym (rw (← c.self.view_is) at c.package_of.ensures.registered)))

pub returns-in_default-get_full-clause-refused : goal.returns-in_default-get_full-clause-refused
returns-in_default-get_full-clause-refused c = λ argument. rw (← c.self.view_is) (invalid_name (fields_of c.self.inside) c.self.invariant c.args.instantiation c.index-node.result.now c.in-Instantiation.field-0 c.args.name.now c.index-node.ensures (sym c.kind.ensures ∙ c.in-Instantiation.is) c.package_of.result.0 c.package_of.result.1.now (of_if (fields_of c.self.inside) c.args.instantiation.0 c.index-node.result.now (λ node. node.owner ≡ Some c.package_of.result.0) (rw (← c.self.view_is) at c.package_of.ensures.owner) c.index-node.ensures) (sym (rw (← c.self.view_is) at c.package_of.ensures.registered)) c.index-world.result.now (ap (λ w. item_at (c.self.inside.types).worlds w.0) (sym c.ty.ensures) ∙ c.index-world.ensures) argument c.in_ok-name.name c.in_ok-package.«package» c.in_default-get_full.ensures c.in_ok-name.ensures.ok (c.in_ok-package.ensures.ok ∙ c.name.ensures))

pub returns-clause-found : goal.returns-clause-found
returns-clause-found c = rw (← c.self.view_is) (has_import (fields_of c.self.inside) c.self.invariant c.args.instantiation c.index-node.result.now c.in-Instantiation.field-0 c.args.name.now c.index-node.ensures (sym c.kind.ensures ∙ c.in-Instantiation.is) c.package_of.result.0 c.package_of.result.1.now (of_if (fields_of c.self.inside) c.args.instantiation.0 c.index-node.result.now (λ node. node.owner ≡ Some c.package_of.result.0) (rw (← c.self.view_is) at c.package_of.ensures.owner) c.index-node.ensures) (sym (rw (← c.self.view_is) at c.package_of.ensures.registered)) c.index-world.result.now (ap (λ w. item_at (c.self.inside.types).worlds w.0) (sym c.ty.ensures) ∙ c.index-world.ensures) c.in-Some.position c.in-Some.kind.now c.in-Some.ensures)

pub returns-clause-held : goal.returns-clause-held
returns-clause-held c = rw (← c.self.view_is) (import_held (fields_of c.self.inside) c.self.invariant c.args.instantiation c.index-node.result.now c.in-Instantiation.field-0 c.args.name.now c.index-node.ensures (sym c.kind.ensures ∙ c.in-Instantiation.is) c.package_of.result.0 c.package_of.result.1.now (of_if (fields_of c.self.inside) c.args.instantiation.0 c.index-node.result.now (λ node. node.owner ≡ Some c.package_of.result.0) (rw (← c.self.view_is) at c.package_of.ensures.owner) c.index-node.ensures) (sym (rw (← c.self.view_is) at c.package_of.ensures.registered)) c.index-world.result.now (ap (λ w. item_at (c.self.inside.types).worlds w.0) (sym c.ty.ensures) ∙ c.index-world.ensures) c.in-Some.position c.in-Some.kind.now c.in-Some.ensures c.law.ensures)

pub returns-in_default-clause-lacks : goal.returns-in_default-clause-lacks
returns-in_default-clause-lacks c = λ argument. rw (← c.self.view_is) (not_instantiation_unset (fields_of c.self.inside) c.args.instantiation argument c.index-node.result.now c.args.name.now c.index-node.ensures (λ s is. c.in_default.not-Instantiation s (c.kind.ensures ∙ is)))

pub returns-in_default-get_full-clause-lacks : goal.returns-in_default-get_full-clause-lacks
returns-in_default-get_full-clause-lacks c = λ argument. rw (← c.self.view_is) (invalid_name_unset (fields_of c.self.inside) c.self.invariant c.args.instantiation c.index-node.result.now c.in-Instantiation.field-0 c.args.name.now c.index-node.ensures (sym c.kind.ensures ∙ c.in-Instantiation.is) c.package_of.result.0 c.package_of.result.1.now (of_if (fields_of c.self.inside) c.args.instantiation.0 c.index-node.result.now (λ node. node.owner ≡ Some c.package_of.result.0) (rw (← c.self.view_is) at c.package_of.ensures.owner) c.index-node.ensures) (sym (rw (← c.self.view_is) at c.package_of.ensures.registered)) c.index-world.result.now (ap (λ w. item_at (c.self.inside.types).worlds w.0) (sym c.ty.ensures) ∙ c.index-world.ensures) argument c.in_ok-name.name c.in_ok-package.«package» c.in_default-get_full.ensures c.in_ok-name.ensures.ok (c.in_ok-package.ensures.ok ∙ c.name.ensures))

pub returns-in_err-name-clause-lacks : goal.returns-in_err-name-clause-lacks
returns-in_err-name-clause-lacks c = exit_cause (λ e. (argument : NodeId) → UnsetsArgument c.args.self.now c.args.instantiation c.args.name.now argument (Err e) c.args.self.now) c.from_residual.result OutOfMemory c.from_residual.ensures.1
    (λ argument. rw (← c.self.view_is) (no_memory_unset (fields_of c.self.inside) c.self.invariant c.args.instantiation c.index-node.result.now c.in-Instantiation.field-0 c.args.name.now c.index-node.ensures (sym c.kind.ensures ∙ c.in-Instantiation.is) c.package_of.result.0 c.package_of.result.1.now (of_if (fields_of c.self.inside) c.args.instantiation.0 c.index-node.result.now (λ node. node.owner ≡ Some c.package_of.result.0) (rw (← c.self.view_is) at c.package_of.ensures.owner) c.index-node.ensures) (sym (rw (← c.self.view_is) at c.package_of.ensures.registered)) c.index-world.result.now (ap (λ w. item_at (c.self.inside.types).worlds w.0) (sym c.ty.ensures) ∙ c.index-world.ensures) argument c.in_default-get_full.ensures))

pub returns-in_err-package-clause-lacks : goal.returns-in_err-package-clause-lacks
returns-in_err-package-clause-lacks c = exit_cause (λ e. (argument : NodeId) → UnsetsArgument c.args.self.now c.args.instantiation c.args.name.now argument (Err e) c.args.self.now) c.from_residual-in_err-package.result OutOfMemory c.from_residual-in_err-package.ensures.1
    (λ argument. rw (← c.self.view_is) (no_memory_unset (fields_of c.self.inside) c.self.invariant c.args.instantiation c.index-node.result.now c.in-Instantiation.field-0 c.args.name.now c.index-node.ensures (sym c.kind.ensures ∙ c.in-Instantiation.is) c.package_of.result.0 c.package_of.result.1.now (of_if (fields_of c.self.inside) c.args.instantiation.0 c.index-node.result.now (λ node. node.owner ≡ Some c.package_of.result.0) (rw (← c.self.view_is) at c.package_of.ensures.owner) c.index-node.ensures) (sym (rw (← c.self.view_is) at c.package_of.ensures.registered)) c.index-world.result.now (ap (λ w. item_at (c.self.inside.types).worlds w.0) (sym c.ty.ensures) ∙ c.index-world.ensures) argument c.in_default-get_full.ensures))

pub returns-in_err-name-clause-refused : goal.returns-in_err-name-clause-refused
returns-in_err-name-clause-refused c = exit_cause (λ e. (argument : NodeId) → SetsArgument c.args.self.now c.args.instantiation c.args.name.now argument (Err e) c.args.self.now) c.from_residual.result OutOfMemory c.from_residual.ensures.1
    (λ argument. rw (← c.self.view_is) (no_memory (fields_of c.self.inside) c.self.invariant c.args.instantiation c.index-node.result.now c.in-Instantiation.field-0 c.args.name.now c.index-node.ensures (sym c.kind.ensures ∙ c.in-Instantiation.is) c.package_of.result.0 c.package_of.result.1.now (of_if (fields_of c.self.inside) c.args.instantiation.0 c.index-node.result.now (λ node. node.owner ≡ Some c.package_of.result.0) (rw (← c.self.view_is) at c.package_of.ensures.owner) c.index-node.ensures) (sym (rw (← c.self.view_is) at c.package_of.ensures.registered)) c.index-world.result.now (ap (λ w. item_at (c.self.inside.types).worlds w.0) (sym c.ty.ensures) ∙ c.index-world.ensures) argument c.in_default-get_full.ensures))

pub returns-in_err-package-clause-refused : goal.returns-in_err-package-clause-refused
returns-in_err-package-clause-refused c = exit_cause (λ e. (argument : NodeId) → SetsArgument c.args.self.now c.args.instantiation c.args.name.now argument (Err e) c.args.self.now) c.from_residual-in_err-package.result OutOfMemory c.from_residual-in_err-package.ensures.1
    (λ argument. rw (← c.self.view_is) (no_memory (fields_of c.self.inside) c.self.invariant c.args.instantiation c.index-node.result.now c.in-Instantiation.field-0 c.args.name.now c.index-node.ensures (sym c.kind.ensures ∙ c.in-Instantiation.is) c.package_of.result.0 c.package_of.result.1.now (of_if (fields_of c.self.inside) c.args.instantiation.0 c.index-node.result.now (λ node. node.owner ≡ Some c.package_of.result.0) (rw (← c.self.view_is) at c.package_of.ensures.owner) c.index-node.ensures) (sym (rw (← c.self.view_is) at c.package_of.ensures.registered)) c.index-world.result.now (ap (λ w. item_at (c.self.inside.types).worlds w.0) (sym c.ty.ensures) ∙ c.index-world.ensures) argument c.in_default-get_full.ensures))

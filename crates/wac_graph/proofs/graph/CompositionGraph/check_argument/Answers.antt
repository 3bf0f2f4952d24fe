use Rattle.std.proofs.Common.{refl, subst, sym, ◌∙◌, Err}
use Rattle.wac_types_shapes.specs.declared.shapes.component.ItemKind.{ItemKind}
use Rattle.wac_types_collection.specs.subtyping.Subtype.{IsSubtype}
use Rattle.wac_graph_model.proofs.lemmas.nodes.NodeLemmas.{there}
use Rattle.wac_graph_fields.proofs.ArgumentLemmas.{held_node, mismatch, fits, out_of_memory}
use Rattle.wac_graph.specs.private.Inside.{fields_of}
use Rattle.wac_graph_model.specs.declared.nodes.errors.InstantiationArgumentError.TheVariants.{OutOfMemory}
use Rattle.wac_graph_model.specs.nodes.Steps.{SetsArgument}
use Rattle.wac_graph_reader.proofs.lemmas.writing.CauseLemmas.{exit_cause}
use Rattle.wac_graph.proofs.graph.CompositionGraph.check_argument.Goals as goal

pub index-requires : goal.index-requires
index-requires c = there c.self.inside.nodes.slots c.args.argument.0 (rw (← c.self.view_is) at c.requires.argument)

pub is_subtype-requires-clause-first : goal.is_subtype-requires-clause-first
is_subtype-requires-clause-first c = rw c.item_kind-given.ensures (held_node (fields_of c.self.inside) c.self.invariant c.args.argument c.index.result.now c.index.ensures)

pub returns-in-Ok-clause-fits : goal.returns-in-Ok-clause-fits
returns-in-Ok-clause-fits c =
    rw (← c.self.view_is) (fits (fields_of c.self.inside) c.args.instantiation c.args.name.now c.args.position c.args.kind (rw (← c.self.view_is) at c.requires.import) (rw (← c.self.view_is) at c.in_ok-check_unset.ensures.unset) c.args.argument c.index.result.now c.index.ensures (rw c.item_kind-given.ensures at c.in-Ok.ensures.subtype))

pub returns-in_ok-name-in-Err-Mismatch-clause-refused : goal.returns-in_ok-name-in-Err-Mismatch-clause-refused
returns-in_ok-name-in-Err-Mismatch-clause-refused c =
    rw (← c.self.view_is) (mismatch (fields_of c.self.inside) c.args.instantiation c.args.name.now c.args.position c.args.kind (rw (← c.self.view_is) at c.requires.import) (rw (← c.self.view_is) at c.in_ok-check_unset.ensures.unset) c.args.argument c.index.result.now c.in_ok-name-in-Err-Mismatch.name
    c.in_ok-name-in-Err-Mismatch.ensures.ok c.index.ensures ((rw (c.in-Err-Mismatch.field-0-is, c.item_kind-given.ensures) at c.in-Err-Mismatch.ensures.mismatch) refl))

pub returns-then-is_same-clause-fits : goal.returns-then-is_same-clause-fits
returns-then-is_same-clause-fits c =
    rw (← c.self.view_is) (fits (fields_of c.self.inside) c.args.instantiation c.args.name.now c.args.position c.args.kind (rw (← c.self.view_is) at c.requires.import) (rw (← c.self.view_is) at c.in_ok-check_unset.ensures.unset) c.args.argument c.index.result.now c.index.ensures
    (subst (λ (k : ItemKind). IsSubtype c.self.inside.types k c.self.inside.types c.args.kind) (sym (sym c.item_kind-given.ensures ∙ c.is_same.ensures c.if-is_same.true)) c.subtyping_is_reflexive.ensures))

pub returns-in-Err-OutOfMemory-clause-refused : goal.returns-in-Err-OutOfMemory-clause-refused
returns-in-Err-OutOfMemory-clause-refused c = out_of_memory c.args.self.now c.args.instantiation c.args.argument c.args.name.now c.args.position c.args.kind c.requires.import c.requires.other

pub returns-in_err-name-in-Err-Mismatch-clause-refused : goal.returns-in_err-name-in-Err-Mismatch-clause-refused
returns-in_err-name-in-Err-Mismatch-clause-refused c =
    exit_cause (λ e. SetsArgument c.args.self.now c.args.instantiation c.args.name.now c.args.argument (Err e) c.args.self.now) c.from_residual-in_err-name-in-Err-Mismatch.result OutOfMemory c.from_residual-in_err-name-in-Err-Mismatch.ensures.1
    (out_of_memory c.args.self.now c.args.instantiation c.args.argument c.args.name.now c.args.position c.args.kind c.requires.import c.requires.other)

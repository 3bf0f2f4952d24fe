use Rattle.std.proofs.Common.{◌≡◌, arith, subst, sym, ◌∙◌, Ok}
use Rattle.std.specs.String.{string_eq}
use Rattle.indexmap.specs.IndexMap.{insert_entry}
use Rattle.slab.specs.Slab.{get}
use Rattle.wac_graph_model.specs.nodes.Steps.{Exports}
use Rattle.wac_graph_model.proofs.lemmas.nodes.NodeLemmas.{lookup_text, there}
use Rattle.wac_graph_fields.proofs.InvariantLemmas.{invariant_more, invariant_exports}
use Rattle.wac_graph_fields.proofs.ExportLemmas.{exported, invariant_exported, read_name}
use Rattle.wac_graph_fields.specs.private.Fields.{Invariant}
use Rattle.wac_graph.specs.private.Inside.{fields_of}
use Rattle.wac_graph.proofs.CheckedLemmas.{handed_on}
use Rattle.wac_graph.proofs.DefiningLemmas.{of_ok}
use Rattle.wac_graph_model.proofs.lemmas.nodes.ValidLemmas.{valid_exported}
use Rattle.wac_graph.proofs.graph.CompositionGraph.export.Goals as goal

pub set_export_name-requires : goal.set_export_name-requires
set_export_name-requires c = there c.self.inside.nodes.slots c.args.node.0 (rw (← c.self.view_is) at c.requires)

pub index-requires : goal.index-requires
index-requires c = there c.self.inside.nodes.slots c.args.node.0 (rw (← c.self.view_is) at c.requires)

pub invariant_of-self : goal.invariant_of-self
invariant_of-self c = invariant_more (fields_of c.self.inside) c.self.invariant c.prepare.new.self c.prepare.ensures.kept

pub invariant_of-self-in_err-reserve : goal.invariant_of-self-in_err-reserve
invariant_of-self-in_err-reserve c = invariant_exports (record (fields_of c.self.inside) { lost = c.prepare.new.self }) (invariant_more (fields_of c.self.inside) c.self.invariant c.prepare.new.self c.prepare.ensures.kept) c.reserve.new.self c.reserve.ensures.entries

pub invariant_of-self-in_err-set_export_name : goal.invariant_of-self-in_err-set_export_name
invariant_of-self-in_err-set_export_name c =
    subst (λ ns. Invariant (record (fields_of c.self.inside) { nodes = ns; exports = c.reserve.new.self; lost = c.prepare.new.self })) (sym c.in_err-set_export_name.ensures.kept)
    (invariant_exports (record (fields_of c.self.inside) { lost = c.prepare.new.self }) (invariant_more (fields_of c.self.inside) c.self.invariant c.prepare.new.self c.prepare.ensures.kept) c.reserve.new.self c.in_ok-reserve.ensures.entries)

pub invariant_of-self-2 : goal.invariant_of-self-2
invariant_of-self-2 c =
    invariant_exported (record (fields_of c.self.inside) { lost = c.prepare.new.self }) (invariant_more (fields_of c.self.inside) c.self.invariant c.prepare.new.self c.prepare.ensures.kept) c.args.node c.args.name.now c.in_ok-key.key c.set_export_name.new.nodes c.insert.new.self
    c.in_ok-key.ensures.ok (sym (lookup_text c.self.inside.exports.entries c.args.name.now) ∙ (rw (← c.self.view_is) at c.in_ok-check_export.ensures.free))
    (subst (λ es. c.insert.new.self.entries ≡ insert_entry string_eq es c.in_ok-key.key c.args.node) c.in_ok-reserve.ensures.entries (of_ok c.insert.result (c.insert.ensures.succeeds (let room = c.in_ok-reserve.ensures.ok in omega (arith, room))) c.insert.ensures.entries))
    (there c.self.inside.nodes.slots c.args.node.0 (rw (← c.self.view_is) at c.requires)) c.in_ok-set_export_name.ensures.named
    (λ n had named. c.in_ok-prepare.ensures.marked (c.is_some-is_named.ensures ∙ read_name (get c.self.inside.nodes c.args.node.0) n c.index.result.now c.export_name.result c.index.ensures had c.export_name.ensures named))

pub returns-clause-step : goal.returns-clause-step
returns-clause-step c =
    rw (← c.self.view_is)
    (exported (fields_of c.self.inside) c.args.node c.args.name.now c.in_ok-key.key c.set_export_name.new.nodes c.insert.new.self
    c.in_ok-key.ensures.ok (sym (lookup_text c.self.inside.exports.entries c.args.name.now) ∙ (rw (← c.self.view_is) at c.in_ok-check_export.ensures.free))
    (subst (λ es. c.insert.new.self.entries ≡ insert_entry string_eq es c.in_ok-key.key c.args.node) c.in_ok-reserve.ensures.entries (of_ok c.insert.result (c.insert.ensures.succeeds (let room = c.in_ok-reserve.ensures.ok in omega (arith, room))) c.insert.ensures.entries))
    (there c.self.inside.nodes.slots c.args.node.0 (rw (← c.self.view_is) at c.requires)) c.in_ok-set_export_name.ensures.named c.in_ok-check_export.ensures.valid)

pub returns-in_err-check_export-clause-step : goal.returns-in_err-check_export-clause-step
returns-in_err-check_export-clause-step c = handed_on (λ r. Exports c.args.self.now c.args.node c.args.name.now r c.args.self.now) c.from_residual.result (c.in_err-check_export.field-0).0 c.from_residual.ensures.1 (c.in_err-check_export.ensures.refused c.args.node)

pub returns-clause-valid : goal.returns-clause-valid
returns-clause-valid c = valid_exported c.args.self.now _ c.args.node c.args.name.now (Ok tt) c.requires (returns-clause-step c)

use Rattle.std.proofs.Common.{ap, ◌∙◌, Ok}
use Rattle.wac_graph_model.specs.nodes.Steps.{Imports}
use Rattle.wac_graph_fields.proofs.AliasLemmas.{before_reserve, vacant_before}
use Rattle.wac_graph_fields.proofs.ImportLemmas.{import_bare, import_is_there, import_shape, imported, invariant_imported}
use Rattle.wac_graph.specs.private.Inside.{fields_of}
use Rattle.wac_graph.proofs.CheckedLemmas.{absent, handed_on}
use Rattle.wac_graph_model.proofs.lemmas.nodes.ValidLemmas.{valid_imported}
use Rattle.wac_graph.proofs.graph.CompositionGraph.import.Goals as goal

pub invariant_of-self-2 : goal.invariant_of-self-2
invariant_of-self-2 c =
    invariant_imported (fields_of c.self.inside) c.self.invariant c.args.name.now c.args.kind c.in_ok-key.key c.new_node.result c.vacant_key-number.result c.insert_reserved.new.self c.insert.new.self c.in_ok-key.ensures.ok (import_shape c.new_node.result c.in_ok-own.own c.args.name.now c.args.kind c.new_node.ensures.node c.in_ok-own.ensures.ok) (absent (fields_of c.self.inside) c.self.invariant c.args.name.now (rw (← c.self.view_is) at c.in_ok-check_import.ensures.free))
    (vacant_before (fields_of c.self.inside) c.reserve.new.self c.vacant_key-number.result c.in_ok-reserve.ensures.rest_kept c.vacant_key-number.ensures.vacant)
    (before_reserve (fields_of c.self.inside) c.reserve.new.self c.insert_reserved.new.self c.vacant_key-number.result c.insert_reserved.result _ c.in_ok-reserve.ensures.rest_kept c.vacant_key-number.ensures.value c.insert_reserved.ensures.key c.insert_reserved.ensures.updates)
    (import_bare c.new_node.result c.in_ok-own.own c.new_node.ensures.kind) (rw (← c.self.view_is) at c.requires) c.in_ok-insert.ensures.entries

pub returns-clause-step : goal.returns-clause-step
returns-clause-step c =
    rw (← c.self.view_is)
    (imported (fields_of c.self.inside) c.self.invariant c.args.name.now c.args.kind c.in_ok-key.key c.new_node.result c.vacant_key-number.result c.insert_reserved.new.self c.insert.new.self c.in_ok-key.ensures.ok (import_shape c.new_node.result c.in_ok-own.own c.args.name.now c.args.kind c.new_node.ensures.node c.in_ok-own.ensures.ok) (absent (fields_of c.self.inside) c.self.invariant c.args.name.now (rw (← c.self.view_is) at c.in_ok-check_import.ensures.free))
    (vacant_before (fields_of c.self.inside) c.reserve.new.self c.vacant_key-number.result c.in_ok-reserve.ensures.rest_kept c.vacant_key-number.ensures.vacant)
    (before_reserve (fields_of c.self.inside) c.reserve.new.self c.insert_reserved.new.self c.vacant_key-number.result c.insert_reserved.result _ c.in_ok-reserve.ensures.rest_kept c.vacant_key-number.ensures.value c.insert_reserved.ensures.key c.insert_reserved.ensures.updates)
    (c.vacant_key-number.ensures.value ∙ ap (λ s. s.vacant_key) c.in_ok-reserve.ensures.rest_kept)
    c.in_ok-check_import.ensures.valid)

pub returns-clause-there : goal.returns-clause-there
returns-clause-there c =
    import_is_there (fields_of c.self.inside) c.self.invariant c.args.name.now c.args.kind c.in_ok-key.key c.new_node.result c.vacant_key-number.result c.insert_reserved.new.self c.insert.new.self c.in_ok-key.ensures.ok (import_shape c.new_node.result c.in_ok-own.own c.args.name.now c.args.kind c.new_node.ensures.node c.in_ok-own.ensures.ok) (absent (fields_of c.self.inside) c.self.invariant c.args.name.now (rw (← c.self.view_is) at c.in_ok-check_import.ensures.free))
    (vacant_before (fields_of c.self.inside) c.reserve.new.self c.vacant_key-number.result c.in_ok-reserve.ensures.rest_kept c.vacant_key-number.ensures.vacant)
    (before_reserve (fields_of c.self.inside) c.reserve.new.self c.insert_reserved.new.self c.vacant_key-number.result c.insert_reserved.result _ c.in_ok-reserve.ensures.rest_kept c.vacant_key-number.ensures.value c.insert_reserved.ensures.key c.insert_reserved.ensures.updates)

pub returns-in_err-check_import-clause-step : goal.returns-in_err-check_import-clause-step
returns-in_err-check_import-clause-step c = handed_on (λ r. Imports c.args.self.now c.args.name.now c.args.kind r c.args.self.now) c.from_residual.result (c.in_err-check_import.field-0).0 c.from_residual.ensures.1 (c.in_err-check_import.ensures.refused c.args.kind)

pub returns-clause-valid : goal.returns-clause-valid
returns-clause-valid c = valid_imported c.args.self.now _ c.args.name.now c.args.kind (Ok (record { 0 = c.vacant_key-number.result })) (returns-clause-step c)

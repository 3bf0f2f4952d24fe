use Rattle.std.proofs.Common.{◌+◌, ◌++◌, refl, ◌∙◌, ap, sym, arith}
use Rattle.std.specs.List.{flat_map, sum_by}
use Rattle.std.proofs.lemmas.List.{append-nil}
use Rattle.wac_graph_model.specs.private.meaning.Encoding.{index_in}
use Rattle.wac_graph_model.specs.meaning.Means.{export_item_of, sort_of_kind}
use Rattle.wac_graph_reader.proofs.lemmas.writing.FurtherRows.{further_number, further_written}
use Rattle.wac_binary.specs.Items.{export_item}
use Rattle.wac_graph_model.specs.private.weight.Costs.{export_cost}
use Rattle.wac_graph_reader.specs.private.writing.Further.{further_at}
use Rattle.wac_graph_reader.proofs.lemmas.writing.ItemSizes.{added_size, export_size, exit_added, further_cost}
use Rattle.wac_graph_reader.specs.private.reading.Inside.{fields_of}
use Rattle.wac_graph_reader.proofs.reading.reader.GraphReader.write_export.Goals as goal

pub returns-in_default-clause-written : goal.returns-in_default-clause-written
returns-in_default-clause-written c = sym (ap (λ xs. c.args.component.now ++ flat_map (export_item_of c.args.self.now (index_in c.args.indexes.now)) xs) c.in_default.ensures ∙ append-nil _)

pub index-requires : goal.index-requires
index-requires c = further_number (fields_of c.self.inside) c.self.invariant c.args.self.now c.self.view_is c.args.i (c.in-Some.name.now, c.in-Some.id) c.in-Some.ensures

pub returns-clause-written : goal.returns-clause-written
returns-clause-written c =
    further_written (fields_of c.self.inside) c.self.invariant c.args.self.now c.self.view_is (index_in c.args.indexes.now) c.args.i (c.in-Some.name.now, c.in-Some.id) c.index.result.now c.sort_of-sort.result _ c.args.component.now c.export.new.self
    c.in-Some.ensures c.index.ensures (c.sort_of-sort.ensures ∙ ap sort_of_kind c.item_kind.ensures)
    refl
    c.in_ok-export.ensures.appended

pub returns-in_default-clause-cost : goal.returns-in_default-clause-cost
returns-in_default-clause-cost c = omega arith

pub returns-clause-cost : goal.returns-clause-cost
returns-clause-cost c =
    let k = index_in c.args.indexes.now c.in-Some.id in
    let x = export_item c.in-Some.name.now c.sort_of-sort.result k in
    let size = export_size c.in-Some.name.now c.sort_of-sort.result k c.index_law.ensures in
    let cost = further_cost c.args.self.now c.args.i c.in-Some.name.now c.in-Some.id c.in-Some.ensures in
    added_size c.args.component.now c.export.new.self x (sum_by export_cost (further_at c.args.self.now c.args.i)) c.in_ok-export.ensures.appended (omega (arith, size, cost))

pub returns-in_err-export-clause-cost : goal.returns-in_err-export-clause-cost
returns-in_err-export-clause-cost c =
    let k = index_in c.args.indexes.now c.in-Some.id in
    let x = export_item c.in-Some.name.now c.sort_of-sort.result k in
    let size = export_size c.in-Some.name.now c.sort_of-sort.result k c.index_law.ensures in
    let cost = further_cost c.args.self.now c.args.i c.in-Some.name.now c.in-Some.id c.in-Some.ensures in
    exit_added c.size_law.ensures.fits c.args.component.now c.args.component.now c.export.new.self x (sum_by export_cost (further_at c.args.self.now c.args.i)) (c.in_err-export.field-0).0 c.from_residual.result c.from_residual.ensures.1 refl (omega (arith, size, cost)) c.in_err-export.ensures.too_large

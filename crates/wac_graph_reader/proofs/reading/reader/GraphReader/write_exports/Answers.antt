use Rattle.std.proofs.Common.{◌<◌, ◌≤◌, ◌+◌, ◌++◌, length, ◌∙◌, ap, sym, arith}
use Rattle.std.specs.List.{flat_map, sum_by}
use Rattle.std.proofs.lemmas.List.{append-nil}
use Rattle.wac_graph_model.specs.private.meaning.Encoding.{index_in}
use Rattle.wac_graph_model.specs.meaning.Means.{export_item_of, further_exports}
use Rattle.wac_graph_model.specs.private.weight.Costs.{export_cost}
use Rattle.wac_graph_reader.proofs.lemmas.writing.FurtherRows.{exports_length, items_next, further_all, further_next}
use Rattle.wac_graph_reader.proofs.lemmas.writing.ItemSizes.{exit_within, further_less, further_sum}
use Rattle.wac_graph_reader.specs.private.reading.Inside.{fields_of}
use Rattle.wac_graph_reader.proofs.reading.reader.GraphReader.write_exports.Goals as goal

pub loop-i-init : goal.loop-i-init
loop-i-init c = (sym (append-nil _), omega arith)

pub loop-i-preserved : goal.loop-i-preserved
loop-i-preserved c =
    let small : c.loop-i.i < length c.args.self.now.exports = omega (arith, c.loop-i-test.true, c.len-i-end.ensures.len, exports_length (fields_of c.self.inside) c.args.self.now c.self.view_is) in
    let more = further_sum c.args.self.now c.loop-i.i (further_next c.args.self.now c.loop-i.i small) in (
      items_next c.args.self.now (export_item_of c.args.self.now (index_in c.args.indexes.now)) c.loop-i.i small c.args.component.now c.loop-i.component c.write_export.new.component c.loop-i.invariant.0 c.in_ok-write_export.ensures.written,
      omega (arith, c.loop-i.invariant.1, c.in_ok-write_export.ensures.cost, more),
    )

pub returns-clause-written : goal.returns-clause-written
returns-clause-written c =
    let past : length c.args.self.now.exports ≤ c.loop-i.i = omega (arith, c.loop-i-test.false, c.len-i-end.ensures.len, exports_length (fields_of c.self.inside) c.args.self.now c.self.view_is) in
    c.loop-i.invariant.0 ∙ ap (λ es. c.args.component.now ++ flat_map (export_item_of c.args.self.now (index_in c.args.indexes.now)) es) (further_all c.args.self.now c.loop-i.i past)

pub returns-clause-cost : goal.returns-clause-cost
returns-clause-cost c = let less = further_less c.args.self.now c.loop-i.i in omega (arith, c.loop-i.invariant.1, less)

pub returns-in_err-write_export-clause-cost : goal.returns-in_err-write_export-clause-cost
returns-in_err-write_export-clause-cost c =
    let small : c.loop-i.i < length c.args.self.now.exports = omega (arith, c.loop-i-test.true, c.len-i-end.ensures.len, exports_length (fields_of c.self.inside) c.args.self.now c.self.view_is) in
    let more = further_sum c.args.self.now c.loop-i.i (further_next c.args.self.now c.loop-i.i small) in
    let less = further_less c.args.self.now (c.loop-i.i + 1) in
    exit_within (sum_by export_cost (further_exports c.args.self.now)) c.args.component.now c.write_export.new.component c.from_residual.result (c.in_err-write_export.field-0).0 c.from_residual.ensures.1
    (λ large. omega (arith, c.loop-i.invariant.1, c.in_err-write_export.ensures.cost large, more, less))

use Rattle.std.proofs.Common.{◌≡◌, ◌≤◌, ◌+◌, ◌++◌, take}
use Rattle.std.specs.List.{flat_map, sum_by}
use Rattle.wac_graph_model.specs.meaning.Means.{export_item_of}
use Rattle.wac_graph_model.specs.private.meaning.Encoding.{index_in}
use Rattle.wac_graph_model.specs.private.weight.Costs.{export_cost}
use Rattle.wac_graph_reader.specs.private.writing.Further.{further_of}
use Rattle.wac_graph_reader.specs.private.writing.Sizes.{items_size}
use Rattle.wac_graph_reader.proofs.reading.reader.GraphReader.write_exports.Given as goal

abbrev pub invariant-loop-i : goal.invariant-loop-i
invariant-loop-i l = (l.component ≡ l.initial.component ++ flat_map (export_item_of l.self (index_in l.indexes)) (further_of l.self (take l.i l.self.exports)))
    × (items_size l.component ≤ items_size l.initial.component + sum_by export_cost (further_of l.self (take l.i l.self.exports)))

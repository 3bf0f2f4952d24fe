use Rattle.std.proofs.Common.{◌≡◌, ◌≤◌, ◌+◌, false, length, take}
use Rattle.std.specs.List.{sum_by}
use Rattle.wac_encode_scopes.specs.private.Paid.{total}
use Rattle.wac_graph_model.specs.declared.nodes.options.EncodeOptions.{EncodeOptions}
use Rattle.wac_graph_model.specs.private.weight.Written.{item_cost, components_cost}
use Rattle.wac_graph_encode.proofs.lemmas.encoding.LoopLemmas.{AreWritten}
use Rattle.wac_graph_encode.proofs.encoding.writer.GraphWriter.write_nodes.Given as goal

abbrev pub invariant-loop-n : goal.invariant-loop-n
invariant-loop-n l = AreWritten l.self l.encoder l.order l.n-index × (length l.encoder.indexes.items ≡ length l.fn.encoder.indexes.items)
    × ((o : EncodeOptions) → o.define_components ≡ l.self.define_components → total l.self.reader.now.types false l.encoder.state + components_cost l.self.reader.now o l.fn.encoder.components ≤ total l.self.reader.now.types false l.fn.encoder.state + sum_by (item_cost l.self.reader.now o) (take l.n-index l.order) + components_cost l.self.reader.now o l.encoder.components)

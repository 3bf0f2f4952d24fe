use Rattle.std.proofs.Common.{take}
use Rattle.wac_binary.specs.Views.{arguments_of}
use Rattle.wac_graph_model.specs.private.meaning.Encoding.{index_in}
use Rattle.wac_graph_model.specs.private.meaning.Writing.{AreArgumentItems}
use Rattle.wac_graph_encode.specs.private.encoding.Costs.{AreShortArguments}
use Rattle.wac_graph_encode.proofs.encoding.writer.arguments.Given as goal

abbrev pub invariant-loop-i : goal.invariant-loop-i
invariant-loop-i l = AreArgumentItems l.reader l.fn.imports.places.items (index_in l.indexes) l.fn.n 0 (take l.i l.names) (arguments_of l.arguments.items) × AreShortArguments (arguments_of l.arguments.items)

use Rattle.std.proofs.Common.{◌≡◌, take}
use Rattle.wac_graph_model.specs.meaning.Means.{used_packages}
use Rattle.wac_graph_reader.proofs.reading.reader.GraphReader.used_packages.Given as goal

abbrev pub invariant-loop-n : goal.invariant-loop-n
invariant-loop-n l = l.used.keys ≡ used_packages l.self (take l.n-index l.order)

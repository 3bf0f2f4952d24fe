use Rattle.std.proofs.Common.{◌≡◌, length}
use Rattle.wac_graph_encode.proofs.lemmas.places.FoundLemmas.{AreFoundBelow}
use Rattle.wac_graph_encode.proofs.places.indexes.import_indexes.Given as goal

abbrev pub invariant-loop-n : goal.invariant-loop-n
invariant-loop-n l = (length l.indexes.items ≡ l.n) × AreFoundBelow l.reader l.imports l.n l.indexes.items

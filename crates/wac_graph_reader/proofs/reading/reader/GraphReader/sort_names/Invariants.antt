use Rattle.std.proofs.Common.{◌≡◌, map}
use Rattle.std.specs.Map.Iter.{deref_pair}
use Rattle.wac_binary.specs.Views.{names_of}
use Rattle.wac_graph_reader.specs.private.writing.Sizes.{AreShortNames}
use Rattle.wac_graph_reader.proofs.lemmas.writing.NamingLemmas.{with_names}
use Rattle.wac_graph_reader.proofs.reading.reader.GraphReader.sort_names.Given as goal

abbrev pub invariant-loop-index : goal.invariant-loop-index
invariant-loop-index l = (names_of l.names.items ≡ with_names l.self l.sort (map deref_pair l.yielded)) × AreShortNames (names_of l.names.items)

use Rattle.std.proofs.Common.{◌≡◌, map, string_bytes, take}
use Rattle.wac_graph_reader.specs.private.reading.PackageNames.{packages_names}
use Rattle.wac_graph_reader.proofs.reading.reader.GraphReader.names_of.Given as goal

abbrev pub invariant-loop-id : goal.invariant-loop-id
invariant-loop-id l = map string_bytes l.names.items ≡ packages_names l.self (take l.id-index l.ids)

use Rattle.std.proofs.Common.{◌≡◌, drop}
use Rattle.std.specs.Map.{lookup}
use Rattle.wac_graph_model.specs.meaning.Means.{same_package}
use Rattle.wac_graph_reader.proofs.reading.components.find.Given as goal

abbrev pub invariant-loop-found : goal.invariant-loop-found
invariant-loop-found l = lookup (same_package l.id) l.entries ≡ lookup (same_package l.id) (drop l.found-index l.entries)

use Rattle.std.proofs.Common.{◌≡◌, take}
use Rattle.std.specs.List.{flat_map}
use Rattle.wac_graph_model.specs.causes.OuterNames.{first_name_of}
use Rattle.wac_names.specs.private.validation.Views.{texts}
use Rattle.wac_graph_reader.proofs.reading.reader.GraphReader.first_names.Given as goal

abbrev pub invariant-loop-n : goal.invariant-loop-n
invariant-loop-n l = texts l.names.items ≡ flat_map (first_name_of l.self) (take l.n-index l.order)

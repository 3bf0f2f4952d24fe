use Rattle.std.proofs.Common.{◌≡◌, ◌++◌, map, take}
use Rattle.std.specs.List.{flat_map}
use Rattle.wac_graph_model.specs.causes.OuterNames.{first_name_of}
use Rattle.wac_names.specs.private.validation.Views.{texts}
use Rattle.wac_graph_reader.specs.private.writing.Further.{further_of}
use Rattle.wac_graph_reader.proofs.reading.reader.GraphReader.export_names.Given as goal

abbrev pub invariant-loop-i : goal.invariant-loop-i
invariant-loop-i l = texts l.names.items ≡ flat_map (first_name_of l.self) l.order ++ map (λ e. e.0) (further_of l.self (take l.i l.self.exports))

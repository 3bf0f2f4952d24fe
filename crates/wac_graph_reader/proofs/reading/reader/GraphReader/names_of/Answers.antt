-- The names so far are those of the first packages.
use Rattle.std.proofs.Common.{◌∙◌, ap, map, slice_index_or, string_bytes, arith}
use Rattle.std.proofs.lemmas.List.{take_all}
use Rattle.std.proofs.lemmas.Option.{slice_get-get_or}
use Rattle.wac_graph_model.specs.declared.nodes.packages.PackageId.{PackageId}
use Rattle.wac_graph_reader.specs.private.reading.PackageNames.{packages_names}
use Rattle.wac_graph_reader.proofs.lemmas.reading.PackageLemmas.{names_next}
use Rattle.wac_graph_reader.proofs.reading.reader.GraphReader.names_of.Goals as goal

abbrev none : PackageId
none = record { slot = 0; generation = 0 }

pub loop-id-init : goal.loop-id-init
loop-id-init c = ap (map string_bytes) c.new-names.ensures.items

pub loop-id-preserved : goal.loop-id-preserved
loop-id-preserved c =
    let ids = c.args.ids.now in
    let i = c.loop-id.id-index in
    names_next c.args.self.now ids i (slice_index_or ids i none) (map string_bytes c.loop-id.names.items) (map string_bytes c.add_name.new.names.items) (slice_get-get_or ids i none c.loop-id-test.true) c.loop-id.invariant c.in_ok-add_name.ensures

pub returns : goal.returns
returns c = c.loop-id.invariant ∙ ap (packages_names c.args.self.now) (take_all c.loop-id.id-index c.args.ids.now (omega (arith, c.loop-id-test.false)))

use Rattle.std.proofs.Common.{arith, length, refl}
use Rattle.std.proofs.lemmas.Option.{slice_get_read}
use Rattle.wac_graph_encode.proofs.lemmas.places.PlaceLemmas.{never_missed, position_within, is_place}
use Rattle.wac_graph_encode.proofs.places.places.ImportPlaces.place_of.Goals as goal

pub unreachable-requires : goal.unreachable-requires
unreachable-requires c = never_missed c.args.self.now.merge c.args.name.now c.canonical_import_name.result.now c.canonical_import_name.ensures c.imports-imports.result.now c.imports-imports.ensures c.get_full.result c.get_full.ensures c.requires.imported c.in_default.is

pub index-requires : goal.index-requires
index-requires c =
    let low = position_within c.args.self.now.merge c.args.name.now c.canonical_import_name.result.now c.canonical_import_name.ensures c.imports-imports.result.now c.imports-imports.ensures c.get_full.result c.get_full.ensures c.in-Some.position c.in-Some.field-0-1 c.in-Some.is c.args.self.now.places.items c.requires.counted in
    omega (arith, low, c.args.self.now.places.ok.0)

pub returns : goal.returns
returns c =
    let low = position_within c.args.self.now.merge c.args.name.now c.canonical_import_name.result.now c.canonical_import_name.ensures c.imports-imports.result.now c.imports-imports.ensures c.get_full.result c.get_full.ensures c.in-Some.position c.in-Some.field-0-1 c.in-Some.is c.args.self.now.places.items c.requires.counted in
    is_place c.args.self.now.merge c.args.name.now c.canonical_import_name.result.now c.canonical_import_name.ensures c.imports-imports.result.now c.imports-imports.ensures c.get_full.result c.get_full.ensures c.in-Some.position c.in-Some.field-0-1 c.in-Some.is c.args.self.now.places.items c.index.result.now
    (slice_get_read c.args.self.now.places.items (length c.args.self.now.places.items) c.in-Some.position c.index.result.now refl low c.index.ensures)

use Rattle.std.specs.Prelude.{slice_set}
use Rattle.std.proofs.Common.{length, refl}
use Rattle.std.proofs.lemmas.Option.{slice_get_read}
use Rattle.wac_encode_imports.specs.declared.told.Others.{Others}
use Rattle.wac_encode_imports.proofs.Noted.{adds-other}
use Rattle.wac_encode_imports.proofs.told.add_other.Goals as goal

pub returns : goal.returns
returns c =
    let os = c.args.others.now.items in
    let o : Others = c.index_mut.result.now in
    let u : Others = record o { resources = c.insert.new.self } in
    adds-other c.args.position c.args.resource os (slice_set os c.args.position u) o u (slice_get_read os (length os) c.args.position o refl c.requires c.index_mut.ensures.value) refl c.in_ok-insert.ensures.keys

use Rattle.std.proofs.Common.{◌≡◌, sym, ◌∙◌, arith}
use Rattle.wac_types_collection.specs.subtyping.CalledViews.{path_view}
use Rattle.wac_encode_imports.proofs.Telling.{found-place}
use Rattle.wac_encode_imports.proofs.Noted.{is-export}
use Rattle.wac_encode_imports.proofs.told.Teller.is_export.Goals as goal

pub returns : goal.returns
returns c = λ alone.
    let t = c.args.self.now in
    let place = found-place t c.args.resource c.root_binding.result c.root_binding.ensures c.in-Some.first c.in-Some.path c.in-Some.is in
    let same : c.in-Some.first ≡ c.args.position = (let f = c.if-first-position.false in omega (arith, f)) in
    is-export t c.args.position c.in-Some.first c.args.name.now c.args.resource (path_view c.in-Some.path.now) place same (sym c.is_alone.ensures ∙ alone)

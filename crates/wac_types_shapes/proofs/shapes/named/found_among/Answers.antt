use Rattle.std.proofs.Common.{◌∙◌, add-one, sym, ap, length, refl, true, false, string_bytes}
use Rattle.std.proofs.lemmas.Option.{slice_get_read}
use Rattle.std.specs.Str.{bytes_eq}
use Rattle.wac_types_shapes.specs.shapes.Named.{by_bytes}
use Rattle.wac_types_shapes.proofs.lemmas.shapes.Keyed.{at_by_bytes}
use Rattle.wac_types_shapes.proofs.lemmas.shapes.Parts.{search_more}
use Rattle.wac_types_shapes.proofs.shapes.named.found_among.Goals as goal

pub returns-then-is_same : goal.returns-then-is_same
returns-then-is_same g c =
    let es = c.args.entries.now in
    let e = c.index-entries-i.result in
    let there = at_by_bytes es c.loop-i.i e.0 e.1 (slice_get_read es (length es) c.loop-i.i e refl c.loop-i-test.true c.index-entries-i.is) in
    search_more (by_bytes es) c.loop-i.i c.args.name.now (string_bytes e.0) e.1 true there (sym (c.if-is_same.ensures ∙ ap (bytes_eq c.args.name.now) c.as_str.ensures.value)) c.loop-i.invariant

pub loop-i-preserved : goal.loop-i-preserved
loop-i-preserved g c =
    let es = c.args.entries.now in
    let e = c.index-entries-i.result in
    let there = at_by_bytes es c.loop-i.i e.0 e.1 (slice_get_read es (length es) c.loop-i.i e refl c.loop-i-test.true c.index-entries-i.is) in
    rw add-one (search_more (by_bytes es) c.loop-i.i c.args.name.now (string_bytes e.0) e.1 false there (sym (c.if-is_same.ensures ∙ ap (bytes_eq c.args.name.now) c.as_str.ensures.value)) c.loop-i.invariant)

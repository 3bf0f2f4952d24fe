use Rattle.std.proofs.Common.{◌≡◌, ◌∙◌, Some, length, map, slice_get, string_bytes, refl, ap}
use Rattle.std.proofs.lemmas.Option.{slice_get_read}
use Rattle.wac_graph.specs.plugs.Precedence.{named_by}
use Rattle.wac_demo.specs.private.Lines.{match_line, lines_of}
use Rattle.wac_demo.proofs.Lines.{one-more-line, all-lines}
use Rattle.wac_demo.proofs.compositions.passed_lines.Goals as goal

pub index-requires : goal.index-requires
index-requires c =
    let passed = c.args.passed.now in
    let over = c.index-passed-i.result in
    let at : slice_get passed c.loop-i.i ≡ Some over = slice_get_read passed (length passed) c.loop-i.i over refl c.loop-i-test.true c.index-passed-i.is in
    c.requires c.loop-i.i over at

pub loop-i-preserved : goal.loop-i-preserved
loop-i-preserved c =
    let g = c.args.graph.now in
    let passed = c.args.passed.now in
    let over = c.index-passed-i.result in
    let at : slice_get passed c.loop-i.i ≡ Some over = slice_get_read passed (length passed) c.loop-i.i over refl c.loop-i-test.true c.index-passed-i.is in
    one-more-line g passed c.loop-i.i over c.index.result.now (string_bytes c.loop-i.lines) c.as_str.result.now (string_bytes c.push_str.new.self) (lines_of g (map named_by passed)) at c.index.ensures
    (c.as_str.ensures.value ∙ c.in_ok-line.ensures ∙ ap (λ n. match_line n (named_by over).match) c.name.ensures) c.in_ok-push_str.ensures.bytes c.loop-i.invariant

pub returns : goal.returns
returns c =
    let g = c.args.graph.now in
    let passed = c.args.passed.now in
    all-lines g passed c.loop-i.i (string_bytes c.loop-i.lines) (lines_of g (map named_by passed)) c.loop-i-test.false c.loop-i.invariant

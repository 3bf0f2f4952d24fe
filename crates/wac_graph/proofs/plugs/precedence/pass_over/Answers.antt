use Rattle.std.proofs.Common.{◌≡◌, ◌∙◌, Some, get_or, slice_get, refl, sym, map, ◌++◌}
use Rattle.std.proofs.lemmas.Option.{slice_get-get_or}
use Rattle.wac_graph.specs.declared.plugs.matching.Pair.{Pair}
use Rattle.wac_graph.specs.plugs.Precedence.{each_of, named_by}
use Rattle.wac_graph.specs.private.plugs.Pairs.{matches_at}
use Rattle.wac_graph.proofs.lemmas.plugs.Dividing.{name-read, passed-next, all-passed}
use Rattle.wac_graph.proofs.plugs.precedence.pass_over.Goals as goal

pub loop-i-preserved : goal.loop-i-preserved
loop-i-preserved c =
    let ps = c.args.pairs.now in
    let none : Pair = record { export = 0; import = 0 } in
    let p = get_or ps c.loop-i.i none in
    let at : slice_get ps c.loop-i.i ≡ Some p = slice_get-get_or ps c.loop-i.i none c.loop-i-test.true in
    let exports = c.args.exports.now in
    let imports = c.args.imports.now in
    let total = map named_by c.args.passed.now.items ++ each_of c.args.plug (matches_at exports imports ps) in
    passed-next exports imports c.args.plug ps c.loop-i.i p c.loop-i.passed.items c.push.new.self.items (record { plug = c.args.plug; export = c.in_ok-export.export; import = c.in_ok-import.import }) total at c.in_ok-push.ensures.items refl
    (c.in_ok-export.ensures.ok ∙ sym (name-read exports p.export c.name_at.result.now c.name_at.ensures)) (c.in_ok-import.ensures.ok ∙ sym (name-read imports p.import c.name_at-in-loop-i.result.now c.name_at-in-loop-i.ensures)) c.loop-i.invariant

pub returns : goal.returns
returns c =
    let ps = c.args.pairs.now in
    let exports = c.args.exports.now in
    let imports = c.args.imports.now in
    let total = map named_by c.args.passed.now.items ++ each_of c.args.plug (matches_at exports imports ps) in
    all-passed exports imports c.args.plug ps c.loop-i.i c.loop-i.passed.items total c.loop-i-test.false c.loop-i.invariant

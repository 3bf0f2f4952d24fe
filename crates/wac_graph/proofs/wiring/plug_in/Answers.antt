use Rattle.std.proofs.Common.{◌≡◌, Some, Ok, Err, slice_get, get_or, sym, ◌∙◌, subst, inr}
use Rattle.std.proofs.lemmas.Option.{slice_get-get_or}
use Rattle.wac_graph.specs.private.plugs.Fitting.{node_imports}
use Rattle.wac_graph.specs.plugs.Matching.{exports_of_package}
use Rattle.wac_graph.specs.declared.plugs.matching.Pair.{Pair}
use Rattle.wac_graph.specs.private.plugs.Pairs.{match_at, matches_at}
use Rattle.wac_graph.specs.plugs.Plugging.{Answer, Wires, PlugsIn}
use Rattle.wac_graph.proofs.lemmas.plugs.Order.{one-more, refused-at, all-made, exit-is}
use Rattle.wac_graph.proofs.lemmas.plugs.Pairs.{past, match-there}
use Rattle.wac_graph.proofs.lemmas.plugs.Steps.{instance-keeps, keeps-trans}
use Rattle.wac_graph.proofs.lemmas.plugs.Fitting.{pair-at}
use Rattle.wac_graph.proofs.wiring.plug_in.Goals as goal

pub wire-requires-clause-plug : goal.wire-requires-clause-plug
wire-requires-clause-plug c =
    c.loop-i.invariant.kept.nodes c.in_ok-node.node (instance-keeps c.args.graph.now c.instantiate_plug.new.graph c.args.plug c.in_ok-node.node c.requires.plug c.in_ok-node.ensures).1

pub wire-requires-clause-socket : goal.wire-requires-clause-socket
wire-requires-clause-socket c =
    c.loop-i.invariant.kept.nodes c.args.socket ((instance-keeps c.args.graph.now c.instantiate_plug.new.graph c.args.plug c.in_ok-node.node c.requires.plug c.in_ok-node.ensures).0.nodes c.args.socket c.requires.socket)

pub wire-requires-clause-pair : goal.wire-requires-clause-pair
wire-requires-clause-pair c =
    let g = c.args.graph.now in
    let exports = exports_of_package g c.args.plug in
    let imports = node_imports g c.args.socket in
    let ps = c.args.pairs.now in
    let i = c.loop-i.i in
    let p : Pair = get_or ps i (record { export = 0; import = 0 }) in
    let pair : slice_get ps i ≡ Some p = slice_get-get_or ps i (record { export = 0; import = 0 }) c.loop-i-test.true in
    let stands = pair-at g c.instantiate_plug.new.graph c.args.plug c.in_ok-node.node c.law.ensures c.requires.plug c.in_ok-node.ensures c.loop-i.graph c.args.socket ps i p c.instance_position-export.result c.instance_position-export.ensures c.requires.socket c.loop-i.invariant.kept c.requires.asked c.requires.within c.requires.fit pair in
    (match_at exports imports p, stands)

pub returns-in_err-wire-clause-step : goal.returns-in_err-wire-clause-step
returns-in_err-wire-clause-step c =
    let g = c.args.graph.now in
    let exports = exports_of_package g c.args.plug in
    let imports = node_imports g c.args.socket in
    let ps = c.args.pairs.now in
    let ms = matches_at exports imports ps in
    let i = c.loop-i.i in
    let p : Pair = get_or ps i (record { export = 0; import = 0 }) in
    let pair : slice_get ps i ≡ Some p = slice_get-get_or ps i (record { export = 0; import = 0 }) c.loop-i-test.true in
    let stands = pair-at g c.instantiate_plug.new.graph c.args.plug c.in_ok-node.node c.law.ensures c.requires.plug c.in_ok-node.ensures c.loop-i.graph c.args.socket ps i p c.instance_position-export.result c.instance_position-export.ensures c.requires.socket c.loop-i.invariant.kept c.requires.asked c.requires.within c.requires.fit pair in
    let m = match_at exports imports p in
    let e = (c.in_err-wire.field-0).0 in
    subst (λ (r : Answer). PlugsIn c.args.socket g (record { plug = c.args.plug; matches = ms }) r c.wire.new.graph) (sym (exit-is c.from_residual-in_err-wire.result e c.from_residual-in_err-wire.ensures.1))
    (inr (
      c.in_ok-node.node,
      c.instantiate_plug.new.graph,
      c.in_ok-node.ensures,
      c.loop-i.invariant.wired (Err e) c.wire.new.graph (refused-at (Wires c.in_ok-node.node c.args.socket) ms i m c.loop-i.graph (match-there exports imports ps i p pair) e c.wire.new.graph (c.in_err-wire.ensures.step m stands)),
    ))

pub loop-i-preserved : goal.loop-i-preserved
loop-i-preserved c =
    let g = c.args.graph.now in
    let exports = exports_of_package g c.args.plug in
    let imports = node_imports g c.args.socket in
    let ps = c.args.pairs.now in
    let ms = matches_at exports imports ps in
    let i = c.loop-i.i in
    let p : Pair = get_or ps i (record { export = 0; import = 0 }) in
    let pair : slice_get ps i ≡ Some p = slice_get-get_or ps i (record { export = 0; import = 0 }) c.loop-i-test.true in
    let stands = pair-at g c.instantiate_plug.new.graph c.args.plug c.in_ok-node.node c.law.ensures c.requires.plug c.in_ok-node.ensures c.loop-i.graph c.args.socket ps i p c.instance_position-export.result c.instance_position-export.ensures c.requires.socket c.loop-i.invariant.kept c.requires.asked c.requires.within c.requires.fit pair in
    let m = match_at exports imports p in
    record {
      kept = keeps-trans c.instantiate_plug.new.graph c.loop-i.graph c.wire.new.graph c.loop-i.invariant.kept c.in_ok-wire.ensures.kept;
      wired = λ answer new h. c.loop-i.invariant.wired answer new (one-more (Wires c.in_ok-node.node c.args.socket) ms i m c.loop-i.graph (match-there exports imports ps i p pair) c.wire.new.graph (c.in_ok-wire.ensures.step m stands) answer new h);
    }

pub returns-clause-step : goal.returns-clause-step
returns-clause-step c =
    let g = c.args.graph.now in
    let exports = exports_of_package g c.args.plug in
    let imports = node_imports g c.args.socket in
    let ps = c.args.pairs.now in
    let ms = matches_at exports imports ps in
    let i = c.loop-i.i in
    inr (
      c.in_ok-node.node,
      c.instantiate_plug.new.graph,
      c.in_ok-node.ensures,
      c.loop-i.invariant.wired (Ok tt) c.loop-i.graph (all-made (Wires c.in_ok-node.node c.args.socket) ms i c.loop-i.graph (past exports imports ps i c.loop-i-test.false)),
    )

pub returns-clause-kept : goal.returns-clause-kept
returns-clause-kept c =
    keeps-trans c.args.graph.now c.instantiate_plug.new.graph c.loop-i.graph (instance-keeps c.args.graph.now c.instantiate_plug.new.graph c.args.plug c.in_ok-node.node c.requires.plug c.in_ok-node.ensures).0 c.loop-i.invariant.kept

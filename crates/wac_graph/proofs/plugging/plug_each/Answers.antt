use Rattle.std.proofs.Common.{◌≡◌, Some, Ok, Err, length, slice_get, refl, sym, subst}
use Rattle.std.proofs.lemmas.Option.{slice_get_read}
use Rattle.wac_graph.specs.plugs.Plugging.{Answer, InOrder, PlugsIn}
use Rattle.wac_graph.specs.private.plugs.Ready.{plug_at, plugs_at}
use Rattle.wac_graph.proofs.lemmas.plugs.Order.{one-more, refused-at, all-made, exit-is}
use Rattle.wac_graph.proofs.lemmas.plugs.Steps.{keeps-trans}
use Rattle.wac_graph.proofs.lemmas.plugs.Readied.{plug-item, plugs-past, plug-there, node-now, asked-now, within-now, fit-now, plugged-now}
use Rattle.wac_graph.proofs.plugging.plug_each.Goals as goal

pub plug_in-requires-clause-plug : goal.plug_in-requires-clause-plug
plug_in-requires-clause-plug c =
    let ws = c.args.wired.now in
    let w = c.index-wired-i.result in
    let at : slice_get ws c.loop-i.i ≡ Some w = slice_get_read ws (length ws) c.loop-i.i w refl c.loop-i-test.true c.index-wired-i.is in
    plug-there c.args.graph.now c.loop-i.graph c.args.socket c.args.node w c.loop-i.invariant.kept c.requires.socket c.requires.node (c.requires.ready c.loop-i.i w at) c.requires.asked

pub plug_in-requires-clause-socket : goal.plug_in-requires-clause-socket
plug_in-requires-clause-socket c =
    let ws = c.args.wired.now in
    let w = c.index-wired-i.result in
    let at : slice_get ws c.loop-i.i ≡ Some w = slice_get_read ws (length ws) c.loop-i.i w refl c.loop-i-test.true c.index-wired-i.is in
    node-now c.args.graph.now c.loop-i.graph c.args.socket c.args.node w c.loop-i.invariant.kept c.requires.socket c.requires.node (c.requires.ready c.loop-i.i w at) c.requires.asked

pub plug_in-requires-clause-within : goal.plug_in-requires-clause-within
plug_in-requires-clause-within c =
    let ws = c.args.wired.now in
    let w = c.index-wired-i.result in
    let at : slice_get ws c.loop-i.i ≡ Some w = slice_get_read ws (length ws) c.loop-i.i w refl c.loop-i-test.true c.index-wired-i.is in
    within-now c.args.graph.now c.loop-i.graph c.args.socket c.args.node w c.loop-i.invariant.kept c.requires.socket c.requires.node (c.requires.ready c.loop-i.i w at) c.requires.asked c.deref.result.now c.deref.ensures.value

pub plug_in-requires-clause-fit : goal.plug_in-requires-clause-fit
plug_in-requires-clause-fit c =
    let ws = c.args.wired.now in
    let w = c.index-wired-i.result in
    let at : slice_get ws c.loop-i.i ≡ Some w = slice_get_read ws (length ws) c.loop-i.i w refl c.loop-i-test.true c.index-wired-i.is in
    fit-now c.args.graph.now c.loop-i.graph c.args.socket c.args.node w c.loop-i.invariant.kept c.requires.socket c.requires.node (c.requires.ready c.loop-i.i w at) c.requires.asked c.deref.result.now c.deref.ensures.value

pub plug_in-requires-clause-asked : goal.plug_in-requires-clause-asked
plug_in-requires-clause-asked c =
    let ws = c.args.wired.now in
    let w = c.index-wired-i.result in
    let at : slice_get ws c.loop-i.i ≡ Some w = slice_get_read ws (length ws) c.loop-i.i w refl c.loop-i-test.true c.index-wired-i.is in
    asked-now c.args.graph.now c.loop-i.graph c.args.socket c.args.node w c.loop-i.invariant.kept c.requires.socket c.requires.node (c.requires.ready c.loop-i.i w at) c.requires.asked

pub returns-in_err-plug_in-clause-step : goal.returns-in_err-plug_in-clause-step
returns-in_err-plug_in-clause-step c =
    let ws = c.args.wired.now in
    let w = c.index-wired-i.result in
    let at : slice_get ws c.loop-i.i ≡ Some w = slice_get_read ws (length ws) c.loop-i.i w refl c.loop-i-test.true c.index-wired-i.is in
    let all = plugs_at c.args.graph.now c.args.socket ws in
    let e = (c.in_err-plug_in.field-0).0 in
    subst (λ (r : Answer). InOrder (PlugsIn c.args.node) c.args.graph.now all r c.plug_in.new.graph) (sym (exit-is c.from_residual.result e c.from_residual.ensures.1))
    (c.loop-i.invariant.plugged (Err e) c.plug_in.new.graph
    (refused-at (PlugsIn c.args.node) all c.loop-i.i (plug_at c.args.graph.now c.args.socket w) c.loop-i.graph (plug-item c.args.graph.now c.args.socket ws c.loop-i.i w at) e c.plug_in.new.graph
    (plugged-now c.args.graph.now c.loop-i.graph c.args.socket c.args.node w c.loop-i.invariant.kept c.requires.socket c.requires.node (c.requires.ready c.loop-i.i w at) c.requires.asked c.deref.result.now c.deref.ensures.value (Err e) c.plug_in.new.graph c.in_err-plug_in.ensures.step)))

pub loop-i-preserved : goal.loop-i-preserved
loop-i-preserved c =
    let ws = c.args.wired.now in
    let w = c.index-wired-i.result in
    let at : slice_get ws c.loop-i.i ≡ Some w = slice_get_read ws (length ws) c.loop-i.i w refl c.loop-i-test.true c.index-wired-i.is in
    let all = plugs_at c.args.graph.now c.args.socket ws in
    record {
      kept = keeps-trans c.args.graph.now c.loop-i.graph c.plug_in.new.graph c.loop-i.invariant.kept c.in_ok-plug_in.ensures.kept;
      plugged = λ answer new h. c.loop-i.invariant.plugged answer new
          (one-more (PlugsIn c.args.node) all c.loop-i.i (plug_at c.args.graph.now c.args.socket w) c.loop-i.graph (plug-item c.args.graph.now c.args.socket ws c.loop-i.i w at) c.plug_in.new.graph
          (plugged-now c.args.graph.now c.loop-i.graph c.args.socket c.args.node w c.loop-i.invariant.kept c.requires.socket c.requires.node (c.requires.ready c.loop-i.i w at) c.requires.asked c.deref.result.now c.deref.ensures.value (Ok tt) c.plug_in.new.graph c.in_ok-plug_in.ensures.step) answer new h);
    }

pub returns-clause-step : goal.returns-clause-step
returns-clause-step c =
    let all = plugs_at c.args.graph.now c.args.socket c.args.wired.now in
    c.loop-i.invariant.plugged (Ok tt) c.loop-i.graph (all-made (PlugsIn c.args.node) all c.loop-i.i c.loop-i.graph (plugs-past c.args.graph.now c.args.socket c.args.wired.now c.loop-i.i c.loop-i-test.false))

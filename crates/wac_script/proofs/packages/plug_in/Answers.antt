use Rattle.wac_script.specs.lines.Words.{spelled}
use Rattle.wac_script.specs.declared.lines.calls.Change.TheVariants as change
use Rattle.wac_script.specs.labels.Things.{things_of}
use Rattle.wac_script.proofs.RefuseLemmas.{change-words, packages-there}
use Rattle.wac_script.proofs.packages.plug_in.Goals as goal

pub plug-requires-clause-plugs : goal.plug-requires-clause-plugs
plug-requires-clause-plugs c = packages-there (things_of c.args.labels.now) c.args.graph.now (spelled c.args.plugs.now) c.in_ok-plugs.plugs.items c.in_ok-plugs.ensures

pub plug-requires-clause-socket : goal.plug-requires-clause-socket
plug-requires-clause-socket c = c.in_ok-socket.ensures.1

pub returns-in_err-socket : goal.returns-in_err-socket
returns-in_err-socket c = change-words (things_of c.args.labels.now) c.args.graph.now (change.Plug c.args.socket c.args.plugs) c.from_residual.result (c.in_err-socket.field-0).0 c.from_residual.ensures.1 c.in_err-socket.ensures (λ none s ps h k. none s h)

pub returns-in_err-plugs : goal.returns-in_err-plugs
returns-in_err-plugs c = change-words (things_of c.args.labels.now) c.args.graph.now (change.Plug c.args.socket c.args.plugs) c.from_residual-in_err-plugs.result (c.in_err-plugs.field-0).0 c.from_residual-in_err-plugs.ensures.1 c.in_err-plugs.ensures (λ none s ps h k. none ps k)

pub returns-in-Ok : goal.returns-in-Ok
returns-in-Ok c = (c.in_ok-socket.socket, c.in_ok-plugs.plugs.items, c.in_ok-socket.ensures, c.in_ok-plugs.ensures, c.in-Ok.ensures.step)

pub returns : goal.returns
returns c = (c.in_ok-socket.socket, c.in_ok-plugs.plugs.items, c.in_ok-socket.ensures, c.in_ok-plugs.ensures, c.in-Err.ensures.step)

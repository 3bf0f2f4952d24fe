use Rattle.std.specs.Prelude.{codes}
use Rattle.wac_demo.proofs.Plugging.{socket-there, plugs-there, plugs-it}
use Rattle.wac_demo.proofs.compositions.plugged.Goals as goal

pub plug-requires-clause-plugs : goal.plug-requires-clause-plugs
plug-requires-clause-plugs c =
    plugs-there c.register.new.graph c.register-2.new.graph c.in_ok-giver.giver c.in_ok-socket.socket c.in_ok-plugs.plugs.items (codes "my:plug") (codes "a") (codes "my:socket") (codes "run") c.in_ok-function.function
    c.in_ok-giver.ensures.registered c.register-2.ensures.stays c.in_ok-socket.ensures.registered c.in_ok-plugs.ensures.items

pub plug-requires-clause-socket : goal.plug-requires-clause-socket
plug-requires-clause-socket c =
    socket-there c.register.new.graph c.register-2.new.graph c.in_ok-giver.giver c.in_ok-socket.socket c.in_ok-plugs.plugs.items (codes "my:plug") (codes "a") (codes "my:socket") (codes "run") c.in_ok-function.function
    c.in_ok-giver.ensures.registered c.register-2.ensures.stays c.in_ok-socket.ensures.registered c.in_ok-plugs.ensures.items

pub returns : goal.returns
returns c =
    let means = c.in_ok-encode.ensures.means in (
      means.0,
      c.default.result,
      c.plug.new.graph,
      means.1,
      c.default.ensures,
      means.4,
      plugs-it c.register.new.graph c.register-2.new.graph c.in_ok-giver.giver c.in_ok-socket.socket c.in_ok-plugs.plugs.items (codes "my:plug") (codes "a") (codes "my:socket") (codes "run") c.in_ok-function.function
          c.in_ok-giver.ensures.registered c.register-2.ensures.stays c.in_ok-socket.ensures.registered c.in_ok-plugs.ensures.items c.plug.new.graph c.law.ensures c.law-2.ensures c.in_ok-plug.ensures.step,
    )

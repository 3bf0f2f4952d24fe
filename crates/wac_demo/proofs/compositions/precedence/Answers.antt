use Rattle.std.proofs.Common.{ap, ◌∙◌, sym, map, slice_get}
use Rattle.std.specs.Prelude.{codes}
use Rattle.wac_graph.specs.plugs.Precedence.{named_by}
use Rattle.wac_demo.specs.private.Lines.{lines_of}
use Rattle.wac_demo.proofs.Plugging.{taker-there, both-there, plugs-first, passed-there, lines-are}
use Rattle.wac_demo.proofs.compositions.precedence.Goals as goal

pub plug-requires-clause-plugs : goal.plug-requires-clause-plugs
plug-requires-clause-plugs c =
    both-there c.register.new.graph c.register-2.new.graph c.register-3.new.graph c.in_ok-first.first c.in_ok-second.second c.in_ok-socket.socket c.in_ok-plugs.plugs.items (codes "my:first") (codes "my:second") (codes "my:socket") (codes "run") (codes "a") c.in_ok-function.function
    c.in_ok-first.ensures.registered c.register-2.ensures.stays c.in_ok-second.ensures.registered c.register-3.ensures.stays c.in_ok-socket.ensures.registered c.in_ok-plugs.ensures.items

pub plug-requires-clause-socket : goal.plug-requires-clause-socket
plug-requires-clause-socket c =
    taker-there c.register.new.graph c.register-2.new.graph c.register-3.new.graph c.in_ok-first.first c.in_ok-second.second c.in_ok-socket.socket c.in_ok-plugs.plugs.items (codes "my:first") (codes "my:second") (codes "my:socket") (codes "run") (codes "a") c.in_ok-function.function
    c.in_ok-first.ensures.registered c.register-2.ensures.stays c.in_ok-second.ensures.registered c.register-3.ensures.stays c.in_ok-socket.ensures.registered c.in_ok-plugs.ensures.items

pub passed_lines-requires : goal.passed_lines-requires
passed_lines-requires c = λ i over at.
    passed-there c.register.new.graph c.register-2.new.graph c.register-3.new.graph c.in_ok-first.first c.in_ok-second.second c.in_ok-socket.socket c.in_ok-plugs.plugs.items (codes "my:first") (codes "my:second") (codes "my:socket") (codes "run") (codes "a") c.in_ok-function.function
    c.in_ok-first.ensures.registered c.register-2.ensures.stays c.in_ok-second.ensures.registered c.register-3.ensures.stays c.in_ok-socket.ensures.registered c.in_ok-plugs.ensures.items c.plug.new.graph c.in_ok-passed.ensures.step c.in_ok-passed.passed.items
    c.in_ok-passed.ensures.passed_over c.law.ensures c.law-2.ensures i over (ap (λ l. slice_get l i) (sym c.deref.ensures.value) ∙ at)

pub returns-clause-composed : goal.returns-clause-composed
returns-clause-composed c =
    let means = c.in_ok-encode.ensures.means in (
      means.0,
      c.default.result,
      c.plug.new.graph,
      means.1,
      c.default.ensures,
      means.4,
      plugs-first c.register.new.graph c.register-2.new.graph c.register-3.new.graph c.in_ok-first.first c.in_ok-second.second c.in_ok-socket.socket c.in_ok-plugs.plugs.items (codes "my:first") (codes "my:second") (codes "my:socket") (codes "run") (codes "a") c.in_ok-function.function
          c.in_ok-first.ensures.registered c.register-2.ensures.stays c.in_ok-second.ensures.registered c.register-3.ensures.stays c.in_ok-socket.ensures.registered c.in_ok-plugs.ensures.items c.plug.new.graph c.in_ok-passed.ensures.step c.law.ensures c.law-2.ensures,
    )

pub returns-clause-passed : goal.returns-clause-passed
returns-clause-passed c =
    c.in_ok-lines.ensures ∙ ap (λ l. lines_of c.plug.new.graph (map named_by l)) c.deref.ensures.value
    ∙ lines-are c.register.new.graph c.register-2.new.graph c.register-3.new.graph c.in_ok-first.first c.in_ok-second.second c.in_ok-socket.socket c.in_ok-plugs.plugs.items (codes "my:first") (codes "my:second") (codes "my:socket") (codes "run") (codes "a") c.in_ok-function.function
    c.in_ok-first.ensures.registered c.register-2.ensures.stays c.in_ok-second.ensures.registered c.register-3.ensures.stays c.in_ok-socket.ensures.registered c.in_ok-plugs.ensures.items c.plug.new.graph c.in_ok-passed.ensures.step c.in_ok-passed.passed.items
    c.in_ok-passed.ensures.passed_over c.law.ensures c.law-2.ensures

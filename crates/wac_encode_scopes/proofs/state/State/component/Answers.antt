use Rattle.std.specs.Prelude.{true}
use Rattle.wac_encode_scopes.specs.Books.{opened}
use Rattle.wac_encode_scopes.specs.private.Steps.{either}
use Rattle.wac_encode_scopes.proofs.Begun.{component-uncharged}
use Rattle.wac_encode_scopes.proofs.Opened.{good-component}
use Rattle.wac_encode_scopes.proofs.state.State.component.Goals as goal

pub returns-clause-good : goal.returns-clause-good
returns-clause-good c d b = good-component c.closing_law.ensures.opens_world d b (opened b c.new-3.result) c.new-2.result.items c.new.result c.new-2.ensures.items c.new.ensures (c.new-3.ensures.opened b)

pub returns-clause-uncharged : goal.returns-clause-uncharged
returns-clause-uncharged c d b = component-uncharged d b (record { around = c.new-2.result; here = c.new-3.result }) c.new.result (either b true true) c.new-2.ensures.items (c.new-3.ensures.opened b) c.new.ensures

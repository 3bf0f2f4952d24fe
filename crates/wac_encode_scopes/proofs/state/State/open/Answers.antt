use Rattle.wac_encode_scopes.proofs.Stepped.{two-ok}
use Rattle.wac_encode_scopes.proofs.Opened.{opens-state}
use Rattle.wac_encode_scopes.proofs.state.State.open.Goals as goal

pub returns-clause-opened : goal.returns-clause-opened
returns-clause-opened c = two-ok c.push.result (opens-state c.args.merged c.args.passes c.args.self.now c.push.new.self c.instance-scope.result c.instance-scope.ensures.content c.instance-scope.ensures.opened c.instance-scope.ensures.beside) c.push.ensures.here c.push.ensures.around

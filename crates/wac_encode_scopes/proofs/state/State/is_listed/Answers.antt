use Rattle.std.proofs.Common.{◌∙◌, sym}
use Rattle.wac_encode_scopes.specs.Books.{opened}
use Rattle.wac_encode_scopes.proofs.Booked.{is-listed, not-listed}
use Rattle.wac_encode_scopes.proofs.state.State.is_listed.Goals as goal

pub returns-in-Some-clause-yes : goal.returns-in-Some-clause-yes
returns-in-Some-clause-yes c h = is-listed c.entry.result c.in-Some.entry ((opened c.args.merged c.args.self.now.here).types c.args.ty) c.in-Some.is c.entry.ensures (sym c.is_listed.ensures ∙ h)

pub returns-in-Some-clause-no : goal.returns-in-Some-clause-no
returns-in-Some-clause-no c h = not-listed c.entry.result c.in-Some.entry ((opened c.args.merged c.args.self.now.here).types c.args.ty) c.in-Some.is c.entry.ensures (sym c.is_listed.ensures ∙ h)

use Rattle.std.proofs.Common.{true, false}
use Rattle.wac_encode_scopes.specs.Contents.{content_of}
use Rattle.wac_encode_scopes.proofs.Opened.{new-book}
use Rattle.wac_encode_scopes.proofs.scope.Scope.new.Goals as goal

pub returns-clause-opened : goal.returns-clause-opened
returns-clause-opened c true = new-book c.new.result c.args.merged (content_of c.args.content) c.new.ensures.passes c.new.ensures.types c.new.ensures.exports c.new.ensures.resources
returns-clause-opened c false = new-book c.new-2.result c.args.graph (content_of c.args.content) c.new-2.ensures.passes c.new-2.ensures.types c.new-2.ensures.exports c.new-2.ensures.resources

use Rattle.wac_names.proofs.KindFacts.{kind-read}
use Rattle.wac_names.specs.Views.{kind_view}
use Rattle.wac_names.proofs.name.ComponentName.kind.Goals as goal

pub returns-clause-kind : goal.returns-clause-kind
returns-clause-kind c = kind-read c.args.self.now.text.now (kind_view c.args.self.now.kind) c.args.self.now.is_read

use Rattle.std.proofs.lemmas.Result.{on_ok_weaker}
use Rattle.wac_encode_imports.proofs.Telling.{binds-then, still-imports}
use Rattle.wac_encode_imports.proofs.ToldCosts.{all-told}
use Rattle.wac_encode_imports.proofs.told.Teller.tell_all.Goals as goal

pub tell_entries-requires-clause-imports : goal.tell_entries-requires-clause-imports
tell_entries-requires-clause-imports c = still-imports c.args.self.now c.args.state.now c.bind_resources.new.state c.in_ok-bind_resources.ensures.binds.changes c.requires.imports

pub returns-clause-binds : goal.returns-clause-binds
returns-clause-binds c = on_ok_weaker c.tell_entries.result (λ keeps. binds-then c.args.self.now c.args.state.now c.bind_resources.new.state c.tell_entries.new.state c.in_ok-bind_resources.ensures.binds keeps) c.tell_entries.ensures.keeps

pub returns-clause-cost : goal.returns-clause-cost
returns-clause-cost c = on_ok_weaker c.tell_entries.result (λ paid blank root. all-told c.args.self.now c.requires.teller c.args.state.now c.bind_resources.new.state c.tell_entries.new.state blank root c.in_ok-bind_resources.ensures.names paid) c.tell_entries.ensures.cost

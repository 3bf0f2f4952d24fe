use Rattle.wac_encode_scopes.specs.Roots.{and_import}
use Rattle.wac_encode_scopes.proofs.Stepped.{on-ok, both-ok}
use Rattle.wac_encode_scopes.proofs.Opened.{keeps-records}
use Rattle.wac_encode_scopes.proofs.Rooted.{imports-state}
use Rattle.wac_encode_scopes.proofs.Calls.{import-here}
use Rattle.wac_encode_scopes.proofs.state.State.import.Goals as goal

pub returns-clause-imports : goal.returns-clause-imports
returns-clause-imports c =
    let law = c.root_law.ensures in
    both-ok c.import.result (λ k index is. imports-state law.imports_type law.imports_func law.imports_instance law.imports_component law.imports_module c.args.name.now c.args.d c.args.self.now c.import.new.self k c.requires index is) c.import.ensures.index c.import.ensures.appended

pub returns-clause-records : goal.returns-clause-records
returns-clause-records c = on-ok c.import.result (keeps-records c.args.self.now c.import.new.self (and_import c.args.name.now c.args.d c.args.self.now.here.content)) c.import.ensures.appended

pub returns-clause-paid : goal.returns-clause-paid
returns-clause-paid c d b priced = import-here c.size_law.ensures.fits d b c.args.self.now c.import.new.self c.args.name.now c.args.d c.import.result c.requires c.described_law.ensures c.import.ensures.appended c.import.ensures.too_large

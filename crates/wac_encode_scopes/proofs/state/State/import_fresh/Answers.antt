use Rattle.std.proofs.Common.{sym, ◌∙◌, subst}
use Rattle.wac_encode_scopes.specs.Contents.{AddsTypes}
use Rattle.wac_encode_scopes.proofs.Added.{adds-none}
use Rattle.wac_encode_scopes.proofs.Stepped.{both-ok, on-err, all-here}
use Rattle.wac_encode_scopes.proofs.Rooted.{count-type, imports-resource}
use Rattle.wac_encode_scopes.proofs.Calls.{import-fresh-here}
use Rattle.wac_encode_scopes.proofs.state.State.import_fresh.Goals as goal

pub returns-clause-imports : goal.returns-clause-imports
returns-clause-imports c = both-ok c.import_fresh.result (λ k index step. imports-resource c.root_law.ensures.imports_fresh c.args.merged c.args.name.now c.args.resource c.args.self.now c.import_fresh.new.self k c.requires index step) c.import_fresh.ensures.index c.import_fresh.ensures.step

pub returns-clause-refused : goal.returns-clause-refused
returns-clause-refused c = on-err c.import_fresh.result (λ h. all-here c.args.self.now c.import_fresh.new.self (subst (AddsTypes c.args.self.now.here.content) (sym h) (adds-none c.args.self.now.here.content))) c.import_fresh.ensures.refused

pub returns-clause-index : goal.returns-clause-index
returns-clause-index c = both-ok c.import_fresh.result (λ k index step. index ∙ count-type c.args.self.now.here.content) c.import_fresh.ensures.index c.import_fresh.ensures.step

pub returns-clause-paid : goal.returns-clause-paid
returns-clause-paid c d priced = import-fresh-here c.size_law.ensures.fits d c.args.merged c.args.self.now c.import_fresh.new.self c.args.name.now c.args.resource c.import_fresh.result c.requires c.import_fresh.ensures.step c.import_fresh.ensures.too_large

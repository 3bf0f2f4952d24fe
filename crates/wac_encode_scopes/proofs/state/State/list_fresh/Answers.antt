use Rattle.std.proofs.Common.{sym, subst}
use Rattle.wac_encode_scopes.proofs.Added.{adds-none}
use Rattle.wac_encode_scopes.specs.Contents.{AddsTypes, side_of}
use Rattle.wac_encode_scopes.proofs.Stepped.{both-ok, on-err, all-here}
use Rattle.wac_encode_scopes.proofs.Opened.{lists-resource}
use Rattle.wac_encode_scopes.proofs.Calls.{list-fresh-here}
use Rattle.wac_encode_scopes.proofs.state.State.list_fresh.Goals as goal

pub returns-clause-lists : goal.returns-clause-lists
returns-clause-lists c = both-ok c.list_fresh.result (λ i is h. lists-resource c.listing_law.ensures.lists_fresh c.listing_law.ensures.lists_own c.args.merged (side_of c.args.side) c.args.name.now c.args.resource c.args.self.now c.list_fresh.new.self i c.requires is h) c.list_fresh.ensures.index c.list_fresh.ensures.step

pub returns-clause-refused : goal.returns-clause-refused
returns-clause-refused c = on-err c.list_fresh.result (λ h. all-here c.args.self.now c.list_fresh.new.self (subst (AddsTypes c.args.self.now.here.content) (sym h) (adds-none c.args.self.now.here.content))) c.list_fresh.ensures.refused

pub returns-clause-paid : goal.returns-clause-paid
returns-clause-paid c d priced = list-fresh-here c.size_law.ensures.fits d c.args.merged c.args.self.now c.list_fresh.new.self (side_of c.args.side) c.args.name.now c.args.resource c.list_fresh.result c.list_fresh.ensures.step c.list_fresh.ensures.too_large

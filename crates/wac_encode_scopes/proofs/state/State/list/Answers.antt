use Rattle.wac_encode_scopes.specs.Contents.{side_of, and_item}
use Rattle.wac_encode_scopes.proofs.Stepped.{on-ok, both-ok}
use Rattle.wac_encode_scopes.proofs.Opened.{lists-state, keeps-records}
use Rattle.wac_encode_scopes.proofs.Calls.{list-here}
use Rattle.wac_encode_scopes.proofs.state.State.list.Goals as goal

pub returns-clause-lists : goal.returns-clause-lists
returns-clause-lists c = both-ok c.list.result (λ k index is. lists-state c.listing_law.ensures.lists_equal c.listing_law.ensures.lists_func c.listing_law.ensures.lists_instance c.listing_law.ensures.lists_component c.listing_law.ensures.lists_module (side_of c.args.side) c.args.name.now c.args.d c.args.self.now c.list.new.self k c.requires index is) c.list.ensures.index c.list.ensures.appended

pub returns-clause-records : goal.returns-clause-records
returns-clause-records c = on-ok c.list.result (keeps-records c.args.self.now c.list.new.self (and_item (side_of c.args.side) c.args.name.now c.args.d c.args.self.now.here.content)) c.list.ensures.appended

pub returns-clause-paid : goal.returns-clause-paid
returns-clause-paid c d b priced = list-here c.size_law.ensures.fits d b c.args.self.now c.list.new.self (side_of c.args.side) c.args.name.now c.args.d c.list.result c.described_law.ensures c.list.ensures.appended c.list.ensures.too_large

use Rattle.std.specs.Prelude.{nat_eq, Option}
use Rattle.std.specs.HashMap.{get}
use Rattle.std.proofs.Common.{ap}
use Rattle.wac_types_shapes.specs.declared.shapes.component.ResourceId.{ResourceId}
use Rattle.wac_encode_stacks.specs.Scopes.{Where}
use Rattle.wac_encode_scopes.specs.Books.{types_in, exports_in}
use Rattle.wac_encode_scopes.proofs.Booked.{resource-more}
use Rattle.wac_encode_scopes.proofs.book.Book.record_resource.Goals as goal

pub returns-clause-recorded : goal.returns-clause-recorded
returns-clause-recorded c x = ap (λ (f : ResourceId → Option Where). record { content = x; passes = c.args.self.now.passes; binds = f; types = types_in c.args.self.now; exports = exports_in c.args.self.now })
    (resource-more (λ q. get (λ a b. nat_eq a.0 b.0) c.args.self.now.resources q) (λ q. get (λ a b. nat_eq a.0 b.0) c.insert.new.self q) c.args.resource c.args.place c.in_ok-insert.ensures.updates.0)

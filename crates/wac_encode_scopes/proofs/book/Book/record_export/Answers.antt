use Rattle.std.specs.Prelude.{nat_eq, Option}
use Rattle.std.specs.HashMap.{get}
use Rattle.std.proofs.Common.{ap}
use Rattle.wac_types_shapes.specs.declared.shapes.component.DefinedTypeId.{DefinedTypeId}
use Rattle.wac_encode_stacks.specs.Scopes.{Where}
use Rattle.wac_encode_scopes.specs.Books.{types_in, binds_in}
use Rattle.wac_encode_scopes.proofs.Booked.{export-more}
use Rattle.wac_encode_scopes.proofs.book.Book.record_export.Goals as goal

pub returns-clause-recorded : goal.returns-clause-recorded
returns-clause-recorded c x = ap (λ (f : DefinedTypeId → Option Where). record { content = x; passes = c.args.self.now.passes; binds = binds_in c.args.self.now; types = types_in c.args.self.now; exports = f })
    (export-more (λ q. get (λ a b. nat_eq a.0 b.0) c.args.self.now.exports q) (λ q. get (λ a b. nat_eq a.0 b.0) c.insert.new.self q) c.args.definition c.args.place c.in_ok-insert.ensures.updates.0)

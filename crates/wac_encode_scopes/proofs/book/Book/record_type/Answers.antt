use Rattle.std.specs.Prelude.{Option}
use Rattle.std.specs.HashMap.{get}
use Rattle.std.proofs.Common.{ap}
use Rattle.wac_types_shapes.specs.declared.shapes.component.«Type».{«Type» as AnyType}
use Rattle.wac_encode_stacks.specs.Scopes.{Indexed}
use Rattle.wac_encode_scopes.specs.Books.{binds_in, exports_in}
use Rattle.wac_encode_scopes.proofs.Types.{type_eq}
use Rattle.wac_encode_scopes.proofs.Booked.{type-more}
use Rattle.wac_encode_scopes.proofs.book.Book.record_type.Goals as goal

pub returns-clause-recorded : goal.returns-clause-recorded
returns-clause-recorded c x = ap (λ (f : AnyType → Option Indexed). record { content = x; passes = c.args.self.now.passes; binds = binds_in c.args.self.now; types = f; exports = exports_in c.args.self.now })
    (type-more (λ q. get type_eq c.args.self.now.types q) (λ q. get type_eq c.insert.new.self q) c.args.ty (record { index = c.args.index; how = c.args.how }) c.in_ok-insert.ensures.updates.0)

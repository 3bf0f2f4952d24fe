use Rattle.std.specs.Prelude.{Option}
use Rattle.std.proofs.Common.{ap}
use Rattle.std.proofs.Math.Path.{fun_ext}
use Rattle.wac_types_shapes.specs.declared.shapes.component.ResourceId.{ResourceId}
use Rattle.wac_encode_stacks.specs.Scopes.{Where}
use Rattle.wac_encode_scopes.specs.Books.{types_in, exports_in, maybe_where}
use Rattle.wac_encode_scopes.proofs.book.Book.reserve_resource.Goals as goal

pub returns-clause-same : goal.returns-clause-same
returns-clause-same c x = ap (λ (f : ResourceId → Option Where). record { content = x; passes = c.args.self.now.passes; binds = f; types = types_in c.args.self.now; exports = exports_in c.args.self.now }) (fun_ext (λ q. ap maybe_where (c.reserve.ensures.entries.2 q)))

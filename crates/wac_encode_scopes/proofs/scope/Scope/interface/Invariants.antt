use Rattle.std.proofs.Common.{◌≡◌, not, true, take}
use Rattle.wac_encode_stacks.specs.Scopes.{opening}
use Rattle.wac_encode_stacks.specs.private.Beside.{written_as}
use Rattle.wac_encode_scopes.specs.declared.encodable.Encodable.TheVariants.{Instance}
use Rattle.wac_encode_scopes.specs.Books.{opened}
use Rattle.wac_encode_scopes.specs.private.Interfaces.{own_items, fresh_exports}
use Rattle.wac_encode_scopes.specs.private.Steps.{with_own}
use Rattle.wac_encode_scopes.proofs.scope.Scope.interface.Given as goal

abbrev pub invariant-loop-i : goal.invariant-loop-i
invariant-loop-i l = record {
  is : opened l.merged l.scope ≡ with_own l.types l.interface.uses (take l.i l.interface.exports) (opening l.passes);
  content : l.scope.content ≡ Instance (fresh_exports (own_items l.types l.interface.uses (take l.i l.interface.exports)));
  beside : opened (not l.merged) l.scope ≡ written_as (opened l.merged l.scope) (opening true);
}

use Rattle.std.proofs.Common.{◌≡◌, take}
use Rattle.wac_encode_scopes.specs.private.Closed.{is_closed_in}
use Rattle.wac_encode_scopes.specs.private.Telling.{exporting_values}
use Rattle.wac_encode_scopes.specs.private.Steps.{ScopeChanges}
use Rattle.wac_encode_scopes.proofs.scope.Scope.tell_values.Given as goal

abbrev pub invariant-loop-i : goal.invariant-loop-i
invariant-loop-i l = record {
  recorded : ScopeChanges l.merged (exporting_values l.types (take l.i l.interface.exports) (is_closed_in l.told) l.instance) l.fn.self l.self;
  content : l.self.content ≡ l.fn.self.content;
}

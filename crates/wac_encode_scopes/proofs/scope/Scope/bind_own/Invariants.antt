use Rattle.std.proofs.Common.{◌≡◌, take}
use Rattle.wac_encode_scopes.specs.private.Telling.{is_one_of, binding_own}
use Rattle.wac_encode_scopes.specs.private.Steps.{ScopeChanges}
use Rattle.wac_encode_scopes.proofs.scope.Scope.bind_own.Given as goal

abbrev pub invariant-loop-i : goal.invariant-loop-i
invariant-loop-i l = record {
  recorded : ScopeChanges l.merged (binding_own l.types l.interface.uses (take l.i l.interface.exports) (is_one_of l.own.keys) l.instance) l.fn.self l.self;
  content : l.self.content ≡ l.fn.self.content;
}

use Rattle.std.proofs.Common.{◌≡◌, false, take}
use Rattle.std.specs.List.{list_any}
use Rattle.wac_merge_classes.specs.terms.Unions.{is_own_of}
use Rattle.wac_merge_unions.proofs.uniting.unions.is_own.Given as goal

abbrev pub invariant-loop-index : goal.invariant-loop-index
invariant-loop-index l = list_any (is_own_of l.fn.types l.fn.parts l.name) (take l.index l.listed) ≡ false

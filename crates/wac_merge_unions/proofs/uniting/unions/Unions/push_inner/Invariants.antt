use Rattle.std.proofs.Common.{◌≡◌, map, take}
use Rattle.wac_merge_unions.specs.private.uniting.UnionSteps.{inside_part}
use Rattle.wac_merge_unions.proofs.uniting.unions.Unions.push_inner.Given as goal

abbrev pub invariant-loop-index : goal.invariant-loop-index
invariant-loop-index l = l.parts.items ≡ map (inside_part l.union) (take l.index l.interfaces)

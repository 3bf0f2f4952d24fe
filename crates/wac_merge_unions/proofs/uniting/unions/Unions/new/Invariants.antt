use Rattle.std.proofs.Common.{map, take}
use Rattle.wac_merge_unions.specs.private.uniting.UnionSteps.{AreRoots, AreJoined, left_over}
use Rattle.wac_merge_unions.proofs.uniting.unions.Unions.new.Given as goal

abbrev pub invariant-loop-index : goal.invariant-loop-index
invariant-loop-index l = AreRoots l.fn.types (map (λ is. is.items) (take l.index l.roots)) l.unions.unions.items l.unions.parts.items

abbrev pub invariant-loop-position : goal.invariant-loop-position
invariant-loop-position l = AreJoined l.fn.types (map (λ is. is.items) l.fn.roots) l.position l.unions.unions.items l.unions.parts.items

abbrev pub decreases-loop-position : goal.decreases-loop-position
decreases-loop-position l = left_over l.fn.types l.unions.unions.items l.unions.parts.items l.position

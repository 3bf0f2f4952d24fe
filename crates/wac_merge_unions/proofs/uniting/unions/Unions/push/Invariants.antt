use Rattle.std.proofs.Common.{◌≡◌, ◌++◌, take, length}
use Rattle.wac_merge_unions.specs.private.uniting.UnionSteps.{numbered}
use Rattle.wac_merge_unions.proofs.uniting.unions.Unions.push.Given as goal

abbrev pub invariant-loop-index : goal.invariant-loop-index
invariant-loop-index l =
    let ps = l.initial.self.parts.items in
    (l.self.unions ≡ l.initial.self.unions) × (l.self.parts.items ≡ ps ++ take l.index l.parts) × (l.positions.items ≡ numbered (length ps) (take l.index l.parts))

use Rattle.std.proofs.Common.{take}
use Rattle.wac_merge_unions.specs.private.uniting.UnionSteps.{AreKnown, AreOpen}
use Rattle.wac_merge_unions.proofs.uniting.unions.Unions.exports.Given as goal

abbrev pub invariant-loop-index : goal.invariant-loop-index
invariant-loop-index l =
    let vs = l.self.unions.items in
    let qs = l.self.parts.items in
    AreOpen l.fn.types l.fn.self.unions.items l.fn.self.parts.items l.position (take l.index l.grouped) vs qs l.exports × AreKnown vs qs l.position l.known.entries

use Rattle.std.proofs.Common.{◌≡◌, take}
use Rattle.wac_merge_unions.specs.private.uniting.UnionSteps.{with_all_listed}
use Rattle.wac_merge_unions.proofs.uniting.grouped.Grouped.put_all.Given as goal

abbrev pub invariant-loop-index : goal.invariant-loop-index
invariant-loop-index l = l.self ≡ with_all_listed l.initial.self l.part (take l.index l.exports)

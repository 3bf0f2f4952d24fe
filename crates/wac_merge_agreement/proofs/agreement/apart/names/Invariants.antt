use Rattle.std.proofs.Common.{◌≡◌, map, string_bytes, take}
use Rattle.wac_merge_agreement.specs.private.agreement.Levels.{name_of}
use Rattle.wac_merge_agreement.proofs.agreement.apart.names.Given as goal

abbrev pub invariant-loop-level : goal.invariant-loop-level
invariant-loop-level l = map string_bytes l.names.items ≡ map (name_of l.types) (take l.level-index l.levels)

use Rattle.std.proofs.Common.{◌≡◌, length, take, ◌≤◌}
use Rattle.std.specs.List.{flat_map}
use Rattle.wac_binary.proofs.lemmas.builder.CustomLaws.{one_of}
use Rattle.wac_binary.proofs.builder.customs.count_of.Given as goal

abbrev pub invariant-loop-name : goal.invariant-loop-name
invariant-loop-name l = (l.count ≡ length (flat_map (one_of l.sort) (take l.name-index l.names))) × (l.count ≤ l.name-index)

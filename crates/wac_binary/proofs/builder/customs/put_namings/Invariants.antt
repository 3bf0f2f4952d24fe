use Rattle.std.proofs.Common.{◌≡◌, ◌++◌, take}
use Rattle.std.specs.List.{flat_map}
use Rattle.wac_binary.proofs.lemmas.builder.CustomLaws.{naming_of}
use Rattle.wac_binary.proofs.builder.customs.put_namings.Given as goal

abbrev pub invariant-loop-name : goal.invariant-loop-name
invariant-loop-name l = l.out.items ≡ l.fn.out.items ++ flat_map (naming_of l.sort) (take l.name-index l.names)

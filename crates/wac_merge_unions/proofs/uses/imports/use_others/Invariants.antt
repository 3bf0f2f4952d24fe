use Rattle.std.proofs.Common.{◌≡◌, [], take}
use Rattle.wac_merge_unions.specs.uses.KeptUses.{uses_of}
use Rattle.wac_merge_unions.proofs.uses.imports.use_others.Given as goal

abbrev pub invariant-loop-i : goal.invariant-loop-i
invariant-loop-i l = uses_of l.types (take l.i l.users) ≡ []

use Rattle.std.proofs.Common.{◌≡◌, map, take, string_bytes}
use Rattle.wac_merge_classes.specs.entries.Agreement.{joined}
use Rattle.wac_merge_agreement.proofs.agreement.compared.join.Given as goal

abbrev pub invariant-loop-i : goal.invariant-loop-i
invariant-loop-i l = string_bytes l.text ≡ joined (map string_bytes (take l.i l.names))

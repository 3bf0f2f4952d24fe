use Rattle.std.proofs.Common.{◌≡◌}
use Rattle.wac_merge_resources.specs.values.NamedTypes.{first_of}
use Rattle.wac_merge_resources.proofs.values.named.NamedTypes.first.Given as goal

abbrev pub invariant-back : goal.invariant-back
invariant-back l = first_of l.self l.first ≡ first_of l.self l.fn.id

abbrev pub decreases-back : goal.decreases-back
decreases-back l = l.first.0

use Rattle.std.proofs.Common.{◌<◌, ◌-◌, length}
use Rattle.wac_types.specs.private.comparison.Classes.{HasLink, LeadsTo}
use Rattle.wac_types.proofs.comparison.classes.Classes.top.Given as goal

-- the node that was reached, and its link
abbrev pub invariant-loop-above : goal.invariant-loop-above
invariant-loop-above l = HasLink l.self.links.entries l.top l.link × (l.top < length l.self.links.entries) × LeadsTo l.self.links.entries l.fn.position l.top

abbrev pub decreases-loop-above : goal.decreases-loop-above
decreases-loop-above l = 18446744073709551616 - l.link.size

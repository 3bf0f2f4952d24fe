use Rattle.std.proofs.Common.{◌*◌, ◌+◌, ◌-◌, length}
use Rattle.wac_component.specs.Reading.{parts_at}
use Rattle.wac_component.specs.PartViews.{parts_of_entries}
use Rattle.wac_reader_parts.proofs.Components.{StillRead}
use Rattle.wac_reader_parts.proofs.component.+component.Given as goal

abbrev pub decreases-component : goal.decreases-component
decreases-component l = 3 * l.depth

abbrev pub decreases-contents : goal.decreases-contents
decreases-contents l = 3 * l.depth + 1

abbrev pub decreases-section : goal.decreases-section
decreases-section l = 3 * l.depth + 2

abbrev pub invariant-component-loop-rest : goal.invariant-component-loop-rest
invariant-component-loop-rest l = StillRead (l.depth - 1) (parts_of_entries l.entries.items) l.rest (parts_at l.depth l.bytes)

abbrev pub decreases-component-loop-rest : goal.decreases-component-loop-rest
decreases-component-loop-rest l = length l.rest

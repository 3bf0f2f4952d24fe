use Rattle.std.proofs.Common.{◌≡◌, ◌-◌}
use Rattle.wac_component.specs.Reader.{all_at}
use Rattle.wac_component.specs.Numbers.{vector_at}
use Rattle.wac_component.specs.PartViews.{parts_of_entries}
use Rattle.wac_reader_parts.specs.private.Fronts.{behind}
use Rattle.wac_reader_parts.specs.private.Sections.{element_at}
use Rattle.wac_reader_parts.proofs.sections.elements.Given as goal

abbrev pub invariant-loop : goal.invariant-loop
invariant-loop l = behind (parts_of_entries l.entries.items) (all_at (element_at l.depth l.kind) (l.count - l.counter) l.rest) ≡ behind (parts_of_entries l.fn.entries.items) (vector_at (element_at l.depth l.kind) l.bytes)

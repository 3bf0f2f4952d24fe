use Rattle.std.proofs.Common.{[], ◌∷◌, None}
use Rattle.wac_binary.specs.private.builder.Written.{State}
use Rattle.wac_binary.proofs.lemmas.builder.WrittenLaws.{state_none, written_of, items_kept, state_kept}
use Rattle.wac_binary.proofs.builder.builder.ComponentBuilder.new.Goals as goal

none : (c : goal.After-result-1) → State [] c.new.result.items c.new-2.result.items (0 ∷ 0 ∷ 0 ∷ 0 ∷ 0 ∷ 0 ∷ 0 ∷ []) None
none c = rw (c.new.ensures.items, c.new-2.ensures.items) state_none

pub invariant_of-result : goal.invariant_of-result
invariant_of-result c = rw (c.new.ensures.items, c.new-2.ensures.items) (written_of state_none, tt)

pub invariant_of-result-2 : goal.invariant_of-result-2
invariant_of-result-2 c = state_kept (none c) _

pub returns : goal.returns
returns c = items_kept (none c) _

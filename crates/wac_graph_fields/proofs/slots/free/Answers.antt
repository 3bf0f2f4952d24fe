use Rattle.wac_graph_fields.specs.private.Slots.{vacant_of}
use Rattle.wac_graph_fields.proofs.SlotLemmas.{held_generation, frees_last}
use Rattle.wac_graph_fields.proofs.slots.free.Goals as goal

pub returns-in_default-clause-freed : goal.returns-in_default-clause-freed
returns-in_default-clause-freed c =
    rw c.slot_of-number.ensures
    (frees_last c.args.slots.now.items (vacant_of c.args.vacant.now) c.args.id c.index_mut-slot.result.now.generation
    (held_generation c.args.slots.now.items c.args.id c.index_mut-slot.result.now c.requires.there (rw c.slot_of-number.ensures at c.index_mut-slot.ensures.value)) c.in_default.ensures)

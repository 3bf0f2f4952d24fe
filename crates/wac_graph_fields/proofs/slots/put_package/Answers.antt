use Rattle.wac_graph_fields.proofs.SlotLemmas.{taken_within, taken_freed}
use Rattle.wac_graph_fields.proofs.slots.put_package.Goals as goal

pub index_mut-requires : goal.index_mut-requires
index_mut-requires c = rw c.args.slots.now.ok.0 (taken_within c.args.slots.now.items c.args.vacant.now.items c.args.id c.pop.new.self.items c.in-Some.slot c.in-Some.ensures.items c.requires.next)

pub returns-in-Some-clause-taken : goal.returns-in-Some-clause-taken
returns-in-Some-clause-taken c =
    taken_freed c.args.slots.now.items c.args.vacant.now.items c.args.id c.pop.new.self.items c.in-Some.slot c.in-Some.ensures.items c.index_mut.result.now c.args.«package» c.requires.next c.index_mut.ensures.value

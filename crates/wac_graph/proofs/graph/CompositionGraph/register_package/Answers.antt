use Rattle.std.proofs.Common.{refl, sym, ap, reverse, subst, Ok}
use Rattle.wac_graph_fields.specs.private.Slots.{vacant_of, IsNext}
use Rattle.wac_graph_fields.specs.private.Fields.{graph_of}
use Rattle.wac_graph_fields.proofs.InvariantLemmas.{room_put, invariant_register}
use Rattle.wac_graph_fields.proofs.StepLemmas.{there_already, registered}
use Rattle.wac_graph.specs.private.Inside.{fields_of}
use Rattle.wac_graph_model.proofs.lemmas.nodes.ValidLemmas.{registered_is_there, valid_registered}
use Rattle.wac_graph.proofs.graph.CompositionGraph.register_package.Goals as goal

pub returns-in-Some-clause-step : goal.returns-in-Some-clause-step
returns-in-Some-clause-step c = (refl, c.in_ok-key.ensures, rw (← c.self.view_is) (there_already (fields_of c.self.inside) c.self.invariant c.in_ok-key.key c.in-Some.field-0.now c.in-Some.ensures.value))

pub put_package-requires-clause-next : goal.put_package-requires-clause-next
put_package-requires-clause-next c = subst (λ xs. IsNext xs (vacant_of c.next_id.new.vacant) c.in_ok-id.id) (sym c.next_id.ensures.slots) (subst (λ xs. IsNext c.self.inside.slots.items (reverse xs) c.in_ok-id.id) (sym c.next_id.ensures.vacant) c.in_ok-id.ensures.id)

pub invariant_of-self-2 : goal.invariant_of-self-2
invariant_of-self-2 c =
    let taken = c.put_package.ensures.taken (graph_of (fields_of c.self.inside)) (sym c.next_id.ensures.slots) (ap reverse (sym c.next_id.ensures.vacant)) in
    invariant_register (fields_of c.self.inside) c.self.invariant c.args.«package» c.in_ok-id.id c.put_package.new.slots c.put_package.new.vacant c.insert.new.self
    (rw c.in_ok-key.ensures at (sym c.in_default.ensures.value)) (rw c.in_ok-key.ensures at c.in_ok-insert.ensures.entries) taken (rw (← c.self.view_is) at c.requires)
    (room_put (fields_of c.self.inside) c.self.invariant c.args.«package» c.in_ok-id.id c.next_id.new.slots c.put_package.new.slots c.next_id.new.vacant c.put_package.new.vacant taken c.next_id.ensures.slots c.next_id.ensures.vacant c.next_id.ensures.capacity c.in_ok-id.ensures.link c.put_package.ensures.capacity)

pub returns-clause-step : goal.returns-clause-step
returns-clause-step c =
    rw (← c.self.view_is)
    (registered (fields_of c.self.inside) c.self.invariant c.args.«package» c.insert.new.self c.put_package.new.slots c.put_package.new.vacant c.in_ok-id.id (rw c.in_ok-key.ensures at (sym c.in_default.ensures.value))
    (c.put_package.ensures.taken (graph_of (fields_of c.self.inside)) (sym c.next_id.ensures.slots) (ap reverse (sym c.next_id.ensures.vacant))))

pub returns-clause-there : goal.returns-clause-there
returns-clause-there c = registered_is_there c.args.self.now (graph_of (record (fields_of c.self.inside) { package_map = c.insert.new.self; slots = c.put_package.new.slots; vacant = c.put_package.new.vacant })) c.args.«package» (Ok c.in_ok-id.id) (returns-clause-step c)

pub returns-clause-valid : goal.returns-clause-valid
returns-clause-valid c = valid_registered c.args.self.now _ c.args.«package» (Ok c.in_ok-id.id) (returns-clause-step c)

use Rattle.std.proofs.Common.{◌≡◌, ◌+◌, ◌∙◌, length, arith}
use Rattle.wac_graph_reader.proofs.lemmas.reading.ComponentLemmas.{placed_still, placed_more}
use Rattle.wac_graph_reader.proofs.reading.components.Components.insert.Goals as goal

pub invariant_of-self-in_err-push : goal.invariant_of-self-in_err-push
invariant_of-self-in_err-push c = rw c.in_err-push.ensures.items (placed_still c.self.inside.entries.items c.self.inside.places.items c.self.invariant c.make_room.new.places.items c.make_room.ensures.same)

pub invariant_of-self-2 : goal.invariant_of-self-2
invariant_of-self-2 c =
    let es = c.self.inside.entries.items in
    let same = c.make_room.ensures.same in
    let slot = c.args.id.slot in
    let next : c.len.result ≡ length es + 1 = omega (arith, c.len.ensures, c.in_ok-push.ensures.len, c.self.inside.entries.ok.0) in
    rw c.in_ok-push.ensures.items (placed_more es c.make_room.new.places.items (placed_still es c.self.inside.places.items c.self.invariant c.make_room.new.places.items same) c.note_place.new.places.items c.args.id c.args.index
    (λ none. (rw c.slot_of-slot.ensures at c.note_place.ensures.noted) none ∙ next) (rw c.slot_of-slot.ensures at c.note_place.ensures.kept) (rw c.slot_of-slot.ensures at c.note_place.ensures.others))

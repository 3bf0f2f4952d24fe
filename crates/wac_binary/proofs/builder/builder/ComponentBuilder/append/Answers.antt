use Rattle.std.proofs.Common.{[], ◌∷◌, ◌++◌, Some, ◌∙◌, refl, ap, sym}
use Rattle.std.specs.Prelude.{slice_set, slice_index, ◌+◌}
use Rattle.wac_binary.specs.private.sections.ItemView.{item_of}
use Rattle.wac_binary.specs.Bytes.{section_id}
use Rattle.wac_binary.specs.private.builder.Written.{Written_prop, State}
use Rattle.wac_binary.proofs.lemmas.builder.WrittenLaws.{written_of, items_kept, state_kept, state_shared, state_begun, state_same, room, room_after, more_fits}
use Rattle.wac_binary.proofs.lemmas.declarations.AnswerLaws.{on_err, out_of_memory, refuted}
use Rattle.wac_binary.proofs.lemmas.sections.ItemLaws.{item_shared}
use Rattle.wac_binary.proofs.builder.builder.ComponentBuilder.append.Goals as goal

pub same-self : goal.same-self
same-self c = λ i. record {
  alloc = c.self.inside.alloc;
  bytes = c.self.inside.bytes;
  things = c.self.inside.things;
  next = c.self.inside.next;
  open_section = c.self.inside.open_section;
  counts = c.self.inside.counts;
  written = Written_prop c.self.inside.bytes.items c.self.inside.open_section c.self.inside.things.items c.self-1.given.0 c.self.inside.written i;
}

pub has_room-requires : goal.has_room-requires
has_room-requires c = rw c.deref.ensures.value (room c.self.invariant)

pub returns-then-not-has_room-clause-too_large : goal.returns-then-not-has_room-clause-too_large
returns-then-not-has_room-clause-too_large c =
    refuted c.has_room.result c.has_room.ensures.room c.if-not-has_room.true
    (λ f. rw c.deref.ensures.value (room_after c.self.invariant (item_of c.args.item.now) c.number-at.result (c.requires ∙ ap Some (sym c.number-at.ensures.is)) c.number-at.ensures.small (rw c.self.view_is f)))

pub invariant_of-self : goal.invariant_of-self
invariant_of-self c = state_kept (state_same c.self.invariant _ _ c.in_err-begin.ensures.refused refl) _

pub returns-in_err-begin-clause-refused : goal.returns-in_err-begin-clause-refused
returns-in_err-begin-clause-refused c = on_err _ (items_kept (state_same c.self.invariant _ _ c.in_err-begin.ensures.refused refl) _ ∙ c.self.view_is)

pub put_shared-requires : goal.put_shared-requires
put_shared-requires c = room c.self.invariant

pub invariant_of-self-in_err-count : goal.invariant_of-self-in_err-count
invariant_of-self-in_err-count c =
    let e = c.in_err-count.ensures in state_kept (state_same (state_begun c.self.invariant) _ _ (e.refused_bytes ∙ c.in_ok-begin.ensures.begun) e.refused_things) _

pub returns-in_err-count-clause-refused : goal.returns-in_err-count-clause-refused
returns-in_err-count-clause-refused c =
    let e = c.in_err-count.ensures in on_err _ (items_kept (state_same (state_begun c.self.invariant) _ _ (e.refused_bytes ∙ c.in_ok-begin.ensures.begun) e.refused_things) _ ∙ c.self.view_is)

pub returns-in_err-begin-clause-too_large : goal.returns-in_err-begin-clause-too_large
returns-in_err-begin-clause-too_large c =
    let r = c.has_room.ensures.room.0 c.if-not-has_room.false in
    out_of_memory c.from_residual.result _ c.from_residual.ensures.1
    (rw (← c.self.view_is) (more_fits c.self.invariant (item_of c.args.item.now) c.number-at.result (c.requires ∙ ap Some (sym c.number-at.ensures.is)) c.number-at.ensures.small r.0 (rw c.deref.ensures.value at r.1)))

pub returns-in_err-count-clause-too_large : goal.returns-in_err-count-clause-too_large
returns-in_err-count-clause-too_large c =
    let r = c.has_room.ensures.room.0 c.if-not-has_room.false in
    out_of_memory c.from_residual-in_err-count.result _ c.from_residual-in_err-count.ensures.1
    (rw (← c.self.view_is) (more_fits c.self.invariant (item_of c.args.item.now) c.number-at.result (c.requires ∙ ap Some (sym c.number-at.ensures.is)) c.number-at.ensures.small r.0 (rw c.deref.ensures.value at r.1)))

-- the state with one more item
snoc : (c : goal.In_ok-count) → State (c.args.self.now ++ item_of c.args.item.now ∷ []) c.put_shared.new.bytes.items c.put_shared.new.things.items (slice_set c.self.inside.counts c.number-at.result (slice_index c.self.inside.counts c.number-at.result + 1)) (Some (record { id = c.section_id-id.result; count = c.in_ok-count.count }))
snoc c =
    let r = c.has_room.ensures.room.0 c.if-not-has_room.false in
    rw (← c.self.view_is, c.in_ok-count.ensures.bytes, c.in_ok-begin.ensures.begun, c.section_id-id.ensures)
    (state_shared c.self.invariant (item_of c.args.item.now) c.number-at.result (c.requires ∙ ap Some (sym c.number-at.ensures.is)) c.number-at.ensures.small c.self.told r.0 (item_shared c.args.item.now) (record { id = section_id (item_of c.args.item.now); count = c.in_ok-count.count }) c.put_shared.new.things.items c.in_ok-count.ensures.opened (rw c.deref.ensures.value at r.1) c.has_room.ensures.in_format)

pub invariant_of-self-inside-2 : goal.invariant_of-self-inside-2
invariant_of-self-inside-2 c = (written_of (snoc c), tt)

pub invariant_of-self-2 : goal.invariant_of-self-2
invariant_of-self-2 c = state_kept (snoc c.before) _

pub returns-clause-appended : goal.returns-clause-appended
returns-clause-appended c = items_kept (snoc c.before) _

pub returns-clause-fits : goal.returns-clause-fits
returns-clause-fits c = rw (items_kept (snoc c.before) _) (snoc c.before).fits

pub returns-clause-too_large : goal.returns-clause-too_large
returns-clause-too_large c = (snoc c.before).fits

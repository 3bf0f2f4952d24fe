use Rattle.std.proofs.Common.{◌-◌, ◌∙◌, ap, sym}
use Rattle.std.specs.Map.{lookup}
use Rattle.wac_graph_model.specs.meaning.Means.{same_package}
use Rattle.wac_graph_reader.proofs.lemmas.reading.ComponentLemmas.{looked_for, no_place, entry_here, place_within}
use Rattle.wac_graph_reader.proofs.reading.components.Components.get.Goals as goal

pub returns-then-next-eq0-clause-absent : goal.returns-then-next-eq0-clause-absent
returns-then-next-eq0-clause-absent c =
    let next = rw (c.deref.ensures.value, c.slot_of.ensures) at c.next_of-next.ensures in
    rw (← c.self.view_is) (no_place c.self.inside.entries.items c.self.inside.places.items c.self.invariant c.args.id (sym next ∙ c.if-next-eq0.true))

pub index-requires : goal.index-requires
index-requires c =
    let next = rw (c.deref.ensures.value, c.slot_of.ensures) at c.next_of-next.ensures in
    rw c.self.inside.entries.ok.0 (place_within c.self.inside.entries.items c.self.inside.places.items c.self.invariant c.args.id.slot c.next_of-next.result next c.if-next-eq0.false)

pub returns-then-eq-clause-there : goal.returns-then-eq-clause-there
returns-then-eq-clause-there c =
    let next = rw (c.deref.ensures.value, c.slot_of.ensures) at c.next_of-next.ensures in
    rw (← c.self.view_is) (
      c.next_of-next.result - 1,
      entry_here c.self.inside.entries.items c.self.inside.places.items c.self.invariant c.args.id c.next_of-next.result c.index.result.now next c.if-next-eq0.false c.index.ensures (sym c.eq.ensures ∙ c.if-eq.true),
    )

pub returns-clause-there : goal.returns-clause-there
returns-clause-there c = (looked_for c.args.id c.args.self.now c.find.result (c.find.ensures ∙ ap (lookup (same_package c.args.id)) (c.deref-2.ensures.value ∙ c.self.view_is))).there

pub returns-clause-absent : goal.returns-clause-absent
returns-clause-absent c = (looked_for c.args.id c.args.self.now c.find.result (c.find.ensures ∙ ap (lookup (same_package c.args.id)) (c.deref-2.ensures.value ∙ c.self.view_is))).absent

use Rattle.std.proofs.Common.{◌≡◌, ◌<◌, ◌∙◌, Bool, List, Option, ℕ, length, ap, sym, subst}
use Rattle.wac_types_shapes.proofs.lemmas.shapes.Under.{on_ok}
use Rattle.wac_merge_classes.specs.entries.Classes.{by_names, class_names}
use Rattle.wac_merge_classes.proofs.lemmas.entries.Lists.{some-at}
use Rattle.wac_merge_tables.specs.private.tables.NodeViews.{item_view}
use Rattle.wac_merge_tables.specs.private.tables.Nodes.{type_of}
use Rattle.wac_merge_trees.specs.private.coding.Listings.{AreKnown}
use Rattle.wac_merge_trees.proofs.lemmas.coding.CodingGrowth.{grown_not}
use Rattle.wac_merge_trees.proofs.lemmas.coding.OpenedItems.{known-grown}
use Rattle.wac_merge_agreement.specs.private.agreement.Worlds.{HasUnmarkedToo}
use Rattle.wac_merge_agreement.proofs.lemmas.agreement.Marking.{marks_grown}
use Rattle.wac_merge_agreement.proofs.lemmas.agreement.Unmarked.{number_too}
use Rattle.wac_merge_agreement.proofs.agreement.compared.number_world.Goals as goal

pub returns-in-Some-clause-grown : goal.returns-in-Some-clause-grown
returns-in-Some-clause-grown c = grown_not c.args.nodes.now

pub entry_item-requires-clause-known : goal.entry_item-requires-clause-known
entry_item-requires-clause-known c = subst (λ (k : List (Option ℕ)). AreKnown c.args.nodes.now c.args.asked.now.types.now k) (sym c.as_slice-in-None.ensures.value) c.requires.known

pub mark_through-requires-clause-there : goal.mark_through-requires-clause-there
mark_through-requires-clause-there c =
    let es = c.args.asked.now.entries.now in
    let (name, at) = some-at (class_names by_names es) c.args.class c.requires.class in
    subst (λ (n : ℕ). n < length c.entry_item.new.nodes) (sym c.type_of-number.ensures) (c.in_ok-item-in-None.ensures.item name at).there

pub mark_through-requires-clause-marks : goal.mark_through-requires-clause-marks
mark_through-requires-clause-marks c = marks_grown c.args.nodes.now c.entry_item.new.nodes c.args.marks.now.items c.in_ok-item-in-None.ensures.grown c.requires.marks

pub returns-in_ok-mark_through-in-None-clause-known : goal.returns-in_ok-mark_through-in-None-clause-known
returns-in_ok-mark_through-in-None-clause-known c =
    let t = c.args.asked.now.types.now in
    let es = c.args.asked.now.entries.now in
    let ns = c.entry_item.new.nodes in
    let marks = c.mark_through.new.marks.items in
    let x = item_view c.in_ok-item-in-None.item in
    let (name, at) = some-at (class_names by_names es) c.args.class c.requires.class in
    let is = c.in_ok-item-in-None.ensures.item name at in
    let known = known-grown c.args.nodes.now ns t c.args.known.now.items c.in_ok-item-in-None.ensures.grown c.requires.known in
    let number = c.type_of-number.ensures in
    let low : type_of x < length marks = subst (λ (n : ℕ). n < length marks) number c.in_ok-mark_through-in-None.ensures.through in
    let slice : c.as_slice-in-None-2.result.now ≡ marks = c.as_slice-in-None-2.ensures.value in
    on_ok c.put_unmarked.result
    (λ more. number_too ns t es name c.args.id marks c.in_ok-mark_through-in-None.ensures.marks c.args.known.now.items c.put_unmarked.new.known.items x known is low
    (subst (λ (n : ℕ). HasUnmarkedToo marks c.args.known.now.items c.args.id n c.put_unmarked.new.known.items) number
    (subst (λ (ms : List Bool). HasUnmarkedToo ms c.args.known.now.items c.args.id c.type_of-number.result c.put_unmarked.new.known.items) slice more)))
    c.put_unmarked.ensures

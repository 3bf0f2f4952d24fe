use Rattle.std.proofs.Common.{◌≡◌, ◌++◌, ◌∷◌, [], refl, sym, ap, subst, List, ℕ, Option, Some, length, map, length-append, slice_index_or, arith}
use Rattle.std.specs.Prelude.{slice_get}
use Rattle.std.proofs.lemmas.Option.{slice_get_read, slice_get-get_or}
use Rattle.wac_merge_classes.specs.entries.Classes.{AreClasses, by_names}
use Rattle.wac_merge_classes.proofs.lemmas.terms.Found.{no_some}
use Rattle.wac_merge_trees.specs.private.coding.Listings.{AreKnown}
use Rattle.wac_merge_agreement.specs.private.agreement.Compared.{AreCompared, IsItemOf}
use Rattle.wac_merge_tables.specs.private.tables.NodeViews.{item_view}
use Rattle.wac_merge_tables.specs.declared.tables.nodes.Item.{Item as AnItem}
use Rattle.wac_merge_trees.proofs.lemmas.coding.CodingGrowth.{grown_not, grown_twice}
use Rattle.wac_merge_trees.proofs.lemmas.coding.OpenedItems.{known-grown}
use Rattle.wac_merge_agreement.proofs.lemmas.agreement.Marking.{marks_grown, no_marks}
use Rattle.wac_merge_agreement.proofs.lemmas.agreement.Sources.{compared_next, under_own_name}
use Rattle.wac_merge_agreement.proofs.agreement.compared.entry_items.Goals as goal

pub loop-i-init : goal.loop-i-init
loop-i-init c = record {
  counted = ap (λ (l : List AnItem). length l) c.new-items.ensures.items;
  grown = grown_not c.args.nodes.now;
  are = subst (λ (l : List AnItem). AreCompared c.args.nodes.now c.args.types.now c.args.entries.now (map item_view l)) (sym c.new-items.ensures.items) (λ i e x at found. absurd (no_some x found));
  known = subst (λ (l : List (Option ℕ)). AreKnown c.args.nodes.now c.args.types.now l) (sym c.new-known.ensures.items) (λ w n at m. absurd (no_some n at));
  marks = no_marks c.args.nodes.now _ c.new-marks.ensures.items;
}

pub entry_item-requires-clause-known : goal.entry_item-requires-clause-known
entry_item-requires-clause-known c =
    subst (λ (l : List (Option ℕ)). AreKnown c.number_worlds.new.nodes c.args.types.now l) (sym c.as_slice-worlds.ensures.value) c.in_ok-number_worlds.ensures.known

pub returns-in_err-number_worlds-clause-grown : goal.returns-in_err-number_worlds-clause-grown
returns-in_err-number_worlds-clause-grown c = grown_twice c.args.nodes.now c.loop-i.nodes c.number_worlds.new.nodes c.loop-i.invariant.grown c.number_worlds.ensures.grown

pub returns-in_err-entry_item-clause-grown : goal.returns-in_err-entry_item-clause-grown
returns-in_err-entry_item-clause-grown c =
    grown_twice c.args.nodes.now c.number_worlds.new.nodes c.entry_item.new.nodes
    (grown_twice c.args.nodes.now c.loop-i.nodes c.number_worlds.new.nodes c.loop-i.invariant.grown c.in_ok-number_worlds.ensures.grown) c.entry_item.ensures.grown

pub returns-in_err-push-clause-grown : goal.returns-in_err-push-clause-grown
returns-in_err-push-clause-grown c =
    grown_twice c.args.nodes.now c.number_worlds.new.nodes c.entry_item.new.nodes
    (grown_twice c.args.nodes.now c.loop-i.nodes c.number_worlds.new.nodes c.loop-i.invariant.grown c.in_ok-number_worlds.ensures.grown) c.in_ok-entry_item.ensures.grown

pub loop-i-preserved : goal.loop-i-preserved
loop-i-preserved c =
    let types = c.args.types.now in
    let es = c.args.entries.now in
    let classes = c.args.classes.now in
    let old = c.loop-i.nodes in
    let mid = c.number_worlds.new.nodes in
    let ns = c.entry_item.new.nodes in
    let grown = grown_twice old mid ns c.in_ok-number_worlds.ensures.grown c.in_ok-entry_item.ensures.grown in
    let numbers = c.numbers-numbers.result.now in
    let i = c.loop-i.i in
    let e = c.index-entries-i.result in
    let xs = c.loop-i.items.items in
    let x = c.in_ok-entry_item.field-0 in
    let at : slice_get es i ≡ Some e = slice_get_read es (length es) i e refl c.loop-i-test.true c.index-entries-i.is in
    let are : AreClasses by_names es numbers classes.positions.items classes.names =
    subst (λ (l : List ℕ). AreClasses by_names es l classes.positions.items classes.names) (sym c.numbers-numbers.ensures) c.requires.classes in
    let number : slice_get numbers i ≡ Some (slice_index_or numbers i 0) = slice_get-get_or numbers i 0 (omega (arith, c.loop-i-test.true, are.counted)) in
    let is : IsItemOf ns types es e.name e.kind (item_view x) =
    under_own_name types es numbers classes.positions.items classes.names are ns i (slice_index_or numbers i 0) e c.kind-kind.result (item_view x) at number c.kind-kind.ensures c.in_ok-entry_item.ensures.item in
    let pushed : c.push.new.self.items ≡ xs ++ x ∷ [] = c.in_ok-push.ensures.items in
    let longer : length c.push.new.self.items ≡ length (xs ++ x ∷ []) = ap (λ (l : List AnItem). length l) pushed in
    record {
      counted = omega (arith, longer, length-append xs (x ∷ []), c.loop-i.invariant.counted);
      grown = grown_twice c.args.nodes.now old ns c.loop-i.invariant.grown grown;
      are = subst (λ (l : List AnItem). AreCompared ns types es (map item_view l)) (sym pushed) (compared_next types es old ns xs i e x grown c.loop-i.invariant.counted at c.loop-i.invariant.are is);
      known = known-grown mid ns types c.number_worlds.new.known.items c.in_ok-entry_item.ensures.grown c.in_ok-number_worlds.ensures.known;
      marks = marks_grown mid ns c.number_worlds.new.marks.items c.in_ok-entry_item.ensures.grown c.in_ok-number_worlds.ensures.marks;
    }
